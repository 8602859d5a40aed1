-- What is chosen is a consequence, and no monomial is one.
use Rattle.std.proofs.Common.{◌≡◌, ℕ, zero, suc, ◌+◌, sum, ◌<◌, List, [], ◌∷◌, ◌++◌, length, get_or, sym, refl, ap, ◌∙◌, subst, arith}
use Rattle.std.specs.List.{flat_map}
use Rattle.gf_field.specs.Modular.{IsSameMod}
use Rattle.gf_field.proofs.Mod.{same, ◌⊙◌, plus, times, multiple}
use Rattle.gf_sums.specs.Sums.{weigh, scale}
use Rattle.gf_sums.proofs.Alike.{Alike, joined, reindex-alike}
use Rattle.gf_sums.proofs.Totals.{weigh-append, weigh-scale}
use Rattle.alb_mono.specs.Listing.{Each}
use Rattle.alb_mono.specs.Tree.{Tree, leaf}
use Rattle.alb_poly.specs.Textbook.{unit}
use Rattle.alb_poly.specs.Poly.{Poly}
use Rattle.alb_poly.specs.Instance.{IsHomogeneous, Form, fill, instance, linearization}
use Rattle.alb_poly.specs.Consequence.{Item, form_at, IsItem, item_value, AreItems, IsConsequence, AreMultilinear}
use Rattle.alb_poly.proofs.Consequence.{alike_poly, poly_alike, itself', weigh-item, consequence-same, consequence-append, consequence-scale, consequence-beside, consequence-instance}
use Rattle.alb_poly.proofs.Multilinear.{instance-linearization}
use Rattle.alb_poly.proofs.NormalLemmas.{normal-alike}
use Rattle.alb_linear.specs.Identity.{leading_type}
use Rattle.alb_problem.specs.Builder.{linear_form}
use Rattle.alb_table.proofs.RightForLemmas.{forms-multilinear}
use Rattle.alb_sample.specs.Choice.{chosen, consequence, instance_of, IsChoice}
use Rattle.alb_sample.specs.Problem.{sample_forms}
use Rattle.alb_sample.specs.declared.choice.Choice.{Choice}
use Rattle.alb_sample.proofs.ProblemLemmas.{left_law, right_law, left-homogeneous, right-homogeneous, left-degree, right-degree, forms-are, forms-count, forms-linearized, forms-sum}
use Rattle.alb_sample.proofs.ChoiceLemmas.{below_two, instance_at}

pub sample-multilinear : AreMultilinear sample_forms
sample-multilinear = forms-multilinear 251 sample_forms forms-linearized

-- ---- what is chosen

-- the instance of a form is that of its identity
pub form-instance : (f : Poly) (ms : List Tree) → IsHomogeneous (leading_type f) f → length ms ≡ sum (leading_type f) →
    Alike 251 (instance (linear_form 251 f) ms) (instance_of f ms)
form-instance f ms h n =
    joined (reindex-alike (fill ms) (normal-alike 251 (linearization (leading_type f) f).terms)) (itself' _ _ (instance-linearization (leading_type f) f ms h n))

-- the form of a choice
pub choice-form : (c : Choice) → IsChoice c → Alike 251 (instance (form_at sample_forms c.identity) (chosen c)) (instance_at c)
choice-form c h = subst (λ fs. Alike 251 (instance (form_at fs c.identity) (chosen c)) (instance_at c)) (sym forms-are)
    (below_two (λ k. Alike 251 (instance (form_at (linear_form 251 left_law ∷ linear_form 251 right_law ∷ []) k) (chosen c)) (instance_of (get_or (left_law ∷ right_law ∷ []) k []) (chosen c)))
    c.identity h.identity
    (form-instance left_law (chosen c) left-homogeneous (sym left-degree))
    (form-instance right_law (chosen c) right-homogeneous (sym right-degree)))

pub choice-degree : (c : Choice) → IsChoice c → (form_at sample_forms c.identity).degree ≡ 3
choice-degree c h = subst (λ fs. (form_at fs c.identity).degree ≡ 3) (sym forms-are)
    (below_two (λ k. (form_at (linear_form 251 left_law ∷ linear_form 251 right_law ∷ []) k).degree ≡ 3) c.identity h.identity left-degree right-degree)

pub chosen-consequence : (c : Choice) → IsChoice c → IsConsequence 251 sample_forms (consequence c)
unfolding consequence
chosen-consequence c h =
    consequence-beside 251 sample_forms (c.side, leaf c.generator)
    (consequence-same 251 sample_forms (poly_alike (choice-form c h))
    (consequence-instance 251 sample_forms c.identity (chosen c) (rw forms-count h.identity) (sym (choice-degree c h))))

-- ---- coefficient sums

-- the sum of the coefficients
abbrev sum_of : Poly → ℕ
sum_of f = weigh (λ m. 1) f

sum-item : (it : Item) → IsItem sample_forms it → IsSameMod 251 (sum_of (item_value sample_forms it)) 0
sum-item it h =
    same (weigh-item sample_forms (λ m. 1) it)
    ⊙ times (same {a = it.coef} refl) (form-sum sample_forms it.form forms-sum h.named)
    ⊙ same (omega arith)
  where
    form-sum : (fs : List Form) (k : ℕ) → Each (λ (f : Form). IsSameMod 251 (weigh (λ t. 1) f.terms) 0) fs → k < length fs → IsSameMod 251 (weigh (λ t. 1) (form_at fs k).terms) 0
    form-sum [] k a l = absurd (omega arith)
    form-sum (f ∷ fs) zero a l = a.0
    form-sum (f ∷ fs) (suc k) a l = form-sum fs k a.1 (omega arith)

sum-items : (its : List Item) → AreItems sample_forms its → IsSameMod 251 (sum_of (flat_map (item_value sample_forms) its)) 0
sum-items [] h = same refl
sum-items (it ∷ its) h =
    same (weigh-append (λ m. 1) (item_value sample_forms it) (flat_map (item_value sample_forms) its))
    ⊙ plus (sum-item it h.0) (sum-items its h.1) ⊙ same (omega arith)

-- the coefficients of a consequence add up to 0
pub consequence-sum : (g : Poly) → IsConsequence 251 sample_forms g → IsSameMod 251 (sum_of g) 0
consequence-sum g c = (alike_poly c.same).at (λ m. 1) ⊙ sum-items c.items c.are

-- so no monomial is a consequence
pub no-monomial : (m : Tree) → IsConsequence 251 sample_forms (unit m) → ⊥
no-monomial m c = let e = (consequence-sum (unit m) c).same in absurd (cc)

-- ---- a consequence with a normal monomial added is none

pub no-consequence : (c m : Poly) → IsConsequence 251 sample_forms c → IsConsequence 251 sample_forms (c ++ m) → IsConsequence 251 sample_forms m
no-consequence c m h k =
    consequence-same 251 sample_forms (poly_alike (record {
      at = λ w.
          same (weigh-append w (c ++ m) (scale 250 c) ∙ ap (λ n. n + weigh w (scale 250 c)) (weigh-append w c m) ∙ ap (λ n. weigh w c + weigh w m + n) (weigh-scale w 250 c))
          ⊙ same (omega arith) ⊙ multiple (weigh w c) (weigh w m);
    })) (consequence-append 251 sample_forms k (consequence-scale 251 sample_forms 250 h))
