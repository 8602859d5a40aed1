-- The part of a polynomial below a degree; that part of a consequence is a consequence.
use Rattle.std.proofs.Common.{◌≡◌, ℕ, ◌+◌, ◌≤◌, Bool, List, [], ◌∷◌, sym, ap, ◌∙◌, arith}
use Rattle.std.specs.Prelude.{nat_lt}
use Rattle.std.specs.List.{filter}
use Rattle.std.proofs.lemmas.Bool.Decides.{nat_tests}
use Rattle.gf_field.specs.Modular.{IsSameMod}
use Rattle.alb_mono.specs.Tree.{Tree, node, degree, same_tree}
use Rattle.gf_sums.specs.Sums.{total, coefficient, reindex}
use Rattle.gf_sums.proofs.Alike.{Alike, equal, weigh-reindex}
use Rattle.alb_poly.specs.Poly.{Poly}
use Rattle.alb_mono.specs.declared.side.Side.{Side}
use Rattle.alb_mono.specs.declared.side.Side.TheVariants.{Left, Right}
use Rattle.alb_poly.specs.Consequence.{beside, within, Item, IsConsequence, AreMultilinear}
use Rattle.alb_poly.specs.Instance.{fill, Form}
use Rattle.alb_poly.proofs.Consequence.{poly_alike, consequence-same, consequence-zero, consequence-append, consequence-scale, consequence-beside}
use Rattle.alb_problem.proofs.Keep.{keep-alike, keep-same, item_leaves, leaves-item, consequence-keep}
use Rattle.alb_problem.proofs.AllVectors.{IsClosed, degree-leaves}

-- the terms of degree below `p`
abbrev pub low : ℕ → Poly → Poly
low p f = filter (λ t. nat_lt (degree t.1) p) f

-- every monomial of degree `p` or more has the coefficient 0
abbrev pub IsLow : ℕ → Poly → Type 0
IsLow p g = (m : Tree) → p ≤ degree m → IsSameMod p (coefficient same_tree g m) 0

-- ---- degrees

pub degree-within : (c : List (Side × Tree)) (x : Tree) → degree (within c x) ≡ total (λ s. degree s.1) c + degree x
degree-within [] x = omega arith
degree-within ((Left, m) ∷ c) x = omega (arith, degree-within c (node m x))
degree-within ((Right, m) ∷ c) x = omega (arith, degree-within c (node x m))

-- ---- combinations

pub low-alike : (p : ℕ) (f g : Poly) → Alike p f g → Alike p (low p f) (low p g)
low-alike p f g h = keep-alike (λ m. nat_lt (degree m) p) f g h

-- a polynomial without monomials of degree `p` or more is its low part
pub low-same : (p : ℕ) (g : Poly) → IsLow p g → Alike p (low p g) g
low-same p g h = keep-same (λ m. nat_lt (degree m) p) g (λ m e. h m (grind (arith, nat_tests)))

-- ---- consequences

module _ (p : ℕ) (fs : List Form) where
  pub consequence-alike : (f g : Poly) → Alike p f g → IsConsequence p fs f → IsConsequence p fs g
  consequence-alike f g h c = consequence-same p fs (poly_alike h) c

  pub closed-consequence : IsClosed p (IsConsequence p fs)
  closed-consequence = record {
    alike = consequence-alike;
    zero = consequence-zero p fs;
    append = λ f g a b. consequence-append p fs a b;
    scale = λ c f a. consequence-scale p fs c a;
  }

  pub consequence-within : (c : List (Side × Tree)) (f : Poly) → IsConsequence p fs f → IsConsequence p fs (reindex (within c) f)
  consequence-within [] f h = consequence-alike _ _ (equal _ _ (λ w. sym (weigh-reindex w (within []) f))) h
  consequence-within (s ∷ c) f h = consequence-alike _ _
      (equal _ _ (λ w. weigh-reindex w (within c) (reindex (beside s) f) ∙ weigh-reindex _ (beside s) f ∙ sym (weigh-reindex w (within (s ∷ c)) f)))
      (consequence-within c (reindex (beside s) f) (consequence-beside p fs s h))

-- all monomials of an item have one degree
low_fits : ℕ → Item → Bool
low_fits p it = nat_lt (item_leaves (λ k. 1) it.context it.args) p

-- the part of a consequence below a degree is a consequence
pub consequence-low : (p : ℕ) (fs : List Form) → AreMultilinear fs → (g : Poly) → IsConsequence p fs g → IsConsequence p fs (low p g)
unfolding low_fits
consequence-low p fs multi g c = consequence-keep p fs multi (λ m. nat_lt (degree m) p) (low_fits p)
    (λ it m h. ap (λ n. nat_lt n p) (degree-leaves (within it.context (fill it.args m)) ∙ leaves-item (λ k. 1) it.context it.args m h)) g c
