-- The polynomials that the code makes.
use Rattle.std.proofs.Common.{◌≡◌, ℕ, zero, suc, ◌+◌, ◌<◌, ◌≤◌, true, List, [], ◌∷◌, ◌++◌, map, length, get_or, sym, ap, ap₂, ◌∙◌, subst, arith}
use Rattle.std.specs.Prelude.{Option, Some, None, IfSome}
use Rattle.std.specs.List.{sum_by}
use Rattle.std.proofs.lemmas.List.{length-map}
use Rattle.gf_sums.specs.Sums.{total, reindex}
use Rattle.gf_sums.proofs.Alike.{reindex-alike}
use Rattle.gf_sums.proofs.Totals.{total-map}
use Rattle.alb_mono.specs.Listing.{Each}
use Rattle.alb_mono.proofs.ListingLemmas.{each-append, each-weaker}
use Rattle.alb_mono.specs.Tree.{tree, Tree, leaf, degree, are_below}
use Rattle.alb_mono.specs.declared.mono.Mono.{Mono}
use Rattle.alb_poly.specs.Consequence.{beside, form_at, form}
use Rattle.alb_poly.specs.Instance.{Form, instance}
use Rattle.alb_poly.specs.Poly.{normal, Poly, AreResidues, greatest_degree}
use Rattle.alb_poly.specs.declared.rules.Linear.{Linear}
use Rattle.alb_poly.specs.declared.rules.Rules.{Rules}
use Rattle.alb_poly.proofs.Extra.{total-sum_by}
use Rattle.alb_poly.proofs.Falling.{descending-beside}
use Rattle.alb_poly.proofs.NormalLemmas.{alike-is-normal, alike-normal, degree-each, descending-canonical, normal-alike, normal-append-left, normal-degree, normal-descending, normal-each, normal-residues}
use Rattle.alb_poly.proofs.Types.{test_from_below}
use Rattle.alb_linear.specs.Identity.{IsLinearized}
use Rattle.alb_linear.proofs.LinearLemmas.{residues-reindex}
use Rattle.alb_table.specs.Table.{elems, Table}
use Rattle.alb_table.specs.RightTable.{RulesView, rules_view, IsRightFor}
use Rattle.alb_table.proofs.TableValues.{mono-below}
use Rattle.alb_sample.specs.Choice.{chosen, chosen_type, choice_at, consequence, IsChoice}
use Rattle.alb_sample.specs.Draws.{state_after}
use Rattle.alb_sample.specs.Problem.{sample_forms, sample_view}
use Rattle.alb_sample.specs.Sample.{element_at, state_with, element_poly, with_element, polynomial, state_drawn}
use Rattle.alb_sample.specs.declared.choice.Choice.{Choice}
use Rattle.alb_sample.proofs.ChoiceLemmas.{instance_at, instance-made, consequence-made, argument-degree, degree-two, low}
use Rattle.alb_sample.proofs.ConsequenceLemmas.{choice-form, choice-degree}
use Rattle.alb_sample.proofs.ParityLemmas.{choice-is, element-below}
use Rattle.alb_sample.proofs.ProblemLemmas.{forms-count, forms-linearized}

-- ---- the form of a choice

form-each : (P : Form → Type 0) (fs : List Form) (k : ℕ) → k < length fs → Each P fs → P (form_at fs k)
form-each P [] k h a = absurd (omega arith)
form-each P (f ∷ fs) zero h a = a.0
form-each P (f ∷ fs) (suc k) h a = form-each P fs k (omega arith) a.1

form-item : (ls : List Linear) (k : ℕ) (l : Linear) → k < length ls → l ≡ get_or ls k l → form l ≡ form_at (map form ls) k
form-item [] k l h e = absurd (omega arith)
form-item (x ∷ xs) zero l h e = ap form e
form-item (x ∷ xs) (suc k) l h e = form-item xs k l (omega arith) e

module _ (r : Rules) (e : rules_view r ≡ sample_view) where
  pub field-is : r.field ≡ 251
  field-is = ap (λ (v : RulesView). v.p) e

  forms-of : map form r.linears.items ≡ sample_forms
  forms-of = ap (λ (v : RulesView). v.forms) e

  pub two-linears : length r.linears.items ≡ 2
  two-linears = sym (length-map r.linears.items form) ∙ ap length forms-of ∙ forms-count

  module _ (c : Choice) (h : IsChoice c) (l : Linear) (is : l ≡ get_or r.linears.items c.identity l) where
    pub form-is : form l ≡ form_at sample_forms c.identity
    form-is = form-item r.linears.items c.identity l (let n = h.identity in omega (arith, two-linears)) is ∙ ap (λ fs. form_at fs c.identity) forms-of

    pub form-linearized : IsLinearized r.field (form l)
    form-linearized = subst (λ p. IsLinearized p (form l)) (sym field-is) (subst (IsLinearized 251) (sym form-is)
        (form-each (IsLinearized 251) sample_forms c.identity (let n = h.identity in omega (arith, forms-count)) forms-linearized))

    pub form-degree : l.degree ≡ 3
    form-degree = ap (λ (f : Form). f.degree) form-is ∙ choice-degree c h

    pub instance-normal : (ms : List Tree) → ms ≡ chosen c → normal r.field (instance (form l) ms) ≡ normal 251 (instance_at c)
    instance-normal ms k =
        ap₂ normal field-is (ap₂ instance form-is k)
        ∙ alike-normal 251 (instance (form_at sample_forms c.identity) (chosen c)) (instance_at c) (omega arith) (choice-form c h)

-- ---- its monomials

pub three-monos : (ms : List Mono) (c : Choice) → map tree ms ≡ chosen c → length ms ≡ 3
three-monos ms c e = sym (length-map ms tree) ∙ ap length e

pub low-monos : (ms : List Mono) (c : Choice) → IsChoice c → map tree ms ≡ chosen c → sum_by (λ m. degree (tree m)) ms ≤ 64
low-monos ms c h e =
    let a : total degree (chosen c) ≡ sum_by (λ m. degree (tree m)) ms =
    ap (total degree) (sym e) ∙ total-map degree tree ms ∙ total-sum_by (λ m. degree (tree m)) ms in
    omega (arith, a, argument-degree c.first h.first, argument-degree c.second h.second, argument-degree c.third h.third)

-- ---- the consequence

low-instance : (c : Choice) → IsChoice c → greatest_degree (instance_at c) ≤ 7
low-instance c h = degree-each 7 (instance_at c) (each-weaker _ _ (instance_at c) (λ t made.
    let k = low c h in omega (arith, degree-two t.1 made.below, made.counts 0, made.counts 1)) (instance-made c h))

pub low-normal : (c : Choice) (v : Poly) → IsChoice c → v ≡ normal 251 (instance_at c) → greatest_degree v + 1 ≤ 64
low-normal c v h e = rw e (omega (arith, normal-degree 251 (instance_at c), low-instance c h))

pub consequence-normal : (c : Choice) (v : Poly) → v ≡ normal 251 (instance_at c) → reindex (beside (c.side, leaf c.generator)) v ≡ normal 251 (consequence c)
unfolding consequence
consequence-normal c v e =
    let n : Poly = normal 251 (instance_at c) in
    ap (reindex (beside (c.side, leaf c.generator))) e
    ∙ alike-is-normal 251 (reindex (beside (c.side, leaf c.generator)) (instance_at c)) (reindex (beside (c.side, leaf c.generator)) n) (omega arith)
    (descending-canonical 251 (reindex (beside (c.side, leaf c.generator)) n)
    (descending-beside c.side (leaf c.generator) n (normal-descending 251 (instance_at c) (omega arith)))
    (residues-reindex 251 (beside (c.side, leaf c.generator)) n (normal-residues 251 (instance_at c) (omega arith))))
    (reindex-alike (beside (c.side, leaf c.generator)) (normal-alike 251 (instance_at c)))

-- a basis element added
pub element-normal : (p : ℕ) (f g one : Poly) (x : Tree) → p ≡ 251 → g ≡ normal 251 f → one ≡ (1, x) ∷ [] → normal p (g ++ one) ≡ normal 251 (f ++ (1, x) ∷ [])
element-normal p f g one x e h k =
    ap₂ (λ (q : ℕ) (u : Poly). normal q (u ++ one)) e h ∙ ap (λ (u : Poly). normal 251 (normal 251 f ++ u)) k ∙ normal-append-left 251 f ((1, x) ∷ []) (omega arith)

-- ---- the polynomial of what was drawn

pub drawn-poly : (t : Table) (k s s5 : ℕ) (c : Choice) (w : List ℕ) (e : Option ℕ) (g : Poly) → c ≡ choice_at s → s5 ≡ state_after 5 s → w ≡ chosen_type c → e ≡ element_at t k w s5 →
    g ≡ normal 251 (with_element t c e) → g ≡ polynomial t k s
unfolding polynomial
drawn-poly t k s s5 c w e g ci si wi ei gi =
    gi ∙ ap₂ (λ (d : Choice) (o : Option ℕ). normal 251 (with_element t d o)) ci
    (ei ∙ ap₂ (λ (v : List ℕ) (n : ℕ). element_at t k v n) (wi ∙ ap chosen_type ci) si)

pub drawn-state : (t : Table) (k s s5 s6 : ℕ) (c : Choice) (w : List ℕ) → c ≡ choice_at s → s5 ≡ state_after 5 s → w ≡ chosen_type c → s6 ≡ state_with t k w s5 → s6 ≡ state_drawn t k s
unfolding state_drawn
drawn-state t k s s5 s6 c w ci si wi ei = ei ∙ ap₂ (λ (v : List ℕ) (n : ℕ). state_with t k v n) (wi ∙ ap chosen_type ci) si

module _ (t : Table) (right : IsRightFor sample_view t) where
  element-known : (e : Option ℕ) → IfSome e (λ b. b < length (elems t.parts)) → Each (λ s. are_below 2 s.1 ≡ true) (element_poly t e)
  element-known None h = tt
  element-known (Some b) h = (mono-below sample_view t right 2 b (let n : length t.target ≡ 2 = ap length right.target in omega arith) h, tt)

  -- it is over the generators a and b
  pub polynomial-known : (k s : ℕ) → Each (λ u. are_below 2 u.1 ≡ true) (polynomial t k s)
  unfolding polynomial
  polynomial-known k s =
      let c : Choice = choice_at s in
      let e : Option ℕ = element_at t k (chosen_type c) (state_after 5 s) in
      normal-each (λ m. are_below 2 m ≡ true) 251 (with_element t c e) (each-append _ (consequence c) (element_poly t e)
      (each-weaker _ _ (consequence c) (λ u made. test_from_below 2 u.1 made.below) (consequence-made c (choice-is s)))
      (element-known e (element-below t k (chosen_type c) (state_after 5 s))))

pub polynomial-residues : (t : Table) (k s : ℕ) → AreResidues 251 (polynomial t k s)
unfolding polynomial
polynomial-residues t k s = normal-residues 251 _ (omega arith)
