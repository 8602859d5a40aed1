-- The textbook's consequences are consequences of the linearizations.
use Rattle.std.proofs.Common.{◌≡◌, ℕ, zero, suc, ◌*◌, ◌<◌, ◌≤◌, false, List, [], ◌∷◌, map, length, get_or, sum, sym, refl, ap, ◌∙◌, subst, arith, inl, inr, ltb}
use Rattle.std.specs.Prelude.{nat_lt}
use Rattle.std.specs.Bool.{if◌then◌else◌}
use Rattle.std.specs.List.{flat_map}
use Rattle.std.proofs.Math.ListN.{get_or-map}
use Rattle.std.proofs.lemmas.List.{length-map}
use Rattle.std.proofs.lemmas.List as Lists
use Rattle.std.proofs.lemmas.List.Elements.{filter-append}
use Rattle.std.proofs.lemmas.Bool.{cases_lt}
use Rattle.std.proofs.lemmas.Bool.Decides.{nat_tests}
use Rattle.gf_field.specs.Modular.{IsPrime}
use Rattle.alb_mono.specs.Tree.{Tree, leaf, node, degree, AreBelow}
use Rattle.gf_sums.specs.Sums.{weigh, scale}
use Rattle.gf_sums.proofs.Totals.{weigh-equal, weigh-multiply}
use Rattle.gf_sums.proofs.Alike.{Alike, equal, turned, joined, weigh-reindex}
use Rattle.alb_poly.specs.Poly.{Poly}
use Rattle.alb_poly.specs.Consequence.{within, form_at, IsConsequence, AreMultilinear}
use Rattle.alb_poly.specs.Instance.{fill, Form, instance, linearization, HasType, IsHomogeneous, IsMultilinear, IsMultilinearForm, Identity, AreHomogeneous, linearizations, polynomials}
use Rattle.alb_mono.specs.Listing.{Each}
use Rattle.alb_linear.proofs.LinearLemmas.{degree-pos}
use Rattle.alb_mono.proofs.ListingLemmas.{each-always}
use Rattle.alb_poly.proofs.Multilinear.{each-flat, each-map, multilinear-below, linearization-multilinear}
use Rattle.alb_poly.proofs.Parts.{each_at, weigh-keep, weigh-zero, weigh-each}
use Rattle.alb_poly.proofs.Consequence.{alike_poly, consequence-zero, consequence-append, consequence-scale, consequence-instance}
use Rattle.alb_poly.specs.Textbook.{evaluate, evaluate_poly, unit, free_product, value_at, Instance, instance_value, IsTextConsequence}
use Rattle.alb_poly.proofs.Evaluate.{weigh-evaluate_poly}
use Rattle.alb_poly.proofs.Ideals.{weigh-instance}
use Rattle.alb_problem.proofs.OneVariable.{vectors}
use Rattle.alb_problem.proofs.AllVectors.{identity-closed, degree-type, small_or_large}
use Rattle.alb_problem.proofs.Low.{low, IsLow, low-alike, low-same, degree-within, consequence-alike, closed-consequence, consequence-within, consequence-low}

-- ---- values at monomials are instances

pub weigh-units : (w : Tree → ℕ) (b : List Tree) (m : Tree) → AreBelow (length b) m → weigh w (evaluate free_product (vectors (map unit b)) m) ≡ w (fill b m)
weigh-units w b (leaf k) h = ap (weigh w) (Lists.get_or-map unit b k (leaf k) [] h) ∙ omega arith
weigh-units w b (node l r) h =
    let L = evaluate free_product (vectors (map unit b)) l in
    let R = evaluate free_product (vectors (map unit b)) r in
    weigh-multiply free_product w L R
    ∙ weigh-equal _ _ L (λ i. weigh-units (λ j. weigh w (free_product i j)) b r h.1)
    ∙ weigh-units (λ i. weigh w (free_product i (fill b r))) b l h.0
    ∙ omega arith

-- the value of a form at monomials is its instance
pub value-units : {p : ℕ} (f : Form) (b : List Tree) → IsMultilinearForm f → length b ≡ f.degree → Alike p (evaluate_poly free_product (vectors (map unit b)) f.terms) (instance f b)
value-units f b h n = equal _ _ (λ w.
    weigh-evaluate_poly free_product (vectors (map unit b)) w f.terms
    ∙ weigh-each (IsMultilinear f.degree) _ _ f.terms (λ m k. weigh-units w b m (subst (λ j. AreBelow j m) (sym n) (multilinear-below f.degree m k))) h
    ∙ sym (weigh-reindex w (fill b) f.terms))

-- ---- the identities of a list

no_identity : Identity
no_identity = record { degrees = []; terms = [] }

-- the identity with the number `k`
pub identity_at : List Identity → ℕ → Identity
identity_at fs k = get_or fs k no_identity

pub form_at-linearizations : (fs : List Identity) (k : ℕ) → form_at (linearizations fs) k ≡ linearization (identity_at fs k).degrees (identity_at fs k).terms
unfolding identity_at no_identity
form_at-linearizations fs k = get_or-map (λ f. linearization f.degrees f.terms) fs k (record { degrees = []; terms = [] })

pub get-polynomials : (fs : List Identity) (k : ℕ) → get_or (polynomials fs) k [] ≡ (identity_at fs k).terms
unfolding identity_at no_identity
get-polynomials fs k = get_or-map (λ f. f.terms) fs k (record { degrees = []; terms = [] })

pub homogeneous_at : (fs : List Identity) (k : ℕ) → AreHomogeneous fs → IsHomogeneous (identity_at fs k).degrees (identity_at fs k).terms
unfolding identity_at no_identity
homogeneous_at fs k h = each_at (λ f. IsHomogeneous f.degrees f.terms) fs k _ tt h

identity_past : (fs : List Identity) (k : ℕ) → length fs ≤ k → (identity_at fs k).terms ≡ []
unfolding identity_at no_identity
identity_past [] k h = refl
identity_past (f ∷ fs) zero h = absurd (omega arith)
identity_past (f ∷ fs) (suc k) h = identity_past fs k (omega arith)

pub AreMultilinear-linearizations : (fs : List Identity) → AreHomogeneous fs → AreMultilinear (linearizations fs)
AreMultilinear-linearizations fs h = each-map (λ f. IsHomogeneous f.degrees f.terms) IsMultilinearForm _ fs (λ f k. linearization-multilinear f.degrees f.terms k) h

-- ---- values have at least the degree of their monomials

degree-value : (u : ℕ → Poly) (m : Tree) → Each (λ t. degree m ≤ degree t.1) (evaluate free_product u m)
degree-value u (leaf k) = each-always _ (u k) (λ t. degree-pos t.1)
degree-value u (node l r) =
    let R = evaluate free_product u r in
    each-flat (λ s. degree l ≤ degree s.1) (λ t. degree (node l r) ≤ degree t.1)
    (λ s. flat_map (λ t. scale (s.0 * t.0) (free_product s.1 t.1)) R) (evaluate free_product u l)
    (λ s h. each-flat (λ t. degree r ≤ degree t.1) (λ t. degree (node l r) ≤ degree t.1) (λ t. scale (s.0 * t.0) (free_product s.1 t.1)) R
    (λ t k. (omega arith, tt)) (degree-value u r))
    (degree-value u l)

module _ (p : ℕ) (fs : List Identity) (prime : IsPrime p) (hom : AreHomogeneous fs) where
  -- where all degrees of the identity are below `p`
  value-consequence : (k : ℕ) (u : ℕ → Poly) → k < length fs → Each (λ n. n < p) (identity_at fs k).degrees →
      IsConsequence p (linearizations fs) (value_at (identity_at fs k).terms u)
  value-consequence k u h small =
      let f = identity_at fs k in
      identity-closed free_product (λ m. Unit {0}) (IsConsequence p (linearizations fs)) (closed-consequence p (linearizations fs)) f.degrees f.terms prime small (homogeneous_at fs k hom)
      (λ b o n. consequence-alike p (linearizations fs) _ _
      (turned (value-units (linearization f.degrees f.terms) b (linearization-multilinear f.degrees f.terms (homogeneous_at fs k hom)) n))
      (subst (λ g. IsConsequence p (linearizations fs) (instance g b)) (form_at-linearizations fs k)
      (consequence-instance p (linearizations fs) k b (omega (arith, length-map fs (λ f. linearization f.degrees f.terms)))
      (n ∙ sym (ap (λ g. g.degree) (form_at-linearizations fs k)))))) u (λ v. each-always (λ t. Unit {0}) (u v) (λ t. tt))

  -- where some degree is not, the value has no monomials of degree below `p`
  low-high : (k : ℕ) (u : ℕ → Poly) (w : Tree → ℕ) → p ≤ sum (identity_at fs k).degrees → ((m : Tree) → p ≤ degree m → w m ≡ 0) →
      weigh w (value_at (identity_at fs k).terms u) ≡ 0
  low-high k u w large z =
      let f = identity_at fs k in
      weigh-evaluate_poly free_product u w f.terms
      ∙ weigh-each (HasType f.degrees) _ (λ m. 0) f.terms
      (λ m t. weigh-each (λ x. degree m ≤ degree x) w (λ x. 0) (evaluate free_product u m) (λ x d. z x (omega (arith, degree-type f.degrees m t))) (degree-value u m)
      ∙ weigh-zero (evaluate free_product u m))
      (homogeneous_at fs k hom)
      ∙ weigh-zero f.terms

  low-instance : (it : Instance) → IsConsequence p (linearizations fs) (low p (instance_value (polynomials fs) it))
  low-instance it =
      let f = identity_at fs it.identity in
      let V = instance_value (polynomials fs) it in
      let vanishing : ((w : Tree → ℕ) → ((m : Tree) → p ≤ degree m → w m ≡ 0) → weigh w (value_at f.terms it.args) ≡ 0) → IsConsequence p (linearizations fs) (low p V) =
      λ z. consequence-alike p (linearizations fs) [] (low p V)
      (equal _ _ (λ w. sym (weigh-keep w (λ m. nat_lt (degree m) p) V
      ∙ weigh-instance (polynomials fs) (λ m. if ltb (degree m) p then w m else 0) it
      ∙ ap (λ g. it.coef * weigh (λ m. if ltb (degree (within it.context m)) p then w (within it.context m) else 0) (value_at g it.args)) (get-polynomials fs it.identity)
      ∙ ap (λ n. it.coef * n) (z _ (λ m h. let d = degree-within it.context m in
      let q : ltb (degree (within it.context m)) p ≡ false = grind (arith, nat_tests) in rw q))
      ∙ omega arith)))
      (consequence-zero p (linearizations fs)) in
      elim (cases_lt it.identity (length fs)) [
        | inl h ↦ elim (small_or_large p f.degrees) [
          | inl small ↦ consequence-low p (linearizations fs) (AreMultilinear-linearizations fs hom) V
              (consequence-scale p (linearizations fs) it.coef (consequence-within p (linearizations fs) it.context _
              (subst (λ g. IsConsequence p (linearizations fs) (value_at g it.args)) (sym (get-polynomials fs it.identity))
              (value-consequence it.identity it.args h small))))
          | inr large ↦ vanishing (λ w z. low-high it.identity it.args w large z)
        ]
        | inr h ↦ vanishing (λ w z. ap (λ g. weigh w (value_at g it.args)) (identity_past fs it.identity h))
      ]

  low-instances : (its : List Instance) → IsConsequence p (linearizations fs) (low p (flat_map (instance_value (polynomials fs)) its))
  low-instances [] = consequence-zero p (linearizations fs)
  low-instances (it ∷ its) = rw (filter-append (λ t. nat_lt (degree t.1) p) (instance_value (polynomials fs) it) (flat_map (instance_value (polynomials fs)) its))
      (consequence-append p (linearizations fs) (low-instance it) (low-instances its))

  -- A textbook's consequence without monomials of degree `p` or more is a consequence of the linearizations.
  pub consequence-from_text : (g : Poly) → IsLow p g → IsTextConsequence p (polynomials fs) g → IsConsequence p (linearizations fs) g
  consequence-from_text g l c = consequence-alike p (linearizations fs) _ g
      (joined (low-alike p _ g (turned (alike_poly c.same))) (low-same p g l)) (low-instances c.items)
