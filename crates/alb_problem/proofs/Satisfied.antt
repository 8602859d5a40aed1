-- Algebras that satisfy an identity: its value is zero at all vectors.
use Rattle.std.proofs.Common.{◌≡◌, ℕ, zero, suc, ◌+◌, ◌*◌, ◌<◌, ◌≤◌, List, [], ◌∷◌, map, length, get_or, sum, sym, refl, ap, ◌∙◌, subst, arith, inl, inr}
use Rattle.std.specs.List.{flat_map}
use Rattle.std.proofs.lemmas.Bool.{cases_lt}
use Rattle.gf_field.specs.Modular.{IsPrime}
use Rattle.alb_mono.specs.Tree.{Tree, leaf, node, degree}
use Rattle.gf_sums.specs.Sums.{total, Comb, weigh, scale}
use Rattle.gf_sums.proofs.Alike.{Alike, equal, itself, append-alike, scale-alike}
use Rattle.alb_poly.specs.Poly.{Poly}
use Rattle.alb_poly.specs.Instance.{Form, linearization, leaves, total_from, IsHomogeneous, IsMultilinear, IsMultilinearForm}
use Rattle.alb_mono.specs.Listing.{Each}
use Rattle.alb_poly.proofs.Multilinear.{each-map, each-flat, each-from}
use Rattle.alb_poly.specs.Textbook.{evaluate, evaluate_poly, unit}
use Rattle.alb_problem.proofs.OneVariable.{vectors}
use Rattle.alb_problem.proofs.FormValue.{weigh-evaluate_poly}
use Rattle.alb_poly.proofs.Parts.{weigh-each, weigh-zero}
use Rattle.alb_problem.proofs.AllVectors.{degree-leaves, closed-zero, IsOver, identity-closed, degree-type, small_or_large}

module _ {I : Type 0} (prod : I → I → Comb I) (P : I → Type 0) (p : ℕ) where
  -- the value of `f` is zero at all vectors over `P`
  abbrev pub Satisfies : Poly → Type 0
  Satisfies f = (u : ℕ → Comb I) → ((v : ℕ) → IsOver P (u v)) → Alike p (evaluate_poly prod u f) []

  -- products of `n` or more vectors over `P` are zero
  abbrev pub IsNilpotent : ℕ → Type 0
  IsNilpotent n = (m : Tree) → n ≤ degree m → (u : ℕ → Comb I) → ((v : ℕ) → IsOver P (u v)) → Alike p (evaluate prod u m) []

  -- the value of the form is zero at all lists of elements of `P`
  abbrev pub IsZeroAtElements : Form → Type 0
  IsZeroAtElements f = (b : List I) → Each P b → length b ≡ f.degree → Alike p (evaluate_poly prod (vectors (map unit b)) f.terms) []

  -- where the prime is above the degrees in all variables
  pub Satisfies-small : (e : List ℕ) (f : Poly) → IsPrime p → Each (λ n. n < p) e → IsHomogeneous e f → IsZeroAtElements (linearization e f) → Satisfies f
  Satisfies-small e f prime small h k = identity-closed prod P (λ g. Alike p g []) (closed-zero p) e f prime small h k

  terms-zero : (e : List ℕ) (f : Poly) → IsNilpotent (sum e) → IsHomogeneous e f → Satisfies f
  terms-zero e [] nil h u q = itself []
  terms-zero e (t ∷ f) nil h u q = append-alike (scale-alike t.0 (nil t.1 (omega (arith, degree-type e t.1 h.0)) u q)) (terms-zero e f nil h.1 u q)

  -- where products of as many factors as the identity's degree vanish
  pub Satisfies-nilpotent : (e : List ℕ) (f : Poly) → IsNilpotent (sum e) → IsHomogeneous e f → Satisfies f
  Satisfies-nilpotent e f nil h = terms-zero e f nil h

  -- An algebra where products of `p` factors vanish satisfies each identity whose linearization is zero at all elements.
  pub Satisfies-linearization : (e : List ℕ) (f : Poly) → IsPrime p → IsNilpotent p → IsHomogeneous e f → IsZeroAtElements (linearization e f) → Satisfies f
  Satisfies-linearization e f prime nil h k = elim (small_or_large p e) [
    | inl small ↦ Satisfies-small e f prime small h k
    | inr large ↦ Satisfies-nilpotent e f (λ m l. nil m (omega arith)) h
  ]

-- ---- elements with degrees

-- Each element has a degree from 1 to `top`, and a product of two elements has elements of at least the sum of theirs.
pub record IsGraded {I : Type 0} (prod : I → I → Comb I) (P : I → Type 0) (grade : I → ℕ) (top : ℕ) : Type 0 where
  pub positive : (i : I) → P i → 1 ≤ grade i
  pub bounded : (i : I) → P i → grade i ≤ top
  pub products : (i j : I) → P i → P j → Each (λ t. P t.1 × (grade i + grade j ≤ grade t.1)) (prod i j)

run-shift : (w : ℕ → ℕ) (k n : ℕ) → total_from w (suc k) n ≡ total_from (λ v. w (suc v)) k n
run-shift w k zero = refl
run-shift w k (suc n) = ap (λ j. w (suc k) + j) (run-shift w (suc k) n)

run-map : {X : Type 0} (g : X → ℕ) (b : List X) → total_from (λ v. get_or (map g b) v 0) 0 (length b) ≡ total g b
run-map g [] = refl
run-map g (x ∷ b) = ap (λ j. g x + j) (run-shift (λ v. get_or (g x ∷ map g b) v 0) 0 (length b) ∙ run-map g b)

module _ {I : Type 0} (prod : I → I → Comb I) (P : I → Type 0) (grade : I → ℕ) (top : ℕ) (graded : IsGraded prod P grade top) where
  -- a value has elements of at least the sum of the degrees of its factors
  graded-value : (u : ℕ → Comb I) (g : ℕ → ℕ) → ((v : ℕ) → Each (λ t. P t.1 × (g v ≤ grade t.1)) (u v)) → (m : Tree) →
      Each (λ t. P t.1 × (leaves g m ≤ grade t.1)) (evaluate prod u m)
  graded-value u g q (leaf k) = q k
  graded-value u g q (node l r) =
      let R = evaluate prod u r in
      each-flat (λ s. P s.1 × (leaves g l ≤ grade s.1)) (λ t. P t.1 × (leaves g (node l r) ≤ grade t.1))
      (λ s. flat_map (λ t. scale (s.0 * t.0) (prod s.1 t.1)) R) (evaluate prod u l)
      (λ s h. each-flat (λ t. P t.1 × (leaves g r ≤ grade t.1)) (λ t. P t.1 × (leaves g (node l r) ≤ grade t.1)) (λ t. scale (s.0 * t.0) (prod s.1 t.1)) R
      (λ t k. each-map (λ x. P x.1 × (grade s.1 + grade t.1 ≤ grade x.1)) (λ x. P x.1 × (leaves g (node l r) ≤ grade x.1)) (λ x. (s.0 * t.0 * x.0, x.1)) (prod s.1 t.1)
      (λ x a. (a.0, omega (arith, a.1, h.1, k.1))) (graded.products s.1 t.1 h.0 k.0))
      (graded-value u g q r))
      (graded-value u g q l)

  too_high : (n : ℕ) (f : Comb I) → top < n → Each (λ t. P t.1 × (n ≤ grade t.1)) f → f ≡ []
  too_high n [] h a = refl
  too_high n (t ∷ f) h a = absurd (omega (arith, graded.bounded t.1 a.0.0, a.0.1))

  -- products of more than `top` factors vanish
  pub IsNilpotent-graded : (p n : ℕ) → top < n → IsNilpotent prod P p n
  IsNilpotent-graded p n h m l u q = equal _ _ (λ w. ap (weigh w) (too_high (leaves (λ v. 1) m) (evaluate prod u m) (omega (arith, degree-leaves m))
      (graded-value u (λ v. 1) (λ v. each-from (λ t. P t.1) (λ t. P t.1 × (1 ≤ grade t.1)) (u v) (λ t a. (a, graded.positive t.1 a)) (q v)) m)))

  unit_grades : (b : List I) → Each P b → (v : ℕ) → Each (λ t. P t.1 × (get_or (map grade b) v 0 ≤ grade t.1)) (vectors (map unit b) v)
  unit_grades [] o v = tt
  unit_grades (i ∷ b) o zero = ((o.0, omega arith), tt)
  unit_grades (i ∷ b) o (suc v) = unit_grades b o.1 v

  -- The value of a form at elements whose degrees add up to more than `top` is zero.
  pub zero-high : (p : ℕ) (f : Form) → IsMultilinearForm f → (b : List I) → Each P b → length b ≡ f.degree → top < total grade b →
      Alike p (evaluate_poly prod (vectors (map unit b)) f.terms) []
  zero-high p f multi b o n h = equal _ _ (λ w.
      weigh-evaluate_poly prod (vectors (map unit b)) w f.terms
      ∙ weigh-each (IsMultilinear f.degree) _ (λ m. 0) f.terms
      (λ m k. ap (weigh w) (too_high (leaves (λ v. get_or (map grade b) v 0) m) (evaluate prod (vectors (map unit b)) m)
      (subst (λ j. top < j) (sym (k (λ v. get_or (map grade b) v 0) ∙ ap (total_from (λ v. get_or (map grade b) v 0) 0) (sym n) ∙ run-map grade b)) h)
      (graded-value (vectors (map unit b)) (λ v. get_or (map grade b) v 0) (unit_grades b o) m)))
      multi
      ∙ weigh-zero f.terms)

  -- so only the other lists of elements have to be tried
  pub IsZeroAtElements-graded : (p : ℕ) (f : Form) → IsMultilinearForm f →
      ((b : List I) → Each P b → length b ≡ f.degree → total grade b ≤ top → Alike p (evaluate_poly prod (vectors (map unit b)) f.terms) []) →
      IsZeroAtElements prod P p f
  IsZeroAtElements-graded p f multi h b o n = elim (cases_lt top (total grade b)) [
    | inl a ↦ zero-high p f multi b o n a
    | inr a ↦ h b o n a
  ]
