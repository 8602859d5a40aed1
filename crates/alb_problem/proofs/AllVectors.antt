-- What holds of a linearization's values at basis elements holds of the identity's values at all vectors.
use Rattle.std.proofs.Common.{◌≡◌, ℕ, zero, suc, ◌+◌, ◌*◌, ◌<◌, ◌≤◌, List, [], ◌∷◌, ◌++◌, map, length, sum, sym, refl, ap, ◌∙◌, subst, arith, inl, inr, ◌⊎◌, append_assoc, append-nil}
use Rattle.std.specs.List.{flat_map}
use Rattle.std.proofs.lemmas.List.{length-append, map-append, length-map}
use Rattle.std.proofs.lemmas.Bool.{cases_lt}
use Rattle.gf_field.specs.Modular.{IsPrime}
use Rattle.alb_mono.specs.Tree.{Tree, leaf, node, degree, count}
use Rattle.gf_sums.specs.Sums.{Comb, weigh, scale}
use Rattle.gf_sums.proofs.Totals.{total-equal, weigh-scale}
use Rattle.gf_sums.proofs.Alike.{Alike, equal, itself, turned, joined, append-alike, scale-alike, weigh-flat}
use Rattle.alb_poly.specs.Poly.{Poly}
use Rattle.alb_poly.specs.Instance.{Form, numbered, first_number, linearization, leaves, total_from, HasType, IsHomogeneous, IsMultilinearForm}
use Rattle.alb_mono.specs.Listing.{Each}
use Rattle.alb_poly.proofs.Multilinear.{each-append, linearization-multilinear, leaves-first, sum_cons}
use Rattle.alb_poly.specs.Textbook.{evaluate_poly, unit}
use Rattle.alb_problem.proofs.FormValue.{form-linear, poly-equal}
use Rattle.alb_problem.proofs.OneVariable.{vectors, put-seam}
use Rattle.alb_problem.proofs.Polarize.{repeated}
use Rattle.alb_problem.proofs.Blocks.{blocks, length-blocks}
use Rattle.alb_problem.proofs.EqualArguments.{value-divided}

-- `N` is closed under equality modulo `p`, sums and multiples
pub record IsClosed {I : Type 0} (p : ℕ) (N : Comb I → Type 0) : Type 0 where
  pub alike : (f g : Comb I) → Alike p f g → N f → N g
  pub zero : N []
  pub append : (f g : Comb I) → N f → N g → N (f ++ g)
  pub scale : (c : ℕ) (f : Comb I) → N f → N (scale c f)

-- being zero is closed
pub closed-zero : {I : Type 0} (p : ℕ) → IsClosed {I = I} p (λ f. Alike p f [])
closed-zero p = record {
  alike = λ f g h k. joined (turned h) k;
  zero = itself [];
  append = λ f g h k. append-alike h k;
  scale = λ c f h. scale-alike c h;
}

pub flat-closed : {X I : Type 0} {p : ℕ} (N : Comb I → Type 0) → IsClosed p N → (P : X → Type 0) (g : X → Comb I) (xs : List X) →
    ((x : X) → P x → N (g x)) → Each P xs → N (flat_map g xs)
flat-closed N c P g [] h a = c.zero
flat-closed N c P g (x ∷ xs) h a = c.append (g x) (flat_map g xs) (h x a.0) (flat-closed N c P g xs h a.1)

-- all indices of the combination are among those of `P`
abbrev pub IsOver : {I : Type 0} → (I → Type 0) → Comb I → Type 0
IsOver P u = Each (λ t. P t.1) u

each-repeated : {X : Type 0} (P : X → Type 0) (n : ℕ) (x : X) → P x → Each P (repeated n x)
each-repeated P zero x h = tt
each-repeated P (suc n) x h = (h, each-repeated P n x h)

each-blocks : {X : Type 0} (P : X → Type 0) (e : List ℕ) (u : ℕ → X) → ((v : ℕ) → P (u v)) → Each P (blocks e u)
each-blocks P [] u h = tt
each-blocks P (n ∷ e) u h = each-append P (repeated n (u 0)) (blocks e (λ v. u (suc v))) (each-repeated P n (u 0) (h 0)) (each-blocks P e (λ v. u (suc v)) (λ v. h (suc v)))

module _ {I : Type 0} {p : ℕ} (prod : I → I → Comb I) (P : I → Type 0) (N : Comb I → Type 0) (closed : IsClosed p N) where
  -- the value at the vector `u` is the combination of the values at the basis elements of `u`
  value-spread : (f : Form) → IsMultilinearForm f → (us ws : List (Comb I)) (u : Comb I) → length us < f.degree →
      Alike p (flat_map (λ t. scale t.0 (evaluate_poly prod (vectors (us ++ unit t.1 ∷ ws)) f.terms)) u) (evaluate_poly prod (vectors (us ++ u ∷ ws)) f.terms)
  value-spread f m us ws u l = equal _ _ (λ w.
      weigh-flat w _ u
      ∙ total-equal _ _ u (λ t. weigh-scale w t.0 (evaluate_poly prod (vectors (us ++ unit t.1 ∷ ws)) f.terms)
      ∙ ap (λ g. t.0 * weigh w g) (poly-equal prod _ _ f.terms (put-seam us ws (unit t.1))))
      ∙ sym (form-linear prod (vectors (us ++ [] ∷ ws)) (length us) w u f m l)
      ∙ sym (ap (weigh w) (poly-equal prod _ _ f.terms (put-seam us ws u))))

  -- `N` holds of the form's values at lists of basis elements from `P`
  abbrev pub HoldsAtElements : Form → Type 0
  HoldsAtElements f = (b : List I) → Each P b → length b ≡ f.degree → N (evaluate_poly prod (vectors (map unit b)) f.terms)

  closed-from : (f : Form) → IsMultilinearForm f → HoldsAtElements f → (b : List I) → Each P b → (us : List (Comb I)) → Each (IsOver P) us →
      length b + length us ≡ f.degree → N (evaluate_poly prod (vectors (map unit b ++ us)) f.terms)
  closed-from f m h b o [] q n = subst (λ vs. N (evaluate_poly prod (vectors vs) f.terms)) (sym (append-nil (map unit b))) (h b o (omega arith))
  closed-from f m h b o (u ∷ us) q n =
      closed.alike _ _ (value-spread f m (map unit b) us u (omega (arith, length-map b (unit {I = I}))))
      (flat-closed N closed (λ t. P t.1) _ u (λ t k. closed.scale t.0 _
      (subst (λ vs. N (evaluate_poly prod (vectors vs) f.terms))
      (ap (λ vs. vs ++ us) (map-append unit b (t.1 ∷ [])) ∙ append_assoc (map unit b) (unit t.1 ∷ []) us)
      (closed-from f m h (b ++ t.1 ∷ []) (each-append P b (t.1 ∷ []) o (k, tt)) us q.1 (omega (arith, length-append b (t.1 ∷ [])))))) q.0)

  -- A closed predicate that holds of a multilinear form's values at basis elements holds of its values at all vectors.
  pub form-closed : (f : Form) → IsMultilinearForm f → HoldsAtElements f → (us : List (Comb I)) → Each (IsOver P) us → length us ≡ f.degree →
      N (evaluate_poly prod (vectors us) f.terms)
  form-closed f m h us q n = closed-from f m h [] tt us q (omega arith)

  -- Below the prime, such a predicate holds of the identity's values at all vectors.
  pub identity-closed : (e : List ℕ) (f : Poly) → IsPrime p → Each (λ n. n < p) e → IsHomogeneous e f → HoldsAtElements (linearization e f) →
      (u : ℕ → Comb I) → ((v : ℕ) → IsOver P (u v)) → N (evaluate_poly prod u f)
  identity-closed e f prime small h k u q =
      let d = value-divided prod e u p f prime small h in
      closed.alike _ _ d.1 (closed.scale d.0 _
      (form-closed (linearization e f) (linearization-multilinear e f h) k (blocks e u) (each-blocks (IsOver P) e u q) (length-blocks e u)))

-- ---- the degree of an identity

pub degree-leaves : (m : Tree) → degree m ≡ leaves (λ k. 1) m
degree-leaves (leaf k) = refl
degree-leaves (node l r) = rw (degree-leaves l, degree-leaves r)

degree-numbered : (next : ℕ → ℕ) (m : Tree) → degree (numbered next m) ≡ degree m
degree-numbered next (leaf v) = refl
degree-numbered next (node l r) = rw (degree-numbered next l, degree-numbered (λ v. next v + count v l) r)

run-constant : (k n : ℕ) → total_from (λ j. 1) k n ≡ n
run-constant k zero = refl
run-constant k (suc n) = omega (arith, run-constant (suc k) n)

-- a monomial of type `e` has the degree of `e`
pub degree-type : (e : List ℕ) (m : Tree) → HasType e m → degree m ≡ sum e
degree-type e m h =
    sym (degree-numbered (first_number e) m) ∙ degree-leaves (numbered (first_number e) m) ∙ leaves-first (λ k. 1) e m h ∙ run-constant 0 (sum e)

-- all numbers are below `p`, or their sum is not
pub small_or_large : (p : ℕ) (e : List ℕ) → Each (λ n. n < p) e ⊎ (p ≤ sum e)
small_or_large p [] = inl tt
small_or_large p (n ∷ e) = elim (cases_lt n p) [
  | inl a ↦ elim (small_or_large p e) [ inl b ↦ inl (a, b) | inr b ↦ inr (omega (arith, sum_cons n e)) ]
  | inr a ↦ inr (omega (arith, sum_cons n e))
]
