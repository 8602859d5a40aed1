-- A line with new numbers, after lines that have the polynomials of what it cites.
use Rattle.std.proofs.Common.{◌≡◌, ℕ, ◌+◌, ◌-◌, ◌%◌, ◌<◌, ◌≤◌, Bool, true, false, not, ◌&&◌, List, [], ◌∷◌, ◌++◌, map, length, refl, sym, ap, ◌∙◌, subst, arith, inl, inr, None, eqb-true, eq-eqb}
use Rattle.std.specs.Bool.{◌==◌}
use Rattle.std.specs.List.{flat_map, list_any}
use Rattle.std.proofs.lemmas.Bool.{false≢true, not-false, or_left, or_right}
use Rattle.std.proofs.lemmas.List.{length-map}
use Rattle.std.proofs.Math.Nat.{mod-eq_of_lt}
use Rattle.gf_field.proofs.Mod.{same}
use Rattle.gf_sums.specs.Sums.{coefficient, scale}
use Rattle.gf_sums.proofs.Alike.{append-alike, scale-alike}
use Rattle.alb_mono.specs.Tree.{type_of, type_le, same_tree}
use Rattle.alb_poly.specs.Poly.{Poly}
use Rattle.alb_poly.specs.Instance.{Form, instance}
use Rattle.alb_poly.specs.Consequence.{form_at}
use Rattle.alb_poly.proofs.Consequence.{poly_alike, alike_poly}
use Rattle.alb_deriv.specs.Derivation.{Line, Instance, Times, Sum, earlier, line_value, fault, IsLineBelow, passes_target}
use Rattle.alb_deriv.specs.Short.{IsShort, AreFine, IsLineOf, IsSumOf}
use Rattle.alb_deriv.proofs.Appended.{IsFitting, Appends, sum-zero, append-instance, append-times, append-sum}
use Rattle.alb_deriv.proofs.Derived.{none_if, count_same}
use Rattle.alb_deriv.proofs.Fits.{absent-or, none-any}
use Rattle.alb_deriv.proofs.Limited.{place_positive}
use Rattle.alb_tidy.specs.Tidy.{cites}
use Rattle.alb_tidy.specs.Cites.{new_number, renumbered_items, renumbered}

-- a polynomial that does not pass the target has no monomial above it
passes-fitting : (p : ℕ) → 0 < p → (target : List ℕ) (f : Poly) → passes_target p target f ≡ false → IsFitting p target f
passes-fitting p pos target f h x e = elim (absent-or (λ y. (not (coefficient same_tree f y % p == 0) && not (type_le (type_of (length target) y) target)) ≡ false) f x (none-any _ f h)) [
  | inl k ↦ record { same = eqb-true _ 0 (zero_when (coefficient same_tree f x % p == 0) (type_le (type_of (length target) x) target) k e) ∙ sym (mod-eq_of_lt pos) }
  | inr z ↦ same z
]
  where
    zero_when : (a b : Bool) → (not a && not b) ≡ false → b ≡ false → a ≡ true
    zero_when true b k e = refl
    zero_when false true k e = absurd (false≢true (sym e))
    zero_when false false k e = absurd (false≢true (sym k))

module _ (p : ℕ) (pos : 0 < p) (most : ℕ) (target : List ℕ) (fs : List Form) where
  mirror-sum : (G : List Poly) (ms : List Line) (places : List ℕ) (cs : List (ℕ × ℕ)) → ((k : ℕ) → list_any (λ c. c.1 == k) cs ≡ true → IsLineOf p fs ms (new_number places k) (earlier G k)) →
      IsSumOf p fs ms (renumbered_items places cs) (flat_map (λ c. scale c.0 (earlier G c.1)) cs)
  mirror-sum G ms places [] h = sum-zero p fs ms
  mirror-sum G ms places (c ∷ cs) h =
      let x = h c.1 (or_left (c.1 == c.1) _ (eq-eqb c.1 c.1 refl)) in
      let y = mirror-sum G ms places cs (λ k e. h k (or_right (c.1 == k) _ e)) in
      record {
        places = (x.place, y.places);
        same = poly_alike (append-alike (scale-alike c.0 (alike_poly x.same)) (alike_poly y.same));
      }

  -- it has no fault, and the same polynomial
  pub mirror : (G : List Poly) (l : Line) (ms : List Line) (places : List ℕ) → fault p target fs G l ≡ None → IsLineBelow (length target) l → IsShort most l → AreFine p most target fs ms →
      ((k : ℕ) → cites l k ≡ true → IsLineOf p fs ms (new_number places k) (earlier G k)) → Appends p most target fs ms (renumbered places l) (line_value fs G l)
  mirror G (Instance i xs) ms places e b s h f =
      let a = none_if _ _ _ e in
      let c = none_if _ _ _ a.1 in
      let d = none_if _ _ _ c.1 in
      let q = place_positive (length fs) i a.0 in
      let n : length xs ≡ (form_at fs (i - 1)).degree = count_same _ _ c.0 in
      let one : i - 1 + 1 ≡ i = omega (arith, q.0) in
      subst (λ j. Appends p most target fs ms (Instance j xs) (instance (form_at fs (i - 1)) xs)) one
      (append-instance p pos most target fs ms (i - 1) xs h (omega (arith, q.0, q.1)) n (not-false _ d.0) b)
  mirror G (Times k x) ms places e b s h f =
      let a = none_if _ _ _ e in
      let c = none_if _ _ _ a.1 in
      append-times p pos most target fs ms (new_number places k) x (earlier G k) h (f k (eq-eqb k k refl)) b (passes-fitting p pos target _ c.0)
  mirror G (Sum cs) ms places e b s h f =
      let n : length (renumbered_items places cs) ≡ length cs = length-map cs _ in
      append-sum p pos most target fs ms (renumbered_items places cs) (flat_map (λ c. scale c.0 (earlier G c.1)) cs) h (mirror-sum G ms places cs f) (omega (arith, n, s))
