-- The products of the next degree, counted type by type.
use Rattle.std.proofs.Common.{◌≡◌, ℕ, zero, suc, ◌+◌, ◌*◌, ◌^◌, ◌<◌, ◌≤◌, true, false, None, Some, List, [], ◌∷◌, ◌++◌, length, get_or, take, sym, refl, ap, ◌∙◌, subst, arith, inl, inr}
use Rattle.std.specs.Prelude.{nat_lt, sum}
use Rattle.std.proofs.lemmas.Bool.{cases_Bool}
use Rattle.std.proofs.lemmas.Bool.Decides.{nat_tests}
use Rattle.gf_sums.specs.Sums.{total}
use Rattle.alb_mono.specs.Tree.{types_of}
use Rattle.alb_table.specs.Table.{Table, IsTarget, count_products, next_types, wide, most_of_type}
use Rattle.alb_table.specs.End.{first_wide}
use Rattle.alb_build.proofs.Counts.{types-few, power-most}

-- the products of the first types were counted, and none of these types has too many
pub record IsCounted (t : Table) (ws : List (List ℕ)) (k n : ℕ) : Type 0 where
  pub counted : n ≡ count_products t.parts + total (wide t) (take k ws)
  pub narrow : first_wide t (take k ws) ≡ None
  pub few : n ≤ count_products t.parts + 4096 * k

module _ (t : Table) where
  total-more : (ws : List (List ℕ)) (k : ℕ) (w : List ℕ) → k < length ws → get_or ws k w ≡ w → total (wide t) (take (suc k) ws) ≡ total (wide t) (take k ws) + wide t w
  total-more [] k w l g = absurd (omega arith)
  total-more (x ∷ ws) zero w l g = let e : wide t x ≡ wide t w = ap (wide t) g in omega arith
  total-more (x ∷ ws) (suc k) w l g = omega (arith, total-more ws k w (omega arith) g)

  narrow-more : (ws : List (List ℕ)) (k : ℕ) (w : List ℕ) → k < length ws → get_or ws k w ≡ w → wide t w ≤ 4096 → first_wide t (take k ws) ≡ None → first_wide t (take (suc k) ws) ≡ None
  narrow-more [] k w l g m h = absurd (omega arith)
  narrow-more (x ∷ ws) zero w l g m h =
      let n : wide t x ≤ 4096 = subst (λ y. wide t y ≤ 4096) (sym g) m in
      let e : nat_lt most_of_type (wide t x) ≡ false = grind (arith, nat_tests) in
      rw e refl
  narrow-more (x ∷ ws) (suc k) w l g m h = elim (cases_Bool (nat_lt most_of_type (wide t x))) [
    | inl e ↦ absurd (let z : Some x ≡ None = rw e at h in cc)
    | inr e ↦ rw e (narrow-more ws k w (omega arith) g m (rw e at h))
  ]

  -- the first type that has too many products
  pub first-after : (ws : List (List ℕ)) (k : ℕ) (w : List ℕ) → k < length ws → get_or ws k w ≡ w → 4096 < wide t w → first_wide t (take k ws) ≡ None → first_wide t ws ≡ Some w
  first-after [] k w l g m h = absurd (omega arith)
  first-after (x ∷ ws) zero w l g m h =
      let n : 4096 < wide t x = subst (λ y. 4096 < wide t y) (sym g) m in
      let e : nat_lt most_of_type (wide t x) ≡ true = grind (arith, nat_tests) in
      rw e (ap Some g)
  first-after (x ∷ ws) (suc k) w l g m h = elim (cases_Bool (nat_lt most_of_type (wide t x))) [
    | inl e ↦ absurd (let z : Some x ≡ None = rw e at h in cc)
    | inr e ↦ rw e (first-after ws k w (omega arith) g m (rw e at h))
  ]

  -- one more type
  pub counted-more : (ws : List (List ℕ)) (k n m : ℕ) (w : List ℕ) → k < length ws → get_or ws k w ≡ w → m ≡ wide t w → m ≤ 4096 → IsCounted t ws k n → IsCounted t ws (suc k) (n + m)
  counted-more ws k n m w l g e few h = record {
    counted = omega (arith, h.counted, total-more ws k w l g);
    narrow = narrow-more ws k w l g (omega arith) h.narrow;
    few = omega (arith, h.few);
  }

  -- there are few types, so the count is small
  pub counted-few : (k n : ℕ) → IsTarget t.target → count_products t.parts ≤ 1000000 → k ≤ length (next_types t) → IsCounted t (next_types t) k n → n ≤ 1000000 + 4096 * 4096
  counted-few k n goal few l h =
      let g = types-few t.target (t.degree + 1) in
      let p : 2 ^ sum t.target ≤ 2 ^ 12 = power-most (sum t.target) 12 goal.small in
      omega (arith, h.few)
