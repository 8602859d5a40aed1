-- One more mark.
use Rattle.std.proofs.Common.{◌≡◌, ℕ, ◌+◌, ◌-◌, ◌<◌, ◌≤◌, Bool, true, false, ◌||◌, List, [], ◌∷◌, length, get_or, take, set, refl, sym, ap, ◌∙◌, subst, arith, inl, inr, get_or-set_same, get_or-set_other}
use Rattle.std.specs.Bool.{◌==◌}
use Rattle.std.specs.List.{list_any}
use Rattle.std.proofs.lemmas.Bool.{cases_Bool, cases_eq, eqb-true, eq-eqb, or_right}
use Rattle.std.proofs.lemmas.Bool.Decides.{nat_tests}
use Rattle.std.proofs.lemmas.List.Folds.{list_any_more}
use Rattle.alb_mono.specs.Listing.{Each}
use Rattle.alb_poly.proofs.Multilinear.{all_from_each}
use Rattle.alb_tidy.specs.Cites.{IsNumber}
use Rattle.alb_tidy.specs.Needed.{is_marked}

or_assoc : (a b c : Bool) → ((a || b) || c) ≡ (a || (b || c))
or_assoc true b c = refl
or_assoc false b c = refl

or_false : (a : Bool) → (a || false) ≡ a
or_false true = refl
or_false false = refl

or_true : (a : Bool) → (a || true) ≡ true
or_true true = refl
or_true false = refl

-- the mark of line `j`
pub mark-set : (marks : List Bool) (j k : ℕ) → IsNumber (length marks) j → is_marked (set marks (j - 1) true) k ≡ (is_marked marks k || (j == k + 1))
mark-set marks j k w = elim (cases_eq k (j - 1)) [
  | inl e ↦ (
      let q : j ≡ k + 1 = omega (arith, e, w.above) in
      let t : (j == k + 1) ≡ true = eq-eqb j (k + 1) q in
      ap (is_marked (set marks (j - 1) true)) e ∙ get_or-set_same marks (j - 1) true false (omega (arith, w.above, w.among)) ∙ sym (ap (λ b. is_marked marks k || b) t ∙ or_true (is_marked marks k)))
  | inr n ↦ (
      let t : (j == k + 1) ≡ false = apart j k w.above n in
      get_or-set_other marks (j - 1) k true false n ∙ sym (ap (λ b. is_marked marks k || b) t ∙ or_false (is_marked marks k)))
]
  where
    apart : (j k : ℕ) → 0 < j → (k ≡ j - 1 → ⊥) → (j == k + 1) ≡ false
    apart j k a n = elim (cases_Bool (j == k + 1)) [
      | inl t ↦ (let q : j ≡ k + 1 = eqb-true j (k + 1) t in absurd (n (omega (arith, q))))
      | inr t ↦ t
    ]

-- the marks of one item more
pub marks-more : (old marks : List Bool) (items : List (ℕ × ℕ)) (i : ℕ) (d : ℕ × ℕ) → i < length items → Each (λ c. IsNumber (length old) c.1) items → length marks ≡ length old →
    ((k : ℕ) → is_marked marks k ≡ (is_marked old k || list_any (λ c. c.1 == k + 1) (take i items))) →
    (k : ℕ) → is_marked (set marks ((get_or items i d).1 - 1) true) k ≡ (is_marked old k || list_any (λ c. c.1 == k + 1) (take (i + 1) items))
marks-more old marks items i d l a n h k =
    let j : ℕ = (get_or items i d).1 in
    let w : IsNumber (length old) j = all_from_each (λ (c : ℕ × ℕ). IsNumber (length old) c.1) items a i d l in
    mark-set marks j k (subst (λ m. IsNumber m j) (sym n) w)
    ∙ ap (λ b. b || (j == k + 1)) (h k)
    ∙ or_assoc (is_marked old k) (list_any (λ c. c.1 == k + 1) (take i items)) (j == k + 1)
    ∙ ap (λ b. is_marked old k || b) (sym (list_any_more (λ c. c.1 == k + 1) items i d l))
