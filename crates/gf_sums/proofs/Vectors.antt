-- Worked rows: the definitions, computed on small combinations.
use Rattle.std.proofs.Common.{◌≡◌, ◌+◌, ℕ, nat_eq, [], ◌∷◌, refl, lit<}
use Rattle.std.specs.Ordering.{nat_cmp}
use Rattle.gf_sums.specs.Sums.{Comb, weigh, coefficient, scale, reindex, multiply, IsCanonical}

-- 2 at 7, 3 at 4 and 5 at 7
twice_at_7 : Comb ℕ
twice_at_7 = (2, 7) ∷ (3, 4) ∷ (5, 7) ∷ []

the_coefficient_is_the_sum_over_the_list : coefficient (λ i j. nat_eq i j) twice_at_7 7 ≡ 7
unfolding twice_at_7
the_coefficient_is_the_sum_over_the_list = refl

absent_indices_have_the_coefficient_0 : coefficient (λ i j. nat_eq i j) twice_at_7 5 ≡ 0
unfolding twice_at_7
absent_indices_have_the_coefficient_0 = refl

the_value_where_each_index_weighs_itself : weigh (λ i. i) twice_at_7 ≡ 61
unfolding twice_at_7
the_value_where_each_index_weighs_itself = refl

a_multiple_keeps_the_indices : scale 3 twice_at_7 ≡ (6, 7) ∷ (9, 4) ∷ (15, 7) ∷ []
unfolding twice_at_7
a_multiple_keeps_the_indices = refl

other_indices_keep_the_coefficients : reindex (λ i. i + 1) twice_at_7 ≡ (2, 8) ∷ (3, 5) ∷ (5, 8) ∷ []
unfolding twice_at_7
other_indices_keep_the_coefficients = refl

-- (2 x + 3 y) (5 z), where the product of two indices is their sum
the_product_is_linear_on_both_sides :
    multiply (λ i j. (1, i + j) ∷ []) ((2, 10) ∷ (3, 20) ∷ []) ((5, 1) ∷ []) ≡ (10, 11) ∷ (15, 21) ∷ []
the_product_is_linear_on_both_sides = refl

a_canonical_list_descends : IsCanonical nat_cmp 5 ((3, 9) ∷ (1, 4) ∷ [])
a_canonical_list_descends = (lit< tt, lit< tt, (refl, tt), (lit< tt, lit< tt, tt, tt))
