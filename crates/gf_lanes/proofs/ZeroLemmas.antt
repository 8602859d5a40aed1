-- Numbers that are not 0 in a list.
use Rattle.std.proofs.Common.{◌≡◌, ℕ, zero, suc, ◌+◌, ◌<◌, ◌≤◌, true, false, not, cond, List, [], ◌∷◌, length, get_or, take, drop, refl, ap, ◌∙◌, sym, arith, Some, None, inl, inr, count_by}
use Rattle.std.proofs.lemmas.Bool.{cases_lt, lt-ltb, le-ltb}
use Rattle.std.proofs.lemmas.Bool.Decides.{nat_tests}
use Rattle.std.proofs.lemmas.List.Sums.{sum_by-append}
use Rattle.std.proofs.Math.Seq.{take-add}
use Rattle.std.specs.List.{prefix_len, position}
use Rattle.std.proofs.lemmas.Simd.{run_in_chunk_fails}
use lib.Lanes.{chunk}
use Rattle.gf_lanes.specs.Lanes.{is_nonzero, AreZerosTo}

pub zero_tells : (x : ℕ) → is_nonzero x ≡ false → x ≡ 0
zero_tells zero h = refl
zero_tells (suc x) h = grind (arith, nat_tests)

pub nonzero_is : (x : ℕ) → 0 < x → is_nonzero x ≡ true
nonzero_is x h = grind (arith, nat_tests)

-- 32 zeros more
pub zeros_more : (xs : List ℕ) (at : ℕ) → AreZerosTo at xs → at + 32 ≤ length xs → 32 ≡ prefix_len (λ x. not (is_nonzero x)) (chunk at 32 xs) → AreZerosTo (at + 32) xs
zeros_more xs at zeros room e i l =
    elim (cases_lt i at) [
      | inl h ↦ zeros i h
      | inr h ↦ zero_tells _ (run_in_chunk_fails is_nonzero xs at 32 32 0 room e i h l)
    ]

-- the first number that is not 0
first_is : (xs : List ℕ) (k : ℕ) → k < length xs → 0 < get_or xs k 0 → AreZerosTo k xs → prefix_len (λ x. not (is_nonzero x)) xs ≡ k
first_is [] k l h zeros = absurd (omega arith)
first_is (x ∷ xs) zero l h zeros = rw (nonzero_is x h)
first_is (x ∷ xs) (suc k) l h zeros = rw (zeros 0 (omega arith)) (omega (arith, first_is xs k (omega arith) h (λ i m. zeros (suc i) (omega arith))))

pub position_is : (xs : List ℕ) (k : ℕ) → k < length xs → 0 < get_or xs k 0 → AreZerosTo k xs → Some k ≡ position is_nonzero xs
position_is xs k l h zeros = let e = first_is xs k l h zeros in rw (e, lt-ltb k (length xs) l)

all_zero : (xs : List ℕ) → AreZerosTo (length xs) xs → prefix_len (λ x. not (is_nonzero x)) xs ≡ length xs
all_zero [] zeros = refl
all_zero (x ∷ xs) zeros = rw (zeros 0 (omega arith)) (omega (arith, all_zero xs (λ i m. zeros (suc i) (omega arith))))

pub no_position : (xs : List ℕ) → AreZerosTo (length xs) xs → None ≡ position is_nonzero xs
no_position xs zeros = rw (all_zero xs zeros, le-ltb (length xs) (length xs) (omega arith))

-- 32 numbers more
pub count_more : (xs : List ℕ) (at n m : ℕ) → n ≡ count_by is_nonzero (take at xs) → m ≡ count_by is_nonzero (chunk at 32 xs) → n + m ≡ count_by is_nonzero (take (at + 32) xs)
count_more xs at n m e f =
    rw (e, f) (sym (ap (count_by is_nonzero) (take-add at 32 xs) ∙ sum_by-append (λ x. cond (is_nonzero x) 1 0) (take at xs) (take 32 (drop at xs))))
