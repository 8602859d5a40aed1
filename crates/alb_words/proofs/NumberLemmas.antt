-- Digits, and what they say.
use Rattle.std.proofs.Common.{◌≡◌, ℕ, ◌+◌, ◌-◌, ◌*◌, ◌<◌, ◌≤◌, ◌^◌, true, List, [], ◌∷◌, ◌++◌, length, get_or, take, refl, sym, ap, ap₂, ◌∙◌, inl, inr, arith, add-one}
use Rattle.std.specs.List.{list_all}
use Rattle.std.proofs.Math.Nat.{pow-le-pow_right}
use Rattle.std.proofs.Math.Seq.{take-suc}
use Rattle.std.proofs.lemmas.Bool.{cases_Bool}
use Rattle.std.proofs.lemmas.Bool.Decides.{nat_tests}
use Rattle.std.proofs.lemmas.Grind.{pow_more}
use Rattle.std.proofs.lemmas.List.Folds.{list_all_at}
use Rattle.alb_words.specs.Numbers.{is_digit, value_of}

value-push : (n : ℕ) (xs : List ℕ) (x : ℕ) → value_of n (xs ++ x ∷ []) ≡ value_of n xs * 10 + (x - 48)
unfolding value_of
value-push n [] x = refl
value-push n (y ∷ xs) x = value-push (n * 10 + (y - 48)) xs x

pub value-start : 0 ≡ value_of 0 []
unfolding value_of
value-start = refl

pub value-next : (xs : List ℕ) (i v d : ℕ) → i < length xs → v ≡ value_of 0 (take i xs) → d ≡ get_or xs i 0 - 48 → v * 10 + d ≡ value_of 0 (take (i + 1) xs)
value-next xs i v d l h k =
    let t : take (i + 1) xs ≡ take i xs ++ get_or xs i 0 ∷ [] = ap (λ (n : ℕ). take n xs) (add-one i) ∙ take-suc xs i 0 l in
    ap₂ (λ (a b : ℕ). a * 10 + b) h k ∙ sym (ap (value_of 0) t ∙ value-push 0 (take i xs) (get_or xs i 0))

low : (b : ℕ) → is_digit b ≡ true → b ≤ 57
low b e = grind (arith, nat_tests)

pub digit : (xs : List ℕ) (i : ℕ) → i < length xs → list_all is_digit xs ≡ true → get_or xs i 0 ≤ 57
digit xs i l all = elim (cases_Bool (is_digit (get_or xs i 0))) [
  | inl e ↦ low (get_or xs i 0) e
  | inr e ↦ let none = list_all_at is_digit xs i 0 l e in absurd (cc)
]

pub small-next : (v i d : ℕ) → v < 10 ^ i → d ≤ 9 → v * 10 + d < 10 ^ (i + 1)
small-next v i d h k = omega (arith, pow_more 10 i)

pub small-fits : (v i : ℕ) → v < 10 ^ i → i < 18 → v * 10 + 9 < 2 ^ 64
small-fits v i h k = let ten : 0 < 10 = omega arith in let less : i ≤ 17 = omega arith in let e : 10 ^ i ≤ 10 ^ 17 = pow-le-pow_right ten {i = i} {j = 17} less in omega arith
