-- The codes of refusals: a refusal line names its own.
use Rattle.std.specs.Prelude.{ℕ, ◌+◌, ◌-◌, ◌*◌, nat_le, Bool, ◌&&◌, if◌then◌else◌, List, [], ◌∷◌, length, drop, codes}

-- a digit 0 to 9
abbrev pub is_digit : ℕ → Bool
is_digit b = nat_le 48 b && nat_le b 57

-- the number that the digits at the front of a text say, after those that say `n`
unfoldable pub number_from : ℕ → List ℕ → ℕ
number_from n [] = n
number_from n (b ∷ bs) = if is_digit b then number_from (n * 10 + (b - 48)) bs else n

-- THE CODE that a refusal line names: the number that stands after its first word
abbrev pub code_in : List ℕ → ℕ
code_in line = number_from 0 (drop (length (codes "refused ")) line)
