-- The rule of the claims, and what each step tells.
use Rattle.std.specs.Prelude.{◌≡◌, ℕ, Bool, true, ◌^◌, ◌≤◌, ◌==◌, List, [], ◌∷◌, ◌++◌, length, slice_index, nat_lt, if◌then◌else◌}
use Rattle.std.specs.List.{sum_by, count_by}
use mathlib.Core.Option.{some}
use lib.ListN.{get_elem?}
use Rattle.atomic_table.specs.Table.{State, Me, Step}
use Rattle.alb_claims.specs.declared.rule.Claim.{Claim}

-- there are no slots
abbrev pub Slot : Type 0
Slot = Unit {0}

abbrev pub S : Type 0
S = State Slot Claim

abbrev pub M : Type 0
M = Me Slot Claim

abbrev pub claim : List ℕ → Bool → ℕ → Claim
claim xs o p = record { drawn = xs; opener = o; passes = p }

-- how often x stands in the list
abbrev pub times : ℕ → List ℕ → ℕ
times x xs = count_by (λ y. y == x) xs

abbrev pub EachAtMostOnce : List ℕ → Type 0
EachAtMostOnce xs = (x : ℕ) → times x xs ≤ 1

-- 1 for the numbers below n, and 0 for the others
abbrev pub once_below : ℕ → ℕ → ℕ
once_below x n = if nat_lt x n then 1 else 0

-- the word
abbrev pub next : S → ℕ
next s = slice_index s.words 0

-- the pass of this seat knows this
abbrev pub Sits : List Claim → ℕ → Claim → Type 0
Sits views seat v = get_elem? views seat ≡ some v

-- the pass of a seat has few numbers; the opener's is the first, and counts the passes
pub record Knows (seats seat : ℕ) (v : Claim) : Type 0 where
  pub bounded : length v.drawn ≤ 2 ^ 32
  pub opens : v.opener ≡ true → (seat ≡ 0) × (v.passes ≡ seats)

-- THE RULE: each number below the word was drawn by one pass, once, and no other number was drawn
pub record Claimed (s : S) : Type 0 where
  pub wide : length s.words ≡ 1
  pub few : length s.views ≤ 16
  pub spread : (x : ℕ) → sum_by (λ (v : Claim). times x v.drawn) s.views ≡ once_below x (next s)
  pub counted : next s ≡ sum_by (λ (v : Claim). length v.drawn) s.views
  pub each_seat : (seat : ℕ) (v : Claim) → Sits s.views seat v → Knows (length s.views) seat v

-- what a draw tells: the number found in the word is the pass's
abbrev pub draws : Step Slot → M → ℕ → M → Type 0
draws st me found me' = (me'.0 ≡ claim (me.0.drawn ++ found ∷ []) me.0.opener me.0.passes) × (me'.1 ≡ me.1)

-- what a look at the word tells: the pass holds no number twice
abbrev pub learns : Step Slot → M → ℕ → M → Type 0
learns st me found me' = (me' ≡ me) × EachAtMostOnce me.0.drawn
