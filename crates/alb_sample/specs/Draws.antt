-- The numbers that are drawn: a linear congruential generator.
use Rattle.std.specs.Prelude.{ℕ, zero, suc, ◌+◌, ◌*◌, ◌/◌, ◌%◌, ◌^◌}

-- the state after one draw
unfoldable pub next_state : ℕ → ℕ
next_state s = (6364136223846793005 * s + 1442695040888963407) % 2 ^ 64

-- the number below `k` that is drawn in the state `s`
unfoldable pub drawn : ℕ → ℕ → ℕ
drawn k s = (next_state s / 2 ^ 33) % k

-- the state after `n` draws
abbrev pub state_after : ℕ → ℕ → ℕ
state_after zero s = s
state_after (suc n) s = state_after n (next_state s)
