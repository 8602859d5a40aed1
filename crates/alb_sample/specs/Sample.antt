-- The polynomials of a sample, in the order of the draws.
use Rattle.std.specs.Prelude.{ℕ, zero, suc, ◌+◌, ◌%◌, ◌==◌, ◌&&◌, nat_lt, Bool, if◌then◌else◌, List, [], ◌∷◌, ◌++◌, Option, Some, None}
use Rattle.alb_poly.specs.Textbook.{unit}
use Rattle.alb_poly.specs.Poly.{normal, Poly}
use Rattle.alb_table.specs.Table.{first_of, dim_of, mono_at, Table}
use Rattle.alb_sample.specs.Choice.{choice_at, consequence, chosen_type}
use Rattle.alb_sample.specs.Draws.{next_state, drawn, state_after}
use Rattle.alb_sample.specs.declared.choice.Choice.{Choice}

-- the number `k` is odd, and the table has basis elements of the type
abbrev pub gets_element : Table → ℕ → List ℕ → Bool
gets_element t k w = (k % 2 == 1) && nat_lt 0 (dim_of t.parts w)

-- the basis element of the type `w` that the number `k` gets: one is drawn in the state `s`
unfoldable pub element_at : Table → ℕ → List ℕ → ℕ → Option ℕ
element_at t k w s = if gets_element t k w then Some (first_of t.parts w + drawn (dim_of t.parts w) s) else None

-- and the state after it
unfoldable pub state_with : Table → ℕ → List ℕ → ℕ → ℕ
state_with t k w s = if gets_element t k w then next_state s else s

-- a basis element as a polynomial, if there is one
abbrev pub element_poly : Table → Option ℕ → Poly
element_poly t None = []
element_poly t (Some b) = unit (mono_at t.parts b)

-- the polynomial of what was drawn
abbrev pub with_element : Table → Choice → Option ℕ → Poly
with_element t c e = consequence c ++ element_poly t e

-- THE POLYNOMIAL of the number `k`, drawn from the state `s` on: a consequence, and to it one basis element where `k` is odd
unfoldable pub polynomial : Table → ℕ → ℕ → Poly
polynomial t k s = normal 251 (with_element t (choice_at s) (element_at t k (chosen_type (choice_at s)) (state_after 5 s)))

-- and the state after it
unfoldable pub state_drawn : Table → ℕ → ℕ → ℕ
state_drawn t k s = state_with t k (chosen_type (choice_at s)) (state_after 5 s)

-- the state after the numbers 1 to `n`, from the state `s` on
unfoldable pub state_at : Table → ℕ → ℕ → ℕ
state_at t s zero = s
state_at t s (suc n) = state_drawn t (suc n) (state_at t s n)

-- THE POLYNOMIALS of the numbers 1 to `n`, from the state `s` on
unfoldable pub polynomials : Table → ℕ → ℕ → List Poly
polynomials t s zero = []
polynomials t s (suc n) = polynomials t s n ++ polynomial t (suc n) (state_at t s n) ∷ []
