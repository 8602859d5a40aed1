-- Laws that functions of `laws` state.
use Rattle.std.specs.Prelude.{◌≡◌, ℕ, ◌+◌, ◌/◌, ◌%◌, ◌≤◌, true}
use Rattle.alb_query.specs.Answer.{Answer, Zero}
use Rattle.alb_table.specs.RightTable.{IsRightFor}
use Rattle.alb_table.specs.Table.{Table}
use Rattle.alb_sample.specs.Problem.{sample_view}
use Rattle.alb_sample.specs.Sample.{polynomial}
use Rattle.alb_sample.specs.Tally.{IsSampleAnswer, IsTally, is_not_zero}

-- at a right table of degree 7 or more an even number is answered zero and an odd one not zero, whatever is drawn
pub record AnswersByParity (t : Table) (k s : ℕ) (a : Answer) : Type 0 where
  pub even : k % 2 ≡ 0 → a ≡ Zero
  pub odd : k % 2 ≡ 1 → is_not_zero a ≡ true

abbrev pub ParityDecides : Type 0
ParityDecides = (t : Table) (k s : ℕ) (a : Answer) → IsRightFor sample_view t → 7 ≤ t.degree → IsSampleAnswer t (polynomial t k s) a → AnswersByParity t k s a

-- so the count is that of the even and of the odd numbers
abbrev pub CountIsByParity : Type 0
CountIsByParity = (t : Table) (s n z y : ℕ) → IsRightFor sample_view t → 7 ≤ t.degree → IsTally t s n z y → (z ≡ n / 2) × (z + y ≡ n)
