-- What workers hand in. Contracts of private functions alone speak of it.
use Rattle.std.specs.Prelude.{◌≡◌, ℕ, ◌<◌, List, length, map, slice_index_or, Option, Result, IfOk, IfSome}
use Rattle.alb_poly.specs.Consequence.{forms}
use Rattle.alb_table.specs.Table.{next_types, origin_view}
use Rattle.alb_table.specs.RightTable.{rules_view, AreRules, IsRightFor}
use Rattle.alb_block.specs.Asked.{block_setting, BlockAnswers}
use Rattle.alb_block.specs.Meaning.{IsBlockAt}
use Rattle.alb_block.specs.declared.block.Block.{Block}
use Rattle.alb_block.specs.declared.error.BlockStop.{BlockStop}
use Rattle.alb_pool.specs.declared.workers.Answer.{Answer}
use Rattle.alb_pool.specs.declared.workers.Degree.{Degree}

-- the types are those of the next degree of a table that is right for the rules
pub record IsDegree (d : Degree) : Type 0 where
  pub rules : AreRules (rules_view d.rules.now)
  pub right : IsRightFor (rules_view d.rules.now) d.tables.now
  pub types : d.types.now ≡ next_types d.tables.now

-- what `reduce_block` promises of its answer at a type
pub record IsAnswerAt (d : Degree) (w : List ℕ) (block : Result Block BlockStop) : Type 0 where
  pub answer : BlockAnswers (block_setting d.rules.now d.tables.now w) block
  pub meaning : IfOk block (λ b. IsBlockAt (forms d.rules.now) d.tables.now w b.reduced (map origin_view b.origins.items))

-- the same at the type of a number
abbrev pub IsAnswerOf : Degree → ℕ → Result Block BlockStop → Type 0
IsAnswerOf d number block = (w : List ℕ) → w ≡ slice_index_or d.types.now number w → IsAnswerAt d w block

-- there is a type of this number, and the answer is that at this type
pub record IsAnswered (d : Degree) (a : Answer) : Type 0 where
  pub number : a.number < length d.types.now
  pub block : IsAnswerOf d a.number a.block

-- a place for each type, which is empty or has the answer at this type
pub record ArePlaces (d : Degree) (places : List (Option (Result Block BlockStop))) : Type 0 where
  pub full : length places ≡ length d.types.now
  pub each : (k : ℕ) (p : Option (Result Block BlockStop)) → k < length d.types.now → IfSome (slice_index_or places k p) (IsAnswerOf d k)
