-- What `reduce_block` is asked, and what it answers.
use Rattle.std.specs.Prelude.{◌≡◌, ℕ, ◌<◌, ◌≤◌, List, length, Result, Ok, Err}
use Rattle.alb_poly.specs.Consequence.{forms}
use Rattle.alb_poly.specs.declared.rules.Rules.{Rules}
use Rattle.alb_poly.specs.Instance.{Form}
use Rattle.alb_table.specs.Table.{Table}
use Rattle.alb_block.specs.Instances.{BlockSetting, columns_of, SpansInstances, AreOrigins}
use Rattle.alb_block.specs.View.{BlockView, block_view}
use Rattle.alb_block.specs.declared.block.Block.{Block}
use Rattle.alb_block.specs.declared.error.BlockStop.{BlockStop}
use Rattle.alb_block.specs.declared.error.BlockStop.TheVariants.{TooWide, NoMemory}

-- forms over a table, at a type, and those of rules
abbrev pub setting_of : List Form → Table → List ℕ → BlockSetting
setting_of fs table t = record { p = table.p; forms = fs; parts = table.parts; at = t }

abbrev pub block_setting : Rules → Table → List ℕ → BlockSetting
block_setting rules table t = setting_of (forms rules) table t

-- The block of a type: its products from the greatest to the least, the reduced form of the span of all its instances, and as
-- many instances as there are pivots, with the same span.
pub record IsBlock (s : BlockSetting) (b : BlockView) : Type 0 where
  pub at : b.at ≡ s.at
  pub columns : b.columns ≡ columns_of s.parts s.at
  pub few : length b.columns ≤ 4096
  pub field : b.reduced.p ≡ s.p
  pub width : b.reduced.columns ≡ length b.columns
  pub spans : SpansInstances s b.reduced
  pub origins : AreOrigins s b.reduced b.origins

-- a block, or that there are too many products
abbrev pub BlockAnswers : BlockSetting → Result Block BlockStop → Type 0
BlockAnswers s (Ok b) = IsBlock s (block_view b)
BlockAnswers s (Err (TooWide w n)) = (w ≡ s.at) × (n ≡ length (columns_of s.parts s.at)) × (4096 < n)
BlockAnswers s (Err NoMemory) = Unit {0}
