-- What contracts see of a block.
use Rattle.std.specs.Prelude.{ℕ, List, map}
use Rattle.alb_reduce.specs.Reduction.{Reduction}
use Rattle.alb_table.specs.Table.{origin_view}
use Rattle.alb_block.specs.declared.block.Block.{Block}

-- a type with its products from the greatest to the least, the reduced form of its instances over these, and the kept instances
pub record BlockView : Type 0 where
  pub at : List ℕ
  pub columns : List (ℕ × ℕ)
  pub reduced : Reduction
  pub origins : List (ℕ × List ℕ)

abbrev pub block_view : Block → BlockView
block_view b = record { at = b.at; columns = b.columns; reduced = b.reduced; origins = map origin_view b.origins.items }
