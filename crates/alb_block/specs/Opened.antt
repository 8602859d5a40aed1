-- What opening the columns of a block answers.
use Rattle.std.specs.Prelude.{◌≡◌, ℕ, ◌<◌, ◌≤◌, List, length, Result, Ok, Err}
use Rattle.alb_table.specs.Table.{PartView}
use Rattle.alb_block.specs.Instances.{columns_of}
use Rattle.alb_block.specs.declared.error.BlockStop.{BlockStop}
use Rattle.alb_block.specs.declared.error.BlockStop.TheVariants.{TooWide, NoMemory}

-- the products of the type from the greatest to the least, or that there are more than 4,096
abbrev pub OpensBlock : List PartView → List ℕ → Result (List (ℕ × ℕ)) BlockStop → Type 0
OpensBlock parts t (Ok columns) = (columns ≡ columns_of parts t) × (length columns ≤ 4096)
OpensBlock parts t (Err (TooWide w n)) = (w ≡ t) × (n ≡ length (columns_of parts t)) × (4096 < n)
OpensBlock parts t (Err NoMemory) = Unit {0}
