use Rattle.std.proofs.Common.{◌≡◌, ◌<◌, ℕ, length}
use Rattle.alb_mono.specs.Listing.{Each}
use Rattle.alb_table.specs.Table.{elems}
use Rattle.alb_table.specs.Value.{IsBasisRow, vectors, generator_vector}
use Rattle.alb_table.proofs.tables.Tables.generator_rows.Given as goal

abbrev pub invariant-loop-k : goal.invariant-loop-k
invariant-loop-k l =
    (length l.rows.items ≡ l.k)
    × Each (IsBasisRow l.self.p (length (elems l.self.parts))) l.rows.items
    × ((i : ℕ) → i < l.k → vectors l.rows.items i ≡ generator_vector (length l.self.target) i)
