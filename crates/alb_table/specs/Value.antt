-- Rows over basis numbers as vectors of a table's algebra, and values.
use Rattle.std.specs.Prelude.{ℕ, ◌*◌, nat_lt, if◌then◌else◌, List, [], length, slice_index_or}
use Rattle.std.specs.List.{flat_map}
use Rattle.gf_sums.specs.Sums.{Comb, scale}
use Rattle.alb_rows.specs.Row.{Cells, comb, IsRowOver, ColumnsBelow}
use Rattle.alb_mono.specs.Tree.{Tree}
use Rattle.alb_poly.specs.Textbook.{evaluate_poly, unit}
use Rattle.alb_table.specs.Table.{table_product, PartView, Table}

-- a row over the field with p elements and the first n basis numbers
pub record IsBasisRow (p n : ℕ) (cells : Cells) : Type 0 where
  pub row : IsRowOver p cells
  pub below : ColumnsBelow n cells

-- the vectors of a list of rows, zero past its end
abbrev pub vectors : List Cells → ℕ → Comb ℕ
vectors rows k = comb (slice_index_or rows k [])

-- each of the `gens` generators at its basis element, any other at zero
abbrev pub generator_vector : ℕ → ℕ → Comb ℕ
generator_vector gens k = if nat_lt k gens then unit k else []

-- THE VALUE of a polynomial in the table's algebra
abbrev pub table_value : Table → Comb Tree → Comb ℕ
table_value t g = evaluate_poly (table_product t.parts) (generator_vector (length t.target)) g

-- x times the basis element b, times a combination
abbrev pub times_right : List PartView → ℕ → ℕ → Comb ℕ → Comb ℕ
times_right parts x b f = flat_map (λ t. scale (x * t.0) (table_product parts b t.1)) f
