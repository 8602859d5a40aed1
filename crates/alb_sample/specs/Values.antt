-- The values that are kept of the monomials that are drawn. Contracts of private functions alone speak of it.
use Rattle.std.specs.Prelude.{◌≡◌, ℕ, ◌<◌, ◌/◌, ◌%◌, [], length, slice_index_or}
use Rattle.alb_mono.specs.Tree.{Tree, node}
use Rattle.alb_poly.specs.Textbook.{evaluate}
use Rattle.alb_rows.specs.Row.{Cells, comb, AreSameVector}
use Rattle.alb_table.specs.Table.{table_product, elems, Table}
use Rattle.alb_table.specs.Value.{IsBasisRow, generator_vector}
use Rattle.alb_sample.specs.Choice.{argument}
use Rattle.alb_sample.specs.declared.values.Values.{Values}

-- the row is the value of the monomial
pub record IsMonoValue (t : Table) (m : Tree) (cells : Cells) : Type 0 where
  pub row : IsBasisRow t.p (length (elems t.parts)) cells
  pub value : AreSameVector t.p (comb cells) (evaluate (table_product t.parts) (generator_vector (length t.target)) m)

-- the values of the three monomials, and of the products of two of them: that of the i-th and the j-th stands at 3 i + j
pub record AreValues (t : Table) (v : Values) : Type 0 where
  pub full : length v.arguments.items ≡ 3
  pub arguments : (i : ℕ) → i < 3 → IsMonoValue t (argument i) (slice_index_or v.arguments.items i [])
  pub full_products : length v.products.items ≡ 9
  pub products : (k : ℕ) → k < 9 → IsMonoValue t (node (argument (k / 3)) (argument (k % 3))) (slice_index_or v.products.items k [])
