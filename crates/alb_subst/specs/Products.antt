-- The number of the products of a type.
use Rattle.std.specs.Prelude.{ℕ, ◌*◌, List}
use Rattle.alb_table.specs.Table.{PartView, dim_of}

-- how many products a left and a right type have
abbrev pub split_size : List PartView → List ℕ × List ℕ → ℕ
split_size parts s = dim_of parts s.0 * dim_of parts s.1
