-- How the products of a type are stored. Contracts of private functions alone speak of it.
use Rattle.std.specs.Prelude.{ℕ, ◌+◌, ◌*◌, List, [], ◌∷◌}
use Rattle.alb_table.specs.declared.grid.Grid.{Grid}
use Rattle.alb_table.specs.Table.{PartView, first_of, dim_of}

-- the rectangles of the splits, one after the other
abbrev pub grids_from : List PartView → ℕ → List (List ℕ × List ℕ) → List Grid
grids_from parts n [] = []
grids_from parts n (s ∷ ss) =
    record { left = first_of parts s.0; lefts = dim_of parts s.0; right = first_of parts s.1; rights = dim_of parts s.1; offset = n }
    ∷ grids_from parts (n + dim_of parts s.0 * dim_of parts s.1) ss
