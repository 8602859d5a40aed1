use Rattle.std.proofs.Common.{◌∙◌, ◌≡◌, ap, take, drop, ◌++◌, length}
use Rattle.alb_rows.specs.Row.{Cells}
use Rattle.alb_rows.specs.Merge.{times_cells}
use Rattle.alb_rows.proofs.RowLemmas.{row_times, residues_times, entry-times, written_back, scaled_vector, scaled_below}
use Rattle.alb_rows.proofs.row.Row.scale.Goals as goal

-- the cells at the end
scaled : (c : goal.After-self-1) → take c.self.inside.cells.len (c.scale_cells.new.cells ++ drop (length c.scale_cells.new.cells) c.self.inside.cells.items)
    ≡ times_cells c.args.field.now c.args.c c.self.inside.cells.items
scaled c =
    written_back _ _ _ _ (c.scale_cells.ensures ∙ ap (λ (xs : Cells). times_cells c.args.field.now c.args.c xs) c.deref_mut.ensures.value) (c.scale_cells.auto.cells ∙ c.deref_mut.ensures.len)

pub invariant_of-self : goal.invariant_of-self
invariant_of-self c =
    rw (scaled c) (row_times _ _ _ c.p.ensures.listed c.requires.c_in c.requires.nonzero (rw c.self.view_is c.requires.row_in) c.self.invariant)

pub returns-clause-entries : goal.returns-clause-entries
returns-clause-entries c j = rw (scaled c, ← c.self.view_is) (entry-times _ _ _ j c.self.invariant)

pub returns-clause-row : goal.returns-clause-row
returns-clause-row c = invariant_of-self c

pub returns-clause-residues : goal.returns-clause-residues
returns-clause-residues c = rw (scaled c) (residues_times _ _ _ c.requires.c_in)

pub returns-clause-vector : goal.returns-clause-vector
returns-clause-vector c = scaled_vector _ _ _ _ (returns-clause-entries c)

pub returns-clause-columns : goal.returns-clause-columns
returns-clause-columns c = scaled_below _ _ _ _ (returns-clause-row c) (returns-clause-entries c)
