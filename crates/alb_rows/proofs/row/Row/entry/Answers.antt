use Rattle.alb_rows.proofs.RowLemmas.{entry_residue}
use Rattle.alb_rows.proofs.row.Row.entry.Goals as goal

pub returns-clause-residue : goal.returns-clause-residue
returns-clause-residue c p pos h =
    rw (c.entry_at.ensures, c.deref.ensures.value) (entry_residue p c.self.inside.cells.items c.args.column pos c.self.invariant (rw (← c.self.view_is) at h))
