use Rattle.alb_io.proofs.Writers.{Writes-exit, Writes-more, Writes-then}
use Rattle.alb_evidence.proofs.basis.write_table.Goals as goal

pub returns-in_err-put_all : goal.returns-in_err-put_all
returns-in_err-put_all g c =
    Writes-exit _ _ c.from_residual.ensures.1 (Writes-more _ c.in_err-put_all.ensures)

pub returns-in_err-write_typed : goal.returns-in_err-write_typed
returns-in_err-write_typed g c =
    Writes-exit _ _ c.from_residual-in_err-write_typed.ensures.1 (Writes-then c.in_ok-put_all.ensures (Writes-more _ c.in_err-write_typed.ensures))

pub returns-in_err-write_elements : goal.returns-in_err-write_elements
returns-in_err-write_elements g c =
    Writes-exit _ _ c.from_residual-in_err-write_elements.ensures.1 (Writes-then c.in_ok-put_all.ensures (Writes-then c.in_ok-write_typed.ensures (Writes-more _ (rw c.deref.ensures.value at c.in_err-write_elements.ensures))))

pub returns-in_err-write_generators : goal.returns-in_err-write_generators
returns-in_err-write_generators g c =
    Writes-exit _ _ c.from_residual-in_err-write_generators.ensures.1 (Writes-then c.in_ok-put_all.ensures (Writes-then c.in_ok-write_typed.ensures (Writes-then (rw c.deref.ensures.value at c.in_ok-write_elements.ensures) (Writes-more _ (rw c.deref-2.ensures.value at c.in_err-write_generators.ensures)))))

pub returns-in_err-write_entries : goal.returns-in_err-write_entries
returns-in_err-write_entries g c =
    Writes-exit _ _ c.from_residual-in_err-write_entries.ensures.1 (Writes-then c.in_ok-put_all.ensures (Writes-then c.in_ok-write_typed.ensures (Writes-then (rw c.deref.ensures.value at c.in_ok-write_elements.ensures) (Writes-then (rw c.deref-2.ensures.value at c.in_ok-write_generators.ensures) (Writes-more _ (rw c.deref-3.ensures.value at c.in_err-write_entries.ensures))))))

pub returns : goal.returns
returns g c =
    Writes-then c.in_ok-put_all.ensures (Writes-then c.in_ok-write_typed.ensures (Writes-then (rw c.deref.ensures.value at c.in_ok-write_elements.ensures) (Writes-then (rw c.deref-2.ensures.value at c.in_ok-write_generators.ensures) (Writes-then (rw c.deref-3.ensures.value at c.in_ok-write_entries.ensures) c.put_all-2.ensures))))
