-- write_failure
use Rattle.alb_io.proofs.Writers.{Writes-exit, Writes-more, Writes-then}
use Rattle.alb_judge.specs.Verdict.{places_text}
use Rattle.alb_judge.proofs.write.write_failure.Goals as goal

pub returns-in_err-put_all : goal.returns-in_err-put_all
returns-in_err-put_all g c = Writes-exit _ _ c.from_residual.ensures.1 (Writes-more _ c.in_err-put_all.ensures)

pub returns-in_err-write_count : goal.returns-in_err-write_count
returns-in_err-write_count g c =
    let h = rw c.from.ensures at c.in_err-write_count.ensures in
    Writes-exit _ _ c.from_residual-in_err-write_count.ensures.1 (Writes-then c.in_ok-put_all.ensures (Writes-more (places_text c.args.tuple.now) h))

pub returns : goal.returns
returns g c =
    let h = rw c.from.ensures at c.in_ok-write_count.ensures in
    Writes-then c.in_ok-put_all.ensures (Writes-then h c.write_places.ensures)
