use Rattle.alb_rows.proofs.RowLemmas.{adds_push}
use Rattle.bench_reduce.proofs.push_cell.Goals as goal

pub returns-in_ok-push-clause-adds : goal.returns-in_ok-push-clause-adds
returns-in_ok-push-clause-adds c = rw c.in_ok-push.ensures.items (adds_push _ _ _)
