use Rattle.std.proofs.Common.{All}
use Rattle.alb_pool.specs.Work.{IsAnswered}
use Rattle.alb_pool.proofs.workers.work.Given as goal

abbrev pub invariant-loop : goal.invariant-loop
invariant-loop l = All (IsAnswered l.degree) l.answers.items
