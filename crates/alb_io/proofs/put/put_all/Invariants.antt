use Rattle.std.proofs.Common.{length}
use Rattle.alb_io.proofs.Writers.{Writing}
use Rattle.alb_io.proofs.put.put_all.Given as goal

abbrev pub invariant-loop-rest : goal.invariant-loop-rest
invariant-loop-rest g l = Writing g.K.Sink l.fn.sink l.sink l.piece l.rest

abbrev pub decreases-loop-rest : goal.decreases-loop-rest
decreases-loop-rest g l = length l.rest
