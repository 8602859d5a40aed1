use Rattle.std.proofs.Common.{take}
use Rattle.alb_poly.specs.Terms.{terms}
use Rattle.alb_trace.specs.FirstType.{HasFirst}
use Rattle.alb_trace.proofs.first.first_type.Given as goal

abbrev pub invariant-loop-t : goal.invariant-loop-t
invariant-loop-t l = HasFirst l.gens (take l.t-index (terms l.list)) l.first
