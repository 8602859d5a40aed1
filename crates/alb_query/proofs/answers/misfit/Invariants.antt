use Rattle.std.proofs.Common.{◌≡◌, drop}
use Rattle.alb_poly.specs.Terms.{terms}
use Rattle.alb_query.specs.Answer.{misfit}
use Rattle.alb_query.proofs.answers.misfit.Given as goal

abbrev pub invariant-loop-t : goal.invariant-loop-t
invariant-loop-t l = misfit l.target (terms l.list) ≡ misfit l.target (drop l.t-index (terms l.list))
