use Rattle.std.proofs.Common.{arith}
use Rattle.gf_lanes.proofs.ZeroLemmas.{position_is, no_position}
use Rattle.gf_lanes.proofs.zeros.first_nonzero.Goals as goal

pub returns-then-xs-at-ne0-clause-value : goal.returns-then-xs-at-ne0-clause-value
returns-then-xs-at-ne0-clause-value c = position_is c.args.xs.now c.loop-at.at (omega arith) (omega arith) c.loop-at.invariant.zeros

pub returns-clause-value : goal.returns-clause-value
returns-clause-value c = no_position c.args.xs.now (λ i l. c.loop-at.invariant.zeros i (omega arith))
