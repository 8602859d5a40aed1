use Rattle.std.proofs.Common.{sym, ◌∙◌, arith}
use Rattle.alb_check.proofs.ShapeLemmas.{ascending_end}
use Rattle.alb_check.proofs.shape.are_ascending.Goals as goal

pub returns : goal.returns
returns c = sym (c.loop-k.invariant ∙ ascending_end c.args.entries.now c.loop-k.k (omega (arith, c.saturating_sub-k-end.ensures)))
