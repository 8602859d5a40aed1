use Rattle.std.proofs.Common.{ap}
use Rattle.alb_mono.specs.Tree.{leaf}
use Rattle.alb_linear.specs.Runs.{exchanged}
use Rattle.alb_linear.proofs.RunLemmas.{positions-more}
use Rattle.alb_linear.proofs.runs.exchanged_positions.Goals as goal

pub loop-k-preserved : goal.loop-k-preserved
loop-k-preserved c =
    positions-more (exchanged c.args.j) c.loop-k.out.items c.push.new.self.items _ c.loop-k.k c.loop-k.invariant c.in_ok-push.ensures.items (ap leaf c.exchanged.ensures)
