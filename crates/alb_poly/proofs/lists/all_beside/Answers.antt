use Rattle.std.proofs.Common.{arith}
use Rattle.alb_mono.specs.Tree.{tree}
use Rattle.alb_poly.proofs.Items.{degree_at, degree_beside, below_beside}
use Rattle.alb_poly.proofs.lists.all_beside.Goals as goal

pub invariant_of-push-clause-small : goal.invariant_of-push-clause-small
invariant_of-push-clause-small c =
    rw c.in_ok-mono.ensures
    (omega (
      arith,
      degree_beside c.args.side (tree c.args.m.now) (tree c.t-item.result.mono),
      degree_at c.args.list.now c.loop-t.t-index c.t-item.result c.loop-t-test.true c.t-item.is,
    ))

pub invariant_of-push-clause-letters : goal.invariant_of-push-clause-letters
invariant_of-push-clause-letters c =
    rw c.in_ok-mono.ensures (below_beside c.args.side (tree c.args.m.now) (tree c.t-item.result.mono) c.requires.known c.t-item.result.letters)
