use Rattle.std.proofs.Common.{◌≡◌, take}
use Rattle.gf_sums.specs.Sums.{reindex}
use Rattle.alb_mono.specs.Tree.{tree}
use Rattle.alb_poly.specs.Consequence.{beside}
use Rattle.alb_poly.specs.Terms.{terms}
use Rattle.alb_poly.proofs.lists.all_beside.Given as goal

abbrev pub invariant-loop-t : goal.invariant-loop-t
invariant-loop-t l = terms l.out.items ≡ reindex (beside (l.side, tree l.m)) (terms (take l.t-index l.list))
