use Rattle.std.proofs.Common.{◌≡◌, map, take}
use Rattle.gf_sums.specs.Sums.{reindex}
use Rattle.alb_mono.specs.Tree.{tree}
use Rattle.alb_poly.specs.Terms.{terms}
use Rattle.alb_poly.specs.Instance.{fill}
use Rattle.alb_linear.proofs.instances.filled_terms.Given as goal

abbrev pub invariant-loop-t : goal.invariant-loop-t
invariant-loop-t l = terms l.out.items ≡ reindex (fill (map tree l.ms)) (take l.t-index (terms l.list))
