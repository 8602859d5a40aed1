use Rattle.std.proofs.Common.{◌≡◌, map, take, get_or}
use Rattle.std.specs.List.{flat_map}
use Rattle.alb_mono.specs.Tree.{leaf}
use Rattle.alb_poly.specs.Terms.{terms}
use Rattle.alb_poly.specs.Instance.{fill, numbered}
use Rattle.alb_linear.proofs.linearization.linearized_terms.Given as goal

abbrev pub invariant-loop-t : goal.invariant-loop-t
invariant-loop-t l =
    terms l.out.items ≡ flat_map (λ t. map (λ a. (t.0, fill (map leaf a) (numbered (λ v. get_or l.numbers v 0) t.1))) l.all) (take l.t-index (terms l.list))
