use Rattle.std.proofs.Common.{◌≡◌, ◌++◌, map, take, get_or}
use Rattle.alb_mono.specs.Tree.{tree, leaf}
use Rattle.alb_poly.specs.Terms.{terms}
use Rattle.alb_poly.specs.Instance.{fill, numbered}
use Rattle.alb_linear.proofs.linearization.push_linearized.Given as goal

abbrev pub invariant-loop-places : goal.invariant-loop-places
invariant-loop-places l =
    terms l.out.items ≡ terms l.initial.out.items ++ map (λ a. (l.t.coef, fill (map leaf a) (numbered (λ v. get_or l.numbers v 0) (tree l.t.mono)))) (take l.places-index l.all)
