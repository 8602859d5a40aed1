use Rattle.std.proofs.Common.{◌≡◌, ◌<◌, map, take, length, All}
use Rattle.gf_sums.specs.Sums.{reindex}
use Rattle.alb_poly.specs.Instance.{fill}
use Rattle.alb_poly.specs.Terms.{terms}
use Rattle.alb_nodes.specs.Nodes.{at, Extends}
use Rattle.alb_deriv.specs.Numbered.{read}
use Rattle.alb_deriv.proofs.numbered.filled_terms.Given as goal

abbrev pub invariant-loop-t : goal.invariant-loop-t
invariant-loop-t l = record {
  value : read l.numbers l.out.items ≡ reindex (fill (map (at l.initial.numbers) l.ns)) (terms (take l.t-index l.list));
  within : All (λ t. t.1 < length l.numbers) l.out.items;
  kept : Extends l.initial.numbers l.numbers;
}
