use Rattle.std.proofs.Common.{◌≡◌, ◌<◌, take, length, All}
use Rattle.gf_sums.specs.Sums.{reindex}
use Rattle.alb_poly.specs.Consequence.{beside}
use Rattle.alb_nodes.specs.Nodes.{at, Extends}
use Rattle.alb_deriv.specs.Numbered.{read}
use Rattle.alb_deriv.proofs.numbered.terms_beside.Given as goal

abbrev pub invariant-loop-t : goal.invariant-loop-t
invariant-loop-t l = record {
  value : read l.numbers l.out.items ≡ reindex (beside (l.side, at l.initial.numbers l.n)) (read l.initial.numbers (take l.t-index l.list));
  within : All (λ t. t.1 < length l.numbers) l.out.items;
  kept : Extends l.initial.numbers l.numbers;
}
