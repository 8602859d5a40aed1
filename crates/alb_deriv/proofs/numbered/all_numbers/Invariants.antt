use Rattle.std.proofs.Common.{◌≡◌, ◌<◌, map, take, length, All}
use Rattle.alb_mono.specs.Tree.{tree}
use Rattle.alb_nodes.specs.Nodes.{at, Extends}
use Rattle.alb_deriv.proofs.numbered.all_numbers.Given as goal

abbrev pub invariant-loop-m : goal.invariant-loop-m
invariant-loop-m l = record {
  value : map (at l.numbers) l.list.items ≡ map tree (take l.m-index l.ms);
  within : All (λ k. k < length l.numbers) l.list.items;
  kept : Extends l.initial.numbers l.numbers;
}
