use Rattle.std.proofs.Common.{◌≡◌, ◌≤◌, ◌*◌, map, take}
use Rattle.gf_sums.specs.Sums.{total}
use Rattle.alb_mono.specs.Tree.{tree, count}
use Rattle.alb_deriv.proofs.types.all_occurrences.Given as goal

abbrev pub invariant-loop-m : goal.invariant-loop-m
invariant-loop-m l = (l.all ≡ total (count l.g) (map tree (take l.m-index l.ms))) × (l.all ≤ 64 * l.m-index)
