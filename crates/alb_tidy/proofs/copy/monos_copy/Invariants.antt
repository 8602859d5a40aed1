use Rattle.std.proofs.Common.{◌≡◌, map, take}
use Rattle.alb_mono.specs.Tree.{tree}
use Rattle.alb_tidy.proofs.copy.monos_copy.Given as goal

abbrev pub invariant-loop-m : goal.invariant-loop-m
invariant-loop-m l = map tree l.copies.items ≡ map tree (take l.m-index l.ms)
