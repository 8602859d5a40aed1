use Rattle.std.proofs.Common.{◌≡◌, take, fold, flat_map, map}
use Rattle.alb_mono.specs.Tree.{tree}
use Rattle.alb_keys.specs.SameTree.{tree_writes}
use Rattle.alb_tidy.proofs.key.feed_monos.Given as goal

abbrev pub invariant-loop-m : goal.invariant-loop-m
invariant-loop-m g l = l.state ≡ fold g.H.Hasher.write l.initial.state (flat_map tree_writes (map tree (take l.m-index l.ms)))
