use Rattle.std.proofs.Common.{drop, map}
use Rattle.std.specs.List.{flat_map}
use Rattle.alb_mono.specs.Tree.{tree}
use Rattle.alb_evidence.specs.Texts.{spaced_mono}
use Rattle.alb_io.proofs.Writers.{Writing}
use Rattle.alb_evidence.proofs.derivation.write_monos.Given as goal

abbrev pub invariant-loop-m : goal.invariant-loop-m
invariant-loop-m g l = Writing g.K.Sink l.fn.sink l.sink (flat_map (spaced_mono l.letters) (map tree l.ms)) (flat_map (spaced_mono l.letters) (map tree (drop l.m-index l.ms)))
