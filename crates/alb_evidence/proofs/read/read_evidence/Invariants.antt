use Rattle.std.proofs.Common.{◌≡◌, ◌≤◌, ◌+◌, false, length}
use Rattle.alb_evidence.specs.Said.{IsSaid}
use Rattle.alb_evidence.proofs.ReadingLemmas.{SoFar}
use Rattle.alb_evidence.proofs.read.read_evidence.Given as goal

abbrev pub invariant-lines : goal.invariant-lines
invariant-lines g l = record {
  so_far : SoFar l.field l.letters l.block l.fn.reader l.reader (g.S.Source.left l.fn.source) (g.S.Source.left l.source);
  said : IsSaid l.field (length l.letters) l.block.said;
  running : l.reader.ended ≡ false;
  later : g.S.Source.faults l.fn.source ≤ g.S.Source.faults l.source;
  sound : g.S.Source.is_sound l.fn.source → g.S.Source.is_sound l.source;
}

abbrev pub decreases-lines : goal.decreases-lines
decreases-lines g l = l.reader.room + length l.reader.held
