use Rattle.std.proofs.Common.{◌≡◌, ◌≤◌, ◌+◌, ℕ, List, false, length}
use Rattle.alb_evidence.proofs.ReadLemmas.{ReadsInside}
use Rattle.alb_evidence.proofs.skip.skip_evidence.Given as goal

abbrev pub invariant-lines : goal.invariant-lines
invariant-lines g l = record {
  inside : (lines : List (List ℕ)) × ReadsInside lines l.fn.reader l.reader (g.S.Source.left l.fn.source) (g.S.Source.left l.source);
  running : l.reader.ended ≡ false;
  later : g.S.Source.faults l.fn.source ≤ g.S.Source.faults l.source;
  sound : g.S.Source.is_sound l.fn.source → g.S.Source.is_sound l.source;
}

abbrev pub decreases-lines : goal.decreases-lines
decreases-lines g l = l.reader.room + length l.reader.held
