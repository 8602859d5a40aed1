use Rattle.std.proofs.Common.{◌≡◌, ◌≤◌, ◌+◌, false, length}
use Rattle.alb_problem_file.specs.Steps.{Going}
use Rattle.alb_problem_file.proofs.read.read_problem.Given as goal

abbrev pub invariant-lines : goal.invariant-lines
invariant-lines g l = record {
  going : Going l.reader l.builder l.number (g.S.Source.left l.fn.source) (g.S.Source.left l.source);
  not_ended : l.reader.ended ≡ false;
  reads : g.S.Source.faults l.fn.source ≤ g.S.Source.faults l.source;
  sound : g.S.Source.is_sound l.fn.source → g.S.Source.is_sound l.source;
}

abbrev pub decreases-lines : goal.decreases-lines
decreases-lines g l = l.reader.room + length l.reader.held
