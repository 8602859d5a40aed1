use Rattle.std.proofs.Common.{◌≡◌, ◌≤◌, ◌+◌, false, length}
use Rattle.alb_top.specs.View.{state, IsScript}
use Rattle.alb_top.specs.Turns.{Going}
use Rattle.alb_top.proofs.run.run_script.Given as goal

abbrev pub invariant-turns : goal.invariant-turns
invariant-turns g l = record {
  going : Going (state l.fn.first) l.reader (state l.script) (g.S.Source.left l.fn.input) (g.S.Source.left l.input) (g.K.Sink.taken l.fn.output) (g.K.Sink.taken l.output);
  runs : (state l.script).closed ≡ false;
  script : IsScript l.script;
  not_ended : l.reader.ended ≡ false;
  reads : g.S.Source.faults l.fn.input ≤ g.S.Source.faults l.input;
  writes : g.K.Sink.faults l.fn.output ≤ g.K.Sink.faults l.output;
  name : g.K.Sink.name l.output ≡ g.K.Sink.name l.fn.output;
  sound : g.S.Source.is_sound l.fn.input → g.S.Source.is_sound l.input;
}

abbrev pub decreases-turns : goal.decreases-turns
decreases-turns g l = l.reader.room + length l.reader.held
