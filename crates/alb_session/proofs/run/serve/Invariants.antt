use Rattle.std.proofs.Common.{◌≡◌, ◌≤◌, ◌+◌, false, length}
use Rattle.alb_board.specs.Passes.{board_rules, IsPassOf, pass_view}
use Rattle.alb_session.specs.Turns.{Going}
use Rattle.alb_table.specs.RightTable.{rules_view}
use Rattle.alb_session.proofs.run.serve.Given as goal

abbrev pub invariant-turns : goal.invariant-turns
invariant-turns g l = record {
  own : IsPassOf l.fn.board l.pass;
  going : Going (rules_view (board_rules l.fn.board)) l.fn.letters l.fn.reader.room (pass_view l.fn.pass) (pass_view l.pass) l.reader (g.S.Source.left l.fn.source) (g.S.Source.left l.source) (g.K.Sink.taken l.fn.sink) (g.K.Sink.taken l.sink);
  not_ended : l.reader.ended ≡ false;
  reads : g.S.Source.faults l.fn.source ≤ g.S.Source.faults l.source;
  writes : g.K.Sink.faults l.fn.sink ≤ g.K.Sink.faults l.sink;
  name : g.K.Sink.name l.sink ≡ g.K.Sink.name l.fn.sink;
  sound : g.S.Source.is_sound l.fn.source → g.S.Source.is_sound l.source;
}

abbrev pub decreases-turns : goal.decreases-turns
decreases-turns g l = l.reader.room + length l.reader.held
