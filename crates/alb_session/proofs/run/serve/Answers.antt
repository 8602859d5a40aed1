use Rattle.std.proofs.Common.{rules, refl, sym, subst}
use Rattle.alb_board.specs.Passes.{board_rules, pass_view}
use Rattle.alb_board.specs.declared.kept.PassView.{PassView}
use Rattle.alb_session.specs.View.{response_text}
use Rattle.alb_session.specs.Served.{Served}
use Rattle.alb_session.specs.declared.end.SessionEnd.TheVariants as session_end
use Rattle.alb_session.proofs.Going.{Going-start, Going-room, Going-next, line-fewer, Served-write_fault, Served-quit, Served-end, Served-read_fault, Served-limit}
use Rattle.alb_table.specs.RightTable.{rules_view}
use Rattle.alb_session.proofs.run.serve.Goals as goal

pub turns-init : goal.turns-init
turns-init g c = record {
  own = c.requires.own;
  going = Going-start (rules_view (board_rules c.args.board.now)) c.args.letters.now c.args.reader.now.room (pass_view c.args.pass.now) c.args.reader.now _ _ c.requires.fresh.held c.requires.fresh.running refl;
  not_ended = c.requires.fresh.goes_on;
  reads = search rules;
  writes = search rules;
  name = search rules;
  sound = λ s. s;
}

pub take_turn-requires-clause-room : goal.take_turn-requires-clause-room
take_turn-requires-clause-room g c =
    Going-room (rules_view (board_rules c.args.board.now)) c.args.letters.now c.args.reader.now.room (pass_view c.args.pass.now) _ _ _ _ _ _ c.turns.invariant.going c.requires.limit c.requires.calls

pub returns-in-Err-clause-served : goal.returns-in-Err-clause-served
returns-in-Err-clause-served g c =
    Served-write_fault (rules_view (board_rules c.args.board.now)) c.args.letters.now c.args.reader.now.room (pass_view c.args.pass.now) _ _ _ _ _ _ _ _ c.turns.invariant.going _ (response_text c.in-Response.response) c.in-Response.ensures.takes _ c.in-Err.ensures.puts

pub returns-in-Quit-clause-served : goal.returns-in-Quit-clause-served
returns-in-Quit-clause-served g c =
    let t = c.in-Quit.ensures.takes in
    subst (λ (x : PassView). Served session_end.Ended (rules_view (board_rules c.args.board.now)) c.args.letters.now (pass_view c.args.pass.now) x c.args.reader.now.room (g.S.Source.left c.args.source.now) (g.S.Source.left c.take_turn.new.source) (g.K.Sink.taken c.args.sink.now) (g.K.Sink.taken c.turns.sink)) (sym t.1)
    (Served-quit (rules_view (board_rules c.args.board.now)) c.args.letters.now c.args.reader.now.room (pass_view c.args.pass.now) _ _ _ _ _ _ _ _ c.turns.invariant.going t.0)

pub returns-in-End-clause-served : goal.returns-in-End-clause-served
returns-in-End-clause-served g c =
    let t = c.in-End.ensures.takes in
    subst (λ (x : PassView). Served session_end.Ended (rules_view (board_rules c.args.board.now)) c.args.letters.now (pass_view c.args.pass.now) x c.args.reader.now.room (g.S.Source.left c.args.source.now) (g.S.Source.left c.take_turn.new.source) (g.K.Sink.taken c.args.sink.now) (g.K.Sink.taken c.turns.sink)) (sym t.1)
    (Served-end (rules_view (board_rules c.args.board.now)) c.args.letters.now c.args.reader.now.room (pass_view c.args.pass.now) _ _ _ _ _ _ _ _ c.turns.invariant.going t.0)

pub returns-in-ReadFault-clause-served : goal.returns-in-ReadFault-clause-served
returns-in-ReadFault-clause-served g c =
    let t = c.in-ReadFault.ensures.takes in
    subst (λ (x : PassView). Served session_end.ReadFault (rules_view (board_rules c.args.board.now)) c.args.letters.now (pass_view c.args.pass.now) x c.args.reader.now.room (g.S.Source.left c.args.source.now) (g.S.Source.left c.take_turn.new.source) (g.K.Sink.taken c.args.sink.now) (g.K.Sink.taken c.turns.sink)) (sym t.1)
    (Served-read_fault (rules_view (board_rules c.args.board.now)) c.args.letters.now c.args.reader.now.room (pass_view c.args.pass.now) _ _ _ _ _ _ _ _ c.turns.invariant.going t.0)

pub returns-in-InputLimit-clause-served : goal.returns-in-InputLimit-clause-served
returns-in-InputLimit-clause-served g c =
    let t = c.in-InputLimit.ensures.takes in
    subst (λ (x : PassView). Served session_end.InputLimit (rules_view (board_rules c.args.board.now)) c.args.letters.now (pass_view c.args.pass.now) x c.args.reader.now.room (g.S.Source.left c.args.source.now) (g.S.Source.left c.take_turn.new.source) (g.K.Sink.taken c.args.sink.now) (g.K.Sink.taken c.turns.sink)) (sym t.1)
    (Served-limit (rules_view (board_rules c.args.board.now)) c.args.letters.now c.args.reader.now.room (pass_view c.args.pass.now) _ _ _ _ _ _ _ _ c.turns.invariant.going t.0)

pub turns-smaller-in-Ok-3 : goal.turns-smaller-in-Ok-3
turns-smaller-in-Ok-3 g c = line-fewer _ _ _ _ _ c.in-Response.ensures.takes.reads

pub turns-preserved-in-Ok-3 : goal.turns-preserved-in-Ok-3
turns-preserved-in-Ok-3 g c = record {
  own = c.take_turn.ensures.own;
  going = Going-next (rules_view (board_rules c.args.board.now)) c.args.letters.now c.args.reader.now.room (pass_view c.args.pass.now) _ _ _ _ _ _ _ _ c.turns.invariant.going _ (response_text c.in-Response.response) c.in-Response.ensures.takes _ c.in-Ok.ensures.puts;
  not_ended = c.in-Response.ensures.takes.reads.running;
  reads = search rules;
  writes = search rules;
  name = search rules;
  sound = λ s. (c.take_turn.ensures.sound (c.turns.invariant.sound s)).0;
}

pub turns-smaller-in-Ok-4 : goal.turns-smaller-in-Ok-4
turns-smaller-in-Ok-4 g c = line-fewer _ _ _ _ _ c.in-Response.ensures.takes.reads

pub turns-preserved-in-Ok-4 : goal.turns-preserved-in-Ok-4
turns-preserved-in-Ok-4 g c = record {
  own = c.take_turn.ensures.own;
  going = Going-next (rules_view (board_rules c.args.board.now)) c.args.letters.now c.args.reader.now.room (pass_view c.args.pass.now) _ _ _ _ _ _ _ _ c.turns.invariant.going _ (response_text c.in-Response.response) c.in-Response.ensures.takes _ c.in-Ok.ensures.puts;
  not_ended = c.in-Response.ensures.takes.reads.running;
  reads = search rules;
  writes = search rules;
  name = search rules;
  sound = λ s. (c.take_turn.ensures.sound (c.turns.invariant.sound s)).0;
}

pub turns-smaller-in-Ok-5 : goal.turns-smaller-in-Ok-5
turns-smaller-in-Ok-5 g c = line-fewer _ _ _ _ _ c.in-Response.ensures.takes.reads

pub turns-preserved-in-Ok-5 : goal.turns-preserved-in-Ok-5
turns-preserved-in-Ok-5 g c = record {
  own = c.take_turn.ensures.own;
  going = Going-next (rules_view (board_rules c.args.board.now)) c.args.letters.now c.args.reader.now.room (pass_view c.args.pass.now) _ _ _ _ _ _ _ _ c.turns.invariant.going _ (response_text c.in-Response.response) c.in-Response.ensures.takes _ c.in-Ok.ensures.puts;
  not_ended = c.in-Response.ensures.takes.reads.running;
  reads = search rules;
  writes = search rules;
  name = search rules;
  sound = λ s. (c.take_turn.ensures.sound (c.turns.invariant.sound s)).0;
}

pub turns-smaller-in-Ok-6 : goal.turns-smaller-in-Ok-6
turns-smaller-in-Ok-6 g c = line-fewer _ _ _ _ _ c.in-Response.ensures.takes.reads

pub turns-preserved-in-Ok-6 : goal.turns-preserved-in-Ok-6
turns-preserved-in-Ok-6 g c = record {
  own = c.take_turn.ensures.own;
  going = Going-next (rules_view (board_rules c.args.board.now)) c.args.letters.now c.args.reader.now.room (pass_view c.args.pass.now) _ _ _ _ _ _ _ _ c.turns.invariant.going _ (response_text c.in-Response.response) c.in-Response.ensures.takes _ c.in-Ok.ensures.puts;
  not_ended = c.in-Response.ensures.takes.reads.running;
  reads = search rules;
  writes = search rules;
  name = search rules;
  sound = λ s. (c.take_turn.ensures.sound (c.turns.invariant.sound s)).0;
}

pub turns-smaller : goal.turns-smaller
turns-smaller g c = line-fewer _ _ _ _ _ c.in-Response.ensures.takes.reads

pub turns-preserved : goal.turns-preserved
turns-preserved g c = record {
  own = c.take_turn.ensures.own;
  going = Going-next (rules_view (board_rules c.args.board.now)) c.args.letters.now c.args.reader.now.room (pass_view c.args.pass.now) _ _ _ _ _ _ _ _ c.turns.invariant.going _ (response_text c.in-Response.response) c.in-Response.ensures.takes _ c.in-Ok.ensures.puts;
  not_ended = c.in-Response.ensures.takes.reads.running;
  reads = search rules;
  writes = search rules;
  name = search rules;
  sound = λ s. (c.take_turn.ensures.sound (c.turns.invariant.sound s)).0;
}
