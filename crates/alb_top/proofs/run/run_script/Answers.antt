use Rattle.std.proofs.Common.{rules, ap, sym, ◌∙◌, subst}
use Rattle.alb_io.specs.Reader.{Reader}
use Rattle.alb_top.specs.View.{state, response_of}
use Rattle.alb_top.specs.Script.{State}
use Rattle.alb_io.specs.declared.status.Status.{Status}
use Rattle.alb_top.specs.Outcome.{Outcome}
use Rattle.alb_top.specs.Turns.{Going, status_of}
use Rattle.alb_top.proofs.Going.{Going-start, Going-sound, Going-lines, Outcome-end, Outcome-end_fault, Outcome-closed, Outcome-read_fault, Outcome-limit, Outcome-write_fault, Outcome-no_memory, plain_status}
use Rattle.alb_top.proofs.ScriptLemmas.{opening-sound}
use Rattle.alb_top.proofs.run.run_script.Goals as goal

pub turns-init : goal.turns-init
turns-init g c = record {
  going = Going-start (state c.args.first) (opening-sound c.args.first c.requires.opening c.requires.script) c.args.reader.now _ _ (ap (λ (r : Reader). r.held) c.requires.fresh)
      (ap (λ (r : Reader). r.at_end) c.requires.fresh) (ap (λ (r : Reader). r.room) c.requires.fresh);
  runs = ap (λ (s : State). s.closed) c.requires.opening;
  script = c.requires.script;
  not_ended = ap (λ (r : Reader). r.ended) c.requires.fresh;
  reads = search rules;
  writes = search rules;
  name = search rules;
  sound = λ s. s;
}

pub take_turn-requires-clause-sound : goal.take_turn-requires-clause-sound
take_turn-requires-clause-sound g c κs below = Going-sound (state c.args.first) (opening-sound c.args.first c.requires.opening c.requires.script) _ _ _ _ _ _ c.turns.invariant.going

pub returns-in-Err-clause-outcome : goal.returns-in-Err-clause-outcome
returns-in-Err-clause-outcome g c =
    Outcome-write_fault (state c.args.first) (opening-sound c.args.first c.requires.opening c.requires.script) _ _ _ (state c.in-Response.next) _ _ _ _ _ _ (response_of c.in-Response.response) c.turns.invariant.going c.in-Response.ensures.takes c.in-Err.ensures.puts

pub returns-in-Ok-write_response-clause-outcome : goal.returns-in-Ok-write_response-clause-outcome
returns-in-Ok-write_response-clause-outcome g c =
    subst (λ (s : Status). Outcome (state c.args.first) s (g.S.Source.left c.args.input.now) (g.S.Source.left c.take_turn.new.input) (g.K.Sink.taken c.args.output.now) (g.K.Sink.taken c.write_response-in-Last.new.sink))
    (sym (c.status.ensures ∙ ap status_of c.is_clean.ensures))
    (Outcome-end (state c.args.first) (opening-sound c.args.first c.requires.opening c.requires.script) _ _ _ (state c.in-Last.next) _ _ _ _ _ _ (response_of c.in-Last.response) c.turns.invariant.going c.in-Last.ensures.takes c.in-Ok-write_response.ensures.puts)

pub returns-in-Ok-write_response-clause-read_fault : goal.returns-in-Ok-write_response-clause-read_fault
returns-in-Ok-write_response-clause-read_fault g c = λ h. absurd ((plain_status _ _ c.status.ensures).not_read h)

pub returns-in-Ok-write_response-clause-write_fault : goal.returns-in-Ok-write_response-clause-write_fault
returns-in-Ok-write_response-clause-write_fault g c = λ h. absurd ((plain_status _ _ c.status.ensures).not_write h)

pub returns-in-Ok-write_response-clause-sound : goal.returns-in-Ok-write_response-clause-sound
returns-in-Ok-write_response-clause-sound g c = λ s. ((c.take_turn.ensures.sound (c.turns.invariant.sound s)).0, (plain_status _ _ c.status.ensures).not_read)

pub returns-in-Ok-write_response-clause-checked : goal.returns-in-Ok-write_response-clause-checked
returns-in-Ok-write_response-clause-checked g c = (plain_status _ _ c.status.ensures).not_usage

pub returns-in-Ok-write_response-clause-no_open_fault : goal.returns-in-Ok-write_response-clause-no_open_fault
returns-in-Ok-write_response-clause-no_open_fault g c = (plain_status _ _ c.status.ensures).not_open

pub returns-in-Ok-write_response-clause-no_report_fault : goal.returns-in-Ok-write_response-clause-no_report_fault
returns-in-Ok-write_response-clause-no_report_fault g c = (plain_status _ _ c.status.ensures).not_report

pub returns-in-Err-write_response-clause-outcome : goal.returns-in-Err-write_response-clause-outcome
returns-in-Err-write_response-clause-outcome g c =
    Outcome-end_fault (state c.args.first) (opening-sound c.args.first c.requires.opening c.requires.script) _ _ _ (state c.in-Last.next) _ _ _ _ _ _ (response_of c.in-Last.response) c.turns.invariant.going c.in-Last.ensures.takes c.in-Err-write_response.ensures.puts

pub returns-in-ReadFault-clause-outcome : goal.returns-in-ReadFault-clause-outcome
returns-in-ReadFault-clause-outcome g c =
    Outcome-read_fault (state c.args.first) (opening-sound c.args.first c.requires.opening c.requires.script) _ _ _ _ _ _ _ _ c.turns.invariant.going c.in-ReadFault.ensures.takes

pub returns-in-InputLimit-clause-outcome : goal.returns-in-InputLimit-clause-outcome
returns-in-InputLimit-clause-outcome g c =
    Outcome-limit (state c.args.first) (opening-sound c.args.first c.requires.opening c.requires.script) _ _ _ _ _ _ _ _ c.turns.invariant.going c.in-InputLimit.ensures.takes

pub returns-in-NoMemory-clause-outcome : goal.returns-in-NoMemory-clause-outcome
returns-in-NoMemory-clause-outcome g c =
    Outcome-no_memory (state c.args.first) (opening-sound c.args.first c.requires.opening c.requires.script) _ _ _ _ _ _ _ _ c.turns.invariant.going c.in-NoMemory.ensures.takes

pub returns-then-is_closed-clause-outcome : goal.returns-then-is_closed-clause-outcome
returns-then-is_closed-clause-outcome g c =
    subst (λ (s : Status). Outcome (state c.args.first) s (g.S.Source.left c.args.input.now) (g.S.Source.left c.take_turn.new.input) (g.K.Sink.taken c.args.output.now) (g.K.Sink.taken c.write_response.new.sink))
    (sym (c.status-then-is_closed.ensures ∙ ap status_of c.is_clean-then-is_closed.ensures))
    (Outcome-closed (state c.args.first) (opening-sound c.args.first c.requires.opening c.requires.script) _ _ _ (state c.in-Response.next) _ _ _ _ _ _ (response_of c.in-Response.response) c.turns.invariant.going c.in-Response.ensures.takes c.in-Ok.ensures.puts (sym c.if-is_closed.ensures))

pub turns-preserved : goal.turns-preserved
turns-preserved g c = record {
  going = Going-lines (state c.args.first) (opening-sound c.args.first c.requires.opening c.requires.script) _ _ _ (state c.in-Response.next) _ _ _ _ _ _ (response_of c.in-Response.response) c.turns.invariant.going c.in-Response.ensures.takes c.in-Ok.ensures.puts;
  runs = sym c.if-is_closed.ensures;
  script = c.in-Response.ensures.fine.1;
  not_ended = c.in-Response.ensures.takes.running;
  reads = search rules;
  writes = search rules;
  name = search rules;
  sound = λ s. (c.take_turn.ensures.sound (c.turns.invariant.sound s)).0;
}
