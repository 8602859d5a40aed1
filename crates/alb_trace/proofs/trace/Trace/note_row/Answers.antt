use Rattle.std.proofs.Common.{refl, ◌∙◌}
use Rattle.alb_trace.proofs.KnownLemmas.{note-row}
use Rattle.alb_trace.proofs.trace.Trace.note_row.Goals as goal

pub returns : goal.returns
returns c = λ fs t old d.
    note-row fs t old c.args.self.now c.args.at.now c.args.number (record { at = c.of.result; number = c.args.number }) c.args.cited c.insert.new.self (c.of.ensures ∙ c.counts.ensures.value) refl c.in_ok-insert.ensures.updates.0 d
