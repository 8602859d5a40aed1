use Rattle.alb_trace.proofs.KnownLemmas.{note-mono}
use Rattle.alb_trace.proofs.trace.Trace.note_monomial.Goals as goal

pub returns : goal.returns
returns c = λ fs t old d.
    note-mono fs t old c.args.self.now c.args.m.now (record { mono = c.in_ok-mono.mono }) c.args.cited c.insert.new.self c.in_ok-mono.ensures c.in_ok-insert.ensures.updates.0 d
