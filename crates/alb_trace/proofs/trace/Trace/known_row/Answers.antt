use Rattle.std.proofs.Common.{refl, sym, ◌∙◌}
use Rattle.alb_trace.proofs.KnownLemmas.{row-found}
use Rattle.alb_trace.proofs.trace.Trace.known_row.Goals as goal

pub returns-in-Some : goal.returns-in-Some
returns-in-Some c = λ fs t h.
    row-found fs t c.args.self.now c.args.at.now c.args.number (record { at = c.of.result; number = c.args.number }) c.in-Some.cited.now (c.of.ensures ∙ c.counts.ensures.value) refl
    (sym c.in-Some.ensures.value) h
