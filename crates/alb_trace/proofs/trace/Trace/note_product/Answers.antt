use Rattle.alb_trace.proofs.KnownLemmas.{note-product}
use Rattle.alb_trace.proofs.trace.Trace.note_product.Goals as goal

pub returns : goal.returns
returns c = λ fs t old d. note-product fs t old c.args.self.now c.args.b c.args.c c.args.cited c.insert.new.self c.in_ok-insert.ensures.updates.0 d
