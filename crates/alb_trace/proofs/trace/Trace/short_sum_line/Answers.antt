use Rattle.alb_trace.proofs.TraceLemmas.{next-sum}
use Rattle.alb_trace.proofs.trace.Trace.short_sum_line.Goals as goal

pub returns : goal.returns
returns c = record {
  derives = λ fs t f h a s. let x = next-sum fs t c.args.self.now h c.args.part.items f s c.requires.few in c.in_ok-line.ensures.derives fs t f h a x.fine x.line;
}
