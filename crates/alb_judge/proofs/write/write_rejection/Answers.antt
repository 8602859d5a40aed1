-- write_rejection
use Rattle.std.proofs.Common.{sym, subst, ℕ, codes}
use Rattle.alb_io.specs.Writes.{Writes}
use Rattle.alb_judge.specs.Verdict.{numbered_line, rejection_text}
use Rattle.alb_judge.specs.Views.{rejection_of}
use Rattle.alb_judge.specs.declared.verdict.Rejection.{Rejection}
use Rattle.alb_judge.proofs.write.write_rejection.Goals as goal

pub returns-in-BadShape : goal.returns-in-BadShape
returns-in-BadShape g c =
    subst (λ (r : Rejection). Writes g.K.Sink c.args.sink.now c.write_numbered-in-BadShape.new.sink (rejection_text (rejection_of r)) c.write_numbered-in-BadShape.result) (sym c.in-BadShape.is)
    (subst (λ (n : ℕ). Writes g.K.Sink c.args.sink.now c.write_numbered-in-BadShape.new.sink (numbered_line (codes "rejected 60 rule ") n) c.write_numbered-in-BadShape.result) c.from.ensures c.write_numbered-in-BadShape.ensures)

pub returns-in-ValueZero : goal.returns-in-ValueZero
returns-in-ValueZero g c =
    subst (λ (r : Rejection). Writes g.K.Sink c.args.sink.now c.put_all-in-ValueZero.new.sink (rejection_text (rejection_of r)) c.put_all-in-ValueZero.result) (sym c.in-ValueZero.is) c.put_all-in-ValueZero.ensures
