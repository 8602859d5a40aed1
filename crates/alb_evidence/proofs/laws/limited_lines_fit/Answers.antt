use Rattle.alb_evidence.proofs.TextLengths.{limited-lines_fit}
use Rattle.alb_evidence.proofs.laws.limited_lines_fit.Goals as goal

pub returns : goal.returns
returns c = limited-lines_fit
