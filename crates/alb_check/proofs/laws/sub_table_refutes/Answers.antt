use Rattle.alb_check.proofs.SubRefutes.{sub-refutes}
use Rattle.alb_check.proofs.laws.sub_table_refutes.Goals as goal

pub returns : goal.returns
returns c fs t g top multi high tab right within ty first = sub-refutes fs t g top multi high tab right within ty first
