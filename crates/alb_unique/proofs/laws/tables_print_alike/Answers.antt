use Rattle.alb_unique.proofs.SamePrints.{print-alike}
use Rattle.alb_unique.proofs.laws.tables_print_alike.Goals as goal

pub returns : goal.returns
returns c fs t u letters r same = print-alike fs t u letters r same
