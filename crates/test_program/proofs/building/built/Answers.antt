use Rattle.alb_table.proofs.AcceptedRules.{accepted-rules}
use Rattle.test_program.proofs.building.built.Goals as goal

pub build_all-requires : goal.build_all-requires
build_all-requires c = accepted-rules _ c.in_ok-problem.ensures
