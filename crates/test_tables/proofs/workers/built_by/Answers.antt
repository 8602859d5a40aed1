use Rattle.alb_table.proofs.AcceptedRules.{accepted-rules}
use Rattle.test_tables.proofs.workers.built_by.Goals as goal

pub build_with-requires-clause-rules : goal.build_with-requires-clause-rules
build_with-requires-clause-rules g c κs below = accepted-rules c.args.problem.now c.requires.problem
