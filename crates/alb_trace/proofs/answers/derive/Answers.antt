use Rattle.alb_table.specs.RightTable.{rules_view}
use Rattle.alb_trace.proofs.answers.derive.Goals as goal

pub derive-requires-clause-deriver : goal.derive-requires-clause-deriver
derive-requires-clause-deriver c = c.new.ensures (rules_view c.args.rules.now) c.args.tables.now c.requires.right
