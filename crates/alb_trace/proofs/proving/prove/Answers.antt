use Rattle.alb_table.specs.RightTable.{rules_view}
use Rattle.alb_trace.proofs.proving.prove.Goals as goal

pub prove-requires-clause-deriver : goal.prove-requires-clause-deriver
prove-requires-clause-deriver c = c.new.ensures (rules_view c.args.rules.now) c.args.tables.now c.requires.right
