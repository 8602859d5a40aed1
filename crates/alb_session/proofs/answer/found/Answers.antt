use Rattle.alb_table.specs.RightTable.{rules_view}
use Rattle.alb_session.proofs.answer.found.Goals as goal

pub answer_question-requires-clause-deriver : goal.answer_question-requires-clause-deriver
answer_question-requires-clause-deriver c = c.new-deriver.ensures (rules_view c.args.rules.now) c.args.tables.now c.requires.right
