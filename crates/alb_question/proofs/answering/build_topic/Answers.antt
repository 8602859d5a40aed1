use Rattle.std.proofs.Common.{refl}
use Rattle.alb_table.specs.End.{end_of}
use Rattle.alb_table.specs.RightTable.{rules_view}
use Rattle.alb_table.proofs.AcceptedRules.{accepted-rules}
use Rattle.alb_question.proofs.answering.build_topic.Goals as goal

pub build_with-requires-clause-rules : goal.build_with-requires-clause-rules
build_with-requires-clause-rules g c κs below = accepted-rules c.args.problem c.requires.accepted

pub returns-clause-topic : goal.returns-clause-topic
returns-clause-topic g c = record {
  accepted = c.requires.accepted;
  built = record { right = c.in_ok-tables.ensures.right; end = end_of c.in_ok-tables.field-0.end; known = refl; ends = c.in_ok-tables.ensures.end };
  deriver = c.new.ensures (rules_view c.args.problem.rules) c.in_ok-tables.field-0.tables c.in_ok-tables.ensures.right;
}
