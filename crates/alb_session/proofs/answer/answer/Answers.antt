use Rattle.std.proofs.Common.{subst}
use Rattle.std.specs.Arc.{arc_value}
use Rattle.alb_board.specs.Passes.{board_rules, pass_view}
use Rattle.alb_poly.specs.declared.rules.Rules.{Rules}
use Rattle.alb_question.specs.Views.{question_of}
use Rattle.alb_session.specs.View.{IsFoundText}
use Rattle.alb_session.proofs.AnswerLemmas.{question-found, question-lacks, question-unasked}
use Rattle.alb_table.specs.RightTable.{rules_view}
use Rattle.alb_table.specs.declared.tables.Tables.{Tables}
use Rattle.alb_session.proofs.answer.answer.Goals as goal

pub returns-in-Ok-found_text-clause-answers : goal.returns-in-Ok-found_text-clause-answers
returns-in-Ok-found_text-clause-answers g c a is =
    question-found (board_rules c.args.board.now) c.args.letters.now (pass_view c.args.pass.now) _ a (question_of c.args.question.now) is c.in-Ok.shot c.in-Ok.ensures.shot c.in-Ok-found_text.text.taken
    (subst (λ (x : Rules). IsFoundText (rules_view x) c.args.letters.now (arc_value c.in-Ok.shot.tables) (question_of c.args.question.now) c.in-Ok-found_text.text.taken) c.rules.ensures
    (subst (λ (t : Tables). IsFoundText (rules_view c.rules.result.now) c.args.letters.now t (question_of c.args.question.now) c.in-Ok-found_text.text.taken) c.deref.ensures c.in-Ok-found_text.ensures))

-- src/answer.rt:84:1
pub returns-in-Ok-clause-answers : goal.returns-in-Ok-clause-answers
returns-in-Ok-clause-answers g c a is =
    question-lacks (board_rules c.args.board.now) c.args.letters.now (pass_view c.args.pass.now) _ a (question_of c.args.question.now) is c.in-Ok.shot c.in-Ok.ensures.shot _ c.seen.ensures

-- src/answer.rt:68:1
pub returns-clause-answers : goal.returns-clause-answers
returns-clause-answers g c a is =
    question-unasked (board_rules c.args.board.now) c.args.letters.now (pass_view c.args.pass.now) _ a (question_of c.args.question.now) is c.in-Err.ensures.none _ c.seen-in-Err.ensures
