use Rattle.std.proofs.Common.{Result, refl, sym, subst}
use Rattle.alb_board.specs.Passes.{board_rules, pass_view}
use Rattle.alb_script.specs.Asked.{Asked}
use Rattle.alb_script.specs.declared.error.CommandError.{CommandError}
use Rattle.alb_session.specs.View.{AnswersBy, response_text}
use Rattle.alb_session.proofs.AnswerLemmas.{asked-by, skipped-by, refused-by, unread-by}
use Rattle.alb_table.specs.RightTable.{rules_view}
use Rattle.alb_session.proofs.answer.take_request.Goals as goal

pub returns-in-Nothing-clause-takes : goal.returns-in-Nothing-clause-takes
returns-in-Nothing-clause-takes g c asks h = skipped-by (rules_view (board_rules c.args.board.now)) c.args.letters.now (pass_view c.args.pass.now) asks (asked-by _ _ asks c.in-Nothing.is h)

pub returns-in-Question-clause-takes : goal.returns-in-Question-clause-takes
returns-in-Question-clause-takes g c asks h =
    let e = asked-by _ _ asks c.in-Question.is h in
    subst (λ (x : Result Asked CommandError). AnswersBy (rules_view (board_rules c.args.board.now)) c.args.letters.now x (pass_view c.args.pass.now) (pass_view c.answer.new.pass) (response_text c.answer.result)) (sym e.1) (c.answer.ensures.answers e.0 e.2)

pub returns-in-Await-clause-takes : goal.returns-in-Await-clause-takes
returns-in-Await-clause-takes g c asks h =
    let e = asked-by _ _ asks c.in-Await.is h in
    subst (λ (x : Result Asked CommandError). AnswersBy (rules_view (board_rules c.args.board.now)) c.args.letters.now x (pass_view c.args.pass.now) (pass_view c.await_degree.new.pass) (response_text c.await_degree.result)) (sym e) (c.await_degree.ensures.answers c.args.letters.now)

pub returns-in-Quit-clause-takes : goal.returns-in-Quit-clause-takes
returns-in-Quit-clause-takes g c asks h = (asked-by _ _ asks c.in-Quit.is h, refl)

pub returns-in-Refused-clause-takes : goal.returns-in-Refused-clause-takes
returns-in-Refused-clause-takes g c asks h = refused-by (rules_view (board_rules c.args.board.now)) c.args.letters.now (pass_view c.args.pass.now) asks c.in-Refused.error (asked-by _ _ asks c.in-Refused.is h)

pub returns-in-NoMemory-clause-takes : goal.returns-in-NoMemory-clause-takes
returns-in-NoMemory-clause-takes g c asks h = unread-by (rules_view (board_rules c.args.board.now)) c.args.letters.now (pass_view c.args.pass.now) asks _ (asked-by _ _ asks c.in-NoMemory.is h) c.seen.ensures
