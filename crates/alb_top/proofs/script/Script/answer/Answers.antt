use Rattle.std.proofs.Common.{sym, subst}
use Rattle.alb_script.specs.Asked.{view}
use Rattle.alb_question.specs.Views.{question_of, finding_of}
use Rattle.alb_question.proofs.ProblemRules.{topic-finding}
use Rattle.alb_top.specs.Script.{State, Found, Obeys}
use Rattle.alb_top.specs.View.{state}
use Rattle.alb_top.proofs.ScriptLemmas.{question-responds, script-topic, answered-state}
use Rattle.alb_top.proofs.script.Script.answer.Goals as goal

pub answer-requires-clause-topic : goal.answer-requires-clause-topic
answer-requires-clause-topic c = script-topic c.args.self c.in-Asking.topic c.in-Asking.is c.requires.script

pub returns-clause-responds : goal.returns-clause-responds
returns-clause-responds c =
    let topic = script-topic c.args.self c.in-Asking.topic c.in-Asking.is c.requires.script in
    subst (λ (u : State). Obeys (state c.args.self) (view c.args.command) (Found (finding_of c.in_ok-finding.finding)) u)
    (sym (answered-state c.args.self c.in-Asking.topic c.answer.new.self c.in-Asking.is c.answer.ensures.same_problem c.answer.ensures.same_shot))
    (question-responds c.args.self c.in-Asking.topic (view c.args.command) (question_of c.question_in-question.result) (finding_of c.in_ok-finding.finding) c.in-Asking.is topic c.requires.sound
    c.requires.question c.question_in-question.ensures (topic-finding c.in-Asking.topic (question_of c.question_in-question.result) (finding_of c.in_ok-finding.finding) topic c.in_ok-finding.ensures.finding))
