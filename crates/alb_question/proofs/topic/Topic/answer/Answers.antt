use Rattle.alb_question.proofs.ProblemRules.{topic-rules}
use Rattle.alb_question.proofs.topic.Topic.answer.Goals as goal

pub answer_question-requires-clause-rules : goal.answer_question-requires-clause-rules
answer_question-requires-clause-rules c = topic-rules c.args.self.now c.requires.topic
