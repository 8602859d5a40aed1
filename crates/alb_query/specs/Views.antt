-- What contracts see of replies, and what rules have to do with a table.
use Rattle.alb_mono.specs.Tree.{tree}
use Rattle.alb_query.specs.Answer.{Answer, Zero, NotZero, NotBuilt, OutOfType}
use Rattle.alb_query.specs.declared.reply.Reply.{Reply}
use Rattle.alb_query.specs.declared.reply.Reply.TheVariants as reply

abbrev pub answer_of : Reply → Answer
answer_of reply.Zero = Zero
answer_of (reply.NotZero f) = NotZero f
answer_of (reply.NotBuilt n) = NotBuilt n
answer_of (reply.OutOfType m) = OutOfType (tree m)
