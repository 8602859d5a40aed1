use Rattle.alb_evidence.specs.Said.{said}
use Rattle.alb_evidence.proofs.BlockLemmas.{says-long, is-long}
use Rattle.alb_evidence.proofs.read.take_next.Goals as goal
use Rattle.std.proofs.Common.{length}

pub returns-then-is_long-clause-takes : goal.returns-then-is_long-clause-takes
returns-then-is_long-clause-takes c = λ line long held lines has_end.
    says-long c.args.field.now c.args.letters.now c.args.block.now.next (said c.args.block.now.said) line lines has_end (is-long c.args.is_long (length line) c.if-is_long.true long)
