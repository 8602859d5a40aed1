use Rattle.alb_evidence.proofs.lines.kind_of.Goals as goal
use Rattle.std.proofs.Common.{length}

pub returns-then-is_word-clause-line : goal.returns-then-is_word-clause-line
returns-then-is_word-clause-line c = c.instance_of.ensures.line c.args.field.now

pub returns-then-is_word-2-clause-line : goal.returns-then-is_word-2-clause-line
returns-then-is_word-2-clause-line c = c.times_of.ensures.line c.args.field.now

pub returns-then-is_word-3-clause-line : goal.returns-then-is_word-3-clause-line
returns-then-is_word-3-clause-line c = c.sum_of.ensures.line (length c.args.letters.now)
