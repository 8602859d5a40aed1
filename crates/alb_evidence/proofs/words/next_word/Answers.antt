use Rattle.std.proofs.Common.{arith}
use Rattle.alb_evidence.proofs.WordLemmas.{next-none, next-some}
use Rattle.alb_evidence.proofs.words.next_word.Goals as goal

pub returns-then-count-eq0-clause-value : goal.returns-then-count-eq0-clause-value
returns-then-count-eq0-clause-value c =
    next-none c.args.text.now c.text_from-rest.result.now c.blanks.result c.word_length-count.result c.blanks.ensures.bound c.blanks.ensures.before c.blanks.ensures.end c.text_from-rest.ensures
    (omega arith) c.word_length-count.ensures.end

pub returns-clause-value : goal.returns-clause-value
returns-clause-value c =
    next-some c.args.text.now c.text_from-rest.result.now c.text_before.result.now c.text_from.result.now c.blanks.result c.word_length-count.result c.blanks.ensures.bound c.blanks.ensures.before c.text_from-rest.ensures
    (omega arith) c.word_length-count.ensures.bound c.word_length-count.ensures.before c.word_length-count.ensures.end c.text_before.ensures c.text_from.ensures
