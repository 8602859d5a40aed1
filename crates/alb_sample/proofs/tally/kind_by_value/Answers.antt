use Rattle.alb_sample.proofs.ParityLemmas.{zero-kind, other-kind}
use Rattle.alb_query.proofs.AnswerLemmas.{not-both}
use Rattle.alb_sample.proofs.tally.kind_by_value.Goals as goal

pub returns-then-is_zero-clause-kind : goal.returns-then-is_zero-clause-kind
returns-then-is_zero-clause-kind c =
    zero-kind c.args.tables.now c.requires.right c.requires.degree c.args.k c.args.draws.now c.in_ok-value.value c.in_ok-value.ensures.value (c.is_zero.ensures.value.0 c.if-is_zero.true)

pub returns-clause-kind : goal.returns-clause-kind
returns-clause-kind c =
    other-kind c.args.tables.now c.requires.right c.requires.degree c.args.k c.args.draws.now c.in_ok-value.value c.in_ok-value.ensures.value
    (λ e. not-both _ c.if-is_zero.false (c.is_zero.ensures.value.1 e))
