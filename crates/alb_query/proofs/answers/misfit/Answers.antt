use Rattle.std.proofs.Common.{◌≡◌, ◌+◌, ◌∙◌, refl, arith, true, false}
use Rattle.alb_mono.specs.Tree.{tree}
use Rattle.alb_query.specs.Answer.{fits_target}
use Rattle.alb_query.proofs.AnswerLemmas.{misfit-first}
use Rattle.alb_query.proofs.answers.misfit.Goals as goal

pub returns-then-not-fits : goal.returns-then-not-fits
returns-then-not-fits c =
    let e : fits_target c.args.target.now (tree c.t-item.result.mono) ≡ false = cc in
    c.loop-t.invariant ∙ misfit-first c.args.target.now c.args.list.now c.loop-t.t-index (c.loop-t.t-index + 1) c.t-item.result c.loop-t-test.true (omega arith) c.t-item.is ∙ rw e refl

pub loop-t-preserved : goal.loop-t-preserved
loop-t-preserved c =
    let e : fits_target c.args.target.now (tree c.t-item.result.mono) ≡ true = cc in
    c.loop-t.invariant ∙ misfit-first c.args.target.now c.args.list.now c.loop-t.t-index (c.loop-t.t-index + 1) c.t-item.result c.loop-t-test.true (omega arith) c.t-item.is ∙ rw e refl
