use Rattle.std.proofs.Common.{◌∙◌, ◌++◌, ℕ, List, get_or, ap, sym}
use Rattle.alb_deriv.specs.Numbered.{before}
use Rattle.alb_deriv.proofs.TallyLemmas.{nonzero-more}
use Rattle.alb_deriv.proofs.tally.nonzero_terms.Goals as goal

pub loop-k-preserved : goal.loop-k-preserved
loop-k-preserved c =
    let k = c.loop-k.k in
    c.in_ok-push_nonzero.ensures
    ∙ ap (λ (xs : List (ℕ × ℕ)). xs ++ before (get_or c.args.coefs.now k 0) (get_or c.args.numbers.now k 0)) c.loop-k.invariant
    ∙ sym (nonzero-more c.args.coefs.now c.args.numbers.now k c.requires.long c.loop-k-test.true)
