use Rattle.std.proofs.Common.{◌≡◌, ◌∙◌, ◌++◌, ℕ, List, sym, arith, ap, subst}
use Rattle.std.proofs.lemmas.Result.{IfOk-weaker}
use Rattle.gf_field.proofs.Mod.{same, ◌⊙◌}
use Rattle.gf_sums.specs.Sums.{weigh, scale}
use Rattle.alb_deriv.specs.Numbered.{said, AreApart, IsCoefficient, IsFit, IsNumbered}
use Rattle.alb_mono.specs.Listing.{Each}
use Rattle.alb_deriv.specs.Tally.{tallied, nonzero}
use Rattle.alb_deriv.proofs.TallyLemmas.{nonzero-weigh, nonzero-each, paired-each}
use Rattle.alb_deriv.proofs.NumberedLemmas.{said-alike, once-weigh, collected-numbered, from_three}
use Rattle.alb_deriv.proofs.values.collected.Goals as goal

pub returns-clause-value : goal.returns-clause-value
returns-clause-value c = λ ts.
    let p = c.args.field.now in
    let list = c.args.list.now in
    let sum = tallied c.add_multiple.new.self in
    IfOk-weaker c.close.result (λ f. f ≡ nonzero sum) (λ f. said p ts f ≡ said p ts list)
    (λ f e. said-alike p ts f list (omega arith) (λ w.
    same (ap (weigh w) e ∙ nonzero-weigh w sum)
    ⊙ c.in_ok-add_multiple.ensures.value w
    ⊙ same (ap (λ (z : List (ℕ × ℕ)). weigh w (z ++ scale 1 list)) c.new-sum.ensures.value ∙ once-weigh w list)))
    c.close.ensures.value

pub returns-clause-numbered : goal.returns-clause-numbered
returns-clause-numbered c = λ target ts d all.
    let p = c.args.field.now in
    let tally = c.add_multiple.new.self in
    let keys = c.in_ok-add_multiple.ensures.fit target ts (subst (Each (IsFit target ts)) (sym c.new-sum.ensures.keys) tt) all in
    from_three c.close.result (λ f. f ≡ nonzero (tallied tally)) AreApart (λ f. Each (IsCoefficient p) f) (λ f. IsNumbered p target ts f)
    (λ f e a h. collected-numbered p target ts f d
    (subst (Each (λ t. IsFit target ts t.1)) (sym e) (nonzero-each (λ t. IsFit target ts t.1) (tallied tally) (paired-each (IsFit target ts) tally.coefs.items tally.numbers.keys keys)))
    h a)
    c.close.ensures.value c.close.ensures.apart (c.close.ensures.coefs p c.in_ok-add_multiple.ensures.tally)

pub add_multiple-requires-clause-tally : goal.add_multiple-requires-clause-tally
add_multiple-requires-clause-tally c = c.new-sum.ensures.tally c.args.field.now
