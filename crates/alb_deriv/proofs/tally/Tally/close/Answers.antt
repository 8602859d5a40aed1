use Rattle.std.proofs.Common.{◌∙◌, ◌<◌, sym, subst}
use Rattle.alb_mono.specs.Listing.{Each}
use Rattle.alb_deriv.specs.Numbered.{AreApart, IsCoefficient}
use Rattle.alb_deriv.specs.Tally.{tallied, paired, nonzero}
use Rattle.alb_deriv.proofs.TallyLemmas.{closed-apart, nonzero-coefs, paired-coefs}
use Rattle.alb_deriv.proofs.tally.Tally.close.Goals as goal

pub returns-clause-value : goal.returns-clause-value
returns-clause-value c = c.in_ok-list.ensures ∙ (λ j. nonzero (paired (c.deref.ensures.value j) (c.as_slice.ensures.keys j)))

pub returns-clause-apart : goal.returns-clause-apart
returns-clause-apart c = subst AreApart (sym (returns-clause-value c)) (closed-apart c.args.self.now.coefs.items c.args.self.now.numbers.keys c.as_slice.ensures.unique)

pub returns-clause-coefs : goal.returns-clause-coefs
returns-clause-coefs c = λ p t.
    subst (Each (IsCoefficient p)) (sym (returns-clause-value c))
    (nonzero-coefs p (tallied c.args.self.now) (paired-coefs (λ x. x < p) c.args.self.now.coefs.items c.args.self.now.numbers.keys t.residues))
