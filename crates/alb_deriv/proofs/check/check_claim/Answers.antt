use Rattle.std.proofs.Common.{◌≡◌, ◌∙◌, map, sym, refl, true, false}
use Rattle.alb_poly.specs.Consequence.{forms}
use Rattle.alb_deriv.specs.Derivation.{same_terms}
use Rattle.alb_deriv.specs.Views.{line}
use Rattle.alb_deriv.proofs.Judged.{no_fault-derivation, derived-consequence}
use Rattle.alb_deriv.proofs.LineLemmas.{table-positive}
use Rattle.alb_deriv.proofs.ListLemmas.{itself-normal, claim-judged}
use Rattle.alb_deriv.proofs.check.check_claim.Goals as goal

pub returns-then-are_same-clause-exact : goal.returns-then-are_same-clause-exact
returns-then-are_same-clause-exact c =
    let p = c.args.rules.now.field in
    let g = c.args.g.now in
    let same : same_terms c.in_ok-last.last g ≡ true =
    sym ((λ i. same_terms (c.terms.ensures.value i) (c.terms-2.ensures.value i))) ∙ sym c.if-are_same.ensures in
    claim-judged p c.args.rules.now.target (forms c.args.rules.now) (map line c.args.lines.now) c.in_ok-last.last g c.in_ok-last.ensures.exact.0 c.in_ok-last.ensures.exact.1
    (itself-normal p g c.requires.residues c.terms-2.ensures.descending) ∙ rw same refl

pub returns-then-are_same-clause-derivation : goal.returns-then-are_same-clause-derivation
returns-then-are_same-clause-derivation c =
    let p = c.args.rules.now.field in
    no_fault-derivation p c.args.rules.now.target (forms c.args.rules.now) c.args.g.now (map line c.args.lines.now) (table-positive p c.requires.rules.prime) (returns-then-are_same-clause-exact c)

pub returns-then-are_same-clause-consequence : goal.returns-then-are_same-clause-consequence
returns-then-are_same-clause-consequence c =
    derived-consequence c.args.rules.now.field c.args.rules.now.target (forms c.args.rules.now) c.args.g.now (map line c.args.lines.now) (returns-then-are_same-clause-derivation c)

pub returns-clause-exact : goal.returns-clause-exact
returns-clause-exact c =
    let p = c.args.rules.now.field in
    let g = c.args.g.now in
    let other : same_terms c.in_ok-last.last g ≡ false =
    sym ((λ i. same_terms (c.terms.ensures.value i) (c.terms-2.ensures.value i))) ∙ sym c.if-are_same.ensures in
    claim-judged p c.args.rules.now.target (forms c.args.rules.now) (map line c.args.lines.now) c.in_ok-last.last g c.in_ok-last.ensures.exact.0 c.in_ok-last.ensures.exact.1
    (itself-normal p g c.requires.residues c.terms-2.ensures.descending) ∙ rw other refl
