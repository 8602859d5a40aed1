use Rattle.std.proofs.Common.{◌≡◌, ◌∙◌, ◌≤◌, length, take, true, sym, ap, arith, subst}
use Rattle.std.proofs.lemmas.List.{take_all}
use Rattle.alb_mono.specs.Tree.{tree, degree, are_below}
use Rattle.alb_poly.specs.Poly.{normal, AreResidues, greatest_degree}
use Rattle.alb_poly.specs.Terms.{terms}
use Rattle.alb_poly.proofs.Images.{image_terms, image_terms-normal, image_terms-residues, small_part}
use Rattle.alb_poly.proofs.Items.{coef_at, term_at, degree_at}
use Rattle.alb_poly.proofs.poly.Poly.substitute.Goals as goal

pub image-requires-clause-positive : goal.image-requires-clause-positive
image-requires-clause-positive c =
    let ts = c.terms-terms.result.now in
    let r = subst (λ f. AreResidues c.args.field.now f) (sym c.terms-terms.ensures.value) c.requires.left in
    omega (arith, coef_at c.args.field.now ts c.loop-t.t-index c.t-item.result r c.loop-t-test.true c.t-item.is)

pub image-requires-clause-known : goal.image-requires-clause-known
image-requires-clause-known c =
    let ts = c.terms-terms.result.now in
    let n = length c.args.images.now in
    term_at (λ t. are_below n t.1 ≡ true) ts c.loop-t.t-index c.t-item.result
    (rw (← c.terms-terms.ensures.value) at c.requires.known) c.loop-t-test.true c.t-item.is

pub image-requires-clause-small : goal.image-requires-clause-small
image-requires-clause-small c =
    let ts = c.terms-terms.result.now in
    let d = degree_at ts c.loop-t.t-index c.t-item.result c.loop-t-test.true c.t-item.is in
    small_part (degree (tree c.t-item.result.mono)) (greatest_degree c.args.self.now) c.args.images.now
    (subst (λ f. degree (tree c.t-item.result.mono) ≤ greatest_degree f) c.terms-terms.ensures.value d) c.requires.small

pub push_multiples-requires-clause-residue : goal.push_multiples-requires-clause-residue
push_multiples-requires-clause-residue c =
    let ts = c.terms-terms.result.now in
    let r = subst (λ f. AreResidues c.args.field.now f) (sym c.terms-terms.ensures.value) c.requires.left in
    coef_at c.args.field.now ts c.loop-t.t-index c.t-item.result r c.loop-t-test.true c.t-item.is

pub normalised-requires : goal.normalised-requires
normalised-requires c =
    let p = c.args.field.now in
    let us = c.args.images.now in
    let ts = c.terms-terms.result.now in
    let all : take c.loop-t.t-index ts ≡ ts = take_all c.loop-t.t-index ts (omega arith) in
    let e : terms c.loop-t.list.items ≡ image_terms p us c.args.self.now =
    c.loop-t.invariant ∙ ap (λ x. image_terms p us (terms x)) all ∙ ap (image_terms p us) c.terms-terms.ensures.value in
    subst (λ f. AreResidues p f) (sym e) (image_terms-residues p us c.args.self.now c.requires.left)

pub returns-clause-value : goal.returns-clause-value
returns-clause-value c =
    let p = c.args.field.now in
    let us = c.args.images.now in
    let ts = c.terms-terms.result.now in
    let all : take c.loop-t.t-index ts ≡ ts = take_all c.loop-t.t-index ts (omega arith) in
    let e : terms c.loop-t.list.items ≡ image_terms p us c.args.self.now =
    c.loop-t.invariant ∙ ap (λ x. image_terms p us (terms x)) all ∙ ap (image_terms p us) c.terms-terms.ensures.value in
    c.in_ok-list.ensures.value ∙ ap (normal p) e ∙ image_terms-normal p us c.args.self.now c.requires.left
