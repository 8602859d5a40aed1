use Rattle.std.proofs.Common.{◌≡◌, ◌∙◌, sym, ap, subst}
use Rattle.alb_poly.specs.Poly.{AreResidues, normal}
use Rattle.alb_poly.specs.Terms.{terms, products}
use Rattle.alb_poly.proofs.Products.{products-normal, products-residues}
use Rattle.alb_poly.proofs.poly.Poly.mul.Goals as goal

pub normalised-requires : goal.normalised-requires
normalised-requires c =
    let l : terms c.as_slice-lefts.result.now ≡ c.args.self.now = ap terms c.as_slice-lefts.ensures.value ∙ c.self.view_is in
    let r : terms c.as_slice-rights.result.now ≡ c.args.other.now = ap terms c.as_slice-rights.ensures.value ∙ c.other.view_is in
    let e : terms c.in_ok-list.list.items ≡ products c.args.field.now c.args.self.now c.args.other.now =
    c.in_ok-list.ensures ∙ (λ i. products c.args.field.now (l i) (r i)) in
    subst (λ f. AreResidues c.args.field.now f) (sym e) (products-residues c.args.field.now c.args.self.now c.args.other.now c.requires.left)

pub returns-clause-value : goal.returns-clause-value
returns-clause-value c =
    let l : terms c.as_slice-lefts.result.now ≡ c.args.self.now = ap terms c.as_slice-lefts.ensures.value ∙ c.self.view_is in
    let r : terms c.as_slice-rights.result.now ≡ c.args.other.now = ap terms c.as_slice-rights.ensures.value ∙ c.other.view_is in
    let e : terms c.in_ok-list.list.items ≡ products c.args.field.now c.args.self.now c.args.other.now =
    c.in_ok-list.ensures ∙ (λ i. products c.args.field.now (l i) (r i)) in
    c.in_ok-list-2.ensures.value ∙ ap (normal c.args.field.now) e ∙ products-normal c.args.field.now c.args.self.now c.args.other.now c.requires.left
