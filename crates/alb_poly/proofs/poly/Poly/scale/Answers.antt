use Rattle.std.proofs.Common.{◌≡◌, ◌∙◌, sym, ap, subst, arith}
use Rattle.alb_poly.specs.Poly.{AreResidues, normal}
use Rattle.alb_poly.specs.Terms.{terms, multiples}
use Rattle.alb_poly.proofs.Products.{multiples-normal, multiples-residues}
use Rattle.alb_poly.proofs.Falling.{Falls, falls-multiples, descending-falls, falls-sorted}
use Rattle.alb_poly.proofs.poly.Poly.scale.Goals as goal

pub collected-requires-clause-residues : goal.collected-requires-clause-residues
collected-requires-clause-residues c =
    subst (λ f. AreResidues c.args.field.now f) (sym c.in_ok-list.ensures) (multiples-residues c.args.field.now c.args.c _ (omega arith))

pub collected-requires-clause-sorted : goal.collected-requires-clause-sorted
collected-requires-clause-sorted c =
    let list = c.self.inside.list.items in
    let e : terms c.in_ok-list.list.items ≡ multiples c.args.field.now c.args.c (terms list) = rw c.as_slice.ensures.value at c.in_ok-list.ensures in
    falls-sorted c.in_ok-list.list.items
    (subst (λ f. Falls f) (sym e) (falls-multiples c.args.field.now c.args.c (terms list) (descending-falls (terms list) c.self.invariant)))

pub returns-clause-value : goal.returns-clause-value
returns-clause-value c =
    let p = c.args.field.now in
    let l : terms c.as_slice.result.now ≡ c.args.self.now = ap terms c.as_slice.ensures.value ∙ c.self.view_is in
    let e : terms c.in_ok-list.list.items ≡ multiples p c.args.c c.args.self.now = c.in_ok-list.ensures ∙ ap (multiples p c.args.c) l in
    c.in_ok-list-2.ensures.value ∙ ap (normal p) e ∙ multiples-normal p c.args.c c.args.self.now (omega arith)
