use Rattle.std.proofs.Common.{◌≡◌, ◌∙◌, sym, ap, subst}
use Rattle.alb_poly.specs.Poly.{Poly, AreResidues}
use Rattle.alb_poly.specs.Consequence.{form}
use Rattle.alb_linear.specs.Identity.{IsLinearized}
use Rattle.alb_problem.specs.Builder.{linear_form, IsKeptIdentity}
use Rattle.alb_problem.proofs.BuilderLemmas.{homogeneous-no_fault, same-form}
use Rattle.alb_problem.proofs.builder.read_identity.Goals as goal

pub returns-in-Ok-linearize-clause-read : goal.returns-in-Ok-linearize-clause-read
returns-in-Ok-linearize-clause-read c =
    let p = c.args.field.now in
    let f : Poly = c.in-Ok.identity.poly in
    let same : f ≡ c.args.poly = c.in-Ok.ensures.1 in
    let found : form c.in-Ok-linearize.linear ≡ linear_form p f =
    same-form p f (form c.in-Ok-linearize.linear) c.in-Ok-linearize.ensures.1 c.in-Ok-linearize.ensures.2 in
    let kept : IsKeptIdentity p f = record {
      no_fault = c.in-Ok.ensures.0.no_fault;
      homogeneous = homogeneous-no_fault f c.terms-known.ensures.letters c.in-Ok.ensures.0.no_fault;
      residues = subst (AreResidues p) (sym same) c.requires.residues;
      small = c.in-Ok-linearize.ensures.0;
      linearized = subst (IsLinearized p) found c.in-Ok-linearize.ensures.3;
    } in
    (c.in-Ok.ensures.0, same, found ∙ ap (linear_form p) same, subst (IsKeptIdentity p) same kept)
