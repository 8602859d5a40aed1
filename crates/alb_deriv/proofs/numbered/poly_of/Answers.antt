use Rattle.std.proofs.Common.{◌∙◌, sym, ap, subst}
use Rattle.alb_poly.specs.Poly.{AreResidues}
use Rattle.alb_poly.proofs.Items.{coefs_below}
use Rattle.alb_deriv.specs.Numbered.{read}
use Rattle.alb_deriv.proofs.NumberLists.{read-residues}
use Rattle.alb_deriv.proofs.numbered.poly_of.Goals as goal

pub from_terms-requires : goal.from_terms-requires
from_terms-requires c =
    let p = c.args.field.now in
    coefs_below p c.in_ok-list.list.items
    (subst (AreResidues p) (sym (c.in_ok-list.ensures ∙ ap (read c.args.numbers.now) c.terms.ensures)) (read-residues p c.args.numbers.now c.args.f.now c.requires.residues))
