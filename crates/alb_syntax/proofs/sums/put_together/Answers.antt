use Rattle.std.proofs.Common.{sym, subst}
use Rattle.alb_poly.specs.Terms.{terms}
use Rattle.alb_poly.proofs.Items.{coefs_below}
use Rattle.alb_syntax.specs.Reading.{IsCanonicalPoly}
use Rattle.alb_syntax.proofs.Loose.{together-kept}
use Rattle.alb_syntax.proofs.sums.put_together.Goals as goal

pub from_terms-requires : goal.from_terms-requires
from_terms-requires c = coefs_below c.args.field.now c.args.list.items c.requires.residues

pub returns-clause-kept : goal.returns-clause-kept
returns-clause-kept c = subst (IsCanonicalPoly c.args.field.now) (sym c.in_ok-f.ensures.value) (together-kept c.args.field.now (terms c.args.list.items) c.requires)
