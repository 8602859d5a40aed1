use Rattle.alb_poly.proofs.Items.{residues_from}
use Rattle.alb_poly.proofs.poly.Poly.from_terms.Goals as goal

pub normalised-requires : goal.normalised-requires
normalised-requires c = residues_from c.args.field.now c.args.list.items c.requires
