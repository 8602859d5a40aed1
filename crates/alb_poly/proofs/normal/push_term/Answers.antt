use Rattle.std.proofs.Common.{◌<◌}
use Rattle.std.proofs.lemmas.List.Elements.{All-head}
use Rattle.alb_poly.proofs.Collecting.{reverse_last}
use Rattle.alb_poly.proofs.normal.push_term.Goals as goal

pub add-coef-requires-clause-right : goal.add-coef-requires-clause-right
add-coef-requires-clause-right c =
    let r = rw (c.in-Some.ensures.items, reverse_last c.pop.new.self.items c.in-Some.last) at c.requires.residues in
    All-head (λ t. t.0 < c.args.field.now) _ _ r
