use Rattle.std.proofs.Common.{◌<◌}
use Rattle.std.proofs.lemmas.List.Sorted.{All-permutation}
use Rattle.alb_poly.proofs.Collecting.{normal-permutation}
use Rattle.alb_poly.proofs.Items.{coefs_below, residues_from}
use Rattle.alb_poly.proofs.normal.normalised.Goals as goal

pub collected-requires-clause-residues : goal.collected-requires-clause-residues
collected-requires-clause-residues c =
    let p = c.args.field.now in
    residues_from p c.sort_terms.new.list.items
    (All-permutation (λ t. t.coef < p) _ _ c.in_ok-sort_terms.ensures.moved (coefs_below p c.args.list.items c.requires))

pub returns-clause-value : goal.returns-clause-value
returns-clause-value c =
    let p = c.args.field.now in
    let e = normal-permutation p c.args.list.items c.sort_terms.new.list.items (coefs_below p c.args.list.items c.requires) c.in_ok-sort_terms.ensures.moved in
    rw e at c.collected.ensures.value
