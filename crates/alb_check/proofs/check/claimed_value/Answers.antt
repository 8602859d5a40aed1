use Rattle.std.proofs.Common.{List, sym, subst}
use Rattle.std.specs.List.{All}
use Rattle.std.proofs.lemmas.Result.{IfOk-weaker}
use Rattle.alb_poly.specs.Consequence.{forms}
use Rattle.alb_rows.specs.Row.{Cells, comb, AreCellResidues}
use Rattle.alb_check.specs.Raw.{raw}
use Rattle.alb_check.specs.TableAlgebra.{generator_value}
use Rattle.alb_check.specs.Products.{vectors, GivesGenerators}
use Rattle.alb_check.proofs.WalkLemmas.{rows_value}
use Rattle.alb_check.proofs.CheckLemmas.{above_one}
use Rattle.alb_check.proofs.check.claimed_value.Goals as goal

pub value_of-requires-clause-rows : goal.value_of-requires-clause-rows
value_of-requires-clause-rows c =
    let t = raw c.args.table.now in
    let one = above_one c.args.rules.now.field c.args.rules.now.target (forms c.args.rules.now) t c.requires.rules c.requires.raw c.requires.shape in
    subst (λ (rs : List Cells). All (λ r. AreCellResidues c.args.rules.now.field r) rs) (sym c.deref.ensures.value) (c.in_ok-rows.ensures.residues c.args.rules.now.field one)

pub returns-clause-value : goal.returns-clause-value
returns-clause-value c =
    let t = raw c.args.table.now in
    let g : GivesGenerators t c.deref.result.now = subst (GivesGenerators t) (sym c.deref.ensures.value) c.in_ok-rows.ensures in
    IfOk-weaker c.value_of.result _ _
    (λ r d. rows_value c.args.rules.now.field t c.args.products.now (vectors c.deref.result.now) (generator_value t) c.args.g.now (comb r) c.requires.values g.values d)
    c.value_of.ensures.value
