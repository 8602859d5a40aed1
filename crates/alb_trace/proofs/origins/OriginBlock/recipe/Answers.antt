use Rattle.std.proofs.Common.{◌≡◌, ℕ, sym, subst, ◌∙◌, false, true, rules}
use Rattle.gf_sums.specs.Sums.{Comb}
use Rattle.alb_poly.specs.Consequence.{forms}
use Rattle.alb_rows.specs.Span.{IsPivot}
use Rattle.alb_reduce.specs.Reduction.{kept}
use Rattle.alb_table.specs.RightTable.{rules_view}
use Rattle.alb_trace.specs.Recipes.{IsRecipeFor}
use Rattle.alb_trace.proofs.RecipeLemmas.{column-found, recipe-none, recipe-some}
use Rattle.alb_trace.proofs.origins.OriginBlock.recipe.Goals as goal

pub unreachable-requires : goal.unreachable-requires
unreachable-requires c =
    column-found (rules_view c.args.ground.now.rules.now) c.args.ground.now.tables.now c.requires.ground.right c.args.b c.args.c c.requires.product c.args.self.now.columns c.args.self.now.reduced c.requires.block
    (sym c.number.ensures.value ∙ c.in_default.is)

pub returns-in-None : goal.returns-in-None
returns-in-None c =
    recipe-none (rules_view c.args.ground.now.rules.now) c.args.ground.now.tables.now c.requires.ground.right c.args.b c.args.c c.requires.product c.args.self.now.columns c.args.self.now.reduced c.requires.block
    c.in-Some.column (sym c.number.ensures.value ∙ c.in-Some.is)
    (λ v. (let e : false ≡ true = c.in-None.ensures.exactly.1
    (c.requires.block.offered_all.recipes, subst (λ (p : ℕ). IsPivot p (kept c.args.self.now.reduced) c.in-Some.column) (sym c.requires.block.offered_all.field) v) in absurd (cc)))

pub returns-in_ok-to_vec-in-Some-recipe_of : goal.returns-in_ok-to_vec-in-Some-recipe_of
returns-in_ok-to_vec-in-Some-recipe_of c =
    let e : c.in_ok-to_vec-in-Some-recipe_of.field-0.items ≡ c.in-Some-recipe_of.items.now = search rules in
    subst (λ (xs : Comb ℕ). IsRecipeFor (forms c.args.ground.now.rules.now) c.args.ground.now.tables.now (c.args.b, c.args.c) xs) (sym e)
    (recipe-some (rules_view c.args.ground.now.rules.now) c.args.ground.now.tables.now c.requires.ground.right c.args.b c.args.c c.requires.product c.args.self.now.columns c.args.self.now.reduced c.requires.block
    c.in-Some.column (sym c.number.ensures.value ∙ c.in-Some.is) c.in-Some-recipe_of.items.now c.in-Some-recipe_of.ensures.recipe)
