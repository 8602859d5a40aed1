use Rattle.std.proofs.Common.{◌≡◌, take, map}
use Rattle.alb_rows.specs.Row.{comb}
use Rattle.alb_reduce.proofs.recipes.all_items.Given as goal

abbrev pub invariant-loop-recipe : goal.invariant-loop-recipe
invariant-loop-recipe l = map (λ v. v.items) l.all.items ≡ map comb (take l.recipe-index l.recipes)
