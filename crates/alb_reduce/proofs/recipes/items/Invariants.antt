use Rattle.std.proofs.Common.{◌≡◌, take}
use Rattle.alb_rows.specs.Row.{comb}
use Rattle.alb_reduce.proofs.recipes.items.Given as goal

abbrev pub invariant-loop-tag : goal.invariant-loop-tag
invariant-loop-tag l = l.items.items ≡ comb (take l.tag-index l.tag-items)
