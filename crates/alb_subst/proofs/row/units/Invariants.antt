use Rattle.std.proofs.Common.{◌≡◌, ◌∷◌, [], map, take}
use Rattle.alb_subst.proofs.row.units.Given as goal

abbrev pub invariant-loop-b : goal.invariant-loop-b
invariant-loop-b l = l.rows.items ≡ map (λ b. (b, 1) ∷ []) (take l.b-index l.tuple)
