use Rattle.std.proofs.Common.{◌≡◌, replicate, None}
use Rattle.alb_pool.proofs.blocks.empty_places.Given as goal

abbrev pub invariant-loop : goal.invariant-loop
invariant-loop l = l.places.items ≡ replicate l.index None
