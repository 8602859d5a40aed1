use Rattle.alb_pool.specs.Work.{ArePlaces}
use Rattle.alb_pool.proofs.blocks.fill_places.Given as goal

abbrev pub invariant-loop-answer : goal.invariant-loop-answer
invariant-loop-answer l = ArePlaces l.degree l.places.items
