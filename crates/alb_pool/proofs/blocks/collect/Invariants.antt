use Rattle.alb_pool.specs.Work.{ArePlaces}
use Rattle.alb_pool.proofs.blocks.collect.Given as goal

abbrev pub invariant-loop-answers : goal.invariant-loop-answers
invariant-loop-answers l = ArePlaces l.degree l.places.items
