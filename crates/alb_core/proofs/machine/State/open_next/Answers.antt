use Rattle.std.proofs.Common.{◌≡◌, ◌+◌, List, ap}
use Rattle.std.proofs.lemmas.List.{take-replicate}
use Rattle.alb_core.proofs.Counts.{count_within}
use Rattle.alb_core.specs.Machine.{machine}
use Rattle.alb_core.specs.declared.event.Cell.{Cell}
use Rattle.alb_core.specs.declared.event.Cell.TheVariants.{Free}
use Rattle.alb_core.proofs.machine.State.open_next.Goals as goal

pub returns : goal.returns
returns c = let filled = c.fill.ensures.items (λ (y : Cell) (e : y ≡ Free). e) in
    rw (← c.self.view_is, filled)
    (ap (λ (xs : List Cell). machine c.self.inside.counts.items (c.self.inside.degree + 1) c.self.inside.ended xs)
    (take-replicate _ _ Free (count_within c.self.inside.counts.items (c.self.inside.degree + 1) _ c.self.invariant.2)))
