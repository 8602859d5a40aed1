use Rattle.std.proofs.Common.{◌≡◌, ◌++◌, ◌∙◌, List, ℕ, ap, get_or}
use Rattle.std.proofs.lemmas.List.{take-replicate}
use Rattle.alb_core.proofs.Counts.{count_within}
use Rattle.alb_core.specs.Machine.{machine}
use Rattle.alb_core.specs.declared.event.Ended.TheVariants.{Running}
use Rattle.alb_core.specs.declared.event.Cell.{Cell}
use Rattle.alb_core.specs.declared.event.Cell.TheVariants.{Free}
use Rattle.alb_core.proofs.machine.State.open.Goals as goal

pub returns : goal.returns
returns c = let filled = c.in_ok-cells.ensures.items_if_clones_equal (λ (y : Cell) (e : y ≡ Free). e) in
    let same : c.extend_from_slice.new.self.items ≡ c.args.counts.now = c.in_ok-extend_from_slice.ensures.items ∙ ap (λ (xs : List ℕ). xs ++ c.args.counts.now) c.new-kept.ensures.items in
    rw (same, filled) (ap (λ (xs : List Cell). machine c.args.counts.now 1 Running xs)
    (take-replicate (get_or c.args.counts.now 1 0) c.greatest-most.result Free (count_within c.args.counts.now 1 _ c.greatest-most.ensures)))
