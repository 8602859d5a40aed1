use Rattle.std.proofs.Common.{◌≡◌, take}
use Rattle.std.specs.List.{filter}
use Rattle.alb_check.specs.Raw.{raw}
use Rattle.alb_check.specs.Walk.{fits_top}
use Rattle.alb_check.proofs.walk.those_fitting.Given as goal

abbrev pub invariant-loop-k : goal.invariant-loop-k
invariant-loop-k l = l.out.items ≡ filter (fits_top (raw l.table) l.rest) (take l.k-index l.candidates)
