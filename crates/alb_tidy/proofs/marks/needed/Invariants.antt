use Rattle.std.proofs.Common.{map}
use Rattle.alb_deriv.specs.Views.{line}
use Rattle.alb_tidy.proofs.Marking.{IsMarking}
use Rattle.alb_tidy.proofs.marks.needed.Given as goal

abbrev pub invariant-loop-i : goal.invariant-loop-i
invariant-loop-i l = IsMarking (map line l.lines) l.last l.i l.marks.items
