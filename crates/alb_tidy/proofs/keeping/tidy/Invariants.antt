use Rattle.alb_tidy.specs.Numbers.{lines_in}
use Rattle.alb_tidy.proofs.Tidying.{IsTidying}
use Rattle.alb_tidy.proofs.keeping.tidy.Given as goal

abbrev pub invariant-loop-k : goal.invariant-loop-k
invariant-loop-k l = IsTidying l.lines l.marks.items l.k (lines_in l.keeping.ledger) l.keeping.places.items
