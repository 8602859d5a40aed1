use Rattle.std.proofs.Common.{◌-◌, sum}
use Rattle.alb_table.specs.RightTable.{rules_view, IsRightFor}
use Rattle.alb_build.proofs.build.build_all.Given as goal

abbrev pub invariant-loop-alloc : goal.invariant-loop-alloc
invariant-loop-alloc l = IsRightFor (rules_view l.rules) l.tables

abbrev pub decreases-loop-alloc : goal.decreases-loop-alloc
decreases-loop-alloc l = sum l.tables.target - l.tables.degree
