use Rattle.std.proofs.Common.{◌-◌, sum}
use Rattle.alb_table.specs.RightTable.{rules_view, IsRightFor}
use Rattle.alb_pool.proofs.build.build_with.Given as goal

abbrev pub invariant-loop-alloc : goal.invariant-loop-alloc
invariant-loop-alloc g l = IsRightFor (rules_view l.rules) l.tables

abbrev pub decreases-loop-alloc : goal.decreases-loop-alloc
decreases-loop-alloc g l = sum l.tables.target - l.tables.degree
