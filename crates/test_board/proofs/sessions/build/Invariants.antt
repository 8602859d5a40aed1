use Rattle.std.proofs.Common.{◌-◌}
use Rattle.std.specs.Arc.{arc_value}
use Rattle.test_board.specs.Ready.{IsBuilder}
use Rattle.test_board.proofs.sessions.build.Given as goal

abbrev pub invariant-loop-alloc : goal.invariant-loop-alloc
invariant-loop-alloc g l = IsBuilder l.board l.pass (arc_value l.tables)

-- a total degree is at most 12
abbrev pub decreases-loop-alloc : goal.decreases-loop-alloc
decreases-loop-alloc g l = 12 - (arc_value l.tables).degree
