use Rattle.std.proofs.Common.{◌-◌, sum}
use Rattle.std.specs.Arc.{arc_value}
use Rattle.alb_table.specs.RightTable.{rules_view}
use Rattle.alb_board.specs.Passes.{board_rules, IsPassOf, pass_view}
use Rattle.alb_builder.specs.Steps.{IsBuilding}
use Rattle.alb_builder.proofs.build.build_on_board.Given as goal

abbrev pub invariant-degrees : goal.invariant-degrees
invariant-degrees g l = record {
  own : IsPassOf l.board l.pass;
  building : IsBuilding (rules_view (board_rules l.board)) (arc_value l.tables) (pass_view l.fn.pass) (pass_view l.pass);
}

abbrev pub decreases-degrees : goal.decreases-degrees
decreases-degrees g l = sum (arc_value l.tables).target - (arc_value l.tables).degree
