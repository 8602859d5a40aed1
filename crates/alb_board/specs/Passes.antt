-- What clauses say of a board and its passes.
use Rattle.std.specs.Prelude.{◌≡◌}
use Rattle.std.specs.Arc.{arc_value}
use Rattle.alb_poly.specs.declared.rules.Rules.{Rules}
use Rattle.alb_board.specs.declared.kept.PassView.{PassView}
use Rattle.alb_board.specs.declared.rule.Board.{Board}
use Rattle.alb_board.specs.declared.rule.Pass.{Pass}

-- the rules of a board
abbrev pub board_rules : Board → Rules
board_rules b = arc_value b.rules

-- what a pass knows
abbrev pub pass_view : Pass → PassView
pass_view p = p.seat.me.0

-- the pass is one of this board, and knows its rules
abbrev pub IsPassOf : Board → Pass → Type 0
IsPassOf b p = (p.seat.table_id ≡ b.table.shared.table_id) × (p.seat.me.0.rules ≡ board_rules b)
