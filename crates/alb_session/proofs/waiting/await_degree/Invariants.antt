use Rattle.std.proofs.Common.{◌≡◌, ◌-◌}
use Rattle.alb_board.specs.Passes.{board_rules, IsPassOf, pass_view}
use Rattle.alb_session.specs.View.{Waiting}
use Rattle.alb_table.specs.RightTable.{rules_view}
use Rattle.alb_session.proofs.waiting.await_degree.Given as goal

abbrev pub invariant-looks : goal.invariant-looks
invariant-looks g l = record { own : IsPassOf l.fn.board l.pass; waiting : Waiting (rules_view (board_rules l.fn.board)) l.fn.degree (pass_view l.fn.pass) (pass_view l.pass) }

abbrev pub decreases-looks : goal.decreases-looks
decreases-looks g l = 14 - (pass_view l.pass).known
