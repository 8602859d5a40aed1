use Rattle.std.proofs.Common.{◌≡◌, ◌≤◌, None}
use Rattle.alb_board.specs.Passes.{IsPassOf, pass_view}
use Rattle.test_board.proofs.sessions.listen.Given as goal

abbrev pub invariant-loop : goal.invariant-loop
invariant-loop g l = record { own : IsPassOf l.board l.pass; unended : (pass_view l.pass).end ≡ None; few : (pass_view l.pass).calls ≤ l.counter }
