use Rattle.std.proofs.Common.{◌≡◌, ◌+◌, Some}
use Rattle.alb_board.proofs.turn.enter.Given as goal

abbrev pub invariant-loop : goal.invariant-loop
invariant-loop g l = record { own : l.seat.table_id ≡ l.fn.seat.table_id; drawn : l.seat.me.0 ≡ record l.fn.seat.me.0 { ticket = Some l.ticket; calls = l.fn.seat.me.0.calls + 1 }; none_held : l.seat.me.1 ≡ l.fn.seat.me.1 }
