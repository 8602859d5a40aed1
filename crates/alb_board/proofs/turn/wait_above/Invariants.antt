use Rattle.std.proofs.Common.{◌≡◌, ◌≤◌}
use Rattle.alb_board.proofs.turn.wait_above.Given as goal

abbrev pub invariant-loop : goal.invariant-loop
invariant-loop g l = record { own : l.seat.table_id ≡ l.fn.seat.table_id; known : l.seat.me ≡ (record l.fn.seat.me.0 { known = l.seat.me.0.known }, l.fn.seat.me.1); more : l.fn.seat.me.0.known ≤ l.seat.me.0.known }
