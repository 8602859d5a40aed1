use Rattle.std.proofs.Common.{rules}
use Rattle.alb_board.proofs.Leaves.{leaves_keeps}
use Rattle.alb_board.proofs.turn.leave.Goals as goal

pub fetch_add-requires : goal.fetch_add-requires
fetch_add-requires c = let t = c.requires.turn.1 in (search rules, search rules, leaves_keeps _ _ _ _ t.0 c.requires.turn.0 t.1 t.2 t.3)
