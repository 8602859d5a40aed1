use Rattle.std.proofs.Common.{rules}
use Rattle.alb_board.proofs.Leaves.{shows_keeps}
use Rattle.alb_board.proofs.turn.show.Goals as goal

pub fetch_add-requires : goal.fetch_add-requires
fetch_add-requires c = let t = c.requires.turn.2 in (search rules, search rules, shows_keeps _ _ _ _ t.0 c.requires.turn.0 c.requires.turn.1 t.1 t.2 t.3)
