use Rattle.std.proofs.Common.{rules}
use Rattle.alb_board.proofs.Draws.{counts_in_turn_keeps}
use Rattle.alb_board.proofs.turn.count_in_turn.Goals as goal

pub load-requires : goal.load-requires
load-requires c = (search rules, search rules, counts_in_turn_keeps _ _ _ _ c.requires.turn)
