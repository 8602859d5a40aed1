use Rattle.std.proofs.Common.{rules}
use Rattle.alb_board.proofs.Splits.{copies_keeps}
use Rattle.alb_board.proofs.rule.Board.split.Goals as goal

pub split_seat-seat-requires : goal.split_seat-seat-requires
split_seat-seat-requires c = (search rules, search rules, copies_keeps _ _ _ c.requires.builder c.requires.room)
