use Rattle.std.proofs.Common.{rules}
use Rattle.alb_claims.proofs.Keeps.{splits_keeps}
use Rattle.alb_claims.proofs.rule.Claims.split.Goals as goal

pub split_seat-seat-requires : goal.split_seat-seat-requires
split_seat-seat-requires c = (search rules, search rules, splits_keeps _ _ c.requires.opener c.requires.room)
