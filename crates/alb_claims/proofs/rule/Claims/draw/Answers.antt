use Rattle.std.proofs.Common.{rules}
use Rattle.alb_claims.proofs.Keeps.{draws_keeps}
use Rattle.alb_claims.proofs.rule.Claims.draw.Goals as goal

pub fetch_add-number-requires : goal.fetch_add-number-requires
fetch_add-number-requires c = (search rules, search rules, draws_keeps _ _ _ c.requires.room)
