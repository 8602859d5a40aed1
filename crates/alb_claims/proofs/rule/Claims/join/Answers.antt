use Rattle.std.proofs.Common.{rules, sym, subst}
use Rattle.alb_claims.proofs.Keeps.{joins_keeps, learns_keeps}
use Rattle.alb_claims.specs.Claimed.{M, EachAtMostOnce}
use Rattle.alb_claims.proofs.rule.Claims.join.Goals as goal

pub join_seat-requires : goal.join_seat-requires
join_seat-requires c = (search rules, search rules, search rules, search rules, joins_keeps _ _ _ _ c.requires.room)

pub load-requires : goal.load-requires
load-requires c = (search rules, search rules, learns_keeps _ _ _)

pub returns-clause-once : goal.returns-clause-once
returns-clause-once c = let t = c.load.ensures.2 in subst (λ (m : M). EachAtMostOnce m.0.drawn) (sym t.0) t.1
