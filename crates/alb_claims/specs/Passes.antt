-- What clauses say of claims and their passes.
use Rattle.std.specs.Prelude.{◌≡◌}
use Rattle.alb_claims.specs.declared.rule.Claim.{Claim}
use Rattle.alb_claims.specs.declared.rule.Claims.{Claims}
use Rattle.alb_claims.specs.declared.rule.ClaimPass.{ClaimPass}

-- what a pass knows
abbrev pub pass_view : ClaimPass → Claim
pass_view p = p.seat.me.0

-- the pass is one of these claims
abbrev pub IsPassOf : Claims → ClaimPass → Type 0
IsPassOf c p = p.seat.table_id ≡ c.table.shared.table_id
