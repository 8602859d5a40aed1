-- What a worker begins with. Contracts of private functions alone speak of it.
use Rattle.std.specs.Prelude.{◌≡◌, []}
use Rattle.alb_claims.specs.declared.rule.Claims.{Claims}
use Rattle.alb_claims.specs.Passes.{IsPassOf, pass_view}
use Rattle.alb_pool.specs.declared.claimed.Job.{Job}

-- the pass of a job is one of these claims, and has drawn nothing
pub record IsReady (claims : Claims) (job : Job) : Type 0 where
  pub own : IsPassOf claims job.pass
  pub fresh : (pass_view job.pass).drawn ≡ []
