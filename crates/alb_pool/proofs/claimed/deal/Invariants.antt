use Rattle.std.proofs.Common.{◌≡◌, All, true, []}
use Rattle.alb_claims.specs.Claimed.{claim}
use Rattle.alb_claims.specs.Passes.{IsPassOf, pass_view}
use Rattle.alb_pool.specs.Ready.{IsReady}
use Rattle.alb_pool.proofs.claimed.deal.Given as goal

abbrev pub invariant-loop-worker : goal.invariant-loop-worker
invariant-loop-worker l = record {
  own : IsPassOf l.claims l.first;
  opener : pass_view l.first ≡ claim [] true l.worker;
  ready : All (IsReady l.claims) l.jobs.items;
}
