use Rattle.std.proofs.Common.{◌≤◌, All, length}
use Rattle.alb_claims.specs.Passes.{IsPassOf, pass_view}
use Rattle.alb_pool.specs.Work.{IsAnswered}
use Rattle.alb_pool.proofs.claimed.claim_work.Given as goal

abbrev pub invariant-loop : goal.invariant-loop
invariant-loop g l = record {
  own : IsPassOf l.claims l.own.pass;
  drawn : length (pass_view l.own.pass).drawn ≤ l.counter;
  answers : All (IsAnswered l.degree) l.answers.items;
}
