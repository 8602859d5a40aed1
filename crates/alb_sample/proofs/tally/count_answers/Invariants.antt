use Rattle.std.proofs.Common.{◌≡◌, ◌≤◌}
use Rattle.alb_sample.specs.Sample.{state_at}
use Rattle.alb_sample.specs.Tally.{IsTally}
use Rattle.alb_sample.proofs.tally.count_answers.Given as goal

abbrev pub invariant-loop-k : goal.invariant-loop-k
invariant-loop-k l = record {
  tally : IsTally l.tables l.n l.k l.tally.zeros l.tally.non_zeros;
  state : l.draws ≡ state_at l.tables l.n l.k;
  zeros : l.tally.zeros ≤ l.k;
  non_zeros : l.tally.non_zeros ≤ l.k;
}
