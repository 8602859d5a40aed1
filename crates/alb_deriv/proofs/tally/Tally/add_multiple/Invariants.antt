use Rattle.std.proofs.Common.{◌++◌, ℕ, List, take, All}
use Rattle.gf_sums.specs.Sums.{scale}
use Rattle.alb_mono.specs.Listing.{Each}
use Rattle.alb_mono.specs.Tree.{Tree}
use Rattle.alb_deriv.specs.Numbered.{AreAlike, IsFit}
use Rattle.alb_deriv.specs.Tally.{tallied, IsTally}
use Rattle.alb_deriv.proofs.tally.Tally.add_multiple.Given as goal

abbrev pub invariant-loop-t : goal.invariant-loop-t
invariant-loop-t l = record {
  value : AreAlike l.field (tallied l.self) (tallied l.initial.self ++ scale l.c (take l.t-index l.list));
  tally : IsTally l.field l.self;
  fit : (target : List ℕ) (ts : List Tree) → Each (IsFit target ts) l.initial.self.numbers.keys → All (λ t. IsFit target ts t.1) l.list → Each (IsFit target ts) l.self.numbers.keys;
}
