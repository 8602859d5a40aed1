use Rattle.std.proofs.Common.{◌≡◌, List, map, take, All}
use Rattle.alb_mono.specs.Listing.{Each}
use Rattle.alb_mono.specs.Tree.{Tree}
use Rattle.alb_poly.specs.Poly.{Poly, IsSamePoly, normal}
use Rattle.alb_poly.specs.Consequence.{forms}
use Rattle.alb_deriv.specs.Derivation.{line_value, Sum}
use Rattle.alb_deriv.specs.Numbered.{IsFit, IsNumbered, read, said}
use Rattle.alb_deriv.specs.Tally.{tallied, IsTally}
use Rattle.alb_deriv.proofs.values.add_up.Given as goal

abbrev pub invariant-loop-c : goal.invariant-loop-c
invariant-loop-c l = record {
  value : (ts : List Tree) (gs : List Poly) → map (said l.rules.field ts) l.values ≡ map (normal l.rules.field) gs →
      IsSamePoly l.rules.field (read ts (tallied l.sum)) (line_value (forms l.rules) gs (Sum (take l.c-index l.items)));
  tally : IsTally l.rules.field l.sum;
  fit : (ts : List Tree) → All (λ f. IsNumbered l.rules.field l.rules.target ts f) l.values → Each (IsFit l.rules.target ts) l.sum.numbers.keys;
}
