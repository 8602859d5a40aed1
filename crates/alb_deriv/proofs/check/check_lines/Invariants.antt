use Rattle.std.proofs.Common.{◌≡◌, All, [], map, take, drop}
use Rattle.alb_poly.specs.Poly.{normal}
use Rattle.alb_poly.specs.Consequence.{forms}
use Rattle.alb_deriv.specs.Derivation.{line_values, first_fault}
use Rattle.alb_deriv.specs.Numbered.{IsNumbered, said}
use Rattle.alb_deriv.specs.Views.{line}
use Rattle.alb_deriv.proofs.check.check_lines.Given as goal

abbrev pub invariant-loop-k : goal.invariant-loop-k
invariant-loop-k l = record {
  value : map (said l.rules.field l.numbers) l.values.items ≡ map (normal l.rules.field) (line_values (forms l.rules) [] (map line (take l.k l.lines)));
  found : first_fault l.rules.field l.rules.target (forms l.rules) (line_values (forms l.rules) [] (map line (take l.k l.lines))) (map line (drop l.k l.lines))
      ≡ first_fault l.rules.field l.rules.target (forms l.rules) [] (map line l.lines);
  numbered : All (λ f. IsNumbered l.rules.field l.rules.target l.numbers f) l.values.items;
}
