use Rattle.std.proofs.Common.{◌≤◌, length, map, sum, arith}
use Rattle.std.proofs.lemmas.List.{length-map}
use Rattle.gf_field.proofs.Table.{IsPrime-from_table}
use Rattle.alb_poly.specs.Consequence.{form}
use Rattle.alb_problem.proofs.GeneratorLemmas.{length-counts}
use Rattle.alb_problem.proofs.BuilderLemmas.{kept-identities, forms-linearized, homogeneous-kept, same-linearizations}
use Rattle.alb_problem.specs.Builder.{with_degrees}
use Rattle.alb_problem.proofs.TextbookLemmas.{MatchesTextbook-linearizations}
use Rattle.alb_problem.proofs.builder.ProblemBuilder.finish.Goals as goal

pub returns-clause-accepted : goal.returns-clause-accepted
returns-clause-accepted c =
    let b = c.self.inside in
    let sound = c.self.invariant.0 in
    let many : length b.target ≤ sum b.target = length-counts b.target sound.generators.positive in
    record {
      prime = c.p.ensures.listed;
      large = omega (arith, c.p.ensures.value, c.degree.ensures, c.from.ensures, c.if-p-from.false);
      low = sound.generators.low;
      some = omega (arith, many, sound.generators.named, c.len.ensures, c.if-len-eq0.false);
      long = omega (arith, many, sound.generators.low);
      positive = sound.generators.positive;
      named = sound.generators.named;
      few = omega (arith, sound.few, length-map b.identities.items (λ f. f.poly));
      identities = c.self.invariant.1;
      kept = kept-identities b.field b.identities.items sound.kept;
      stand = c.self.invariant.2;
      linearized = forms-linearized b.field b.identities.items (map form b.linears.items) sound.kept c.self.invariant.2;
    }

pub returns-clause-homogeneous : goal.returns-clause-homogeneous
returns-clause-homogeneous c = homogeneous-kept c.self.inside.field c.self.inside.identities.items c.self.invariant.0.kept

pub returns-clause-stands : goal.returns-clause-stands
returns-clause-stands c =
    let b = c.self.inside in
    same-linearizations b.field b.identities.items (map form b.linears.items) c.self.invariant.2

pub returns-clause-textbook : goal.returns-clause-textbook
returns-clause-textbook c =
    let b = c.self.inside in
    MatchesTextbook-linearizations b.field b.target (map form b.linears.items) (map (λ f. with_degrees f.poly) b.identities.items)
    (IsPrime-from_table b.field c.p.ensures.listed)
    (omega (arith, c.p.ensures.value, c.degree.ensures, c.from.ensures, c.if-p-from.false))
    (homogeneous-kept b.field b.identities.items c.self.invariant.0.kept)
    (same-linearizations b.field b.identities.items (map form b.linears.items) c.self.invariant.2)
