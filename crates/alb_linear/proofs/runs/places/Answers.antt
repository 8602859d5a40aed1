use Rattle.std.proofs.Common.{rules, ◌≡◌, ◌∙◌, arith}
use Rattle.alb_poly.specs.Consequence.{form}
use Rattle.alb_linear.specs.Runs.{AreExchangeable}
use Rattle.alb_linear.proofs.RunLemmas.{joined-more}
use Rattle.alb_linear.proofs.runs.places.Goals as goal

pub loop-k-preserved : goal.loop-k-preserved
loop-k-preserved c = record {
  positive = c.longer-runs.ensures.positive;
  whole = omega (arith, c.longer-runs.ensures.whole, c.loop-k.invariant.whole);
  joined = joined-more (AreExchangeable c.args.field.now (form c.args.f.now)) c.loop-k.k c.loop-k.runs.items c.longer-runs.result.items c.in_ok-joins.joins
      c.loop-k.invariant.whole c.longer-runs.ensures.joins c.in_ok-joins.ensures.later c.loop-k.invariant.joined;
}

pub returns : goal.returns
returns c =
    let e : c.loop-k.k ≡ c.args.f.now.degree = search rules in
    record {
      positive = c.loop-k.invariant.positive;
      whole = c.loop-k.invariant.whole ∙ e;
      joined = λ j l. c.loop-k.invariant.joined j (omega (arith, l, e));
    }
