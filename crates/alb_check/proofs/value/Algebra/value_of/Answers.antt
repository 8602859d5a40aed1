use Rattle.std.proofs.Common.{◌<◌, length}
use Rattle.std.specs.Prelude.{IsTrue}
use Rattle.alb_mono.specs.Tree.{are_below}
use Rattle.alb_rows.specs.Row.{comb}
use Rattle.alb_check.proofs.ValueLemmas.{polynomial_more, term_at}
use Rattle.alb_check.specs.Products.{vectors}
use Rattle.alb_check.proofs.value.Algebra.value_of.Goals as goal

pub monomial_value-requires-clause-known : goal.monomial_value-requires-clause-known
monomial_value-requires-clause-known c =
    term_at (λ t. IsTrue (are_below (length c.args.rows.now) t.1)) c.terms-t-items.result.now c.args.f.now c.loop-t.t-index c.t-item.result
    c.terms-t-items.ensures.value c.requires.known c.loop-t-test.true c.t-item.is

pub add_scaled-requires-clause-c_in : goal.add_scaled-requires-clause-c_in
add_scaled-requires-clause-c_in c =
    term_at (λ t. t.0 < c.args.self.now.field.now) c.terms-t-items.result.now c.args.f.now c.loop-t.t-index c.t-item.result
    c.terms-t-items.ensures.value c.requires.coefficients c.loop-t-test.true c.t-item.is

pub loop-t-preserved : goal.loop-t-preserved
loop-t-preserved c = record {
  residues = c.in_ok-add_scaled.ensures.residues;
  value = polynomial_more c.args.self.now.field.now c.args.self.now.products.now (vectors c.args.rows.now) c.terms-t-items.result.now c.loop-t.t-index c.t-item.result
      (comb c.loop-t.sum) (comb c.add_scaled.new.self) (comb c.in_ok-value.value) c.loop-t-test.true c.t-item.is c.loop-t.invariant.value c.in_ok-value.ensures.value
      c.in_ok-add_scaled.ensures.vector;
}
