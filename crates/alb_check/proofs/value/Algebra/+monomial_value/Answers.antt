use Rattle.std.proofs.lemmas.Result.{IfOk-weaker}
use Rattle.alb_mono.specs.Tree.{tree}
use Rattle.alb_rows.specs.Row.{comb}
use Rattle.alb_check.specs.Products.{vectors}
use Rattle.alb_check.proofs.ValueLemmas.{value_of_product}
use Rattle.alb_check.proofs.value.Algebra.+monomial_value.Goals as goal

pub returns-in_ok-right-in-Prod-clause-value : goal.returns-in_ok-right-in-Prod-clause-value
returns-in_ok-right-in-Prod-clause-value t c =
    rw c.in-Prod.is
    (IfOk-weaker c.product_of.result _ _
    (λ r d. value_of_product c.args.self.now.field.now c.args.self.now.products.now (vectors c.args.rows.now) (tree c.in-Prod.left.value) (tree c.in-Prod.right.value) _ _ (comb r) (rw c.deref.ensures at c.in_ok-left-in-Prod.ensures.value) (rw c.deref-in-Prod.ensures at c.in_ok-right-in-Prod.ensures.value) d)
    c.product_of.ensures.value)
