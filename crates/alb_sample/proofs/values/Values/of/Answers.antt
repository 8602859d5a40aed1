use Rattle.std.proofs.Common.{ℕ, ◌<◌, [], get_or, sym, subst}
use Rattle.alb_sample.specs.Choice.{argument}
use Rattle.alb_sample.specs.Values.{IsMonoValue}
use Rattle.alb_sample.proofs.values.Values.of.Goals as goal

pub product_values-requires-clause-values : goal.product_values-requires-clause-values
product_values-requires-clause-values c =
    subst (λ xs. (i : ℕ) → i < 3 → IsMonoValue c.args.tables.now (argument i) (get_or xs i [])) (sym c.deref.ensures.value) c.in_ok-arguments.ensures.values
