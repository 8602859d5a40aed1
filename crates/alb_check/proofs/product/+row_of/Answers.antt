use Rattle.std.proofs.Common.{◌/◌, length}
use Rattle.alb_rows.specs.Row.{comb}
use Rattle.alb_check.proofs.RunLemmas.{halves}
use Rattle.alb_check.proofs.product.+row_of.Goals as goal

pub returns-in_ok-add_scaled-in_default-clause-value : goal.returns-in_ok-add_scaled-in_default-clause-value
returns-in_ok-add_scaled-in_default-clause-value t c =
    halves c.args.field.now c.args.entries.now (length c.args.entries.now / 2) (comb c.in_ok-row-in_default.row) (comb c.in_ok-more-in_default.more) (comb c.add_scaled.new.self)
    (rw c.split_at.ensures.front at c.in_ok-row-in_default.ensures.value) (rw c.split_at.ensures.back at c.in_ok-more-in_default.ensures.value) c.in_ok-add_scaled-in_default.ensures.vector
