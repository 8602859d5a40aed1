use Rattle.alb_sample.proofs.ValueLemmas.{sum-value, sum-vector}
use Rattle.alb_sample.proofs.values.Values.associators.Goals as goal

pub returns : goal.returns
returns c =
    let t = c.args.tables.now in
    let e = c.in_ok-add_scaled.ensures in
    sum-value t _ _ c.in_ok-sum.sum c.in_ok-second.second c.add_scaled.new.self c.in_ok-sum.ensures c.in_ok-second.ensures
    (sum-vector t _ c.in_ok-sum.sum c.in_ok-second.second c.add_scaled.new.self c.field.ensures c.in_ok-sum.ensures.row c.in_ok-second.ensures.row e.row e.residues e.columns)
    (rw c.field.ensures at e.vector)
