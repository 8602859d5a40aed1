use Rattle.std.proofs.Common.{refl}
use Rattle.alb_mono.specs.Tree.{node}
use Rattle.alb_sample.specs.Choice.{argument}
use Rattle.alb_sample.specs.Values.{IsMonoValue}
use Rattle.alb_sample.proofs.ValueLemmas.{argument-row, product-row, mono-product, associator-value, sum-vector}
use Rattle.alb_sample.proofs.values.Values.associator.Goals as goal

pub multiply-requires-clause-left_row : goal.multiply-requires-clause-left_row
multiply-requires-clause-left_row c =
    (product-row c.args.tables.now c.args.self.now c.requires.values c.args.l c.args.m _ c.index.result.now c.requires.left c.requires.middle refl c.index.ensures).row

pub multiply-requires-clause-right_row : goal.multiply-requires-clause-right_row
multiply-requires-clause-right_row c = (argument-row c.args.tables.now c.args.self.now c.requires.values c.args.r c.index-2.result.now c.requires.last c.index-2.ensures).row

pub multiply-requires-2-clause-left_row : goal.multiply-requires-2-clause-left_row
multiply-requires-2-clause-left_row c = (argument-row c.args.tables.now c.args.self.now c.requires.values c.args.l c.index-3.result.now c.requires.left c.index-3.ensures).row

pub multiply-requires-2-clause-right_row : goal.multiply-requires-2-clause-right_row
multiply-requires-2-clause-right_row c =
    (product-row c.args.tables.now c.args.self.now c.requires.values c.args.m c.args.r _ c.index-4.result.now c.requires.middle c.requires.last refl c.index-4.ensures).row

pub returns : goal.returns
returns c =
    let t = c.args.tables.now in
    let x : IsMonoValue t (node (node (argument c.args.l) (argument c.args.m)) (argument c.args.r)) c.in_ok-sum.sum =
    mono-product t (node (argument c.args.l) (argument c.args.m)) (argument c.args.r) c.index.result.now c.index-2.result.now c.in_ok-sum.sum
    (product-row t c.args.self.now c.requires.values c.args.l c.args.m _ c.index.result.now c.requires.left c.requires.middle refl c.index.ensures)
    (argument-row t c.args.self.now c.requires.values c.args.r c.index-2.result.now c.requires.last c.index-2.ensures) c.in_ok-sum.ensures.row c.in_ok-sum.ensures.value in
    let y : IsMonoValue t (node (argument c.args.l) (node (argument c.args.m) (argument c.args.r))) c.in_ok-other.other =
    mono-product t (argument c.args.l) (node (argument c.args.m) (argument c.args.r)) c.index-3.result.now c.index-4.result.now c.in_ok-other.other
    (argument-row t c.args.self.now c.requires.values c.args.l c.index-3.result.now c.requires.left c.index-3.ensures)
    (product-row t c.args.self.now c.requires.values c.args.m c.args.r _ c.index-4.result.now c.requires.middle c.requires.last refl c.index-4.ensures) c.in_ok-other.ensures.row c.in_ok-other.ensures.value in
    let e = c.in_ok-add_scaled.ensures in
    associator-value t (argument c.args.l) (argument c.args.m) (argument c.args.r) c.in_ok-sum.sum c.in_ok-other.other c.add_scaled.new.self x y
    (sum-vector t _ c.in_ok-sum.sum c.in_ok-other.other c.add_scaled.new.self c.field.ensures x.row y.row e.row e.residues e.columns)
    (rw c.field.ensures at e.vector)
