use Rattle.std.proofs.Common.{◌<◌, ◌/◌, ◌%◌, arith}
use Rattle.alb_sample.specs.Choice.{argument}
use Rattle.alb_sample.proofs.ValueLemmas.{listed-row, mono-product, products-more, products-length}
use Rattle.alb_sample.proofs.values.product_values.Goals as goal

pub multiply-requires-clause-left_row : goal.multiply-requires-clause-left_row
multiply-requires-clause-left_row c =
    let l : c.loop-k.k / 3 < 3 = let h = c.loop-k-test.true in omega (arith, h) in
    (listed-row c.args.tables.now c.args.values.now c.requires.full c.requires.values (c.loop-k.k / 3) c.index-values-k.result l c.index-values-k.is).row

pub multiply-requires-clause-right_row : goal.multiply-requires-clause-right_row
multiply-requires-clause-right_row c =
    let l : c.loop-k.k % 3 < 3 = omega arith in
    (listed-row c.args.tables.now c.args.values.now c.requires.full c.requires.values (c.loop-k.k % 3) c.index-values-k-in-loop-k.result l c.index-values-k-in-loop-k.is).row

pub loop-k-preserved : goal.loop-k-preserved
loop-k-preserved c =
    let t = c.args.tables.now in
    let k = c.loop-k.k in
    let l : k / 3 < 3 = let h = c.loop-k-test.true in omega (arith, h) in
    let r : k % 3 < 3 = omega arith in
    let x = listed-row t c.args.values.now c.requires.full c.requires.values (k / 3) c.index-values-k.result l c.index-values-k.is in
    let y = listed-row t c.args.values.now c.requires.full c.requires.values (k % 3) c.index-values-k-in-loop-k.result r c.index-values-k-in-loop-k.is in
    let z = mono-product t (argument (k / 3)) (argument (k % 3)) c.index-values-k.result c.index-values-k-in-loop-k.result c.in_ok-product.product x y c.in_ok-product.ensures.row c.in_ok-product.ensures.value in
    record {
      full = products-length c.loop-k.list.items c.push.new.self.items k c.in_ok-product.product c.loop-k.invariant.full c.in_ok-push.ensures.items;
      products = products-more t k c.loop-k.list.items c.push.new.self.items c.in_ok-product.product c.loop-k.invariant.full c.in_ok-push.ensures.items c.loop-k.invariant.products z;
    }

pub returns-clause-products : goal.returns-clause-products
returns-clause-products c k l = c.loop-k.invariant.products k (let f = c.loop-k-test.false in omega (arith, l, f))
