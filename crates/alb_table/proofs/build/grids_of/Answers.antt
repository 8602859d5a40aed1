use Rattle.std.proofs.Common.{◌≡◌, ◌∙◌, sym, ap, refl, ◌+◌, ◌*◌, ◌<◌, ◌^◌, drop, map, arith, length, ◌∷◌}
use Rattle.std.proofs.lemmas.List.{drop_more}
use Rattle.alb_table.specs.Table.{dim_of, products_of}
use Rattle.alb_mono.specs.Tree.{splits}
use Rattle.alb_table.specs.Views.{view_of}
use Rattle.alb_table.proofs.PartLemmas.{grids_step, products_step}
use Rattle.alb_table.proofs.build.grids_of.Goals as goal
use Rattle.alb_table.proofs.build.grids_of.Goals.{In_ok-push}

pub loop-pair-preserved : goal.loop-pair-preserved
loop-pair-preserved c =
    let e : drop c.loop-pair.pair-index c.deref-pair-items.result.now ≡ c.pair-item.result ∷ drop (c.loop-pair.pair-index + 1) c.deref-pair-items.result.now =
    drop_more c.deref-pair-items.result.now c.loop-pair.pair-index c.pair-item.result c.loop-pair-test.true
    ∙ ap (λ a. a ∷ drop (c.loop-pair.pair-index + 1) c.deref-pair-items.result.now) (sym c.pair-item.is) in
    let l = c.range_of-left.ensures in let r = c.range_of-right.ensures in
    let j = rw (e, products_step (map view_of c.args.parts.now) c.pair-item.result (drop (c.loop-pair.pair-index + 1) c.deref-pair-items.result.now)) at c.loop-pair.invariant.1 in
    let m : c.range_of-left.result.1 * c.range_of-right.result.1 ≡ dim_of (map view_of c.args.parts.now) c.pair-item.result.0 * dim_of (map view_of c.args.parts.now) c.pair-item.result.1 =
    ap (λ n. n * c.range_of-right.result.1) l.count ∙ ap (λ n. dim_of (map view_of c.args.parts.now) c.pair-item.result.0 * n) r.count in (
      grids_step (map view_of c.args.parts.now) c.loop-pair.out.items _ _ c.pair-item.result _ c.loop-pair.offset _ _ _ _ _ (rw e at c.loop-pair.invariant.0)
          l.first l.count r.first r.count c.in_ok-push.ensures.items refl,
      omega (arith, j, m),
    )

-- the offset after this rectangle
fits : (c : In_ok-push) → c.loop-pair.offset + c.range_of-left.result.1 * c.range_of-right.result.1 < 2 ^ 32
fits c =
    let p : c.deref-pair-items.result.now ≡ splits c.args.t.now = c.deref-pair-items.ensures.value ∙ c.in_ok-pairs.ensures in
    let t : length (products_of (map view_of c.args.parts.now) c.deref-pair-items.result.now) ≡ length (products_of (map view_of c.args.parts.now) (splits c.args.t.now)) =
    ap (λ ss. length (products_of (map view_of c.args.parts.now) ss)) p in
    let e : drop c.loop-pair.pair-index c.deref-pair-items.result.now ≡ c.pair-item.result ∷ drop (c.loop-pair.pair-index + 1) c.deref-pair-items.result.now =
    drop_more c.deref-pair-items.result.now c.loop-pair.pair-index c.pair-item.result c.loop-pair-test.true
    ∙ ap (λ a. a ∷ drop (c.loop-pair.pair-index + 1) c.deref-pair-items.result.now) (sym c.pair-item.is) in
    let l = c.range_of-left.ensures in let r = c.range_of-right.ensures in
    let j = rw (e, products_step (map view_of c.args.parts.now) c.pair-item.result (drop (c.loop-pair.pair-index + 1) c.deref-pair-items.result.now)) at c.loop-pair.invariant.1 in
    let m : c.range_of-left.result.1 * c.range_of-right.result.1 ≡ dim_of (map view_of c.args.parts.now) c.pair-item.result.0 * dim_of (map view_of c.args.parts.now) c.pair-item.result.1 =
    ap (λ n. n * c.range_of-right.result.1) l.count ∙ ap (λ n. dim_of (map view_of c.args.parts.now) c.pair-item.result.0 * n) r.count in
    omega (arith, j, m, t, c.requires.small)

pub overflow_mul-offset : goal.overflow_mul-offset
overflow_mul-offset c = let f = fits c in omega (arith, f)

pub overflow_add-offset : goal.overflow_add-offset
overflow_add-offset c = let f = fits c in omega (arith, f)
