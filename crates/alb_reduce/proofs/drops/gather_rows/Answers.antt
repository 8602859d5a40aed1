use Rattle.std.proofs.Common.{◌≡◌, ◌<◌, [], length, get_or, map, arith, rules}
use Rattle.std.proofs.lemmas.List.{length-map, map-set}
use Rattle.alb_reduce.specs.Lanes.{gather}
use Rattle.alb_reduce.proofs.DropLemmas.{gathered-more}
use Rattle.alb_reduce.proofs.LaneLemmas.{items_read}
use Rattle.alb_reduce.proofs.drops.gather_rows.Goals as goal

pub loop-l-preserved : goal.loop-l-preserved
loop-l-preserved c =
    let l = c.loop-l.l in
    let lt : l < length c.args.rows.now.items = search rules in
    let rows = c.loop-l.rows.items in
    let lr : l < length rows = omega (arith, lt, c.loop-l.invariant.long, length-map rows (λ v. v.items), length-map c.args.rows.now.items (λ v. v.items)) in
    let is : c.deref.result.now ≡ get_or (map (λ v. v.items) rows) l [] = items_read (λ v. v.items) rows l c.index.result.now _ lr c.deref.ensures.value c.index.ensures in
    let gathered : c.in_ok-rows.field-0.items ≡ gather c.args.places.now (get_or (map (λ v. v.items) rows) l []) = rw is at c.in_ok-rows.ensures in
    rw (map-set (λ v. v.items) rows l c.in_ok-rows.field-0)
    (gathered-more c.args.places.now _ (map (λ v. v.items) rows) l _ c.loop-l.invariant (omega (arith, lr, length-map rows (λ v. v.items))) gathered)
