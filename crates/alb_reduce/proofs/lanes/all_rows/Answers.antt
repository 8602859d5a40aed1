use Rattle.std.proofs.Common.{◌≡◌, ◌∷◌, ℕ, List, [], length, get_or, map, arith, ap, subst, ◌∙◌}
use Rattle.std.proofs.lemmas.List.{take_all, length-map}
use Rattle.alb_rows.specs.Row.{IsRow}
use Rattle.alb_reduce.specs.Lanes.{lane_cells}
use Rattle.alb_reduce.proofs.LaneLemmas.{items_read, rows-length, rows-at, rows_more}
use Rattle.alb_reduce.proofs.lanes.all_rows.Goals as goal

-- the lanes that are read
lanes_are : (c : goal.After-deref) → c.deref.result.now ≡ get_or (map (λ v. v.items) c.args.lanes.now) c.loop-k.k []
lanes_are c =
    items_read (λ v. v.items) c.args.lanes.now c.loop-k.k _ _ (omega (arith, c.loop-k-test.true, c.requires.long)) c.deref.ensures.value c.index-lanes-k.is

long : (c : goal.After-deref) → length (map (λ v. v.items) c.args.lanes.now) ≡ length c.args.pivots.now
long c = length-map c.args.lanes.now (λ v. v.items) ∙ c.requires.long

pub row_of_pivot-requires-clause-long : goal.row_of_pivot-requires-clause-long
row_of_pivot-requires-clause-long c = rw (lanes_are c) (c.requires.width c.loop-k.k c.loop-k-test.true)

pub row_of_pivot-requires-clause-row : goal.row_of_pivot-requires-clause-row
row_of_pivot-requires-clause-row c =
    rw (lanes_are c)
    (subst IsRow (rows-at c.args.live.now c.args.pivots.now (map (λ v. v.items) c.args.lanes.now) c.loop-k.k (long c) c.loop-k-test.true)
    (c.requires.rows c.loop-k.k c.loop-k-test.true))

pub loop-k-preserved : goal.loop-k-preserved
loop-k-preserved c =
    rw c.in_ok-push.ensures.items
    (rows_more c.args.live.now c.args.pivots.now (map (λ v. v.items) c.args.lanes.now) c.loop-k.k _ _
    (length-map c.args.lanes.now (λ v. v.items) ∙ c.requires.long) c.loop-k-test.true c.loop-k.invariant
    (c.in_ok-row_of_pivot.ensures
    ∙ ap (λ (xs : List ℕ). (get_or c.args.pivots.now c.loop-k.k 0, 1) ∷ lane_cells c.args.live.now xs)
    (items_read (λ v. v.items) c.args.lanes.now c.loop-k.k _ _ (omega (arith, c.loop-k-test.true, c.requires.long)) c.deref.ensures.value c.index-lanes-k.is)))

pub returns : goal.returns
returns c =
    c.loop-k.invariant
    ∙ take_all c.loop-k.k _ (omega (
      arith,
      c.loop-k-test.false,
      c.requires.long,
      length-map c.args.lanes.now (λ v. v.items),
      rows-length c.args.live.now c.args.pivots.now (map (λ v. v.items) c.args.lanes.now) (length-map c.args.lanes.now (λ v. v.items) ∙ c.requires.long),
    ))
