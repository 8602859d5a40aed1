use Rattle.std.proofs.Common.{◌≡◌, ◌<◌, [], length, get_or, map, arith, refl, rules, sym, ◌∙◌}
use Rattle.std.proofs.lemmas.List.{length-map, map-set, length-set}
use Rattle.std.proofs.lemmas.List.Elements.{All-set}
use Rattle.alb_rows.specs.Row.{IsRowOver}
use Rattle.alb_reduce.proofs.EchelonLemmas.{over_read}
use Rattle.alb_reduce.proofs.LaneLemmas.{items_read}
use Rattle.alb_reduce.proofs.PivotLemmas.{cleared_more, follow_lanes}
use Rattle.alb_reduce.proofs.steps.clear_lanes.Goals as goal

pub clear_lane-requires-clause-long : goal.clear_lane-requires-clause-long
clear_lane-requires-clause-long c =
    let k = c.loop-k.k in
    let lt : k < length c.args.rows.now.items = search rules in
    let rows = c.loop-k.rows.items in
    let l : k < length rows = omega (arith, lt, c.loop-k.invariant.rows.long, length-map rows (λ v. v.items), length-map c.args.rows.now.items (λ v. v.items)) in
    let is : c.index_mut.result.now.items ≡ get_or (map (λ v. v.items) c.args.rows.now.items) k [] =
    items_read (λ v. v.items) rows k c.index_mut.result.now _ l refl c.index_mut.ensures.value ∙ c.loop-k.invariant.rows.rest k (omega arith) in
    rw is (sym (c.requires.width k lt))

pub clear_lane-requires-clause-lanes_in : goal.clear_lane-requires-clause-lanes_in
clear_lane-requires-clause-lanes_in c =
    let k = c.loop-k.k in
    let lt : k < length c.args.rows.now.items = search rules in
    let rows = c.loop-k.rows.items in
    let l : k < length rows = omega (arith, lt, c.loop-k.invariant.rows.long, length-map rows (λ v. v.items), length-map c.args.rows.now.items (λ v. v.items)) in
    let is : c.index_mut.result.now.items ≡ get_or (map (λ v. v.items) c.args.rows.now.items) k [] =
    items_read (λ v. v.items) rows k c.index_mut.result.now _ l refl c.index_mut.ensures.value ∙ c.loop-k.invariant.rows.rest k (omega arith) in
    rw is (c.requires.rows_in k lt)

pub clear_lane-requires-clause-recipe_in : goal.clear_lane-requires-clause-recipe_in
clear_lane-requires-clause-recipe_in c =
    let lt : c.loop-k.k < length c.args.rows.now.items = search rules in
    over_read _ c.loop-k.recipes.items c.loop-k.k _ c.loop-k.invariant.residues (omega (arith, lt, c.loop-k.invariant.long, c.requires.long))
    c.index_mut-in-loop-k.ensures.value

pub loop-k-preserved : goal.loop-k-preserved
loop-k-preserved c =
    let k = c.loop-k.k in
    let lt : k < length c.args.rows.now.items = search rules in
    let rows = c.loop-k.rows.items in
    let l : k < length rows = omega (arith, lt, c.loop-k.invariant.rows.long, length-map rows (λ v. v.items), length-map c.args.rows.now.items (λ v. v.items)) in
    let lq : k < length c.loop-k.recipes.items = omega (arith, lt, c.loop-k.invariant.long, c.requires.long) in
    let is : c.index_mut.result.now.items ≡ get_or (map (λ v. v.items) rows) k [] = items_read (λ v. v.items) rows k c.index_mut.result.now _ l refl c.index_mut.ensures.value in
    let width : length c.index_mut.result.now.items ≡ length c.args.by.now.lanes.now = rw (is ∙ c.loop-k.invariant.rows.rest k (omega arith)) (c.requires.width k lt) in
    record {
      rows =
          rw (map-set (λ v. v.items) rows k c.clear_lane.new.lanes)
          (cleared_more _ _ _ _ (map (λ v. v.items) rows) k _ c.loop-k.invariant.rows (omega (arith, length-map rows (λ v. v.items))) (rw is at c.in_ok-clear_lane.ensures.cleared));
      long = length-set c.loop-k.recipes.items k c.clear_lane.new.recipe ∙ c.loop-k.invariant.long;
      residues = All-set (IsRowOver c.args.field.now) c.loop-k.recipes.items k c.clear_lane.new.recipe c.in_ok-clear_lane.ensures.recipe_residues c.loop-k.invariant.residues;
      recipes = λ live pivots ll lp.
          rw (map-set (λ v. v.items) rows k c.clear_lane.new.lanes)
          (follow_lanes _ _ _ _ _ c.loop-k.recipes.items live pivots (map (λ v. v.items) rows) k _ _ c.index_mut.result.now.items _
          (omega (arith, lp, c.loop-k.invariant.rows.long, length-map c.args.rows.now.items (λ v. v.items))) (omega (arith, lp, lt)) lq
          c.index_mut-in-loop-k.ensures.value is c.in_ok-clear_lane.ensures.recipe_residues (c.loop-k.invariant.recipes live pivots ll lp)
          (λ w u by old. c.in_ok-clear_lane.ensures.agrees w u live (get_or pivots k 0) (omega (arith, ll, width)) by old));
    }
