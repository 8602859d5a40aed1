use Rattle.std.proofs.Common.{◌≡◌, ◌≢◌, ◌<◌, ◌*◌, ◌%◌, ◌++◌, ◌∷◌, ℕ, [], length, get_or, map, arith, refl, subst, sym, ◌∙◌, ap}
use Rattle.std.proofs.Math.Nat.{mod-eq_of_lt}
use Rattle.std.proofs.lemmas.List.{get_or_read, length-map, map_push, length_push}
use Rattle.std.proofs.lemmas.List.Elements.{All-push}
use Rattle.alb_rows.specs.Row.{Cells, IsRowOver}
use Rattle.alb_reduce.specs.declared.kept.Kept.{Kept}
use Rattle.alb_reduce.specs.Lanes.{lane_cells, lane_rows, AreLanesCleared}
use Rattle.alb_reduce.specs.Echelon.{kept_rows, IsSpread, RecipesFollow}
use Rattle.alb_reduce.proofs.PlaceLemmas.{index_push}
use Rattle.alb_reduce.proofs.PivotLemmas.{IsPivotStep, step_fresh}
use Rattle.alb_reduce.proofs.KeepLemmas.{IsKeptStep, kept_held, kept_keeps}
use Rattle.alb_reduce.proofs.steps.add_pivot.Goals as goal

step : (c : goal.In_ok-push-3) (row : Cells) → IsSpread c.args.field.now c.args.kept.now.live.items c.args.kept.now.pivots.items (kept_rows c.args.kept.now) row c.args.lanes.now.items []
    → IsPivotStep c.args.field.now c.inv-factor.result c.args.lane c.args.kept.now.live.items c.args.kept.now.slots.items c.args.kept.now.pivots.items
    (map (λ v. v.items) c.args.kept.now.lanes.items) (map (λ v. v.items) c.clear_lanes.new.rows.items) c.args.lanes.now.items c.multiply.new.lanes.items row
step c row s =
    let read : c.index.result.now ≡ get_or c.args.lanes.now.items c.args.lane 0 =
    get_or_read c.args.lanes.now.items c.args.lane _ c.requires.lane_is.within c.index.ensures 0 in
    record {
      echelon = c.requires.held.echelon;
      laid = c.requires.held.laid;
      spread = s;
      first = c.requires.lane_is;
      small = c.requires.lane_in;
      times = c.multiply.ensures;
      inverse = ap (λ n. (n * c.inv-factor.result) % c.args.field.now) (sym read) ∙ c.inv-factor.ensures.value.same ∙ mod-eq_of_lt c.requires.held.echelon.above;
      cleared =
          subst (λ (n : ℕ). AreLanesCleared c.args.field.now c.args.lane c.multiply.new.lanes.items (map (λ v. v.items) c.args.kept.now.lanes.items)
          (map (λ v. v.items) c.clear_lanes.new.rows.items) n)
          (sym (length-map c.args.kept.now.lanes.items (λ v. v.items))) (rw c.deref.ensures.value at c.in_ok-clear_lanes.ensures.rows);
    }

abbrev new_kept : goal.In_ok-push-3 → Kept
new_kept c = record {
  pivots = c.push-3.new.self;
  live = c.args.kept.now.live;
  slots = c.args.kept.now.slots;
  lanes = c.push.new.self;
  recipes = c.push-2.new.self;
  places = c.put_place.new.places;
}

follow : (c : goal.In_ok-push-3) (row : Cells) → IsSpread c.args.field.now c.args.kept.now.live.items c.args.kept.now.pivots.items (kept_rows c.args.kept.now) row c.args.lanes.now.items []
    → RecipesFollow c.args.field.now c.scale.new.self (lane_cells c.args.kept.now.live.items c.multiply.new.lanes.items) c.args.kept.now.recipes.items (kept_rows c.args.kept.now)
    c.clear_lanes.new.recipes.items (lane_rows c.args.kept.now.live.items c.args.kept.now.pivots.items (map (λ v. v.items) c.clear_lanes.new.rows.items))
follow c row s =
    let kept = c.args.kept.now in
    let by_long : length c.multiply.new.lanes.items ≡ length kept.live.items = c.multiply.ensures.long ∙ c.requires.long in
    rw c.deref.ensures.value at
    c.in_ok-clear_lanes.ensures.recipes kept.live.items kept.pivots.items (sym by_long)
    (omega (arith, c.requires.held.laid.long, length-map kept.lanes.items (λ v. v.items)))

column_is : (c : goal.In_ok-push-3) → c.index-column.result.now ≡ get_or c.args.kept.now.live.items c.args.lane 0
column_is c = get_or_read c.args.kept.now.live.items c.args.lane _ (omega (arith, c.requires.lane_is.within, c.requires.long)) c.index-column.ensures 0

kept_step : (c : goal.In_ok-push-3) (row : Cells) → IsSpread c.args.field.now c.args.kept.now.live.items c.args.kept.now.pivots.items (kept_rows c.args.kept.now) row c.args.lanes.now.items []
    → IsKeptStep c.args.field.now c.inv-factor.result c.args.lane c.args.kept.now (new_kept c) (map (λ v. v.items) c.clear_lanes.new.rows.items)
    c.args.lanes.now.items c.multiply.new.lanes.items row
kept_step c row s =
    let kept = c.args.kept.now in
    record {
      step = step c row s;
      live = refl;
      slots = refl;
      pivots = c.in_ok-push-3.ensures.items ∙ ap (λ (n : ℕ). kept.pivots.items ++ n ∷ []) (column_is c);
      lanes =
          rw c.in_ok-push.ensures.items
          (map_push (λ v. v.items) c.clear_lanes.new.rows.items c.replace.result
          ∙ ap (λ v. map (λ v. v.items) c.clear_lanes.new.rows.items ++ v.items ∷ []) c.replace.ensures.value);
      long =
          rw (c.in_ok-push-2.ensures.items, c.in_ok-push-3.ensures.items)
          (omega (
            arith,
            length_push c.clear_lanes.new.recipes.items c.scale.new.self,
            length_push kept.pivots.items c.index-column.result.now,
            (follow c row s).long,
            c.requires.held.long,
          ));
      residues =
          rw c.in_ok-push-2.ensures.items
          (All-push (IsRowOver c.args.field.now) _ _ (follow c row s).residues (record { row = c.scale.ensures.row; residues = c.scale.ensures.residues }));
    }

pub returns-clause-held : goal.returns-clause-held
returns-clause-held c row s =
    let kept = c.args.kept.now in
    let fresh : (k : ℕ) → k < length kept.pivots.items → get_or kept.pivots.items k 0 ≢ c.index-column.result.now =
    rw (column_is c) (step_fresh _ _ _ _ _ _ _ _ _ _ row (step c row s)) in
    kept_held _ _ _ kept (new_kept c) _ _ _ row (kept_step c row s)
    (rw c.in_ok-push-3.ensures.items
    (index_push kept.pivots.items kept.places.items c.put_place.new.places.items c.index-column.result.now c.requires.held.index fresh
    (rw (c.len.ensures, kept.pivots.ok.0) at c.in_ok-put_place.ensures)))

pub returns-clause-keeps : goal.returns-clause-keeps
returns-clause-keeps c row first s agrees =
    kept_keeps _ _ _ c.args.kept.now (new_kept c) _ _ _ row first c.args.recipe c.scale.new.self c.clear_lanes.new.recipes.items (kept_step c row s)
    c.in_ok-push-2.ensures.items
    (omega (arith, (follow c row s).long, c.requires.held.long, c.requires.held.laid.long, (step c row s).cleared.long))
    c.scale.ensures.vector (follow c row s) agrees
