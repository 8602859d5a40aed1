use Rattle.std.proofs.Common.{◌≡◌, ◌<◌, [], length, get_or, map, arith, refl, ◌∙◌, sym}
use Rattle.std.proofs.lemmas.List.{get_or_read, length-map}
use Rattle.alb_reduce.specs.Echelon.{kept_rows}
use Rattle.alb_reduce.proofs.EchelonLemmas.{negative_cancels, over_read}
use Rattle.alb_reduce.proofs.LaneLemmas.{items_read}
use Rattle.alb_reduce.proofs.RecipeLemmas.{agrees_sum}
use Rattle.alb_reduce.proofs.SpreadLemmas.{off_entries, spread_off, vector_sum}
use Rattle.alb_reduce.proofs.steps.take_off.Goals as goal

pub add_multiple-requires-clause-long : goal.add_multiple-requires-clause-long
add_multiple-requires-clause-long c =
    let kept = c.args.kept.now in
    let laid = c.requires.held.laid in
    let l : c.args.place < length kept.lanes.items = omega (arith, c.requires.within, laid.long, length-map kept.lanes.items (λ v. v.items)) in
    let is : c.deref.result.now ≡ get_or (map (λ v. v.items) kept.lanes.items) c.args.place [] =
    items_read (λ v. v.items) kept.lanes.items c.args.place _ _ l c.deref.ensures.value c.index.ensures in
    rw is ((laid.each c.args.place c.requires.within).long ∙ sym c.requires.long)

pub add_multiple-requires-clause-by_in : goal.add_multiple-requires-clause-by_in
add_multiple-requires-clause-by_in c =
    let kept = c.args.kept.now in
    let laid = c.requires.held.laid in
    let l : c.args.place < length kept.lanes.items = omega (arith, c.requires.within, laid.long, length-map kept.lanes.items (λ v. v.items)) in
    let is : c.deref.result.now ≡ get_or (map (λ v. v.items) kept.lanes.items) c.args.place [] =
    items_read (λ v. v.items) kept.lanes.items c.args.place _ _ l c.deref.ensures.value c.index.ensures in
    rw is (laid.each c.args.place c.requires.within).residues

pub add_scaled-requires-clause-other_in : goal.add_scaled-requires-clause-other_in
add_scaled-requires-clause-other_in c =
    (over_read _ c.args.kept.now.recipes.items c.args.place _ c.requires.held.residues (omega (arith, c.requires.held.long, c.requires.within)) c.index-2.ensures).residues

pub returns-clause-spread : goal.returns-clause-spread
returns-clause-spread c row rest s =
    let kept = c.args.kept.now in
    let laid = c.requires.held.laid in
    let l : c.args.place < length kept.lanes.items = omega (arith, c.requires.within, laid.long, length-map kept.lanes.items (λ v. v.items)) in
    let is : c.deref.result.now ≡ get_or (map (λ v. v.items) kept.lanes.items) c.args.place [] =
    items_read (λ v. v.items) kept.lanes.items c.args.place _ _ l c.deref.ensures.value c.index.ensures in
    spread_off _ kept.live.items kept.slots.items kept.pivots.items (map (λ v. v.items) kept.lanes.items) row _ _ c.args.place c.args.x c.neg-factor.result rest
    c.requires.held.echelon laid c.requires.within (negative_cancels _ _ _ _ refl c.neg-factor.ensures.value) (rw is at c.add_multiple.ensures) s

pub returns-clause-agrees : goal.returns-clause-agrees
returns-clause-agrees c w u rest all by =
    let kept = c.args.kept.now in
    let laid = c.requires.held.laid in
    let l : c.args.place < length kept.lanes.items = omega (arith, c.requires.within, laid.long, length-map kept.lanes.items (λ v. v.items)) in
    let is : c.deref.result.now ≡ get_or (map (λ v. v.items) kept.lanes.items) c.args.place [] =
    items_read (λ v. v.items) kept.lanes.items c.args.place _ _ l c.deref.ensures.value c.index.ensures in
    let recipe : c.index-2.result.now ≡ get_or kept.recipes.items c.args.place [] =
    get_or_read kept.recipes.items c.args.place _ (omega (arith, c.requires.held.long, c.requires.within)) c.index-2.ensures [] in
    agrees_sum _ c.neg-factor.result w u _ (get_or (kept_rows kept) c.args.place []) _ _ _ _
    (vector_sum _ c.neg-factor.result _ (get_or (kept_rows kept) c.args.place []) _
    (λ j. off_entries _ kept.live.items kept.slots.items kept.pivots.items (map (λ v. v.items) kept.lanes.items) _ _ c.args.place c.args.x c.neg-factor.result rest j
    laid c.requires.within c.requires.long (negative_cancels _ _ _ _ refl c.neg-factor.ensures.value) (rw is at c.add_multiple.ensures)))
    c.in_ok-add_scaled.ensures.vector (rw recipe (all c.args.place)) by
