use Rattle.std.proofs.Common.{◌≡◌, ◌<◌, length, arith, refl, rules, subst, sym, ◌∙◌}
use Rattle.std.proofs.lemmas.List.{length-map}
use Rattle.alb_rows.specs.Span.{Ascending}
use Rattle.alb_reduce.specs.declared.kept.Kept.{Kept}
use Rattle.alb_reduce.specs.Lanes.{gather}
use Rattle.alb_reduce.proofs.DropLemmas.{gather-ascending, IsDrop, drop-covers, drop-ready, drop-same}
use Rattle.alb_reduce.proofs.drops.drop_lanes.Goals as goal
use Rattle.alb_reduce.proofs.drops.drop_lanes.Goals.{After-drop-places-2}

pub gather_rows-requires : goal.gather_rows-requires
gather_rows-requires c l k ll lk =
    let h = c.requires.held.1 in
    let free = rw c.deref.ensures.value at c.in_ok-places.ensures c.args.kept.now.pivots.items (rw c.deref-2.ensures.value h.index) in
    let lp : l < length c.args.kept.now.pivots.items = omega (arith, ll, h.laid.long, length-map c.args.kept.now.lanes.items (λ v. v.items)) in
    rw c.deref-3.ensures.value (omega (arith, free.below k (rw c.deref-3.ensures.value at lk), (h.laid.each l lp).long))

pub gathered_columns-requires : goal.gathered_columns-requires
gathered_columns-requires c k lk =
    let free = rw c.deref.ensures.value at c.in_ok-places.ensures c.args.kept.now.pivots.items (rw c.deref-2.ensures.value c.requires.held.1.index) in
    rw (c.deref-4.ensures.value, c.deref-5.ensures.value) (free.below k (rw c.deref-4.ensures.value at lk))

pub slots_of-requires : goal.slots_of-requires
slots_of-requires c =
    let free = rw c.deref.ensures.value at c.in_ok-places.ensures c.args.kept.now.pivots.items (rw c.deref-2.ensures.value c.requires.held.1.index) in
    let live : c.in_ok-live.live.items ≡ gather c.in_ok-places.places.items c.args.kept.now.live.items = rw (c.deref-4.ensures.value, c.deref-5.ensures.value) at c.in_ok-live.ensures in
    subst Ascending (sym (c.deref-6.ensures.value ∙ live))
    (gather-ascending c.in_ok-places.places.items c.args.kept.now.live.items c.requires.held.1.laid.ascending free.ascending free.below)

abbrev new_kept : After-drop-places-2 → Kept
new_kept c = record {
  pivots = c.args.kept.now.pivots;
  live = c.in_ok-live.live;
  slots = c.in_ok-kept.field-0;
  lanes = c.gather_rows.new.rows;
  recipes = c.args.kept.now.recipes;
  places = c.args.kept.now.places;
}

drop : (c : After-drop-places-2) → IsDrop c.in_ok-places.places.items c.args.kept.now (new_kept c)
drop c = record {
  free = rw c.deref.ensures.value at c.in_ok-places.ensures c.args.kept.now.pivots.items (rw c.deref-2.ensures.value c.requires.held.1.index);
  gathered = rw c.deref-3.ensures.value at c.in_ok-gather_rows.ensures;
  live = rw (c.deref-4.ensures.value, c.deref-5.ensures.value) at c.in_ok-live.ensures;
  slots = rw c.deref-6.ensures.value at c.in_ok-kept.ensures;
  pivots = refl;
  recipes = refl;
  kept_places = refl;
}

pub returns-clause-ready : goal.returns-clause-ready
returns-clause-ready c p columns r =
    let count : c.len.result ≡ length c.in_ok-live.live.items = search rules in
    drop-ready p columns c.in_ok-places.places.items c.args.kept.now (new_kept c) c.args.scratch.now.items _ r (drop c) (rw count at c.in_ok-scratch.ensures)

pub returns-clause-covers : goal.returns-clause-covers
returns-clause-covers c p columns r = drop-covers columns c.in_ok-places.places.items c.args.kept.now (new_kept c) (drop c)

pub returns-clause-same : goal.returns-clause-same
returns-clause-same c p columns r = drop-same p c.in_ok-places.places.items c.args.kept.now (new_kept c) r.held (drop c)
