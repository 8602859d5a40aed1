use Rattle.std.proofs.Common.{◌≡◌, length, refl, rules}
use Rattle.alb_reduce.proofs.KeepLemmas.{numbers_cover, opened}
use Rattle.alb_reduce.proofs.steps.open_lanes.Goals as goal

pub returns-in_ok-scratch-clause-ready : goal.returns-in_ok-scratch-clause-ready
returns-in_ok-scratch-clause-ready c p r =
    let count : c.len.result ≡ length c.in_ok-live.live.items = search rules in
    opened p c.args.columns c.args.kept.now _ _ _ r (c.if-is_new.ensures.no_pivots refl) refl refl refl refl c.in_ok-live.ensures.long c.in_ok-live.ensures.value
    (rw c.deref.ensures.value at c.in_ok-kept.ensures) (rw count at c.in_ok-scratch.ensures)

pub returns-in_ok-scratch-clause-covers : goal.returns-in_ok-scratch-clause-covers
returns-in_ok-scratch-clause-covers c p r =
    numbers_cover c.args.columns c.in_ok-live.live.items c.args.kept.now.pivots.items c.in_ok-live.ensures.long c.in_ok-live.ensures.value
