use Rattle.std.proofs.Common.{◌≡◌, ◌<◌, ◌∷◌, ◌∙◌, length, ap, arith, rules}
use Rattle.alb_linear.proofs.OrderLemmas.{room_for_one}
use Rattle.alb_linear.proofs.orders.+orders.Goals as goal

pub all_insertions-requires-clause-room : goal.all_insertions-requires-clause-room
all_insertions-requires-clause-room t c =
    let q : c.args.xs.now ≡ c.in-Some.x.now ∷ c.in-Some.rest.now = search rules in
    let few : length c.in-Some.rest.now < 8 = omega (arith, ap length q, c.requires.few) in
    room_for_one c.in-Some.rest.now _ 8 (c.deref.ensures.value ∙ c.in_ok-shorter-in-Some.ensures) few
