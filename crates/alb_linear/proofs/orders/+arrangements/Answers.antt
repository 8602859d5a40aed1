use Rattle.std.proofs.Common.{◌≡◌, ◌<◌, ◌∷◌, ◌++◌, ◌∙◌, length, map, sum, ap, subst, arith, rules, IfOk}
use Rattle.std.specs.List.{flat_map}
use Rattle.std.proofs.lemmas.List.Elements.{All-drop}
use Rattle.alb_poly.specs.Instance.{orders, arrangements}
use Rattle.alb_linear.proofs.OrderLemmas.{length-later, length-both, room_for_both, joined_equal}
use Rattle.alb_linear.proofs.orders.+arrangements.Goals as goal

pub arrangements-requires : goal.arrangements-requires
arrangements-requires t c =
    let q : c.args.e.now ≡ c.in-Some.n.now ∷ c.in-Some.rest.now = search rules in
    let s : length c.args.xs.now ≡ sum (c.in-Some.n.now ∷ c.in-Some.rest.now) = c.requires.full ∙ ap sum q in (
      search rules,
      (
        rw c.split_at.ensures.back (length-later c.in-Some.n.now c.in-Some.rest.now c.args.xs.now s),
        (rw c.split_at.ensures.back (omega (arith, length-both c.in-Some.n.now c.args.xs.now, c.requires.few)), rw c.split_at.ensures.back (All-drop (λ k. k < 26) c.in-Some.n.now c.args.xs.now c.requires.small)),
      ),
    )

pub all_joined-requires : goal.all_joined-requires
all_joined-requires t c =
    let q : c.args.e.now ≡ c.in-Some.n.now ∷ c.in-Some.rest.now = search rules in
    let s : length c.args.xs.now ≡ sum (c.in-Some.n.now ∷ c.in-Some.rest.now) = c.requires.full ∙ ap sum q in
    room_for_both c.in-Some.n.now c.in-Some.rest.now c.args.xs.now _ _ s c.requires.few
    (c.deref.ensures.value ∙ c.in_ok-firsts-in-Some.ensures ∙ ap orders c.split_at.ensures.front)
    (c.deref-in-Some.ensures.value ∙ c.in_ok-seconds-in-Some.ensures ∙ ap (arrangements c.in-Some.rest.now) c.split_at.ensures.back)

pub returns-in_ok-seconds-in-Some : goal.returns-in_ok-seconds-in-Some
returns-in_ok-seconds-in-Some t c =
    let q : c.args.e.now ≡ c.in-Some.n.now ∷ c.in-Some.rest.now = search rules in
    let e : flat_map (λ a. map (λ b. a ++ b) c.deref-in-Some.result.now) c.deref.result.now ≡ arrangements (c.in-Some.n.now ∷ c.in-Some.rest.now) c.args.xs.now =
    joined_equal c.in-Some.n.now c.in-Some.rest.now c.args.xs.now _ _
    (c.deref.ensures.value ∙ c.in_ok-firsts-in-Some.ensures ∙ ap orders c.split_at.ensures.front)
    (c.deref-in-Some.ensures.value ∙ c.in_ok-seconds-in-Some.ensures ∙ ap (arrangements c.in-Some.rest.now) c.split_at.ensures.back) in
    rw q (subst (λ z. IfOk c.all_joined.result (λ v. v.items ≡ z)) e c.all_joined.ensures)
