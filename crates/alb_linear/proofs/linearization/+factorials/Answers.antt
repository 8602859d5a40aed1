use Rattle.std.proofs.Common.{◌≡◌, ◌≤◌, ◌∷◌, ◌*◌, subst, rules, sum}
use Rattle.alb_linear.specs.Identity.{factorial, factorials}
use Rattle.alb_linear.proofs.LinearLemmas.{factorials-small}
use Rattle.alb_linear.proofs.linearization.+factorials.Goals as goal

pub returns-in-Some-clause-small : goal.returns-in-Some-clause-small
returns-in-Some-clause-small t c =
    let q : c.args.e.now ≡ c.in-Some.n.now ∷ c.in-Some.rest.now = search rules in
    let s : sum (c.in-Some.n.now ∷ c.in-Some.rest.now) ≤ 8 = subst (λ z. sum z ≤ 8) q c.requires in
    let l : factorial c.in-Some.n.now * factorials c.in-Some.rest.now ≤ 40320 = factorials-small (c.in-Some.n.now ∷ c.in-Some.rest.now) s in
    rw (c.factorial.ensures.value, c.factorials.ensures.value) l
