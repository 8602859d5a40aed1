use Rattle.std.proofs.Common.{◌≡◌, [], ◌∷◌, ℕ, List, refl, subst}
use Rattle.alb_script.specs.Asked.{view}
use Rattle.alb_top.specs.Script.{State}
use Rattle.alb_top.specs.View.{state, response_of, AsksFor}
use Rattle.alb_top.specs.Turns.{claimed, skipping}
use Rattle.alb_top.specs.declared.asks.Asks.{Asks}
use Rattle.alb_top.proofs.TurnLemmas.{answers-line, step-obeyed, step-claimed, step-refused, step-skipped, turn-after}
use Rattle.alb_top.proofs.turn.take_asked.Goals as goal

-- what the line asks for, by its case
asked-by : (a b : Asks) (s : State) (line : List ℕ) → a ≡ b → AsksFor a s line → AsksFor b s line
asked-by a b s line is h = subst (λ (x : Asks). AsksFor x s line) is h

pub returns-in-Ok-clause-takes : goal.returns-in-Ok-clause-takes
returns-in-Ok-clause-takes g c first was line r short h =
    let s = state c.args.script in
    answers-line first _ s (state c.in-Ok.next) was _ line (response_of c.in-Ok.response) c.requires.going r
    (step-obeyed s (state c.in-Ok.next) line (response_of c.in-Ok.response) (view c.in-Command.command) c.requires.going refl short (asked-by _ _ s line c.in-Command.is h) c.in-Ok.ensures.responds)

pub returns-in-Err-clause-takes : goal.returns-in-Err-clause-takes
returns-in-Err-clause-takes g c first was line r short h = record { lines = line ∷ []; reads = (c.args.reader.now, g.S.Source.left c.args.input.now, r, (refl, refl)) }

pub returns-in-Claim-clause-takes : goal.returns-in-Claim-clause-takes
returns-in-Claim-clause-takes g c first was line r short h =
    let s = state c.args.script in
    turn-after c.take_claim.result first _ _ s (claimed c.in-Claim.claim s) was _ _ line r
    (step-claimed s line c.in-Claim.claim c.requires.going refl short (asked-by _ _ s line c.in-Claim.is h)) c.take_claim.ensures.takes

pub returns-in-Refusal-clause-takes : goal.returns-in-Refusal-clause-takes
returns-in-Refusal-clause-takes g c first was line r short h =
    let s = state c.args.script in
    let e = asked-by _ _ s line c.in-Refusal.is h in
    answers-line first _ s (state c.refuse-response.result.1) was _ line (response_of c.refuse-response.result.0) c.requires.going r
    (step-refused s (state c.refuse-response.result.1) line (response_of c.refuse-response.result.0) c.in-Refusal.error c.requires.going refl short e.0 e.1 c.refuse-response.ensures.responds)

pub returns-in-RefusedClaim-clause-takes : goal.returns-in-RefusedClaim-clause-takes
returns-in-RefusedClaim-clause-takes g c first was line r short h =
    let s = state c.args.script in
    let e = asked-by _ _ s line c.in-RefusedClaim.is h in
    turn-after c.skip_claim.result first _ _ s (skipping c.in-RefusedClaim.error s) was _ _ line r
    (step-skipped s line c.in-RefusedClaim.error c.requires.going refl short e.0 e.1) c.skip_claim.ensures.takes
