use Rattle.std.proofs.Common.{Result, Ok, Err, subst, sym}
use Rattle.std.specs.Prelude.{IfOk}
use Rattle.alb_mono.specs.declared.error.NoMemory.{NoMemory}
use Rattle.alb_top.specs.Script.{is_claim}
use Rattle.alb_top.specs.View.{state, AsksFor, MayBeAsked, refused_as}
use Rattle.alb_top.specs.declared.asks.Asks.{Asks}
use Rattle.alb_top.proofs.AsksLemmas.{command-asks, command-may, refusal-asks}
use Rattle.alb_top.proofs.script.Script.asks.Goals as goal

pub returns-in-Ok : goal.returns-in-Ok
returns-in-Ok c =
    let s = state c.args.self.now in
    record {
      asks = subst (λ (a : Asks). AsksFor a s c.args.line.now) (sym c.asks_of.ensures) (command-asks c.in-Ok.command s c.args.line.now c.in-Ok.ensures.exact);
      timely = subst (λ (a : Asks). MayBeAsked a s) (sym c.asks_of.ensures) (command-may c.in-Ok.command s c.args.line.now c.in-Ok.ensures.exact c.in-Ok.ensures.read);
    }

first_parts : (r : Result Asks NoMemory) (P Q : Asks → Type 0) → IfOk r (λ a. P a × Q a) → IfOk r P
first_parts (Ok a) P Q h = h.0
first_parts (Err e) P Q h = tt

second_parts : (r : Result Asks NoMemory) (P Q : Asks → Type 0) → IfOk r (λ a. P a × Q a) → IfOk r Q
second_parts (Ok a) P Q h = h.1
second_parts (Err e) P Q h = tt

pub returns-in-Err : goal.returns-in-Err
returns-in-Err c =
    let s = state c.args.self.now in
    let h = subst (λ (r : Result Asks NoMemory). IfOk r (λ a. AsksFor a s c.args.line.now × MayBeAsked a s)) (sym c.refused.ensures) (subst (λ w. IfOk (refused_as (is_claim w) c.in-Err.bad.error) (λ a. AsksFor a s c.args.line.now × MayBeAsked a s)) (sym c.in-Err.ensures.word)
    (refusal-asks c.in-Err.bad.error s c.args.line.now c.in-Err.ensures.exact c.in-Err.ensures.plain)) in
    record {
      asks = first_parts c.refused.result (λ a. AsksFor a s c.args.line.now) (λ a. MayBeAsked a s) h;
      timely = second_parts c.refused.result (λ a. AsksFor a s c.args.line.now) (λ a. MayBeAsked a s) h;
    }
