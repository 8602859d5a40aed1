use Rattle.std.proofs.Common.{◌≡◌, ◌+◌, ◌++◌, ◌∷◌, [], length, Option, Result, Ok, Err, sym, subst}
use Rattle.std.specs.Prelude.{IfOk, OnErr}
use Rattle.alb_mono.specs.declared.error.NoMemory.{NoMemory}
use Rattle.alb_problem.specs.Builder.{Builder, identity_refusal, ProblemRefusal}
use Rattle.alb_top.specs.Script.{Response, Numbered, unless}
use Rattle.alb_top.specs.View.{response_of, IsWritten}
use Rattle.alb_top.specs.declared.response.Response as Rust
use Rattle.alb_script.proofs.ToldLemmas.{identity-known}
use Rattle.alb_top.proofs.RefusalLemmas.{IsRefusal, refused-unless}
use Rattle.alb_top.proofs.statement.add_identity.Goals as goal

record Refuses (r : Result Rust.Response NoMemory) (old now : Builder) (found : Option ProblemRefusal) (taken : Response) (new : Builder) : Type 0 where
  responds : IfOk r (λ x. (response_of x, now) ≡ unless found taken new old)
  written : IfOk r (λ x. IsWritten x)
  unchanged : OnErr r (now ≡ old)

split : (r : Result Rust.Response NoMemory) (old now : Builder) (found : Option ProblemRefusal) (taken : Response) (new : Builder) → now ≡ old → IfOk r (IsRefusal old found taken new) → Refuses r old now found taken new
split (Ok x) old now found taken new same h = record { responds = subst (λ (b : Builder). (response_of x, b) ≡ unless found taken new old) (sym same) h.responds; written = h.written; unchanged = tt }
split (Err e) old now found taken new same h = record { responds = tt; written = tt; unchanged = same }

pub returns-in-Err : goal.returns-in-Err
returns-in-Err c =
    let b = c.args.builder.now in
    let new : Builder = record b { identities = b.identities ++ c.args.f ∷ [] } in
    let h = refused-unless c.in-Err.error b new (identity_refusal b c.args.f) (Numbered (length b.identities + 1)) (identity-known b c.args.f c.requires.known) c.in-Err.ensures.exact in
    let s = split c.refusal.result b c.add_identity.new.self (identity_refusal b c.args.f) (Numbered (length b.identities + 1)) new c.in-Err.ensures.unchanged
    (subst (λ (r : Result Rust.Response NoMemory). IfOk r (IsRefusal b (identity_refusal b c.args.f) (Numbered (length b.identities + 1)) new)) (sym c.refusal.ensures) h) in
    record { responds = s.responds; written = s.written; unchanged = s.unchanged }
