-- The refusals of the problem, as they are answered.
use Rattle.std.proofs.Common.{◌≡◌, ℕ, Option, Err, sym, ap, ◌∙◌}
use Rattle.std.specs.Prelude.{IfOk}
use Rattle.alb_problem.specs.Builder.{Builder, TellsRefusal, AnswersOrNoMemory}
use Rattle.alb_problem.specs.Builder as refusals
use Rattle.alb_problem.specs.declared.error.ProblemError.{ProblemError}
use Rattle.alb_problem.specs.declared.error.ProblemError.TheVariants as error
use Rattle.alb_script.specs.Refusals.{told_by_problem}
use Rattle.alb_script.specs.declared.refusal.Refusal.TheVariants as refusal
use Rattle.alb_script.proofs.ToldLemmas.{tells, NamesKnown, over_alphabet}
use Rattle.alb_top.specs.Script.{Response, Refused, unless}
use Rattle.alb_top.specs.View.{response_of, by_problem, CanBeWritten, IsWritten, of_problem}
use Rattle.alb_top.specs.declared.response.Response as Rust
use Rattle.alb_top.specs.declared.response.Response.TheVariants as response

-- the response to what is refused
pub unless-responds : (e : ProblemError) (found : Option refusals.ProblemRefusal) (taken : Response) (new old : Builder) → TellsRefusal e found
    → (Refused (by_problem (told_by_problem e)), old) ≡ unless found taken new old
unless-responds e found taken new old h =
    let t = tells e found h in
    ap (λ r. (Refused (by_problem r), old)) t.told ∙ sym (ap (λ o. unless o taken new old) t.found_is)

-- such a refusal can be written
pub written : (e : ProblemError) (found : Option refusals.ProblemRefusal) → NamesKnown found → TellsRefusal e found → CanBeWritten (refusal.Problem e)
written e found k h = record { memory = (tells e found h).memory; known = over_alphabet e found k h }

-- ---- identities

-- the response to what is refused, unless memory ran out
pub record IsRefusal (b : Builder) (found : Option refusals.ProblemRefusal) (taken : Response) (new : Builder) (r : Rust.Response) : Type 0 where
  pub responds : (response_of r, b) ≡ unless found taken new b
  pub written : IsWritten r

refused_for : (e : ProblemError) (b new : Builder) (found : Option refusals.ProblemRefusal) (taken : Response) → NamesKnown found → TellsRefusal e found → IsRefusal b found taken new (response.Refused (refusal.Problem e))
refused_for e b new found taken k h = record { responds = unless-responds e found taken new b h; written = written e found k h }

pub refused-unless : (e : ProblemError) (b new : Builder) (found : Option refusals.ProblemRefusal) (taken : Response) → NamesKnown found → AnswersOrNoMemory {X = ℕ} (Err e) found
    → IfOk (of_problem e) (IsRefusal b found taken new)
refused-unless error.NotInTable b new found taken k h = refused_for error.NotInTable b new found taken k h
refused-unless error.FieldAfterIdentity b new found taken k h = refused_for error.FieldAfterIdentity b new found taken k h
refused-unless error.GeneratorsTwice b new found taken k h = refused_for error.GeneratorsTwice b new found taken k h
refused-unless (error.BadGenerators place) b new found taken k h = refused_for (error.BadGenerators place) b new found taken k h
refused-unless error.TooManyIdentities b new found taken k h = refused_for error.TooManyIdentities b new found taken k h
refused-unless (error.Identity e) b new found taken k h = refused_for (error.Identity e) b new found taken k h
refused-unless error.NoGenerators b new found taken k h = refused_for error.NoGenerators b new found taken k h
refused-unless error.FieldTooSmall b new found taken k h = refused_for error.FieldTooSmall b new found taken k h
refused-unless error.NoMemory b new found taken k h = tt
