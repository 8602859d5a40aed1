-- A problem stays sound by each statement.
use Rattle.std.proofs.Common.{◌≡◌, ◌+◌, List, [], ◌∷◌, ◌++◌, length, Option, Some, None, refl}
use Rattle.alb_mono.specs.Tree.{AreLetters}
use Rattle.alb_problem.specs.Builder.{Builder, letters, counts, field_refusal, generators_refusal, identity_refusal, IsSoundProblem}
use Rattle.alb_problem.specs.Builder as refusals
use Rattle.alb_problem.proofs.SoundLemmas.{field-sound, named-sound, identity-sound}
use Rattle.alb_script.specs.Asked as asking
use Rattle.alb_script.specs.Asked.{Asked}
use Rattle.alb_top.specs.Script.{Response, Accepted, Numbered, unless, stated}
use Rattle.alb_script.proofs.KnownLemmas.{IsKnown}

unless-sound : (o : Option refusals.ProblemRefusal) (response : Response) (new old : Builder) → IsSoundProblem old → (o ≡ None → IsSoundProblem new) → IsSoundProblem (unless o response new old).1
unless-sound None response new old h k = k refl
unless-sound (Some r) response new old h k = h

pub stated-sound : (b : Builder) (a : Asked) → IsSoundProblem b → IsKnown a → IsSoundProblem (stated b a).1
stated-sound b (asking.Field p) h k = unless-sound (field_refusal b p) Accepted (record b { field = p }) b h (λ none. field-sound b p h none)
stated-sound b (asking.Generators ts end) h k =
    unless-sound (generators_refusal b ts end) Accepted (record b { letters = letters ts; counts = counts ts }) b h (λ none. named-sound b ts end h none)
stated-sound b (asking.Identity f) h k =
    unless-sound (identity_refusal b f) (Numbered (length b.identities + 1)) (record b { identities = b.identities ++ f ∷ [] }) b h (λ none. identity-sound b f h k none)
stated-sound b asking.Blank h k = h
stated-sound b asking.Build h k = h
stated-sound b (asking.Polynomial f) h k = h
stated-sound b (asking.Prove f) h k = h
stated-sound b asking.Dimensions h k = h
stated-sound b asking.Table h k = h
stated-sound b (asking.Claim f) h k = h
stated-sound b (asking.Await m) h k = h
stated-sound b asking.Quit h k = h
