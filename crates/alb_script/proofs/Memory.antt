-- An error of reading that does not say that memory ran out does not say so inside another one.
use Rattle.std.proofs.Common.{◌≡◌, false, Result, Err, refl}
use Rattle.alb_lex.specs.declared.error.LexError.TheVariants as lex
use Rattle.alb_syntax.specs.declared.error.SyntaxError.TheVariants as syntax
use Rattle.alb_script.specs.Asked.{Fails, IsPlain}
use Rattle.alb_script.specs.Refusals.{is_command_memory}
use Rattle.alb_script.specs.declared.error.CommandError.{CommandError}
use Rattle.alb_script.specs.declared.error.CommandError.TheVariants as errors

pub plain-memory : (e : CommandError) → IsPlain e → (e ≡ errors.NoMemory → ⊥) → is_command_memory e ≡ false
plain-memory errors.Unknown p h = refl
plain-memory errors.NotYetBuilt p h = refl
plain-memory errors.AlreadyBuilt p h = refl
plain-memory (errors.BadArgument place) p h = refl
plain-memory (errors.Lex lex.NoMemory) p h = absurd p
plain-memory (errors.Lex (lex.BadByte place)) p h = refl
plain-memory (errors.Lex (lex.NumberTooLong place)) p h = refl
plain-memory (errors.Syntax syntax.NoMemory) p h = absurd p
plain-memory (errors.Syntax (syntax.Expected place)) p h = refl
plain-memory (errors.Syntax (syntax.UnknownLetter place)) p h = refl
plain-memory (errors.Syntax (syntax.TooDeep place)) p h = refl
plain-memory (errors.Syntax (syntax.TooManyTerms place)) p h = refl
plain-memory (errors.Syntax (syntax.TooHigh place)) p h = refl
plain-memory errors.NoMemory p h = absurd (h refl)

-- it was read so
pub plain-failed : {Y : Type 0} (e : CommandError) (read : Result Y CommandError) → IsPlain e → (e ≡ errors.NoMemory → ⊥) → Fails e read → read ≡ Err e
plain-failed errors.Unknown read p h f = f
plain-failed errors.NotYetBuilt read p h f = f
plain-failed errors.AlreadyBuilt read p h f = f
plain-failed (errors.BadArgument place) read p h f = f
plain-failed (errors.Lex lex.NoMemory) read p h f = absurd p
plain-failed (errors.Lex (lex.BadByte place)) read p h f = f
plain-failed (errors.Lex (lex.NumberTooLong place)) read p h f = f
plain-failed (errors.Syntax syntax.NoMemory) read p h f = absurd p
plain-failed (errors.Syntax (syntax.Expected place)) read p h f = f
plain-failed (errors.Syntax (syntax.UnknownLetter place)) read p h f = f
plain-failed (errors.Syntax (syntax.TooDeep place)) read p h f = f
plain-failed (errors.Syntax (syntax.TooManyTerms place)) read p h f = f
plain-failed (errors.Syntax (syntax.TooHigh place)) read p h f = f
plain-failed errors.NoMemory read p h f = absurd (h refl)
