-- What a line asks for, as it was read.
use Rattle.std.proofs.Common.{◌≡◌, ℕ, Bool, true, false, List, length, Ok, Err, refl}
use Rattle.std.specs.Prelude.{IfOk}
use Rattle.alb_script.specs.Asked.{view, command_word, IsCommandOver, Fails, IsPlain}
use Rattle.alb_script.specs.declared.command.Command.{Command}
use Rattle.alb_script.specs.declared.command.Command.TheVariants as command
use Rattle.alb_script.specs.declared.error.CommandError.{CommandError}
use Rattle.alb_script.specs.declared.error.CommandError.TheVariants as error
use Rattle.alb_script.specs.declared.refusal.Refusal.TheVariants as refusal
use Rattle.alb_script.proofs.Memory.{plain-failed, plain-memory}
use Rattle.alb_top.specs.Script.{State, letters_of, total_of, asked_of, is_claim}
use Rattle.alb_top.specs.View.{IsTimely, AsksFor, MayBeAsked, CanBeWritten, asks_of, refused_as}
use Rattle.alb_top.proofs.AskedLemmas.{asked-timely, claim-form}

pub command-asks : (c : Command) (s : State) (line : List ℕ) → asked_of s line ≡ Ok (view c) → AsksFor (asks_of c) s line
command-asks command.Blank s line h = h
command-asks (command.Field p) s line h = h
command-asks (command.Generators ts end) s line h = h
command-asks (command.Identity f) s line h = h
command-asks command.Build s line h = h
command-asks (command.Polynomial f) s line h = h
command-asks (command.Prove f) s line h = h
command-asks command.Dimensions s line h = h
command-asks command.Table s line h = h
command-asks (command.Claim f) s line h = h
command-asks (command.Await n) s line h = h
command-asks command.Quit s line h = h

may : (c : Command) (s : State) → IsTimely s.form s.built (view c) → IsCommandOver s.problem.field (length (letters_of s)) c → MayBeAsked (asks_of c) s
may command.Blank s t r = (tt, t, r)
may (command.Field p) s t r = (tt, t, r)
may (command.Generators ts end) s t r = (tt, t, r)
may (command.Identity f) s t r = (tt, t, r)
may command.Build s t r = (tt, t, r)
may (command.Polynomial f) s t r = (tt, t, r)
may (command.Prove f) s t r = (tt, t, r)
may command.Dimensions s t r = (tt, t, r)
may command.Table s t r = (tt, t, r)
may (command.Claim f) s t r = (claim-form s.form t.of_form, t.stands, r)
may (command.Await n) s t r = (tt, t, r)
may command.Quit s t r = (tt, t, r)

pub command-may : (c : Command) (s : State) (line : List ℕ) → asked_of s line ≡ Ok (view c) → IsCommandOver s.problem.field (length (letters_of s)) c → MayBeAsked (asks_of c) s
command-may c s line h r = may c s (asked-timely s.form s.built (total_of s) s.problem.field (letters_of s) line (view c) h) r

-- a refusal, by whether the line begins with `claim`
by_claim : (b : Bool) (e : CommandError) (s : State) (line : List ℕ) → is_claim (command_word s.form line) ≡ b → asked_of s line ≡ Err e → CanBeWritten (refusal.Command e) → (e ≡ error.NoMemory → ⊥)
    → IfOk (refused_as b e) (λ a. AsksFor a s line × MayBeAsked a s)
by_claim true error.Unknown s line is h w n = ((h, is), w)
by_claim false error.Unknown s line is h w n = ((h, is), w)
by_claim true error.NotYetBuilt s line is h w n = ((h, is), w)
by_claim false error.NotYetBuilt s line is h w n = ((h, is), w)
by_claim true error.AlreadyBuilt s line is h w n = ((h, is), w)
by_claim false error.AlreadyBuilt s line is h w n = ((h, is), w)
by_claim true (error.BadArgument place) s line is h w n = ((h, is), w)
by_claim false (error.BadArgument place) s line is h w n = ((h, is), w)
by_claim true (error.Lex e) s line is h w n = ((h, is), w)
by_claim false (error.Lex e) s line is h w n = ((h, is), w)
by_claim true (error.Syntax e) s line is h w n = ((h, is), w)
by_claim false (error.Syntax e) s line is h w n = ((h, is), w)
by_claim b error.NoMemory s line is h w n = absurd (n refl)

failed-asks : (e : CommandError) (s : State) (line : List ℕ) → Fails e (asked_of s line) → IsPlain e → (e ≡ error.NoMemory → ⊥) → IfOk (refused_as (is_claim (command_word s.form line)) e) (λ a. AsksFor a s line × MayBeAsked a s)
failed-asks e s line h p n =
    by_claim (is_claim (command_word s.form line)) e s line refl (plain-failed e (asked_of s line) p n h) (record { memory = plain-memory e p n; known = tt }) n

pub refusal-asks : (e : CommandError) (s : State) (line : List ℕ) → Fails e (asked_of s line) → IsPlain e → IfOk (refused_as (is_claim (command_word s.form line)) e) (λ a. AsksFor a s line × MayBeAsked a s)
refusal-asks error.Unknown s line h p = failed-asks error.Unknown s line h p (λ e. cc)
refusal-asks error.NotYetBuilt s line h p = failed-asks error.NotYetBuilt s line h p (λ e. cc)
refusal-asks error.AlreadyBuilt s line h p = failed-asks error.AlreadyBuilt s line h p (λ e. cc)
refusal-asks (error.BadArgument place) s line h p = failed-asks (error.BadArgument place) s line h p (λ e. cc)
refusal-asks (error.Lex e) s line h p = failed-asks (error.Lex e) s line h p (λ e. cc)
refusal-asks (error.Syntax e) s line h p = failed-asks (error.Syntax e) s line h p (λ e. cc)
refusal-asks error.NoMemory s line h p = tt
