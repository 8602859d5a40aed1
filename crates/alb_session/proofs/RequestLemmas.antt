-- What a line of a session may ask for.
use Rattle.std.proofs.Common.{◌≡◌, ℕ, ◌+◌, Bool, true, false, List, Option, Some, None, Result, Ok, Err, refl, sym, ◌∙◌, subst}
use Rattle.std.specs.Prelude.{drop, if◌then◌else◌, ◌&&◌, not, sum, ◌==◌, slice_index}
use Rattle.alb_lex.specs.declared.error.LexError.TheVariants as lex
use Rattle.alb_script.specs.Asked.{word_named, belongs, is_early, is_late, Asked, Blank, Field, Generators, Identity, Build, Polynomial, Prove, Dimensions, Table, Claim, Await, Quit, ◌>>=◌, dense, poly_at, degree_at, asked_by, of_form, or_unknown, timely, word_of, word_length, word_at, word_from, word_start, unless_comment, command_word, asked_at, asked, Fails, IsPlain}
use Rattle.alb_script.proofs.KnownLemmas.{got, is_alone}
use Rattle.alb_script.specs.declared.error.CommandError.{CommandError}
use Rattle.alb_script.specs.declared.error.CommandError.TheVariants as errors
use Rattle.alb_script.specs.declared.form.Form.TheVariants as forms
use Rattle.alb_script.specs.declared.word.Word.{Word}
use Rattle.alb_script.specs.declared.word.Word.TheVariants as word
use Rattle.alb_session.specs.Session.{asked_of, is_skipped}
use Rattle.alb_session.specs.View.{AsksFor, IsOfSession, MayBeAsked, refused_as}
use Rattle.alb_syntax.specs.declared.error.SyntaxError.TheVariants as syntax
use Rattle.alb_table.specs.RightTable.{RulesView}

-- ---- the words of a session

by-word : (total p : ℕ) (letters : List ℕ) (w : Word) (at : ℕ) (line : List ℕ) (a : Asked) → belongs forms.Session w ≡ true → asked_by total p letters w at line ≡ Ok a → IsOfSession a
unfolding asked_by
by-word total p letters word.Field at line a s h = absurd (cc)
by-word total p letters word.Generators at line a s h = absurd (cc)
by-word total p letters word.Identity at line a s h = absurd (cc)
by-word total p letters word.Build at line a s h = absurd (cc)
by-word total p letters word.Polynomial at line a s h =
    let g = got (poly_at p letters at line) (λ f. Ok (Polynomial f)) a h in
    let e : Polynomial g.0 ≡ a = cc in
    subst IsOfSession e tt
by-word total p letters word.Prove at line a s h =
    let g = got (poly_at p letters at line) (λ f. Ok (Prove f)) a h in
    let e : Prove g.0 ≡ a = cc in
    subst IsOfSession e tt
by-word total p letters word.Dimensions at line a s h = subst IsOfSession (is_alone Dimensions a at (dense (drop at line)) h) tt
by-word total p letters word.Table at line a s h = subst IsOfSession (is_alone Table a at (dense (drop at line)) h) tt
by-word total p letters word.Claim at line a s h = absurd (cc)
by-word total p letters word.Await at line a s h =
    let g = got (degree_at total at line) (λ n. Ok (Await n)) a h in
    let e : Await g.0 ≡ a = cc in
    subst IsOfSession e tt
by-word total p letters word.Quit at line a s h = subst IsOfSession (is_alone Quit a at (dense (drop at line)) h) tt

if_err : (b : Bool) (e : CommandError) (r : Result Word CommandError) (v : Word) → (if b then Err e else r) ≡ Ok v → r ≡ Ok v
if_err true e r v h = absurd (cc)
if_err false e r v h = h

abbrev accepted : Word → Result Word CommandError
accepted w = Ok w

same_word : (x y : Word) → accepted x ≡ accepted y → x ≡ y
same_word x y h = cc

timely-same : (w v : Word) → timely true w ≡ Ok v → w ≡ v
timely-same w v h =
    let a = if_err (true && is_early w) errors.AlreadyBuilt (if not true && is_late w then Err errors.NotYetBuilt else Ok w) v h in
    let b = if_err (not true && is_late w) errors.NotYetBuilt (Ok w) v a in
    same_word w v b

word_belongs : (b : Bool) (w v : Word) → belongs forms.Session w ≡ b → (or_unknown (if b then Some w else None) >>= timely true) ≡ Ok v → belongs forms.Session v ≡ true
word_belongs true w v is h = subst (λ (x : Word). belongs forms.Session x ≡ true) (timely-same w v h) is
word_belongs false w v is h = absurd (cc)

named-belongs : (o : Option Word) (v : Word) → (or_unknown (of_form forms.Session o) >>= timely true) ≡ Ok v → belongs forms.Session v ≡ true
named-belongs None v h = absurd (cc)
named-belongs (Some w) v h = word_belongs (belongs forms.Session w) w v refl h

line-belongs : (line : List ℕ) (o : Option ℕ) (v : Word) → word_of true (word_from forms.Session line o) ≡ Ok v → belongs forms.Session v ≡ true
unfolding word_of
line-belongs line None v h = absurd (cc)
line-belongs line (Some start) v h = named-belongs (word_named (word_at start line)) v h

command-belongs : (line : List ℕ) (v : Word) → word_of true (command_word forms.Session line) ≡ Ok v → belongs forms.Session v ≡ true
unfolding command_word
command-belongs line v h = line-belongs line (word_start line) v h

some-session : (total p : ℕ) (letters : List ℕ) (start : ℕ) (line : List ℕ) (a : Asked) → asked_at forms.Session true total p letters (Some start) line ≡ Ok a → IsOfSession a
some-session total p letters start line a h =
    let at = start + word_length (drop start line) in
    let g = got (word_of true (command_word forms.Session line)) (λ w. asked_by total p letters w at line) a h in
    by-word total p letters g.0 at line a (command-belongs line g.0 g.1) g.2

-- ---- lines that ask for nothing

pub session-asks : (a : Asked) → IsOfSession a → is_skipped (Ok a) ≡ false
session-asks Blank h = absurd h
session-asks (Field n) h = refl
session-asks (Generators ts n) h = refl
session-asks (Identity f) h = refl
session-asks Build h = refl
session-asks (Polynomial f) h = refl
session-asks (Prove f) h = refl
session-asks Dimensions h = refl
session-asks Table h = refl
session-asks (Claim f) h = refl
session-asks (Await k) h = refl
session-asks Quit h = refl

result-asks : (r : Result Asked CommandError) → ((a : Asked) → r ≡ Ok a → IsOfSession a) → is_skipped r ≡ false
result-asks (Ok a) h = session-asks a (h a refl)
result-asks (Err e) h = refl

abbrev is_none : Option ℕ → Bool
is_none None = true
is_none (Some n) = false

at-skipped : (total p : ℕ) (letters : List ℕ) (o : Option ℕ) (line : List ℕ) → is_skipped (asked_at forms.Session true total p letters o line) ≡ is_none o
at-skipped total p letters None line = refl
at-skipped total p letters (Some start) line = result-asks (asked_at forms.Session true total p letters (Some start) line) (some-session total p letters start line)

comment-none : (b : Bool) (start : ℕ) → is_none (if b then None else Some start) ≡ b
comment-none true start = refl
comment-none false start = refl

skipped-start : (r : RulesView) (letters line : List ℕ) → is_skipped (asked_of r letters line) ≡ is_none (word_start line)
unfolding asked
skipped-start r letters line = at-skipped (sum r.target) r.p letters (word_start line) line

-- a line of blanks
pub blanks-skipped : (r : RulesView) (letters line : List ℕ) → dense line ≡ None → is_skipped (asked_of r letters line) ≡ true
blanks-skipped r letters line none = skipped-start r letters line ∙ subst (λ (o : Option ℕ). is_none (unless_comment line o) ≡ true) (sym none) refl

-- a line whose first byte that is no blank stands there
pub dense-skipped : (r : RulesView) (letters line : List ℕ) (start : ℕ) → dense line ≡ Some start → is_skipped (asked_of r letters line) ≡ (slice_index line start == 35)
dense-skipped r letters line start some =
    skipped-start r letters line ∙ subst (λ (o : Option ℕ). is_none (unless_comment line o) ≡ (slice_index line start == 35)) (sym some) (comment-none (slice_index line start == 35) start)

-- ---- what is asked for

at-asks : (total p : ℕ) (letters : List ℕ) (o : Option ℕ) (line : List ℕ) (a : Asked) → asked_at forms.Session true total p letters o line ≡ Ok a
    → is_skipped (asked_at forms.Session true total p letters o line) ≡ false → IsOfSession a
at-asks total p letters None line a h some = absurd (cc)
at-asks total p letters (Some start) line a h some = some-session total p letters start line a h

pub asked-session : (r : RulesView) (letters line : List ℕ) (a : Asked) → asked_of r letters line ≡ Ok a → is_skipped (asked_of r letters line) ≡ false → IsOfSession a
unfolding asked
asked-session r letters line a h some = at-asks (sum r.target) r.p letters (word_start line) line a h some

-- ---- refusals

pub refused-asks : (e : CommandError) (asks : Result Asked CommandError) → Fails e asks → is_skipped asks ≡ false → AsksFor (refused_as e) asks
refused-asks errors.NoMemory asks h some = some
refused-asks errors.Unknown asks h some = h
refused-asks errors.NotYetBuilt asks h some = h
refused-asks errors.AlreadyBuilt asks h some = h
refused-asks (errors.BadArgument place) asks h some = h
refused-asks (errors.Lex lex.NoMemory) asks h some = absurd h
refused-asks (errors.Lex (lex.BadByte place)) asks h some = h
refused-asks (errors.Lex (lex.NumberTooLong place)) asks h some = h
refused-asks (errors.Syntax syntax.NoMemory) asks h some = absurd h
refused-asks (errors.Syntax (syntax.Expected place)) asks h some = h
refused-asks (errors.Syntax (syntax.UnknownLetter place)) asks h some = h
refused-asks (errors.Syntax (syntax.TooDeep place)) asks h some = h
refused-asks (errors.Syntax (syntax.TooManyTerms place)) asks h some = h
refused-asks (errors.Syntax (syntax.TooHigh place)) asks h some = h

pub refused-may : (p n : ℕ) (e : CommandError) → IsPlain e → MayBeAsked p n (refused_as e)
refused-may p n errors.NoMemory h = tt
refused-may p n errors.Unknown h = refl
refused-may p n errors.NotYetBuilt h = refl
refused-may p n errors.AlreadyBuilt h = refl
refused-may p n (errors.BadArgument place) h = refl
refused-may p n (errors.Lex lex.NoMemory) h = absurd h
refused-may p n (errors.Lex (lex.BadByte place)) h = refl
refused-may p n (errors.Lex (lex.NumberTooLong place)) h = refl
refused-may p n (errors.Syntax syntax.NoMemory) h = absurd h
refused-may p n (errors.Syntax (syntax.Expected place)) h = refl
refused-may p n (errors.Syntax (syntax.UnknownLetter place)) h = refl
refused-may p n (errors.Syntax (syntax.TooDeep place)) h = refl
refused-may p n (errors.Syntax (syntax.TooManyTerms place)) h = refl
refused-may p n (errors.Syntax (syntax.TooHigh place)) h = refl
