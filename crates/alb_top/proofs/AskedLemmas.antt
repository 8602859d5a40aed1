-- What a line may ask for: its words by the form and the place.
use Rattle.std.proofs.Common.{◌≡◌, ℕ, ◌+◌, Bool, true, false, List, length, Option, Some, None, Result, Ok, Err, refl, sym, ◌∙◌, subst}
use Rattle.std.specs.Prelude.{drop, if◌then◌else◌, ◌&&◌, not}
use Rattle.alb_mono.specs.Tree.{alphabet}
use Rattle.alb_script.specs.Asked.{word_named, belongs, is_early, is_late, Asked, Blank, Field, Generators, Identity, Build, Polynomial, Prove, Dimensions, Table, Claim, Await, Quit, ◌>>=◌, dense, tokens_at, poly_at, number_argument, degree_at, asked_by, of_form, or_unknown, timely, word_of, word_length, word_at, word_from, word_start, command_word, asked_at, asked}
use Rattle.alb_script.specs.declared.error.CommandError.{CommandError}
use Rattle.alb_script.specs.declared.error.CommandError.TheVariants as errors
use Rattle.alb_script.specs.declared.form.Form.{Form}
use Rattle.alb_script.specs.declared.form.Form.TheVariants as forms
use Rattle.alb_script.specs.declared.word.Word.{Word}
use Rattle.alb_script.specs.declared.word.Word.TheVariants as word
use Rattle.alb_script.proofs.KnownLemmas.{got, is_alone}
use Rattle.alb_top.specs.View.{IsTimely}

-- ---- words

-- a word of the form that may stand here
record Stands (form : Form) (built : Bool) (w : Word) : Type 0 where
  of_form : belongs form w ≡ true
  early : is_early w ≡ true → built ≡ false
  late : is_late w ≡ true → built ≡ true

if_err : (b : Bool) (e : CommandError) (r : Result Word CommandError) (v : Word) → (if b then Err e else r) ≡ Ok v → (b ≡ false) × (r ≡ Ok v)
if_err true e r v h = absurd (cc)
if_err false e r v h = (refl, h)

not_early : (built early : Bool) → (built && early) ≡ false → early ≡ true → built ≡ false
not_early true early h e = absurd (let f : true ≡ false = sym e ∙ h in cc)
not_early false early h e = refl

not_late : (built late : Bool) → (not built && late) ≡ false → late ≡ true → built ≡ true
not_late true late h e = refl
not_late false late h e = absurd (let f : true ≡ false = sym e ∙ h in cc)

same_word : (x y : Word) (r s : Result Word CommandError) → r ≡ Ok x → s ≡ Ok y → r ≡ s → x ≡ y
same_word x y r s p q h = cc

timely-stands : (form : Form) (built : Bool) (w v : Word) → belongs form w ≡ true → timely built w ≡ Ok v → Stands form built v
timely-stands form built w v of_form h =
    let a = if_err (built && is_early w) errors.AlreadyBuilt (if not built && is_late w then Err errors.NotYetBuilt else Ok w) v h in
    let b = if_err (not built && is_late w) errors.NotYetBuilt (Ok w) v a.1 in
    let is : w ≡ v = same_word w v (Ok w) (Ok v) refl refl b.1 in
    subst (Stands form built) is (record { of_form = of_form; early = not_early built (is_early w) a.0; late = not_late built (is_late w) b.0 })

word_stands : (form : Form) (built b : Bool) (w v : Word) → belongs form w ≡ b → (or_unknown (if b then Some w else None) >>= timely built) ≡ Ok v → Stands form built v
word_stands form built true w v is h = timely-stands form built w v is h
word_stands form built false w v is h = absurd (cc)

word-stands : (form : Form) (built : Bool) (o : Option Word) (v : Word) → (or_unknown (of_form form o) >>= timely built) ≡ Ok v → Stands form built v
word-stands form built None v h = absurd (cc)
word-stands form built (Some w) v h = word_stands form built (belongs form w) w v refl h

-- ---- what a word asks for

by-timely : (form : Form) (built : Bool) (total p : ℕ) (letters : List ℕ) (w : Word) (at : ℕ) (line : List ℕ) (a : Asked) → Stands form built w → asked_by total p letters w at line ≡ Ok a → IsTimely form built a
unfolding asked_by
by-timely form built total p letters word.Field at line a s h =
    let g = got (number_argument at line) (λ n. Ok (Field n)) a h in
    let e : Field g.0 ≡ a = cc in
    subst (IsTimely form built) e (record { of_form = tt; stands = s.early refl })
by-timely form built total p letters word.Generators at line a s h =
    let g = got (tokens_at at line) (λ ts. Ok (Generators ts (length line + 1))) a h in
    let e : Generators g.0 (length line + 1) ≡ a = cc in
    subst (IsTimely form built) e (record { of_form = tt; stands = s.early refl })
by-timely form built total p letters word.Identity at line a s h =
    let g = got (poly_at p alphabet at line) (λ f. Ok (Identity f)) a h in
    let e : Identity g.0 ≡ a = cc in
    subst (IsTimely form built) e (record { of_form = tt; stands = s.early refl })
by-timely form built total p letters word.Build at line a s h =
    subst (IsTimely form built) (is_alone Build a at (dense (drop at line)) h) (record { of_form = tt; stands = s.early refl })
by-timely form built total p letters word.Polynomial at line a s h =
    let g = got (poly_at p letters at line) (λ f. Ok (Polynomial f)) a h in
    let e : Polynomial g.0 ≡ a = cc in
    subst (IsTimely form built) e (record { of_form = s.of_form; stands = s.late refl })
by-timely form built total p letters word.Prove at line a s h =
    let g = got (poly_at p letters at line) (λ f. Ok (Prove f)) a h in
    let e : Prove g.0 ≡ a = cc in
    subst (IsTimely form built) e (record { of_form = s.of_form; stands = s.late refl })
by-timely form built total p letters word.Dimensions at line a s h =
    subst (IsTimely form built) (is_alone Dimensions a at (dense (drop at line)) h) (record { of_form = s.of_form; stands = s.late refl })
by-timely form built total p letters word.Table at line a s h =
    subst (IsTimely form built) (is_alone Table a at (dense (drop at line)) h) (record { of_form = s.of_form; stands = s.late refl })
by-timely form built total p letters word.Claim at line a s h =
    let g = got (poly_at p letters at line) (λ f. Ok (Claim f)) a h in
    let e : Claim g.0 ≡ a = cc in
    subst (IsTimely form built) e (record { of_form = s.of_form; stands = s.late refl })
by-timely form built total p letters word.Await at line a s h =
    let g = got (degree_at total at line) (λ n. Ok (Await n)) a h in
    let e : Await g.0 ≡ a = cc in
    subst (IsTimely form built) e (record { of_form = s.of_form; stands = s.late refl })
by-timely form built total p letters word.Quit at line a s h =
    subst (IsTimely form built) (is_alone Quit a at (dense (drop at line)) h) (record { of_form = tt; stands = tt })

-- the word that a line begins with stands there
line-stands : (form : Form) (built : Bool) (line : List ℕ) (o : Option ℕ) (v : Word) → word_of built (word_from form line o) ≡ Ok v → Stands form built v
unfolding word_of
line-stands form built line None v h = absurd (cc)
line-stands form built line (Some start) v h = word-stands form built (word_named (word_at start line)) v h

command-stands : (form : Form) (built : Bool) (line : List ℕ) (v : Word) → word_of built (command_word form line) ≡ Ok v → Stands form built v
unfolding command_word
command-stands form built line v h = line-stands form built line (word_start line) v h

blank-timely : (form : Form) (built : Bool) → IsTimely form built Blank
blank-timely form built = record { of_form = tt; stands = tt }

at-timely : (form : Form) (built : Bool) (total p : ℕ) (letters : List ℕ) (o : Option ℕ) (line : List ℕ) (a : Asked) → asked_at form built total p letters o line ≡ Ok a → IsTimely form built a
at-timely form built total p letters None line a h = let e : Blank ≡ a = cc in subst (IsTimely form built) e (blank-timely form built)
at-timely form built total p letters (Some start) line a h =
    let at = start + word_length (drop start line) in
    let g = got (word_of built (command_word form line)) (λ w. asked_by total p letters w at line) a h in
    by-timely form built total p letters g.0 at line a (command-stands form built line g.0 g.1) g.2

-- a command stands where its word may stand
pub asked-timely : (form : Form) (built : Bool) (total p : ℕ) (letters line : List ℕ) (a : Asked) → asked form built total p letters line ≡ Ok a → IsTimely form built a
unfolding asked
asked-timely form built total p letters line a h = at-timely form built total p letters (word_start line) line a h

-- ---- claims

-- claims stand in a check alone
pub claim-form : (form : Form) → belongs form word.Claim ≡ true → form ≡ forms.Check
claim-form forms.Batch h = absurd (cc)
claim-form forms.Check h = refl
claim-form forms.Session h = absurd (cc)
