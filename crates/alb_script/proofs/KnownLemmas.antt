-- What a line may ask for: identities over the letters a to z.
use Rattle.std.proofs.Common.{◌≡◌, ℕ, ◌+◌, Bool, List, length, Option, Some, None, Result, Ok, Err, refl, subst}
use Rattle.std.specs.Prelude.{IsTrue, All, drop}
use Rattle.alb_mono.specs.Tree.{alphabet, are_below}
use Rattle.alb_lex.specs.declared.token.Token.{Token}
use Rattle.alb_syntax.specs.Reading.{denoted}
use Rattle.alb_syntax.specs.declared.error.SyntaxError.{SyntaxError}
use Rattle.alb_syntax.proofs.Found.{denoted-found}
use Rattle.alb_syntax.proofs.Known.{denoted-known}
use Rattle.alb_poly.specs.Poly.{Poly}
use Rattle.alb_script.specs.Asked.{Asked, Blank, Field, Generators, Identity, Build, Polynomial, Prove, Dimensions, Table, Claim, Await, Quit, ◌>>=◌, dense, or_syntax, tokens_at, poly_at, when_none, number_argument, degree_at, asked_by, word_of, word_length, word_start, command_word, asked_at, asked}
use Rattle.alb_script.specs.declared.error.CommandError.{CommandError}
use Rattle.alb_script.specs.declared.form.Form.{Form}
use Rattle.alb_script.specs.declared.word.Word.{Word}
use Rattle.alb_script.specs.declared.word.Word.TheVariants as word

-- what was bound had an answer
pub got : {A B : Type 0} (r : Result A CommandError) (f : A → Result B CommandError) (b : B) → (r >>= f) ≡ Ok b → (x : A) × (r ≡ Ok x) × (f x ≡ Ok b)
got (Ok x) f b h = (x, refl, h)
got (Err e) f b h = absurd (cc)

pub is_alone : (a b : Asked) (at : ℕ) (o : Option ℕ) → when_none a at o ≡ Ok b → a ≡ b
is_alone a b at None h = cc
is_alone a b at (Some k) h = absurd (cc)

-- an identity is over the letters a to z
abbrev pub IsKnown : Asked → Type 0
IsKnown (Identity f) = All (λ t. IsTrue (are_below 26 t.1)) f
IsKnown other = Unit {0}

read_known : (p end : ℕ) (ts : List Token) (r : Result Poly SyntaxError) (f : Poly) → denoted (record { field = p; letters = alphabet; end = end }) ts ≡ r → or_syntax r ≡ Ok f
    → All (λ t. IsTrue (are_below (length alphabet) t.1)) f
read_known p end ts (Err e) f is h = absurd (cc)
read_known p end ts (Ok g) f is h =
    let same : g ≡ f = cc in
    subst (λ (k : Poly). All (λ t. IsTrue (are_below (length alphabet) t.1)) k) same
    (denoted-known p alphabet ts (Ok g) (denoted-found (record { field = p; letters = alphabet; end = end }) ts g is))

poly_known : (p at : ℕ) (line : List ℕ) (f : Poly) → poly_at p alphabet at line ≡ Ok f → All (λ t. IsTrue (are_below 26 t.1)) f
unfolding alphabet poly_at
poly_known p at line f h =
    let g = got (tokens_at at line) (λ ts. or_syntax (denoted (record { field = p; letters = alphabet; end = length line + 1 }) ts)) f h in
    read_known p (length line + 1) g.0 (denoted (record { field = p; letters = alphabet; end = length line + 1 }) g.0) f refl g.2

by-known : (total p : ℕ) (letters : List ℕ) (w : Word) (at : ℕ) (line : List ℕ) (a : Asked) → asked_by total p letters w at line ≡ Ok a → IsKnown a
unfolding asked_by
by-known total p letters word.Field at line a h =
    let g = got (number_argument at line) (λ n. Ok (Field n)) a h in
    let e : Field g.0 ≡ a = cc in
    subst IsKnown e tt
by-known total p letters word.Generators at line a h =
    let g = got (tokens_at at line) (λ ts. Ok (Generators ts (length line + 1))) a h in
    let e : Generators g.0 (length line + 1) ≡ a = cc in
    subst IsKnown e tt
by-known total p letters word.Identity at line a h =
    let g = got (poly_at p alphabet at line) (λ f. Ok (Identity f)) a h in
    let e : Identity g.0 ≡ a = cc in
    subst IsKnown e (poly_known p at line g.0 g.1)
by-known total p letters word.Build at line a h = subst IsKnown (is_alone Build a at (dense (drop at line)) h) tt
by-known total p letters word.Polynomial at line a h =
    let g = got (poly_at p letters at line) (λ f. Ok (Polynomial f)) a h in
    let e : Polynomial g.0 ≡ a = cc in
    subst IsKnown e tt
by-known total p letters word.Prove at line a h =
    let g = got (poly_at p letters at line) (λ f. Ok (Prove f)) a h in
    let e : Prove g.0 ≡ a = cc in
    subst IsKnown e tt
by-known total p letters word.Dimensions at line a h = subst IsKnown (is_alone Dimensions a at (dense (drop at line)) h) tt
by-known total p letters word.Table at line a h = subst IsKnown (is_alone Table a at (dense (drop at line)) h) tt
by-known total p letters word.Claim at line a h =
    let g = got (poly_at p letters at line) (λ f. Ok (Claim f)) a h in
    let e : Claim g.0 ≡ a = cc in
    subst IsKnown e tt
by-known total p letters word.Await at line a h =
    let g = got (degree_at total at line) (λ n. Ok (Await n)) a h in
    let e : Await g.0 ≡ a = cc in
    subst IsKnown e tt
by-known total p letters word.Quit at line a h = subst IsKnown (is_alone Quit a at (dense (drop at line)) h) tt

at-known : (form : Form) (built : Bool) (total p : ℕ) (letters : List ℕ) (o : Option ℕ) (line : List ℕ) (a : Asked) → asked_at form built total p letters o line ≡ Ok a → IsKnown a
at-known form built total p letters None line a h = let e : Blank ≡ a = cc in subst IsKnown e tt
at-known form built total p letters (Some start) line a h =
    let at = start + word_length (drop start line) in
    let g = got (word_of built (command_word form line)) (λ w. asked_by total p letters w at line) a h in
    by-known total p letters g.0 at line a g.2

-- an identity is over the letters a to z
pub asked-known : (form : Form) (built : Bool) (total p : ℕ) (letters line : List ℕ) (a : Asked) → asked form built total p letters line ≡ Ok a → IsKnown a
unfolding asked
asked-known form built total p letters line a h = at-known form built total p letters (word_start line) line a h
