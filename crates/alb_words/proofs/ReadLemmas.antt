-- What clap finds, by the rows of its own definition.
use Rattle.std.proofs.Common.{◌≡◌, ℕ, true, false, List, [], ◌∷◌, map, Option, Some, None, option_map, sym, refl, ap, ◌∙◌, subst, arith, inl, inr}
use Rattle.std.specs.Prelude.{codes, option_and_then, slice_get, find, unwrap_or}
use Rattle.std.specs.Str.{bytes_eq}
use Rattle.std.specs.Borrow.{Bor}
use Rattle.std.proofs.lemmas.Bool.{cases_Bool}
use Rattle.std.proofs.lemmas.Bool.Decides.{nat_tests}
use Rattle.clap.specs.Walk.{Row, all_of, first_of, is_empty, row_of, rows_of}
use Rattle.clap.specs.Facts.{Entry}
use Rattle.clap.specs.Kinds.{Kinds, HasKind}
use Rattle.clap.specs.Values.{kind_of}
use Rattle.clap.specs.Matches.{first_value, found_of, matched_of, raw_values}
use Rattle.clap.specs.Words.{App, HasMatchesOf, fault_of, is_simple, is_simple_and_free, matches_of}
use Rattle.clap.proofs.OnLiterals.{clap_on_literals}
use Rattle.clap.specs.declared.parser.matches.ArgMatches.{ArgMatches}
use Rattle.alb_words.specs.Words.{Finds, are_taken, command_line, other_words, said, workers_in, workers_value}
use Rattle.clap.specs.declared.error.Error.{Error}
use Rattle.clap.specs.declared.error.kind.ErrorKind.TheVariants as kind
use Rattle.clap.specs.declared.parser.matches.Found.{Found}
use Rattle.clap.specs.declared.parser.matches.MatchedArg.{MatchedArg}

first-text : (xs : List (Bor (List ℕ))) → slice_get (map (λ s. s.now) xs) 0 ≡ option_map (λ s. s.now) (slice_get xs 0)
first-text [] = refl
first-text (x ∷ xs) = refl

-- the entry of an id, as a row
found-row : (es : List Entry) (id : List ℕ) → find (λ (r : Row). bytes_eq r.id id) (map row_of es) ≡ option_map row_of (find (λ (e : Entry). bytes_eq e.0.now id) es)
found-row [] id = refl
found-row (e ∷ es) id = elim (cases_Bool (bytes_eq e.0.now id)) [
  | inl h ↦ rw h refl
  | inr h ↦ rw h (found-row es id)
]

first-of : (o : Option Entry) → option_and_then (λ (r : Row). slice_get r.values 0) (option_map row_of o)
    ≡ option_and_then (λ (a : MatchedArg). option_map (λ s. s.now) (slice_get a.vals.items 0)) (option_map (λ (e : Entry). e.1) o)
first-of None = refl
first-of (Some e) = first-text e.1.vals.items

pub first-value : (f : Found) (id : List ℕ) → first_value f id ≡ first_of id (rows_of f)
first-value f id =
    sym (ap (option_and_then (λ (r : Row). slice_get r.values 0)) (found-row f.entries.items id) ∙ first-of (find (λ (e : Entry). bytes_eq e.0.now id) f.entries.items))

all-of : (o : Option Entry) → option_map (λ (r : Row). r.values) (option_map row_of o) ≡ option_map raw_values (option_map (λ (e : Entry). e.1) o)
all-of None = refl
all-of (Some e) = refl

pub all-values : (f : Found) (id : List ℕ) → option_map raw_values (matched_of f id) ≡ all_of id (rows_of f)
all-values f id =
    sym (ap (option_map (λ (r : Row). r.values)) (found-row f.entries.items id) ∙ all-of (find (λ (e : Entry). bytes_eq e.0.now id) f.entries.items))

-- an error that does not say that memory ran out has a kind among those of the words
pub faulty : (kinds : Kinds) (e : Error) → HasKind kinds e → (kind_of e ≡ kind.OutOfMemory → ⊥) → is_empty kinds ≡ false
faulty [] e (inl m) n = absurd (n m)
faulty [] e (inr h) n = absurd h
faulty (k ∷ ks) e h n = grind (arith, nat_tests)

-- ---- the command line of the program

pub simple : is_simple command_line ≡ true
unfolding clap_on_literals
simple = refl

pub free : is_simple_and_free command_line ≡ true
unfolding clap_on_literals
free = refl

pub found : (a : App) (words : List (List ℕ)) (m : ArgMatches) → a ≡ command_line → HasMatchesOf a words m → (is_simple_and_free a ≡ true → fault_of a words ≡ []) → Finds words m
unfolding are_taken workers_value other_words
found a words m e h k =
    let rows : rows_of (found_of m) ≡ matches_of command_line words = (h (ap is_simple e ∙ simple)).0 ∙ ap (λ (b : App). matches_of b words) e in
    let none : fault_of command_line words ≡ [] = ap (λ (b : App). fault_of b words) (sym e) ∙ k (ap is_simple_and_free e ∙ free) in
    record {
      taken = ap is_empty none;
      workers = first-value (found_of m) (codes "workers") ∙ ap (first_of (codes "workers")) rows;
      others = ap (λ (o : Option (List (List ℕ))). unwrap_or o []) (all-values (found_of m) (codes "words") ∙ ap (all_of (codes "words")) rows);
    }

pub refused : (a : App) (words : List (List ℕ)) (e : Error) → a ≡ command_line → (is_simple_and_free a ≡ true → HasKind (fault_of a words) e) → (kind_of e ≡ kind.OutOfMemory → ⊥) → are_taken words ≡ false
unfolding are_taken
refused a words e is h n = faulty (fault_of command_line words) e (subst (λ (b : App). HasKind (fault_of b words) e) is (h (ap is_simple_and_free is ∙ free))) n

-- ---- what the words say

pub says : (words : List (List ℕ)) (m : ArgMatches) (n : ℕ) (others : List (List ℕ)) → Finds words m → Some n ≡ workers_in (first_value (found_of m) (codes "workers")) →
    others ≡ unwrap_or (option_map raw_values (matched_of (found_of m) (codes "words"))) [] → said words ≡ Some (record { workers = n; others = others })
says words m n others f w o =
    let t = f.taken in
    let v : workers_in (workers_value words) ≡ Some n = ap workers_in (sym f.workers) ∙ sym w in
    let s : others ≡ other_words words = o ∙ f.others in
    rw (t, v, s) refl

pub says-none : (words : List (List ℕ)) (m : ArgMatches) → Finds words m → None ≡ workers_in (first_value (found_of m) (codes "workers")) → said words ≡ None
says-none words m f w =
    let t = f.taken in
    let v : workers_in (workers_value words) ≡ None = ap workers_in (sym f.workers) ∙ sym w in
    rw (t, v) refl

pub none-taken : (words : List (List ℕ)) → are_taken words ≡ false → said words ≡ None
none-taken words h = rw h refl
