-- The files of sessions, opened one after the other.
use Rattle.std.proofs.Common.{◌≡◌, ℕ, ◌+◌, ◌<◌, List, [], ◌∷◌, ◌++◌, length, map, take, get_or, All, Option, Result, Err, sym, ap, subst, arith}
use Rattle.std.specs.Prelude.{IsSome}
use Rattle.std.proofs.Math.ListN.{get_or-map}
use Rattle.std.proofs.lemmas.List.{map_more, length-map}
use Rattle.std.proofs.lemmas.List.Elements.{All-get_or}
use Rattle.alb_io.specs.Files.{Files, HasFile, IsFile}
use Rattle.alb_io.specs.declared.sink.Sink as sinks
use Rattle.alb_io.specs.declared.source.Source as sources
use Rattle.alb_host.specs.Runs.{AreEach}
use Rattle.alb_host.specs.Steps.{IsOpenedAs}
use Rattle.alb_host.specs.Words.{names_view}
use Rattle.alb_host.specs.declared.files.Opened.{Opened}
use Rattle.alb_host.specs.declared.words.Names.{Names}
use Rattle.alb_host.proofs.JobLemmas.{each-more}

-- an error is the same in place of another value
pub same-error : {A B E : Type 0} (e x : E) → ◌≡◌ {A = Result A E} (Err e) (Err x) → ◌≡◌ {A = Result B E} (Err e) (Err x)
same-error {A} {B} {E} e x h =
    let is : e ≡ x = cc in
    ap (λ (y : E). Err y) is

-- the error is this one
pub is-err : {A E : Type 0} (e x : E) → e ≡ x → ◌≡◌ {A = Result A E} (Err e) (Err x)
is-err {A} {E} e x h = ap (λ (y : E). Err y) h

-- the file that is read at a place is among the files that a desk tells later
pub file-at : (files later : Option Files) (ns : List Names) (i : ℕ) (d : Names) → later ≡ files → i < length ns → All (λ (x : List ℕ × List ℕ). IsFile files x.0) (map names_view ns)
    → IsFile later (get_or ns i d).input.now
file-at files later ns i d same less all =
    let here = All-get_or (λ (x : List ℕ × List ℕ). IsFile files x.0) (map names_view ns) i (names_view d) (omega (arith, less, length-map ns names_view)) all in
    subst (λ (f : Option Files). IsFile f (get_or ns i d).input.now) (sym same) (subst (λ (x : List ℕ × List ℕ). IsFile files x.0) (get_or-map names_view ns i d) here)

module _ {I K : Type 0} (source : sources.Ghosts I) (sink : sinks.Ghosts K) where
  -- a desk that tells the same files later, and is sound if it was
  pub opened-since : (files later : Option Files) (sound still : Type 0) (names : List ℕ × List ℕ) (o : Opened I K) → later ≡ files → (sound → still)
      → IsOpenedAs source sink later still names o → IsOpenedAs source sink files sound names o
  opened-since files later sound still names o same stays h = record {
    file = subst (λ f. HasFile f names.0 (source.left o.source)) same h.file;
    no_read_fault = h.no_read_fault;
    sound_source = λ k. h.sound_source (stays k);
    no_write_fault = h.no_write_fault;
    empty = λ told. h.empty (subst IsSome (sym same) told);
  }

  -- one session more
  pub opened-more : (files : Option Files) (sound : Type 0) (ns : List Names) (i : ℕ) (d : Names) (os new : List (Opened I K)) (o : Opened I K) → i < length ns → new ≡ os ++ o ∷ []
      → AreEach (IsOpenedAs source sink files sound) (map names_view (take i ns)) os → IsOpenedAs source sink files sound (names_view (get_or ns i d)) o
      → AreEach (IsOpenedAs source sink files sound) (map names_view (take (i + 1) ns)) new
  opened-more files sound ns i d os new o less made each one =
      subst (λ (xs : List (List ℕ × List ℕ)). AreEach (IsOpenedAs source sink files sound) xs new) (sym (map_more names_view ns i d less))
      (subst (λ (ys : List (Opened I K)). AreEach (IsOpenedAs source sink files sound) (map names_view (take i ns) ++ names_view (get_or ns i d) ∷ []) ys) (sym made)
      (each-more (IsOpenedAs source sink files sound) (map names_view (take i ns)) os (names_view (get_or ns i d)) o each one))
