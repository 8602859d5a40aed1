-- Files in memory, by their names.
use Rattle.std.proofs.Common.{◌≡◌, ℕ, ◌+◌, ◌<◌, ◌≤◌, Contains, MatchOption, arith, Bool, true, false, cond, List, [], ◌∷◌, length, get_or, drop, map, Option, Some, None, refl, sym, ap, ◌∙◌, subst}
use Rattle.std.proofs.lemmas.List.{at_drop_more}
use Rattle.std.proofs.lemmas.Map.Text.{is_eq-slice_cmp}
use Rattle.std.specs.Cmp.Lexicographic.{slice_cmp}
use Rattle.std.specs.FinMap as files
use denote.Ref.{Bor}
use Rattle.std.specs.FinMap.Entries as entries
use Rattle.std.specs.List.{AllByRecursion}
use Rattle.std.specs.Option.{option_map}
use Rattle.std.specs.Ordering.{nat_cmp}
use Rattle.std.specs.Str.{bytes_eq}
use Rattle.std.specs.String.{string_bytes}
use Rattle.std.proofs.lemmas.Cmp.{nat_list_cmp_total}
use Rattle.alb_io.specs.Files.{HasFile, IsFile}
use Rattle.alb_io.specs.MemFiles.{stored_of}
use Rattle.alb_io.specs.Memory.{Giving, FailsNoMore, HasPieces, Stored, file_named, files_of, source_of}
use Rattle.alb_io.specs.declared.memory.desk.MemFile.{MemFile}

-- one file on in a search for a name
pub file_named-more : (name : List ℕ) (files : List MemFile) (i : ℕ) (file : MemFile) (t : Bool) → i < length files → file ≡ get_or files i file
    → t ≡ bytes_eq name (string_bytes file.name)
    → file_named name (map stored_of (drop i files)) ≡ cond t (Some (stored_of file)) (file_named name (map stored_of (drop (i + 1) files)))
file_named-more name files i file t lt is test =
    at_drop_more (λ l. file_named name (map stored_of l)) files i file lt
    ∙ ap (λ (x : MemFile). file_named name (map stored_of (x ∷ drop (i + 1) files))) (sym is)
    ∙ ap (λ b. cond b (Some (stored_of file)) (file_named name (map stored_of (drop (i + 1) files)))) (sym test)

-- what holds of each file holds of the one that was found
pub file_named-All : (P : Stored → Type 0) (name : List ℕ) (stored : List Stored) (f : Stored) → AllByRecursion P stored → file_named name stored ≡ Some f → P f
file_named-All P name [] f all is = absurd cc
file_named-All P name (g ∷ stored) f all is =
    elim (bytes_eq name g.name) as (λ b. cond b (Some g) (file_named name stored) ≡ Some f → P f) [
      | true ↦ λ e. let same : g ≡ f = cc in subst P same all.0
      | false ↦ λ e. file_named-All P name stored f all.1 e
    ] is

bytes_of-cond : (b : Bool) (f : Stored) (o : Option Stored)
    → cond b (Some f.bytes) (option_map (λ (g : Stored). g.bytes) o) ≡ option_map (λ (g : Stored). g.bytes) (cond b (Some f) o)
bytes_of-cond true f o = refl
bytes_of-cond false f o = refl

find-file_named : (name : List ℕ) (stored : List Stored)
    → entries.find (slice_cmp nat_cmp) name (map (λ (f : Stored). (f.name, f.bytes)) stored) ≡ option_map (λ (f : Stored). f.bytes) (file_named name stored)
find-file_named name [] = refl
find-file_named name (f ∷ stored) =
    ap (λ b. cond b (Some f.bytes) (entries.find (slice_cmp nat_cmp) name (map (λ (g : Stored). (g.name, g.bytes)) stored))) (is_eq-slice_cmp name f.name)
    ∙ ap (λ r. cond (bytes_eq name f.name) (Some f.bytes) r) (find-file_named name stored)
    ∙ bytes_of-cond (bytes_eq name f.name) f (file_named name stored)

-- the map from names to bytes has the bytes of the file of a name
pub get-files_of : (name : List ℕ) (stored : List Stored) → files.get (files_of stored) name ≡ option_map (λ (f : Stored). f.bytes) (file_named name stored)
get-files_of name stored = files.get-from_entries nat_list_cmp_total (map (λ (f : Stored). (f.name, f.bytes)) stored) name ∙ find-file_named name stored

-- what was found has its name among the files, and the bytes that the desk tells of it
pub HasFile-named : (name : List ℕ) (stored : List Stored) (f : Stored) (left : List ℕ) → file_named name stored ≡ Some f → left ≡ f.bytes
    → HasFile (Some (files_of stored)) name (Some left)
HasFile-named name stored f left is same = (f.bytes, get-files_of name stored ∙ ap (option_map (λ (g : Stored). g.bytes)) is, ap Some same)

-- a name among the files is found
pub IsFile-named : (name : List ℕ) (stored : List Stored) → file_named name stored ≡ None → IsFile (Some (files_of stored)) name → ⊥
IsFile-named name stored none some = some (get-files_of name stored ∙ ap (option_map (λ (g : Stored). g.bytes)) none)

nothing_listed : (k : ℕ) → Contains [] k → ⊥
nothing_listed k has = omega (arith, has.1)

-- a source that a sound desk opened is sound
pub FailsNoMore-opened : (name : List ℕ) (stored : List Stored) (f : Stored) (s : Giving) → AllByRecursion (λ (g : Stored). g.failing ≡ []) stored
    → file_named name stored ≡ Some f → s ≡ source_of f → FailsNoMore s.failing s.next
FailsNoMore-opened name stored f s all is same = λ k le has.
    nothing_listed k (subst (λ l. Contains l k) (ap (λ (g : Giving). g.failing) same ∙ file_named-All (λ (g : Stored). g.failing ≡ []) name stored f all is) has)

-- the piece of a file that was found
pub piece_named : (name : List ℕ) (stored : List Stored) (f : Stored) → HasPieces stored → file_named name stored ≡ Some f → 1 ≤ f.piece
piece_named = file_named-All (λ (g : Stored). 1 ≤ g.piece)

pub piece_found : (name : List ℕ) (stored : List Stored) (r : Option (Bor MemFile)) → HasPieces stored
    → MatchOption r (file_named name stored ≡ None) (λ f. file_named name stored ≡ Some (stored_of f.now)) → MatchOption r (Unit {0}) (λ f. 1 ≤ f.now.piece)
piece_found name stored None has found = tt
piece_found name stored (Some f) has found = piece_named name stored (stored_of f.now) has found
