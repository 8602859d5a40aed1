-- What the sources, sinks and desks in memory hold, and what their calls leave.
use Rattle.std.specs.Prelude.{◌≡◌, ◌⊎◌, ℕ, ◌+◌, ◌-◌, ◌^◌, ◌≤◌, min, List, [], map, drop, take, ◌++◌, Contains, Option, None, Some, Result, Ok, Err}
use Rattle.std.specs.List.{AllByRecursion, find}
use Rattle.std.specs.Str.{bytes_eq}
use Rattle.std.specs.FinMap as files
use Rattle.alb_io.specs.Files.{Files}
use Rattle.alb_io.specs.declared.desk.OpenError.{OpenError}
use Rattle.alb_io.specs.declared.desk.OpenError.TheVariants as error

-- one more, up to the last number of the counter
abbrev pub next_of : ℕ → ℕ
next_of n = min (n + 1) (2 ^ 64 - 1)

-- no call from this number on is listed
abbrev pub FailsNoMore : List ℕ → ℕ → Type 0
FailsNoMore failing next = (k : ℕ) → next ≤ k → Contains failing k → ⊥

-- A source in memory: the bytes left, the most that one take gives, the numbers of the takes that fail, the number
-- of the next take, and how many failed.
pub record Giving : Type 0 where
  pub left : List ℕ
  pub piece : ℕ
  pub failing : List ℕ
  pub next : ℕ
  pub faults : ℕ

-- the source after a take of some bytes, and after one that failed
abbrev pub after_take : ℕ → Giving → Giving
after_take count s = record s { left = drop count s.left; next = next_of s.next }

abbrev pub after_failed_take : Giving → Giving
after_failed_take s = record s { next = next_of s.next; faults = next_of s.faults }

-- A sink in memory: its name, the bytes taken, the most that one put appends, the numbers of the puts that fail, the
-- number of the next put, and how many failed.
pub record Taking : Type 0 where
  pub name : Option (List ℕ)
  pub taken : List ℕ
  pub piece : ℕ
  pub failing : List ℕ
  pub next : ℕ
  pub faults : ℕ

-- the sink after a put of the first bytes of a piece, and after one that failed
abbrev pub after_put : ℕ → List ℕ → Taking → Taking
after_put count piece s = record s { taken = s.taken ++ take count piece; next = next_of s.next }

abbrev pub after_failed_put : Taking → Taking
after_failed_put s = record s { next = next_of s.next; faults = next_of s.faults }

-- a file in memory: its name, its bytes, and the piece and the failing numbers of what opens or creates it
pub record Stored : Type 0 where
  pub name : List ℕ
  pub bytes : List ℕ
  pub piece : ℕ
  pub failing : List ℕ

-- A desk in memory: its files, the numbers of the calls that fail, the number of the next call, and how many failed.
pub record Shelf : Type 0 where
  pub files : List Stored
  pub failing : List ℕ
  pub next : ℕ
  pub faults : ℕ

-- the first file of that name
abbrev pub file_named : List ℕ → List Stored → Option Stored
file_named name = find (λ f. bytes_eq name f.name)

-- the bytes of each name
abbrev pub files_of : List Stored → Files
files_of stored = files.from_entries (map (λ f. (f.name, f.bytes)) stored)

-- each file has a piece of at least 1
abbrev pub HasPieces : List Stored → Type 0
HasPieces = AllByRecursion (λ f. 1 ≤ f.piece)

-- no call fails from here on, neither of the desk nor of what it opens
abbrev pub IsSoundShelf : Shelf → Type 0
IsSoundShelf d = FailsNoMore d.failing d.next × AllByRecursion (λ f. f.failing ≡ []) d.files

-- the desk after a call that succeeded, and after one that failed
abbrev pub after_call : Shelf → Shelf
after_call d = record d { next = next_of d.next }

abbrev pub after_failed_call : Shelf → Shelf
after_failed_call d = record d { next = next_of d.next; faults = next_of d.faults }

-- the source of a file that was opened
abbrev pub source_of : Stored → Giving
source_of f = record { left = f.bytes; piece = f.piece; failing = f.failing; next = 0; faults = 0 }

-- the sink that was created with a name: by the file of that name, or with whole pieces and no fault
abbrev pub sink_of : List ℕ → Option Stored → Taking
sink_of name None = record { name = Some name; taken = []; piece = 2 ^ 64 - 1; failing = []; next = 0; faults = 0 }
sink_of name (Some f) = record { name = Some name; taken = []; piece = f.piece; failing = f.failing; next = 0; faults = 0 }

-- What `open` answers: the file's source; a fault exactly where the call is listed or there is no such file; or that
-- memory ran out, which changes nothing.
abbrev pub OpensFile : List ℕ → Result Giving OpenError → Shelf → Shelf → Type 0
OpensFile name (Ok source) old new =
    (Contains old.failing old.next → ⊥) × ((f : Stored) × (file_named name old.files ≡ Some f) × (source ≡ source_of f)) × (new ≡ after_call old)
OpensFile name (Err error.Failed) old new = (Contains old.failing old.next ⊎ (file_named name old.files ≡ None)) × (new ≡ after_failed_call old)
OpensFile name (Err error.NoMemory) old new =
    (Contains old.failing old.next → ⊥) × ((f : Stored) × (file_named name old.files ≡ Some f)) × (new ≡ old)

-- what `create` answers
abbrev pub Creates : List ℕ → Result Taking OpenError → Shelf → Shelf → Type 0
Creates name (Ok sink) old new = (Contains old.failing old.next → ⊥) × (sink ≡ sink_of name (file_named name old.files)) × (new ≡ after_call old)
Creates name (Err error.Failed) old new = Contains old.failing old.next × (new ≡ after_failed_call old)
Creates name (Err error.NoMemory) old new = (Contains old.failing old.next → ⊥) × (new ≡ old)
