-- The files of a desk, by their names.
use Rattle.std.specs.Prelude.{◌≡◌, ◌≢◌, ℕ, ◌≤◌, List, Option, None, Some, Result, MatchResult}
use Rattle.std.specs.Ordering.{nat_cmp}
use Rattle.std.specs.Cmp.Lexicographic.{slice_cmp}
use Rattle.std.specs.FinMap as map
use Rattle.alb_io.specs.Causes.{Rose}
use Rattle.alb_io.specs.declared.desk.OpenError.{OpenError}
use Rattle.alb_io.specs.declared.desk.OpenError.TheVariants as error

-- a finite map from names to bytes
abbrev pub Files : Type 0
Files = map.FinMap (slice_cmp nat_cmp) (List ℕ)

-- the bytes of a name
abbrev pub bytes_of : Files → List ℕ → Option (List ℕ)
bytes_of files name = map.get files name

-- where the desk tells its files, the name is among them, and the source has left the bytes of that file
abbrev pub HasFile : Option Files → List ℕ → Option (List ℕ) → Type 0
HasFile None name left = Unit {0}
HasFile (Some files) name left = (bytes : List ℕ) × (bytes_of files name ≡ Some bytes) × (left ≡ Some bytes)

-- the name is among the files
abbrev pub IsFile : Option Files → List ℕ → Type 0
IsFile None name = ⊥
IsFile (Some files) name = bytes_of files name ≢ None

-- the count rose at a fault, and stayed when memory ran out
abbrev pub IsCauseOf : OpenError → ℕ → ℕ → Type 0
IsCauseOf error.Failed before now = Rose before now
IsCauseOf error.NoMemory before now = now ≡ before

-- the count never falls, and it rose where the call failed
pub record OpenCause {T : Type 0} (before now : ℕ) (result : Result T OpenError) : Type 0 where
  pub later : before ≤ now
  pub failed : MatchResult result (λ _. Unit {0}) (λ e. IsCauseOf e before now)
