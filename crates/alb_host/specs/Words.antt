-- What the words of the command line of `albert_host` say.
use Rattle.std.specs.Prelude.{ℕ, ◌%◌, ◌==◌, nat_le, Bool, ◌&&◌, if◌then◌else◌, List, [], ◌∷◌, length, map, Option, None, Some}
use Rattle.alb_words.specs.Words.{Said, said}
use Rattle.alb_host.specs.declared.words.Names.{Names}
use Rattle.alb_host.specs.declared.words.HostWords as declared

-- how many workers; the name of the problem file; and of each session the names of the file that it reads and of the one that it
-- writes
pub record HostWords : Type 0 where
  pub workers : ℕ
  pub problem : List ℕ
  pub sessions : List (List ℕ × List ℕ)

-- 1 to 8 pairs
abbrev pub are_pairs : ℕ → Bool
are_pairs n = nat_le 2 n && nat_le n 16 && n % 2 == 0

-- words two by two
unfoldable pub pairs_of : List (List ℕ) → List (List ℕ × List ℕ)
pairs_of [] = []
pairs_of (x ∷ []) = []
pairs_of (x ∷ y ∷ rest) = (x, y) ∷ pairs_of rest

-- the problem file, and pairs of files
abbrev pub files_in : ℕ → List (List ℕ) → Option HostWords
files_in workers [] = None
files_in workers (x ∷ rest) = if are_pairs (length rest) then Some (record { workers = workers; problem = x; sessions = pairs_of rest }) else None

abbrev pub files_of : Option Said → Option HostWords
files_of None = None
files_of (Some s) = files_in s.workers s.others

-- WHAT THE WORDS SAY, None where they are at fault
abbrev pub host_words : List (List ℕ) → Option HostWords
host_words words = files_of (said words)

-- what contracts see of names and words
abbrev pub names_view : Names → List ℕ × List ℕ
names_view n = (n.input.now, n.output.now)

abbrev pub words_view : declared.HostWords → HostWords
words_view h = record { workers = h.workers; problem = h.problem.now; sessions = map names_view h.sessions.items }
