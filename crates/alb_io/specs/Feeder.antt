-- What the parts of a reader of lines do.
use Rattle.std.specs.Prelude.{◌≡◌, ℕ, ◌+◌, ◌<◌, ◌≤◌, Bool, true, false, List, [], ◌∷◌, ◌++◌, length, slice_range, Option, Some, None, Result, MatchResult, if◌then◌else◌}
use Rattle.std.specs.Io.KnownBytes.{Consumes, IsAtEnd, Keeps}
use Rattle.alb_io.specs.Reader.{HasNoFeed, Reader}
use Rattle.alb_io.specs.declared.feeder.Feeder.{Feeder}
use Rattle.alb_io.specs.declared.feeder.Gathered.{Gathered}
use Rattle.alb_io.specs.declared.step.LineStep.{LineStep}
use Rattle.alb_io.specs.declared.step.LineStep.TheVariants as step

-- the bytes that were taken and not given yet
abbrev pub held_of : Feeder → List ℕ
held_of f = slice_range f.chunk f.from f.to

-- the places are in the chunk, and where the end was seen nothing is held, and more might have been taken
abbrev pub IsFeeder : Feeder → Type 0
IsFeeder f = (f.from ≤ f.to) × (f.to ≤ 4096) × (f.at_end ≡ true → (f.from ≡ f.to) × (0 < f.room))

-- the line as far as it was read is all
abbrev pub IsGatheredBy : Bool → List ℕ → List ℕ → Type 0
IsGatheredBy true bytes all = 65536 < length all
IsGatheredBy false bytes all = (bytes ≡ all) × (length all ≤ 65536)

-- the same of the two fields
abbrev pub IsGathered : List ℕ → Gathered → Type 0
IsGathered all g = IsGatheredBy g.is_long g.bytes.items all

-- the answer for a whole line
abbrev pub IsStep : List ℕ → List ℕ → LineStep → Type 0
IsStep all bytes step.Line = (bytes ≡ all) × (length all ≤ 65536)
IsStep all bytes step.TooLong = 65536 < length all
IsStep all bytes other = ⊥

-- a part of the line went over: up to a line feed, or all that was held
abbrev pub MovesPart : Bool → Feeder → Feeder → Gathered → Gathered → Type 0
MovesPart true old new g h = (part : List ℕ) × HasNoFeed part × (held_of old ≡ part ++ 10 ∷ held_of new)
    × ((all : List ℕ) → IsGathered all g → IsGathered (all ++ part) h) × (new.room ≡ old.room) × (new.at_end ≡ old.at_end)
MovesPart false old new g h = HasNoFeed (held_of old) × (new.from ≡ new.to)
    × ((all : List ℕ) → IsGathered all g → IsGathered (all ++ held_of old) h) × (new.room ≡ old.room) × (new.at_end ≡ old.at_end)

-- what a piece that was taken changes
pub record TakesPiece (old new : Feeder) (before now : Option (List ℕ)) : Type 0 where
  pub consumed : Consumes before now (held_of new)
  pub room : new.room + length (held_of new) ≡ old.room
  pub small : length (held_of new) ≤ 4096
  pub some : new.at_end ≡ false → 0 < length (held_of new)
  pub none : new.at_end ≡ true → (held_of new ≡ []) × IsAtEnd now × (0 < new.room)

-- what a take leaves, also where it failed
abbrev pub Fills : {E : Type 0} → Result (Unit {0}) E → Feeder → Feeder → Option (List ℕ) → Option (List ℕ) → Type 0
Fills result old new before now = MatchResult result (λ _. TakesPiece old new before now) (λ _. (new.from ≡ new.to) × (new.room ≡ old.room) × (new.at_end ≡ false) × Keeps before now)

-- the answer that there is a line
abbrev pub is_line : LineStep → Bool
is_line step.Line = true
is_line other = false

-- the answers after which no line is read
abbrev pub is_last : LineStep → Bool
is_last step.End = true
is_last step.ReadFault = true
is_last step.InputLimit = true
is_last other = false

-- the parts as a reader
abbrev pub reader_of : Feeder → List ℕ → Bool → Bool → Reader
reader_of f bytes has_line ended = record { held = held_of f; room = f.room; at_end = f.at_end; ended = ended; line = if has_line then Some bytes else None }
