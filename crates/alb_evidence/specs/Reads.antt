-- What the readers of blocks take from a source.
use Rattle.std.specs.Prelude.{◌≡◌, ℕ, Bool, true, false, List, [], ◌∷◌, ◌++◌, Option, Result, Ok, Err}
use Rattle.alb_io.specs.Reader.{Reader, Reads, IsFirstLine}
use Rattle.alb_io.specs.declared.step.LineStep.{LineStep}
use Rattle.alb_io.specs.declared.step.LineStep.TheVariants as step
use Rattle.alb_evidence.specs.Block.{is_end, BadLine, BadNumber, evidence_of}
use Rattle.alb_evidence.specs.Views.{evidence}
use Rattle.alb_evidence.specs.declared.evidence.Evidence.{Evidence}
use Rattle.alb_evidence.specs.declared.error.EvidenceError.{EvidenceError}
use Rattle.alb_evidence.specs.declared.error.EvidenceError.TheVariants as errors
use Rattle.alb_evidence.specs.declared.error.SkipError.{SkipError}
use Rattle.alb_evidence.specs.declared.error.SkipError.TheVariants as skip

-- a line was read, whole or too long
pub record ReadsLine (old new : Reader) (before now : Option (List ℕ)) (line : List ℕ) : Type 0 where
  pub answer : LineStep
  pub reads : Reads answer old new before now
  pub is_first : IsFirstLine line (old.held ++ reads.got) new.held new.at_end
  pub running : new.ended ≡ false

-- these lines were read, one after the other
abbrev pub ReadsLines : List (List ℕ) → Reader → Reader → Option (List ℕ) → Option (List ℕ) → Type 0
ReadsLines [] old new before now = (new ≡ old) × (now ≡ before)
ReadsLines (line ∷ lines) old new before now =
    (mid : Reader) × (between : Option (List ℕ)) × ReadsLine old mid before between line × ReadsLines lines mid new between now

-- none of the lines ends the block
abbrev pub HasNoEnd : List (List ℕ) → Type 0
HasNoEnd [] = Unit {0}
HasNoEnd (line ∷ lines) = (is_end line ≡ false) × HasNoEnd lines

-- after the lines of a block comes the line `end`, or the end of the input
abbrev pub Closes : Bool → Reader → Reader → Option (List ℕ) → Option (List ℕ) → Type 0
Closes true old new before now = (line : List ℕ) × (is_end line ≡ true) × ReadsLine old new before now line
Closes false old new before now = Reads step.End old new before now

-- these lines were read, and then what closes the block: `end`, or the end of the input
pub record ReadsBlock (has_end : Bool) (lines : List (List ℕ)) (old new : Reader) (before now : Option (List ℕ)) : Type 0 where
  pub last : Reader
  pub between : Option (List ℕ)
  pub inside : ReadsLines lines old last before between
  pub no_end : HasNoEnd lines
  pub closes : Closes has_end last new between now

-- these lines were read, and then this answer was given in place of a line
pub record Breaks (answer : LineStep) (old new : Reader) (before now : Option (List ℕ)) : Type 0 where
  pub lines : List (List ℕ)
  pub last : Reader
  pub between : Option (List ℕ)
  pub inside : ReadsLines lines old last before between
  pub no_end : HasNoEnd lines
  pub breaks : Reads answer last new between now

-- the lines up to the end of a block were read, and this is what they say
abbrev pub ReadsAs : Result Evidence EvidenceError → ℕ → List ℕ → Reader → Reader → Option (List ℕ) → Option (List ℕ) → Type 0
ReadsAs (Ok e) p letters old new before now =
    (lines : List (List ℕ)) × ReadsBlock true lines old new before now × (evidence_of p letters lines true ≡ Ok (evidence e))
ReadsAs (Err (errors.BadLine k)) p letters old new before now =
    (lines : List (List ℕ)) × (has_end : Bool) × ReadsBlock has_end lines old new before now × (evidence_of p letters lines has_end ≡ Err (BadLine k))
ReadsAs (Err (errors.BadNumber k)) p letters old new before now =
    (lines : List (List ℕ)) × (has_end : Bool) × ReadsBlock has_end lines old new before now × (evidence_of p letters lines has_end ≡ Err (BadNumber k))
ReadsAs (Err errors.ReadFault) p letters old new before now = Breaks step.ReadFault old new before now
ReadsAs (Err errors.InputLimit) p letters old new before now = Breaks step.InputLimit old new before now
ReadsAs (Err errors.NoMemory) p letters old new before now = (lines : List (List ℕ)) × ReadsLines lines old new before now

-- the lines up to the end of a block were read
abbrev pub Skips : Result (Unit {0}) SkipError → Reader → Reader → Option (List ℕ) → Option (List ℕ) → Type 0
Skips (Ok u) old new before now = (lines : List (List ℕ)) × (has_end : Bool) × ReadsBlock has_end lines old new before now
Skips (Err skip.ReadFault) old new before now = Breaks step.ReadFault old new before now
Skips (Err skip.InputLimit) old new before now = Breaks step.InputLimit old new before now
