-- The next line of a block, or what closes the block.
use Rattle.std.specs.Prelude.{◌≡◌, ℕ, Bool, true, false, nat_lt, List, length, Option, Some, Result}
use Rattle.alb_io.specs.Reader.{Reader, Reads}
use Rattle.alb_io.specs.declared.step.LineStep.TheVariants as step
use Rattle.alb_evidence.specs.Block.{is_end}
use Rattle.alb_evidence.specs.Reads.{ReadsLine, ReadsBlock, Breaks, Closes}
use Rattle.alb_evidence.specs.Said.{Takes}
use Rattle.alb_evidence.specs.declared.block.OpenBlock.{OpenBlock}
use Rattle.alb_evidence.specs.declared.error.EvidenceError.{EvidenceError}
use Rattle.alb_evidence.specs.declared.error.EvidenceError.TheVariants as errors
use Rattle.alb_evidence.specs.declared.inside.Inside.{Inside}
use Rattle.alb_evidence.specs.declared.inside.Inside.TheVariants as inside

-- a line that does not end the block; one of at most 65,536 bytes is held
pub record IsLineInside (is_long : Bool) (old new : Reader) (before now : Option (List ℕ)) : Type 0 where
  pub line : List ℕ
  pub reads : ReadsLine old new before now line
  pub no_end : is_end line ≡ false
  pub long : is_long ≡ nat_lt 65536 (length line)
  pub held : is_long ≡ false → new.line ≡ Some line

abbrev pub IsNext : Inside → Reader → Reader → Option (List ℕ) → Option (List ℕ) → Type 0
IsNext (inside.Line is_long) old new before now = IsLineInside is_long old new before now
IsNext inside.End old new before now = Closes true old new before now
IsNext inside.InputEnd old new before now = Closes false old new before now
IsNext inside.ReadFault old new before now = Reads step.ReadFault old new before now
IsNext inside.InputLimit old new before now = Reads step.InputLimit old new before now

-- the next line was taken, or is the first faulty one
abbrev pub TakesNext : Result (Unit {0}) EvidenceError → ℕ → List ℕ → Bool → Option (List ℕ) → OpenBlock → OpenBlock → Type 0
TakesNext result p letters is_long held old new =
    (line : List ℕ) → is_long ≡ nat_lt 65536 (length line) → (is_long ≡ false → held ≡ Some line) → Takes result p letters old new line

-- a line is faulty
abbrev pub IsLineFault : EvidenceError → Type 0
IsLineFault (errors.BadLine k) = Unit {0}
IsLineFault (errors.BadNumber k) = Unit {0}
IsLineFault other = ⊥

-- what was left of a block with a faulty line was read
abbrev pub SkipsAfter : EvidenceError → EvidenceError → Reader → Reader → Option (List ℕ) → Option (List ℕ) → Type 0
SkipsAfter error errors.ReadFault old new before now = Breaks step.ReadFault old new before now
SkipsAfter error errors.InputLimit old new before now = Breaks step.InputLimit old new before now
SkipsAfter error errors.NoMemory old new before now = ⊥
SkipsAfter error other old new before now = (other ≡ error) × (lines : List (List ℕ)) × (has_end : Bool) × ReadsBlock has_end lines old new before now
