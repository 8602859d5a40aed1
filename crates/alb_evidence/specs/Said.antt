-- What contracts see of a block of which some lines were read.
use Rattle.std.specs.Prelude.{◌≡◌, ◌<◌, ◌≤◌, ℕ, Bool, ◌∷◌, List, All, length, map, Result, Ok, Err}
use Rattle.alb_deriv.specs.Views.{line, IsLine}
use Rattle.alb_check.specs.Raw.{Raw, raw}
use Rattle.alb_evidence.specs.Block as value
use Rattle.alb_evidence.specs.Block.{BlockFault, BadLine, BadNumber, closed, evidence_from}
use Rattle.alb_evidence.specs.Views.{evidence}
use Rattle.alb_evidence.specs.declared.said.Said.{Said}
use Rattle.alb_evidence.specs.declared.said.Said.TheVariants.{Nothing, Derivation, Table}
use Rattle.alb_evidence.specs.declared.block.OpenBlock.{OpenBlock}
use Rattle.alb_evidence.specs.declared.flaw.Flaw.{Flaw}
use Rattle.alb_evidence.specs.declared.flaw.Flaw.TheVariants as flaws
use Rattle.alb_evidence.specs.declared.evidence.Evidence.{Evidence}
use Rattle.alb_evidence.specs.declared.error.EvidenceError.{EvidenceError}
use Rattle.alb_evidence.specs.declared.error.EvidenceError.TheVariants as errors

-- types have `n` counts, there are at most `n` generators, and coefficients are residues
pub record IsRawPart (p n : ℕ) (t : Raw) : Type 0 where
  pub top : length t.top ≡ n
  pub elements : All (λ e. length e ≡ n) t.elements
  pub generators : length t.generators ≤ n
  pub residues : All (λ e. e.coef < p) t.entries

-- what the lines say, as the definition sees it
abbrev pub said : Said → value.Said
said Nothing = value.Nothing
said (Derivation ls) = value.Derivation (map line ls.items)
said (Table t) = value.Table (raw t)

-- lines and tables over `n` generators, with residues below `p`
abbrev pub IsSaid : ℕ → ℕ → Said → Type 0
IsSaid p n Nothing = Unit {0}
IsSaid p n (Derivation ls) = All (λ l. IsLine p n l) ls.items
IsSaid p n (Table t) = IsRawPart p n (raw t)

-- what lines and what closes them say after those that were read
abbrev pub says : ℕ → List ℕ → OpenBlock → List (List ℕ) → Bool → Result value.Evidence BlockFault
says p letters b lines has_end = evidence_from p letters b.next (said b.said) lines has_end

-- a line was taken, or is the first faulty one
abbrev pub Takes : Result (Unit {0}) EvidenceError → ℕ → List ℕ → OpenBlock → OpenBlock → List ℕ → Type 0
Takes (Ok u) p letters old new line = (lines : List (List ℕ)) (has_end : Bool) → says p letters old (line ∷ lines) has_end ≡ says p letters new lines has_end
Takes (Err (errors.BadLine k)) p letters old new line = (lines : List (List ℕ)) (has_end : Bool) → says p letters old (line ∷ lines) has_end ≡ Err (BadLine k)
Takes (Err (errors.BadNumber k)) p letters old new line = (lines : List (List ℕ)) (has_end : Bool) → says p letters old (line ∷ lines) has_end ≡ Err (BadNumber k)
Takes (Err errors.NoMemory) p letters old new line = Unit {0}
Takes (Err other) p letters old new line = ⊥

abbrev pub error_at : Flaw → ℕ → EvidenceError
error_at flaws.BadLine k = errors.BadLine k
error_at flaws.BadNumber k = errors.BadNumber k
error_at flaws.NoMemory k = errors.NoMemory

-- the block was closed by `end`
abbrev pub Closing : Result Evidence EvidenceError → Result value.Evidence BlockFault → Type 0
Closing (Ok e) all = all ≡ Ok (evidence e)
Closing (Err (errors.BadLine k)) all = all ≡ Err (BadLine k)
Closing (Err errors.NoMemory) all = Unit {0}
Closing (Err other) all = ⊥
