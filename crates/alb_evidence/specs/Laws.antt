-- What is written is read back.
use Rattle.std.specs.Prelude.{◌≡◌, ℕ, ◌^◌, ◌<◌, ◌≤◌, List, length}
use Rattle.alb_mono.specs.Tree.{AreLetters}
use Rattle.alb_mono.specs.Listing.{Each}
use Rattle.alb_poly.specs.Poly.{Poly}
use Rattle.alb_poly.specs.Instance.{Form}
use Rattle.alb_deriv.specs.Derivation.{Line, IsLimited}
use Rattle.alb_check.specs.Raw.{Raw, IsTableFit}
use Rattle.alb_evidence.specs.Block.{Evidence, Zero, NotZero}
use Rattle.alb_evidence.specs.Texts.{lines_text, table_text}
use Rattle.alb_evidence.specs.Limits.{AreLinesFit}
use Rattle.alb_evidence.specs.Accepted.{ReadsBack, IsProofOf, IsAcceptedBack}

-- a written derivation is read as that derivation
abbrev pub DerivationsReadBack : Type 0
DerivationsReadBack = (p : ℕ) (letters : List ℕ) (ls : List Line) → 1 < p → p < 2 ^ 16 → AreLetters letters → AreLinesFit p letters 1 ls
    → ReadsBack p letters (lines_text p letters ls) (Zero ls)

-- a written table is read as that table
abbrev pub TablesReadBack : Type 0
TablesReadBack = (p : ℕ) (letters : List ℕ) (t : Raw) → 1 < p → p < 2 ^ 16 → AreLetters letters → 0 < length letters → length letters ≤ 26 → IsTableFit p (length letters) t
    → ReadsBack p letters (table_text p letters t) (NotZero t)

-- ---- limits, and what is accepted

-- Lines within the limits of a derivation fit their text.
abbrev pub LimitedLinesFit : Type 0
LimitedLinesFit = (p : ℕ) (letters : List ℕ) (ls : List Line) → p < 2 ^ 16 → length ls < 10 ^ 18 → Each (IsLimited p (length letters)) ls
    → AreLinesFit p letters 1 ls

-- What proves or refutes a polynomial keeps the limits of its text, is read back as it is written, and is accepted by the judges.
abbrev pub EvidenceIsReadBack : Type 0
EvidenceIsReadBack = (p : ℕ) (letters target : List ℕ) (fs : List Form) (g : Poly) (e : Evidence)
    → 1 < p → p < 2 ^ 16 → AreLetters letters → 0 < length letters → length letters ≤ 26 → length letters ≡ length target
    → IsProofOf p target fs g e → IsAcceptedBack p letters target fs g e
