-- Evidence that is written, read back and judged.
use Rattle.std.specs.Prelude.{◌≡◌, ℕ, true, List, [], ◌∷◌, ◌++◌, length, None, Ok, codes}
use Rattle.alb_io.specs.Reader.{lines_of}
use Rattle.alb_poly.specs.Poly.{Poly}
use Rattle.alb_poly.specs.Instance.{Form}
use Rattle.alb_deriv.specs.Derivation.{claim_fault, IsLimitedDerivation}
use Rattle.alb_check.specs.Raw.{IsTableFit}
use Rattle.alb_check.specs.Verdict.{Refuted, IsTableVerdict}
use Rattle.alb_evidence.specs.Block.{Evidence, Zero, NotZero, evidence_of}
use Rattle.alb_evidence.specs.Limits.{KeepsLimits}
use Rattle.alb_evidence.specs.Reads.{HasNoEnd}
use Rattle.alb_evidence.specs.Texts.{lines_text, table_text}

-- how evidence prints
abbrev pub evidence_text : ℕ → List ℕ → Evidence → List ℕ
evidence_text p letters (Zero ls) = lines_text p letters ls
evidence_text p letters (NotZero t) = table_text p letters t

-- the text has the lines of a block and then `end`, and the block says this
pub record ReadsBack (p : ℕ) (letters text : List ℕ) (e : Evidence) : Type 0 where
  pub lines : List (List ℕ)
  pub cut : lines_of text ≡ lines ++ codes "end" ∷ []
  pub no_end : HasNoEnd lines
  pub says : evidence_of p letters lines true ≡ Ok e

-- the evidence proves that `g` is zero, or refutes it, within the limits of its text
abbrev pub IsProofOf : ℕ → List ℕ → List Form → Poly → Evidence → Type 0
IsProofOf p target fs g (Zero ls) = IsLimitedDerivation p target fs g ls
IsProofOf p target fs g (NotZero t) = IsTableFit p (length target) t × IsTableVerdict p target fs t g Refuted

-- the judge of derivations finds no fault, or that of tables says that the polynomial is refuted
abbrev pub JudgeAccepts : ℕ → List ℕ → List Form → Poly → Evidence → Type 0
JudgeAccepts p target fs g (Zero ls) = claim_fault p target fs g ls ≡ None
JudgeAccepts p target fs g (NotZero t) = IsTableVerdict p target fs t g Refuted

-- written with these letters it keeps its limits, it is read back, and its judge accepts it
pub record IsAcceptedBack (p : ℕ) (letters target : List ℕ) (fs : List Form) (g : Poly) (e : Evidence) : Type 0 where
  pub limits : KeepsLimits p letters e
  pub back : ReadsBack p letters (evidence_text p letters e) e
  pub accepted : JudgeAccepts p target fs g e
