-- The limits of evidence that is written and read back.
use Rattle.std.specs.Prelude.{◌≡◌, ℕ, ◌+◌, ◌^◌, ◌<◌, ◌≤◌, true, List, [], ◌∷◌, length}
use Rattle.alb_mono.specs.Tree.{degree, are_below}
use Rattle.alb_deriv.specs.Derivation.{Line, Instance, Times, Sum, AreMonos, AreSumItems}
use Rattle.alb_check.specs.Raw.{IsTableFit}
use Rattle.alb_evidence.specs.Block.{Evidence, Zero, NotZero}
use Rattle.alb_evidence.specs.Texts.{line_text}

-- a line with numbers of at most 18 digits, monomials over the first n generators of degree at most 64, and residues
abbrev pub IsLineFit : ℕ → ℕ → Line → Type 0
IsLineFit p n (Instance i ms) = (i < 10 ^ 18) × AreMonos n ms
IsLineFit p n (Times k m) = (k < 10 ^ 18) × (are_below n m.1 ≡ true) × (degree m.1 ≤ 64)
IsLineFit p n (Sum cs) = AreSumItems p cs

-- lines, counted on from k, that fit, and whose texts with their line feeds have at most 65,537 bytes
abbrev pub AreLinesFit : ℕ → List ℕ → ℕ → List Line → Type 0
AreLinesFit p letters k [] = Unit {0}
AreLinesFit p letters k (l ∷ ls) = (k < 10 ^ 18) × IsLineFit p (length letters) l × (length (line_text p letters k l) ≤ 65537) × AreLinesFit p letters (k + 1) ls

-- THE LIMITS OF EVIDENCE that is written with these letters
abbrev pub KeepsLimits : ℕ → List ℕ → Evidence → Type 0
KeepsLimits p letters (Zero ls) = AreLinesFit p letters 1 ls
KeepsLimits p letters (NotZero t) = IsTableFit p (length letters) t
