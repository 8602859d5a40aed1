-- What contracts see of evidence.
use Rattle.std.specs.Prelude.{ℕ, map, All}
use Rattle.alb_deriv.specs.Views.{line, IsLine}
use Rattle.alb_check.specs.Raw.{raw, IsRaw}
use Rattle.alb_evidence.specs.Block as value
use Rattle.alb_evidence.specs.declared.evidence.Evidence.{Evidence}
use Rattle.alb_evidence.specs.declared.evidence.Evidence.TheVariants.{Zero, NotZero}

-- the evidence as the definition sees it
abbrev pub evidence : Evidence → value.Evidence
evidence (Zero ls) = value.Zero (map line ls.items)
evidence (NotZero t) = value.NotZero (raw t)

-- lines and tables over `n` generators, with residues below `p`
abbrev pub IsEvidence : ℕ → ℕ → Evidence → Type 0
IsEvidence p n (Zero ls) = All (λ l. IsLine p n l) ls.items
IsEvidence p n (NotZero t) = IsRaw p n (raw t)
