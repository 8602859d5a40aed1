-- Proofs whose lines are tidy.
use Rattle.std.specs.Prelude.{map}
use Rattle.alb_deriv.specs.Views.{line}
use Rattle.alb_tidy.specs.Tidy.{IsTidy}
use Rattle.alb_trace.specs.declared.proving.Proof.{Proof}
use Rattle.alb_trace.specs.declared.proving.Proof.TheVariants as proofs

-- where lines show the answer, no line is idle and none stands twice
abbrev pub IsTidyProof : Proof → Type 0
IsTidyProof (proofs.Lines ls) = IsTidy (map line ls.items)
IsTidyProof (proofs.Table t) = Unit {0}
IsTidyProof proofs.Nothing = Unit {0}
