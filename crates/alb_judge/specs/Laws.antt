-- Laws that functions of `laws` state.
use Rattle.std.specs.Prelude.{◌≡◌, ℕ, Bool, List, None}
use Rattle.alb_poly.specs.Poly.{Poly}
use Rattle.alb_poly.specs.Instance.{Form}
use Rattle.alb_problem.specs.Builder.{Builder, finish_refusal, forms_of, IsSoundProblem}
use Rattle.alb_evidence.specs.Block.{evidence_of}
use Rattle.alb_judge.specs.Verdict.{Verdict, IsVerdict, IsJustified}

-- the verdict on a block of evidence for a claim about an accepted problem is justified
abbrev pub VerdictsAreJustified : Type 0
VerdictsAreJustified = (b : Builder) (g : Poly) (lines : List (List ℕ)) (has_end : Bool) (v : Verdict) → IsSoundProblem b → finish_refusal b ≡ None
    → IsVerdict b.field b.counts (forms_of b) g (evidence_of b.field b.letters lines has_end) v → IsJustified b.field b.identities g v

-- each block of evidence has exactly one verdict
abbrev pub EachHasOneVerdict : Type 0
EachHasOneVerdict = (p : ℕ) (letters target : List ℕ) (fs : List Form) (g : Poly) (lines : List (List ℕ)) (has_end : Bool)
    → (v : Verdict) × IsVerdict p target fs g (evidence_of p letters lines has_end) v × ((w : Verdict) → IsVerdict p target fs g (evidence_of p letters lines has_end) w → w ≡ v)
