-- Verdicts are justified, each block has one, and it is unique.
use Rattle.std.proofs.Common.{◌≡◌, ℕ, ◌<◌, Bool, List, map, length, Option, Some, None, Result, Ok, Err, refl, sym, ap, ◌∙◌, subst}
use Rattle.gf_field.specs.Modular.{IsInTable}
use Rattle.gf_field.proofs.Table.{IsPrime-from_table}
use Rattle.alb_poly.specs.Poly.{Poly}
use Rattle.alb_poly.specs.Instance as instances
use Rattle.alb_poly.specs.Textbook.{IsTextConsequence}
use Rattle.alb_problem.specs.Builder.{Builder, with_degrees, finish_refusal, forms_of, IsSoundProblem}
use Rattle.alb_problem.proofs.SoundLemmas.{text-consequence, table-positive, same-named, all-homogeneous, polynomials-named, accepted-large}
use Rattle.alb_deriv.specs.Derivation as derivation
use Rattle.alb_deriv.specs.Derivation.{claim_fault}
use Rattle.alb_deriv.proofs.Judged.{no_fault-derivation, derived-consequence}
use Rattle.alb_check.specs.Raw.{Raw, IsRaw}
use Rattle.alb_check.specs.Verdict as tables
use Rattle.alb_check.proofs.VerdictLemmas as table
use Rattle.alb_check.proofs.VerdictLemmas.{verdict-one}
use Rattle.alb_evidence.specs.Block as block
use Rattle.alb_evidence.specs.Block.{evidence_of}
use Rattle.alb_judge.specs.Verdict.{Verdict, Rejected, OfBlock, IsVerdict, IsJustified, of_derivation, of_table}
use Rattle.alb_judge.specs.Laws.{VerdictsAreJustified, EachHasOneVerdict}
use Rattle.alb_judge.proofs.EvidenceLemmas.{evidence-raw}

derived-justified : (b : Builder) (g : Poly) (o : Option (derivation.DerivationFault × ℕ)) → (o ≡ None → IsTextConsequence b.field b.identities g) → IsJustified b.field b.identities g (of_derivation o)
derived-justified b g None h = h refl
derived-justified b g (Some fault) h = tt

-- what a table refutes is no consequence
refuted-text : (b : Builder) (g : Poly) (t : Raw) → IsSoundProblem b → finish_refusal b ≡ None → IsRaw b.field (length b.counts) t
    → tables.IsTableVerdict b.field b.counts (forms_of b) t g tables.Refuted → IsTextConsequence b.field b.identities g → ⊥
refuted-text b g t h accepted raw is c =
    table.refuted-text b.field b.counts (forms_of b) t g (IsPrime-from_table b.field h.field) (accepted-large b accepted) raw is
    (map with_degrees b.identities) (all-homogeneous b h) (same-named b.field b.identities) (subst (λ fs. IsTextConsequence b.field fs g) (sym (polynomials-named b.identities)) c)

table-justified : (b : Builder) (g : Poly) (t : Raw) (w : tables.TableVerdict) → IsSoundProblem b → finish_refusal b ≡ None → IsRaw b.field (length b.counts) t
    → tables.IsTableVerdict b.field b.counts (forms_of b) t g w → IsJustified b.field b.identities g (of_table w)
table-justified b g t tables.Refuted h accepted raw is = refuted-text b g t h accepted raw is
table-justified b g t (tables.BadShape r) h accepted raw is = tt
table-justified b g t (tables.Fails i ks) h accepted raw is = tt
table-justified b g t tables.ValueZero h accepted raw is = tt

-- where the evidence is a table, it is one over the field and the generators
abbrev pub IsRead : Builder → Result block.Evidence block.BlockFault → Type 0
IsRead b (Ok (block.NotZero t)) = IsRaw b.field (length b.counts) t
IsRead b other = Unit {0}

pub verdict-justified : (b : Builder) (g : Poly) (given : Result block.Evidence block.BlockFault) (v : Verdict) → IsSoundProblem b → finish_refusal b ≡ None → IsRead b given
    → IsVerdict b.field b.counts (forms_of b) g given v → IsJustified b.field b.identities g v
verdict-justified b g (Err fault) v h accepted raw is = subst (IsJustified b.field b.identities g) (sym is) tt
verdict-justified b g (Ok (block.Zero lines)) v h accepted raw is =
    subst (IsJustified b.field b.identities g) (sym is) (derived-justified b g (claim_fault b.field b.counts (forms_of b) g lines) (λ none.
    text-consequence b g h (derived-consequence b.field b.counts (forms_of b) g lines (no_fault-derivation b.field b.counts (forms_of b) g lines (table-positive b.field h.field) none))))
verdict-justified b g (Ok (block.NotZero t)) v h accepted raw is =
    subst (IsJustified b.field b.identities g) (sym is.2) (table-justified b g t is.0 h accepted raw is.1)

pub judged-some : (p : ℕ) (target : List ℕ) (fs : List instances.Form) (g : Poly) (given : Result block.Evidence block.BlockFault) → (v : Verdict) × IsVerdict p target fs g given v
judged-some p target fs g (Err fault) = (Rejected (OfBlock fault), refl)
judged-some p target fs g (Ok (block.Zero lines)) = (of_derivation (claim_fault p target fs g lines), refl)
judged-some p target fs g (Ok (block.NotZero t)) =
    let w = table.verdict-some p target fs t g in
    (of_table w.0, (w.0, w.1, refl))

is_read : (b : Builder) (given : Result block.Evidence block.BlockFault) → ((t : Raw) → given ≡ Ok (block.NotZero t) → IsRaw b.field (length b.counts) t) → IsRead b given
is_read b (Err fault) h = tt
is_read b (Ok (block.Zero lines)) h = tt
is_read b (Ok (block.NotZero t)) h = h t refl

-- what a block gives after `build`
pub evidence-read : (b : Builder) (ls : List ℕ) (lines : List (List ℕ)) (has_end : Bool) → IsInTable b.field → length ls ≡ length b.counts → IsRead b (evidence_of b.field ls lines has_end)
evidence-read b ls lines has_end field named =
    is_read b (evidence_of b.field ls lines has_end) (λ t is. subst (λ n. IsRaw b.field n t) named (evidence-raw b.field ls lines has_end t (table-positive b.field field) is))

pub verdict-only : (p : ℕ) (target : List ℕ) (fs : List instances.Form) (g : Poly) (given : Result block.Evidence block.BlockFault) (v w : Verdict)
    → IsVerdict p target fs g given v → IsVerdict p target fs g given w → v ≡ w
verdict-only p target fs g (Err fault) v w h k = h ∙ sym k
verdict-only p target fs g (Ok (block.Zero lines)) v w h k = h ∙ sym k
verdict-only p target fs g (Ok (block.NotZero t)) v w h k = h.2 ∙ ap of_table (verdict-one p target fs t g h.0 k.0 h.1 k.1) ∙ sym k.2

-- ---- the laws

pub verdicts-justified : VerdictsAreJustified
verdicts-justified b g lines has_end v h accepted is =
    verdict-justified b g (evidence_of b.field b.letters lines has_end) v h accepted (evidence-read b b.letters lines has_end h.field h.generators.named) is

pub one-verdict : EachHasOneVerdict
one-verdict p letters target fs g lines has_end =
    let given = evidence_of p letters lines has_end in
    let v = judged-some p target fs g given in
    (v.0, v.1, λ w h. verdict-only p target fs g given w v.0 h v.1)
