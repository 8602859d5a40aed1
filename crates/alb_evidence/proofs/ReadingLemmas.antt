-- How a block is read line by line, and what it says.
use Rattle.std.proofs.Common.{◌≡◌, ℕ, Bool, true, false, List, [], ◌∷◌, ◌++◌, length, Option, Result, Ok, Err, refl, sym, ap, ◌∙◌, subst, append_assoc}
use Rattle.std.proofs.lemmas.List.{append-nil}
use Rattle.alb_io.specs.Reader.{Reader, Reads}
use Rattle.alb_io.specs.declared.step.LineStep.TheVariants as step
use Rattle.alb_evidence.specs.Block.{BlockFault, BadLine, BadNumber, closed, evidence_from, evidence_of}
use Rattle.alb_evidence.specs.Reads.{ReadsAs, Closes}
use Rattle.alb_evidence.specs.Inside.{IsLineInside, SkipsAfter}
use Rattle.alb_evidence.specs.Said.{said, says, Takes, Closing}
use Rattle.alb_evidence.specs.declared.block.OpenBlock.{OpenBlock}
use Rattle.alb_evidence.specs.declared.evidence.Evidence.{Evidence}
use Rattle.alb_evidence.specs.declared.said.Said.TheVariants.{Nothing}
use Rattle.alb_evidence.specs.declared.error.EvidenceError.{EvidenceError}
use Rattle.alb_evidence.specs.declared.error.EvidenceError.TheVariants as errors
use Rattle.alb_evidence.proofs.ReadLemmas.{ReadsInside, ReadsInside-nothing, ReadsInside-more, ReadsLines-more, ReadsBlock-close, ReadsBlock-front, Breaks-inside, Breaks-front}

-- some lines were read, which the block stands for
pub record SoFar (p : ℕ) (letters : List ℕ) (block : OpenBlock) (old new : Reader) (before now : Option (List ℕ)) : Type 0 where
  pub lines : List (List ℕ)
  pub inside : ReadsInside lines old new before now
  pub says : (more : List (List ℕ)) (has_end : Bool) → evidence_of p letters (lines ++ more) has_end ≡ says p letters block more has_end

pub SoFar-start : (p : ℕ) (letters : List ℕ) (block : OpenBlock) (old : Reader) (before : Option (List ℕ)) → block.said ≡ Nothing → block.next ≡ 1 → SoFar p letters block old old before before
SoFar-start p letters block old before nothing one = record {
  lines = [];
  inside = ReadsInside-nothing old before;
  says = λ more has_end. sym (λ i. evidence_from p letters (one i) (said (nothing i)) more has_end);
}

module _ (p : ℕ) (letters : List ℕ) (block : OpenBlock) (old mid new : Reader) (before between now : Option (List ℕ)) (so_far : SoFar p letters block old mid before between) where
  pub SoFar-more : (next : OpenBlock) (is_long : Bool) (t : IsLineInside is_long mid new between now) → Takes (Ok tt) p letters block next t.line → SoFar p letters next old new before now
  SoFar-more next is_long t takes = record {
    lines = so_far.lines ++ t.line ∷ [];
    inside = ReadsInside-more so_far.lines t.line old mid new before between now so_far.inside t.reads t.no_end;
    says = λ more has_end. ap (λ ls. evidence_of p letters ls has_end) (append_assoc so_far.lines (t.line ∷ []) more) ∙ so_far.says (t.line ∷ more) has_end ∙ takes more has_end;
  }

  -- what the whole block says
  whole : (has_end : Bool) → evidence_of p letters so_far.lines has_end ≡ says p letters block [] has_end
  whole has_end = ap (λ ls. evidence_of p letters ls has_end) (sym (append-nil so_far.lines)) ∙ so_far.says [] has_end

  closes : (has_end : Bool) → says p letters block [] has_end ≡ closed (length letters) block.next (said block.said) has_end
  unfolding evidence_from
  closes has_end = refl

  pub ReadsAs-closed : (r : Result Evidence EvidenceError) → Closes true mid new between now → Closing r (closed (length letters) block.next (said block.said) true) → ReadsAs r p letters old new before now
  ReadsAs-closed (Ok e) c is = (so_far.lines, ReadsBlock-close true so_far.lines old mid new before between now so_far.inside c, whole true ∙ closes true ∙ is)
  ReadsAs-closed (Err (errors.BadLine k)) c is = (so_far.lines, true, ReadsBlock-close true so_far.lines old mid new before between now so_far.inside c, whole true ∙ closes true ∙ is)
  ReadsAs-closed (Err (errors.BadNumber k)) c is = absurd is
  ReadsAs-closed (Err errors.ReadFault) c is = absurd is
  ReadsAs-closed (Err errors.InputLimit) c is = absurd is
  ReadsAs-closed (Err errors.NoMemory) c is = (so_far.lines ++ c.0 ∷ [], ReadsLines-more so_far.lines c.0 old mid new before between now so_far.inside.reads c.2)

  pub ReadsAs-end : Closes false mid new between now → ReadsAs (Err (errors.BadLine block.next)) p letters old new before now
  ReadsAs-end c = (so_far.lines, false, ReadsBlock-close false so_far.lines old mid new before between now so_far.inside c, whole false ∙ closes false)

  pub ReadsAs-fault : Reads step.ReadFault mid new between now → ReadsAs (Err errors.ReadFault) p letters old new before now
  ReadsAs-fault r = Breaks-inside step.ReadFault so_far.lines old mid new before between now so_far.inside r

  pub ReadsAs-limit : Reads step.InputLimit mid new between now → ReadsAs (Err errors.InputLimit) p letters old new before now
  ReadsAs-limit r = Breaks-inside step.InputLimit so_far.lines old mid new before between now so_far.inside r

  pub ReadsAs-memory : (is_long : Bool) (t : IsLineInside is_long mid new between now) → ReadsAs (Err errors.NoMemory) p letters old new before now
  ReadsAs-memory is_long t = (so_far.lines ++ t.line ∷ [], (ReadsInside-more so_far.lines t.line old mid new before between now so_far.inside t.reads t.no_end).reads)

  -- a line was faulty
  module _ (last : Reader) (later : Option (List ℕ)) (is_long : Bool) (t : IsLineInside is_long mid new between now) (next : OpenBlock) where
    inside : ReadsInside (so_far.lines ++ t.line ∷ []) old new before now
    inside = ReadsInside-more so_far.lines t.line old mid new before between now so_far.inside t.reads t.no_end

    faulty : (fault : BlockFault) (more : List (List ℕ)) (has_end : Bool) → ((lines : List (List ℕ)) (b : Bool) → says p letters block (t.line ∷ lines) b ≡ Err fault)
        → evidence_of p letters ((so_far.lines ++ t.line ∷ []) ++ more) has_end ≡ Err fault
    faulty fault more has_end takes = ap (λ ls. evidence_of p letters ls has_end) (append_assoc so_far.lines (t.line ∷ []) more) ∙ so_far.says (t.line ∷ more) has_end ∙ takes more has_end

    pub ReadsAs-after : (e r : EvidenceError) → Takes (Err e) p letters block next t.line → SkipsAfter e r new last now later → ReadsAs (Err r) p letters old last before later
    ReadsAs-after e errors.ReadFault takes s = Breaks-front step.ReadFault (so_far.lines ++ t.line ∷ []) old new last before now later inside s
    ReadsAs-after e errors.InputLimit takes s = Breaks-front step.InputLimit (so_far.lines ++ t.line ∷ []) old new last before now later inside s
    ReadsAs-after e (errors.BadLine k) takes s =
        let told : Takes (Err (errors.BadLine k)) p letters block next t.line = subst (λ (x : EvidenceError). Takes (Err x) p letters block next t.line) (sym s.0) takes in
        ((so_far.lines ++ t.line ∷ []) ++ s.1, s.2, ReadsBlock-front s.2 (so_far.lines ++ t.line ∷ []) s.1 old new last before now later inside s.3, faulty (BadLine k) s.1 s.2 told)
    ReadsAs-after e (errors.BadNumber k) takes s =
        let told : Takes (Err (errors.BadNumber k)) p letters block next t.line = subst (λ (x : EvidenceError). Takes (Err x) p letters block next t.line) (sym s.0) takes in
        ((so_far.lines ++ t.line ∷ []) ++ s.1, s.2, ReadsBlock-front s.2 (so_far.lines ++ t.line ∷ []) s.1 old new last before now later inside s.3, faulty (BadNumber k) s.1 s.2 told)
    ReadsAs-after e errors.NoMemory takes s = absurd s
