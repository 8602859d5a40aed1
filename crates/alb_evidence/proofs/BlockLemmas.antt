-- What one line more makes of what a block says.
use Rattle.std.proofs.Common.{◌≡◌, ℕ, ◌+◌, ◌<◌, ◌≤◌, Bool, true, false, List, ◌∷◌, length, Result, Ok, Err, refl, sym, ap, subst, ◌∙◌, arith}
use Rattle.std.specs.Prelude.{nat_le, nat_lt}
use Rattle.std.proofs.lemmas.Bool.Decides.{nat_tests}
use Rattle.alb_evidence.specs.Block.{words, Code, ABadLine, ABadNumber, BadLine, Said, say, say_line, is_skipped, are_skipped, evidence_from, go_on}
use Rattle.alb_evidence.specs.Gives.{Fails}
use Rattle.alb_evidence.specs.Said.{said, error_at, Takes}
use Rattle.alb_evidence.specs.declared.block.OpenBlock.{OpenBlock}
use Rattle.alb_evidence.specs.declared.error.EvidenceError.{EvidenceError}
use Rattle.alb_evidence.specs.declared.flaw.Flaw.{Flaw}
use Rattle.alb_evidence.specs.declared.flaw.Flaw.TheVariants as flaws

short : (line : List ℕ) → length line ≤ 65536 → nat_le (length line) 65536 ≡ true
short line h = grind (arith, nat_tests)

not_long : (line : List ℕ) → length line ≤ 65536 → nat_lt 65536 (length line) ≡ false
not_long line h = grind (arith, nat_tests)

not_short : (line : List ℕ) → 65536 < length line → nat_le (length line) 65536 ≡ false
not_short line h = grind (arith, nat_tests)

long : (line : List ℕ) → 65536 < length line → nat_lt 65536 (length line) ≡ true
long line h = grind (arith, nat_tests)

long_number : (n : ℕ) → true ≡ nat_lt 65536 n → 65536 < n
long_number n h = grind (arith, nat_tests)

module _ (p : ℕ) (letters : List ℕ) (k : ℕ) (s : Said) (line : List ℕ) (lines : List (List ℕ)) (has_end : Bool) where
  skips : is_skipped line ≡ true → evidence_from p letters k s (line ∷ lines) has_end ≡ evidence_from p letters k s lines has_end
  unfolding evidence_from
  skips e = rw e refl

  says : (r : Result Said Code) → is_skipped line ≡ false → say_line p letters s line ≡ r → evidence_from p letters k s (line ∷ lines) has_end ≡ go_on k r (λ next. evidence_from p letters (k + 1) next lines has_end)
  unfolding evidence_from
  says r e f = rw (e, f) refl

  pub says-skipped : length line ≤ 65536 → are_skipped (words line) ≡ true → evidence_from p letters k s (line ∷ lines) has_end ≡ evidence_from p letters k s lines has_end
  says-skipped h e = skips (rw (short line h) e)

  pub says-next : (r : Result Said Code) → length line ≤ 65536 → are_skipped (words line) ≡ false → say p letters s (words line) ≡ r
      → evidence_from p letters k s (line ∷ lines) has_end ≡ go_on k r (λ next. evidence_from p letters (k + 1) next lines has_end)
  says-next r h e f = says r (rw (short line h) e) (rw (not_long line h) f)

  pub says-long : 65536 < length line → evidence_from p letters k s (line ∷ lines) has_end ≡ Err (BadLine k)
  says-long h = says (Err ABadLine) (rw (not_short line h) refl) (rw (long line h) refl)

pub fault-taken : (p : ℕ) (letters : List ℕ) (old new : OpenBlock) (line : List ℕ) (flaw : Flaw) (e : EvidenceError) → e ≡ error_at flaw old.next → Fails flaw (say p letters (said old.said) (words line))
    → length line ≤ 65536 → are_skipped (words line) ≡ false → Takes (Err e) p letters old new line
fault-taken p letters old new line flaws.BadLine e is fails h s =
    subst (λ (x : EvidenceError). Takes (Err x) p letters old new line) (sym is) (λ lines has_end. says-next p letters old.next (said old.said) line lines has_end (Err ABadLine) h s fails)
fault-taken p letters old new line flaws.BadNumber e is fails h s =
    subst (λ (x : EvidenceError). Takes (Err x) p letters old new line) (sym is) (λ lines has_end. says-next p letters old.next (said old.said) line lines has_end (Err ABadNumber) h s fails)
fault-taken p letters old new line flaws.NoMemory e is fails h s =
    subst (λ (x : EvidenceError). Takes (Err x) p letters old new line) (sym is) tt

pub line-taken : (p : ℕ) (letters : List ℕ) (old new : OpenBlock) (line : List ℕ) → say p letters (said old.said) (words line) ≡ Ok (said new.said) → new.next ≡ old.next + 1
    → length line ≤ 65536 → are_skipped (words line) ≡ false → Takes (Ok tt) p letters old new line
line-taken p letters old new line is next h s =
    λ lines has_end. says-next p letters old.next (said old.said) line lines has_end (Ok (said new.said)) h s is
    ∙ ap (λ k. evidence_from p letters k (said new.said) lines has_end) (sym next)

pub is-long : (is_long : Bool) (n : ℕ) → is_long ≡ true → is_long ≡ nat_lt 65536 n → 65536 < n
is-long is_long n e f = long_number n (sym e ∙ f)
