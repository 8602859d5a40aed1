-- How the lines of a block are read, one after the other.
use Rattle.std.proofs.Common.{◌≡◌, ◌≢◌, ℕ, ◌+◌, ◌<◌, ◌≤◌, Bool, true, false, List, [], ◌∷◌, ◌++◌, length, Option, Some, refl, sym, ap, ◌∙◌, subst, inl, inr, arith}
use Rattle.std.specs.Prelude.{nat_lt, nat_le}
use Rattle.std.proofs.lemmas.Bool.Decides.{nat_tests}
use Rattle.std.proofs.lemmas.List.{length-append}
use Rattle.alb_io.specs.Reader.{Reader, Reads}
use Rattle.alb_io.specs.declared.step.LineStep.{LineStep}
use Rattle.alb_io.specs.declared.step.LineStep.TheVariants as step
use Rattle.alb_evidence.specs.Block.{words, is_end, are_end}
use Rattle.alb_evidence.specs.Reads.{ReadsLine, ReadsLines, HasNoEnd, ReadsBlock, Closes, Breaks}
use Rattle.alb_evidence.specs.Inside.{IsLineInside}

-- these lines were read, and none ends the block
pub record ReadsInside (lines : List (List ℕ)) (old new : Reader) (before now : Option (List ℕ)) : Type 0 where
  pub reads : ReadsLines lines old new before now
  pub no_end : HasNoEnd lines

pub ReadsInside-nothing : (old : Reader) (before : Option (List ℕ)) → ReadsInside [] old old before before
ReadsInside-nothing old before = record { reads = (refl, refl); no_end = tt }

ReadsLines-join : (lines more : List (List ℕ)) (old mid new : Reader) (before between now : Option (List ℕ))
    → ReadsLines lines old mid before between → ReadsLines more mid new between now → ReadsLines (lines ++ more) old new before now
ReadsLines-join [] more old mid new before between now r s = subst (λ b. ReadsLines more old new b now) r.1 (subst (λ m. ReadsLines more m new between now) r.0 s)
ReadsLines-join (line ∷ lines) more old mid new before between now r s = (r.0, r.1, r.2, ReadsLines-join lines more r.0 mid new r.1 between now r.3 s)

pub ReadsLines-more : (lines : List (List ℕ)) (line : List ℕ) (old mid new : Reader) (before between now : Option (List ℕ))
    → ReadsLines lines old mid before between → ReadsLine mid new between now line → ReadsLines (lines ++ line ∷ []) old new before now
ReadsLines-more lines line old mid new before between now r s = ReadsLines-join lines (line ∷ []) old mid new before between now r (new, now, s, (refl, refl))

HasNoEnd-join : (lines more : List (List ℕ)) → HasNoEnd lines → HasNoEnd more → HasNoEnd (lines ++ more)
HasNoEnd-join [] more h k = k
HasNoEnd-join (line ∷ lines) more h k = (h.0, HasNoEnd-join lines more h.1 k)

pub ReadsInside-join : (lines more : List (List ℕ)) (old mid new : Reader) (before between now : Option (List ℕ))
    → ReadsInside lines old mid before between → ReadsInside more mid new between now → ReadsInside (lines ++ more) old new before now
ReadsInside-join lines more old mid new before between now r s = record {
  reads = ReadsLines-join lines more old mid new before between now r.reads s.reads;
  no_end = HasNoEnd-join lines more r.no_end s.no_end;
}

pub ReadsInside-one : (line : List ℕ) (old new : Reader) (before now : Option (List ℕ)) → ReadsLine old new before now line → is_end line ≡ false → ReadsInside (line ∷ []) old new before now
ReadsInside-one line old new before now r h = record { reads = (new, now, r, (refl, refl)); no_end = (h, tt) }

pub ReadsInside-more : (lines : List (List ℕ)) (line : List ℕ) (old mid new : Reader) (before between now : Option (List ℕ))
    → ReadsInside lines old mid before between → ReadsLine mid new between now line → is_end line ≡ false → ReadsInside (lines ++ line ∷ []) old new before now
ReadsInside-more lines line old mid new before between now r s h =
    ReadsInside-join lines (line ∷ []) old mid new before between now r (ReadsInside-one line mid new between now s h)

pub ReadsBlock-close : (has_end : Bool) (lines : List (List ℕ)) (old last new : Reader) (before between now : Option (List ℕ))
    → ReadsInside lines old last before between → Closes has_end last new between now → ReadsBlock has_end lines old new before now
ReadsBlock-close has_end lines old last new before between now r c = record { last = last; between = between; inside = r.reads; no_end = r.no_end; closes = c }

pub Breaks-inside : (answer : LineStep) (lines : List (List ℕ)) (old last new : Reader) (before between now : Option (List ℕ))
    → ReadsInside lines old last before between → Reads answer last new between now → Breaks answer old new before now
Breaks-inside answer lines old last new before between now r b = record { lines = lines; last = last; between = between; inside = r.reads; no_end = r.no_end; breaks = b }

pub ReadsBlock-front : (has_end : Bool) (lines more : List (List ℕ)) (old mid new : Reader) (before between now : Option (List ℕ))
    → ReadsInside lines old mid before between → ReadsBlock has_end more mid new between now → ReadsBlock has_end (lines ++ more) old new before now
ReadsBlock-front has_end lines more old mid new before between now r b =
    ReadsBlock-close has_end (lines ++ more) old b.last new before b.between now
    (ReadsInside-join lines more old mid b.last before between b.between r (record { reads = b.inside; no_end = b.no_end })) b.closes

pub Breaks-front : (answer : LineStep) (lines : List (List ℕ)) (old mid new : Reader) (before between now : Option (List ℕ))
    → ReadsInside lines old mid before between → Breaks answer mid new between now → Breaks answer old new before now
Breaks-front answer lines old mid new before between now r b =
    Breaks-inside answer (lines ++ b.lines) old b.last new before b.between now
    (ReadsInside-join lines b.lines old mid b.last before between b.between r (record { reads = b.inside; no_end = b.no_end })) b.breaks

length_some : (line : List ℕ) → line ≢ [] → 0 < length line
length_some [] some = absurd (some refl)
length_some (b ∷ line) some = omega arith

-- the measure falls
pub ReadsLine-smaller : (old new : Reader) (now now' : Option (List ℕ)) (line : List ℕ) → ReadsLine old new now now' line → new.room + length new.held < old.room + length old.held
ReadsLine-smaller old new now now' line r =
    let all = length-append old.held r.reads.got in
    elim r.is_first.1 [
      | inl feed ↦ omega (arith, all, ap length feed, length-append line (10 ∷ new.held), r.reads.room)
      | inr rest ↦ omega (arith, all, ap length rest.0, ap length rest.2, length_some line rest.1, r.reads.room)
    ]

-- ---- one line

same_line : (a b : List ℕ) (o : Option (List ℕ)) → Some a ≡ o → o ≡ Some b → a ≡ b
same_line a b o p q = cc

short_line : (line : List ℕ) → length line ≤ 65536 → nat_le (length line) 65536 ≡ true
short_line line h = grind (arith, nat_tests)

short_not_long : (line : List ℕ) → length line ≤ 65536 → false ≡ nat_lt 65536 (length line)
short_not_long line h = grind (arith, nat_tests)

long_line : (line : List ℕ) → 65536 < length line → nat_le (length line) 65536 ≡ false
long_line line h = grind (arith, nat_tests)

long_is_long : (line : List ℕ) → 65536 < length line → true ≡ nat_lt 65536 (length line)
long_is_long line h = grind (arith, nat_tests)

pub is_end_short : (line : List ℕ) (b : Bool) → length line ≤ 65536 → are_end (words line) ≡ b → is_end line ≡ b
is_end_short line b h e = rw (short_line line h) e

pub is_end_long : (line : List ℕ) → 65536 < length line → is_end line ≡ false
is_end_long line h = rw (long_line line h) refl

-- a line that is held
pub held-line : (old new : Reader) (before now : Option (List ℕ)) (shown : List ℕ) (b : Bool) → Reads step.Line old new before now → Some shown ≡ new.line → b ≡ are_end (words shown)
    → (line : List ℕ) × (line ≡ shown) × ReadsLine old new before now line × (length line ≤ 65536) × (new.line ≡ Some line) × (is_end line ≡ b)
held-line old new before now shown b r e f =
    let line = r.gives.0 in
    let same = same_line shown line new.line e r.gives.1 in (
      line,
      sym same,
      record { answer = step.Line; reads = r; is_first = r.gives.3; running = r.gives.4 },
      r.gives.2,
      r.gives.1,
      is_end_short line b r.gives.2 (ap (λ x. are_end (words x)) (sym same) ∙ sym f),
    )

pub inside-short : (old new : Reader) (before now : Option (List ℕ)) (shown : List ℕ) (b : Bool) → Reads step.Line old new before now → Some shown ≡ new.line → b ≡ are_end (words shown) → b ≡ false
    → IsLineInside false old new before now
inside-short old new before now shown b r e f h =
    let t = held-line old new before now shown b r e f in
    record { line = t.0; reads = t.2; no_end = t.5 ∙ h; long = short_not_long t.0 t.3; held = λ _. t.4 }

pub inside-long : (old new : Reader) (before now : Option (List ℕ)) → Reads step.TooLong old new before now → IsLineInside true old new before now
inside-long old new before now r = record {
  line = r.gives.0;
  reads = record { answer = step.TooLong; reads = r; is_first = r.gives.3; running = r.gives.4 };
  no_end = is_end_long r.gives.0 r.gives.2;
  long = long_is_long r.gives.0 r.gives.2;
  held = λ e. absurd (cc);
}

pub closes-end : (old new : Reader) (before now : Option (List ℕ)) (shown : List ℕ) (b : Bool) → Reads step.Line old new before now → Some shown ≡ new.line → b ≡ are_end (words shown) → b ≡ true
    → Closes true old new before now
closes-end old new before now shown b r e f h = let t = held-line old new before now shown b r e f in (t.0, t.5 ∙ h, t.2)
