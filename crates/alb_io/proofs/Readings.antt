-- What the calls of `next_line` say of the lines of the bytes, over many calls.
use Rattle.std.proofs.Common.{◌≡◌, ◌≢◌, ◌⊎◌, ℕ, ◌≤◌, length, Bool, true, false, cond, List, [], ◌∷◌, ◌++◌, Option, Some, None, refl, sym, ap, ◌∙◌, subst, inl, inr, append_assoc, eqb, arith, rules}
use Rattle.std.specs.Io.KnownBytes.{Consumes, IsAtEnd}
use Rattle.std.proofs.KnownBytes.{Consumes-nil, Consumes-trans}
use Rattle.std.proofs.lemmas.List.{append-nil}
use Rattle.alb_io.specs.Reader.{HasNoFeed, onto_first, onto_whole, lines_of, whole_lines, Reader, Reads, IsFirstLine, HasRead, IsAll, Reading, TakesLines}
use Rattle.alb_io.specs.declared.step.LineStep.{LineStep}
use Rattle.alb_io.specs.declared.step.LineStep.TheVariants as step
use Rattle.alb_io.proofs.LineLemmas.{true_is_not}

no_feed_test : (b : ℕ) → b ≢ 10 → eqb b 10 ≡ false
no_feed_test b ne = search (rules, arith)

pub lines_of-feed : (line rest : List ℕ) → HasNoFeed line → lines_of (line ++ 10 ∷ rest) ≡ line ∷ lines_of rest
lines_of-feed [] rest p = refl
lines_of-feed (b ∷ line) rest p =
    ap (λ t. cond t ([] ∷ lines_of (line ++ 10 ∷ rest)) (onto_first b (lines_of (line ++ 10 ∷ rest)))) (no_feed_test b p.0)
    ∙ ap (onto_first b) (lines_of-feed line rest p.1)

pub whole_lines-feed : (line rest : List ℕ) → HasNoFeed line → whole_lines (line ++ 10 ∷ rest) ≡ line ∷ whole_lines rest
whole_lines-feed [] rest p = refl
whole_lines-feed (b ∷ line) rest p =
    ap (λ t. cond t ([] ∷ whole_lines (line ++ 10 ∷ rest)) (onto_whole b (whole_lines (line ++ 10 ∷ rest)))) (no_feed_test b p.0)
    ∙ ap (onto_whole b) (whole_lines-feed line rest p.1)

pub whole_lines-none : (bytes : List ℕ) → HasNoFeed bytes → whole_lines bytes ≡ []
whole_lines-none [] p = refl
whole_lines-none (b ∷ bytes) p =
    ap (λ t. cond t ([] ∷ whole_lines bytes) (onto_whole b (whole_lines bytes))) (no_feed_test b p.0)
    ∙ ap (onto_whole b) (whole_lines-none bytes p.1)

pub lines_of-last : (b : ℕ) (line : List ℕ) → HasNoFeed (b ∷ line) → lines_of (b ∷ line) ≡ (b ∷ line) ∷ []
lines_of-last b [] p = ap (λ t. cond t ([] ∷ []) (onto_first b [])) (no_feed_test b p.0)
lines_of-last b (c ∷ line) p =
    ap (λ t. cond t ([] ∷ lines_of (c ∷ line)) (onto_first b (lines_of (c ∷ line)))) (no_feed_test b p.0)
    ∙ ap (onto_first b) (lines_of-last c line p.1)

pub lines_of-rest : (line : List ℕ) → HasNoFeed line → line ≢ [] → lines_of line ≡ line ∷ []
lines_of-rest [] p some = absurd (some refl)
lines_of-rest (b ∷ line) p some = lines_of-last b line p

pub HasRead-start : HasRead [] [] []
HasRead-start = record { front = []; bytes = refl; lines_so_far = λ more. refl; whole_so_far = λ more. refl }

pub HasRead-got : (taken : List ℕ) (lines : List (List ℕ)) (unread got : List ℕ) → HasRead taken lines unread → HasRead (taken ++ got) lines (unread ++ got)
HasRead-got taken lines unread got p = record {
  front = p.front;
  bytes = ap (λ l. l ++ got) p.bytes ∙ append_assoc p.front unread got;
  lines_so_far = p.lines_so_far;
  whole_so_far = p.whole_so_far;
}

over : (front line more : List ℕ) → (front ++ line ++ 10 ∷ []) ++ more ≡ front ++ (line ++ 10 ∷ more)
over front line more = append_assoc (front ++ line) (10 ∷ []) more ∙ append_assoc front line (10 ∷ more)

pub HasRead-line : (taken : List ℕ) (lines : List (List ℕ)) (unread line rest : List ℕ) → HasRead taken lines unread → HasNoFeed line → unread ≡ line ++ 10 ∷ rest
    → HasRead taken (lines ++ line ∷ []) rest
HasRead-line taken lines unread line rest p none is = record {
  front = p.front ++ line ++ 10 ∷ [];
  bytes = p.bytes ∙ ap (λ l. p.front ++ l) is ∙ sym (over p.front line rest);
  lines_so_far = λ more. ap lines_of (over p.front line more) ∙ p.lines_so_far (line ++ 10 ∷ more) ∙ ap (λ l. lines ++ l) (lines_of-feed line more none) ∙ sym (append_assoc lines (line ∷ []) (lines_of more));
  whole_so_far = λ more. ap whole_lines (over p.front line more) ∙ p.whole_so_far (line ++ 10 ∷ more) ∙ ap (λ l. lines ++ l) (whole_lines-feed line more none) ∙ sym (append_assoc lines (line ∷ []) (whole_lines more));
}

-- the lines of the bytes, whatever follows them
pub HasRead-lines : (taken : List ℕ) (lines : List (List ℕ)) (unread more : List ℕ) → HasRead taken lines unread → lines_of (taken ++ more) ≡ lines ++ lines_of (unread ++ more)
HasRead-lines taken lines unread more p = ap (λ l. lines_of (l ++ more)) p.bytes ∙ ap lines_of (append_assoc p.front unread more) ∙ p.lines_so_far (unread ++ more)

pub HasRead-whole : (taken : List ℕ) (lines : List (List ℕ)) (unread : List ℕ) → HasRead taken lines unread → HasNoFeed unread → whole_lines taken ≡ lines
HasRead-whole taken lines unread p none = ap whole_lines p.bytes ∙ p.whole_so_far unread ∙ ap (λ l. lines ++ l) (whole_lines-none unread none) ∙ append-nil lines

-- ---- calls of `next_line`

before_end : (a b : Bool) → (a ≡ true → b ≡ true) → b ≡ false → a ≡ false
before_end false b keeps e = refl
before_end true b keeps e = sym (keeps refl) ∙ e

IsAll-at_end : (first now : Option (List ℕ)) (taken : List ℕ) → Consumes first now taken → IsAtEnd now → IsAll first taken
IsAll-at_end None now taken p end = tt
IsAll-at_end (Some x) None taken p end = absurd p
IsAll-at_end (Some x) (Some y) taken p end = p ∙ ap (λ l. taken ++ l) end ∙ append-nil taken

either_end : (b : Bool) → (b ≡ true) ⊎ (b ≡ false)
either_end true = inl refl
either_end false = inr refl

pub Reading-start : (reader : Reader) (first : Option (List ℕ)) → reader.held ≡ [] → reader.at_end ≡ false → Reading [] [] reader first first
Reading-start reader first none running = record {
  consumed = Consumes-nil first;
  so_far = λ e. subst (HasRead [] []) (sym none) HasRead-start;
  at_end = λ e. absurd (true_is_not (sym e ∙ running));
  few = let empty : length reader.held ≡ 0 = ap length none in omega (arith, empty);
  drained = λ e. absurd (true_is_not (sym e ∙ running));
}

-- what a call took, before its answer is looked at: the bytes and whether the end is known to be there
Reading-got : (taken : List ℕ) (lines : List (List ℕ)) (old new : Reader) (first before now : Option (List ℕ)) (answer : LineStep)
    → Reading taken lines old first before → (r : Reads answer old new before now) → new.at_end ≡ true → IsAll first (taken ++ r.got)
Reading-got taken lines old new first before now answer p r end = elim (r.seen end) [
  | inl was ↦ subst (IsAll first) (sym (ap (λ l. taken ++ l) (r.at_end was).0 ∙ append-nil taken)) (p.at_end was).1
  | inr seen ↦ IsAll-at_end first now (taken ++ r.got) (Consumes-trans first before now taken r.got p.consumed r.consumed) seen.0
]

-- the lines of the bytes so far, with those that a call took
lines_got : (taken : List ℕ) (lines : List (List ℕ)) (old new : Reader) (first before now : Option (List ℕ)) (answer : LineStep)
    → Reading taken lines old first before → (r : Reads answer old new before now) → lines_of (taken ++ r.got) ≡ lines ++ lines_of (old.held ++ r.got)
lines_got taken lines old new first before now answer p r = elim (either_end old.at_end) [
  | inl was ↦ ap lines_of (ap (λ l. taken ++ l) (r.at_end was).0 ∙ append-nil taken) ∙ (p.at_end was).0 ∙ sym (ap (λ l. lines ++ lines_of l) (ap (λ l. old.held ++ l) (r.at_end was).0 ∙ append-nil old.held))
  | inr running ↦ HasRead-lines taken lines old.held r.got (p.so_far running)
]

lines_of-first : (line bytes rest : List ℕ) (end : Bool) → IsFirstLine line bytes rest end → lines_of bytes ≡ line ∷ lines_of rest
lines_of-first line bytes rest end f = elim f.1 [
  | inl feed ↦ ap lines_of feed ∙ lines_of-feed line rest f.0
  | inr all ↦ ap lines_of all.0 ∙ lines_of-rest line f.0 all.1 ∙ sym (ap (λ l. line ∷ lines_of l) all.2)
]

-- a line was given
pub Reading-first : (taken : List ℕ) (lines : List (List ℕ)) (line : List ℕ) (old new : Reader) (first before now : Option (List ℕ)) (answer : LineStep)
    → Reading taken lines old first before → (r : Reads answer old new before now) → IsFirstLine line (old.held ++ r.got) new.held new.at_end
    → Reading (taken ++ r.got) (lines ++ line ∷ []) new first now
Reading-first taken lines line old new first before now answer p r f = record {
  consumed = Consumes-trans first before now taken r.got p.consumed r.consumed;
  so_far = λ running. elim f.1 [
    | inl feed ↦ HasRead-line (taken ++ r.got) lines (old.held ++ r.got) line new.held
        (HasRead-got taken lines old.held r.got (p.so_far (before_end old.at_end new.at_end (λ e. (r.at_end e).1) running))) f.0 feed
    | inr all ↦ absurd (true_is_not (sym all.3 ∙ running))
  ];
  at_end = λ end. (
    lines_got taken lines old new first before now answer p r ∙ ap (λ l. lines ++ l) (lines_of-first line _ new.held new.at_end f) ∙ sym (append_assoc lines (line ∷ []) (lines_of new.held)),
    Reading-got taken lines old new first before now answer p r end,
  );
  few = r.few;
  drained = r.drained;
}

-- the end came: these are the lines of all the bytes
pub Reading-end : (taken : List ℕ) (lines : List (List ℕ)) (old new : Reader) (first before now : Option (List ℕ))
    → Reading taken lines old first before → (r : Reads step.End old new before now) → Consumes first now (taken ++ r.got) × (lines_of (taken ++ r.got) ≡ lines) × IsAll first (taken ++ r.got)
Reading-end taken lines old new first before now p r = (
  Consumes-trans first before now taken r.got p.consumed r.consumed,
  lines_got taken lines old new first before now step.End p r ∙ ap (λ l. lines ++ lines_of l) r.gives.0 ∙ append-nil lines,
  Reading-got taken lines old new first before now step.End p r r.gives.3,
)

-- the source failed, or no more may be taken: these are the whole lines of what was taken
pub Reading-cut : (taken : List ℕ) (lines : List (List ℕ)) (old new : Reader) (first before now : Option (List ℕ)) (answer : LineStep)
    → Reading taken lines old first before → (r : Reads answer old new before now) → HasNoFeed (old.held ++ r.got) → new.at_end ≡ false
    → Consumes first now (taken ++ r.got) × (whole_lines (taken ++ r.got) ≡ lines)
Reading-cut taken lines old new first before now answer p r none running = (
  Consumes-trans first before now taken r.got p.consumed r.consumed,
  HasRead-whole (taken ++ r.got) lines (old.held ++ r.got)
      (HasRead-got taken lines old.held r.got (p.so_far (before_end old.at_end new.at_end (λ e. (r.at_end e).1) running))) none,
)

takes_all : (taken : List ℕ) (lines : List (List ℕ)) (held : List ℕ) → lines_of taken ≡ lines ++ lines_of held → held ≡ [] → TakesLines taken lines
takes_all taken lines held is none = record {
  front = taken;
  more = [];
  bytes = sym (append-nil taken);
  lines_are = is ∙ ap (λ l. lines ++ lines_of l) none ∙ append-nil lines;
  few = omega arith;
}

takes_front : (taken : List ℕ) (lines : List (List ℕ)) (held : List ℕ) → HasRead taken lines held → length held ≤ 4096 → TakesLines taken lines
takes_front taken lines held p few = record {
  front = p.front;
  more = held;
  bytes = p.bytes;
  lines_are = ap lines_of (sym (append-nil p.front)) ∙ p.lines_so_far [] ∙ append-nil lines;
  few = few;
}

-- no more was taken than the lines that were given, but for one piece
pub Reading-takes : (taken : List ℕ) (lines : List (List ℕ)) (reader : Reader) (first now : Option (List ℕ)) → Reading taken lines reader first now → TakesLines taken lines
Reading-takes taken lines reader first now p = elim (either_end reader.at_end) [
  | inl end ↦ takes_all taken lines reader.held (p.at_end end).0 (p.drained end).0
  | inr running ↦ takes_front taken lines reader.held (p.so_far running) p.few
]

lines_of_input : (taken : List ℕ) (lines : List (List ℕ)) (unread input : List ℕ) (now : Option (List ℕ)) → Consumes (Some input) now taken → HasRead taken lines unread
    → (more : List (List ℕ)) × (lines_of input ≡ lines ++ more)
lines_of_input taken lines unread input None p h = absurd p
lines_of_input taken lines unread input (Some left) p h = (lines_of (unread ++ left), ap lines_of p ∙ HasRead-lines taken lines unread left h)

-- the lines of the whole input begin with those that were read
pub Reading-lines : (taken : List ℕ) (lines : List (List ℕ)) (reader : Reader) (first now : Option (List ℕ)) (input : List ℕ)
    → Reading taken lines reader first now → first ≡ Some input → (more : List (List ℕ)) × (lines_of input ≡ lines ++ more)
Reading-lines taken lines reader first now input p told = elim (either_end reader.at_end) [
  | inl end ↦ (lines_of reader.held, ap lines_of (subst (λ o. IsAll o taken) told (p.at_end end).1) ∙ (p.at_end end).0)
  | inr running ↦ lines_of_input taken lines reader.held input now (subst (λ o. Consumes o now taken) told p.consumed) (p.so_far running)
]
