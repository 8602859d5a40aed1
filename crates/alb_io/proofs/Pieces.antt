-- A line as it is read piece by piece.
use Rattle.std.proofs.Common.{◌≡◌, ◌≢◌, ◌⊎◌, ℕ, ◌+◌, ◌-◌, ◌<◌, ◌≤◌, true, false, List, [], ◌∷◌, ◌++◌, length, drop, Option, Some, refl, sym, ap, ◌∙◌, subst, inl, inr, append_assoc, arith, eqb, eqb-true}
use Rattle.std.specs.Io.KnownBytes.{Consumes, IsAtEnd, Keeps}
use Rattle.std.proofs.KnownBytes.{Consumes-nil, Consumes-trans, Consumes-kept}
use Rattle.std.proofs.lemmas.List.{append-nil, length-append, length-take, nil_from_length}
use Rattle.alb_io.specs.Reader.{HasNoFeed, Reads, Lazily, GivesLine, IsFirstLine}
use Rattle.alb_io.specs.Feeder.{held_of, IsFeeder, IsGathered, IsStep, MovesPart, TakesPiece, reader_of, is_line, is_last}
use Rattle.alb_io.specs.declared.feeder.Feeder.{Feeder}
use Rattle.alb_io.specs.declared.feeder.Gathered.{Gathered}
use Rattle.alb_io.specs.declared.step.LineStep.{LineStep}
use Rattle.alb_io.specs.declared.step.LineStep.TheVariants as step
use Rattle.alb_io.proofs.LineLemmas.{HasNoFeed-append, true_is_not}

-- so far these bytes were taken, and all went to the line but what is held
pub record Piecing (old new : Feeder) (g : Gathered) (before now : Option (List ℕ)) : Type 0 where
  pub got : List ℕ
  pub all : List ℕ
  pub moved : held_of old ++ got ≡ all ++ held_of new
  pub no_feed : HasNoFeed all
  pub gathered : IsGathered all g
  pub consumed : Consumes before now got
  pub room : new.room + length got ≡ old.room
  pub at_end : old.at_end ≡ true → (got ≡ []) × (new.at_end ≡ true)
  pub seen : new.at_end ≡ true → (old.at_end ≡ true) ⊎ (IsAtEnd now × (0 < new.room))
  pub lazy : Lazily (held_of old) got

pub Piecing-start : (f : Feeder) (g : Gathered) (before : Option (List ℕ)) → IsGathered [] g → Piecing f f g before before
Piecing-start f g before empty = record {
  got = [];
  all = [];
  moved = append-nil (held_of f);
  no_feed = tt;
  gathered = empty;
  consumed = Consumes-nil before;
  room = omega arith;
  at_end = λ e. (refl, e);
  seen = λ e. inl e;
  lazy = inl refl;
}

held_few : (f : Feeder) → IsFeeder f → length (held_of f) ≤ 4096
held_few f is = omega (arith, is.1, length-take (f.to - f.from) (drop f.from f.chunk))

nothing_held : (f : Feeder) → f.from ≡ f.to → held_of f ≡ []
nothing_held f same = let none : f.to - f.from ≡ 0 = omega arith in rw none refl

-- all that was held went over, and there was no line feed in it
pub Piecing-part : (old mid new : Feeder) (g h : Gathered) (before now : Option (List ℕ)) → Piecing old mid g before now → MovesPart false mid new g h → Piecing old new h before now
Piecing-part old mid new g h before now p m = record {
  got = p.got;
  all = p.all ++ held_of mid;
  moved = p.moved ∙ sym (ap (λ r. (p.all ++ held_of mid) ++ r) (nothing_held new m.1) ∙ append-nil (p.all ++ held_of mid));
  no_feed = HasNoFeed-append p.all (held_of mid) p.no_feed m.0;
  gathered = m.2 p.all p.gathered;
  consumed = p.consumed;
  room = omega (arith, p.room, m.3);
  at_end = λ e. ((p.at_end e).0, m.4 ∙ (p.at_end e).1);
  seen = λ e. elim (p.seen (sym m.4 ∙ e)) [ inl was ↦ inl was | inr end ↦ inr (end.0, omega (arith, end.1, m.3)) ];
  lazy = p.lazy;
}

no_feed_so_far : (old new : Feeder) (h : Gathered) (before now : Option (List ℕ)) (p : Piecing old new h before now) → new.from ≡ new.to → HasNoFeed (held_of old ++ p.got)
no_feed_so_far old new h before now p none =
    let whole : held_of old ++ p.got ≡ p.all = p.moved ∙ ap (λ r. p.all ++ r) (nothing_held new none) ∙ append-nil p.all in
    subst HasNoFeed (sym whole) p.no_feed

-- a piece more was taken
pub Piecing-fill : (old mid new : Feeder) (g : Gathered) (before between now : Option (List ℕ)) → mid.from ≡ mid.to → mid.at_end ≡ false
    → Piecing old mid g before between → TakesPiece mid new between now → Piecing old new g before now
Piecing-fill old mid new g before between now none running p t = record {
  got = p.got ++ held_of new;
  all = p.all;
  moved = sym (append_assoc (held_of old) p.got (held_of new)) ∙ ap (λ r. r ++ held_of new) (p.moved ∙ ap (λ r. p.all ++ r) (nothing_held mid none) ∙ append-nil p.all);
  no_feed = p.no_feed;
  gathered = p.gathered;
  consumed = Consumes-trans before between now p.got (held_of new) p.consumed t.consumed;
  room = omega (arith, p.room, t.room, length-append p.got (held_of new));
  at_end = λ e. absurd (true_is_not (sym (p.at_end e).1 ∙ running));
  seen = λ e. inr ((t.none e).1, (t.none e).2);
  lazy = inr (p.got, held_of new, refl, no_feed_so_far old mid g before between p none, t.small);
}

-- an answer to what was read so far
pub Piecing-gives : (old mid new : Feeder) (g h : Gathered) (before now : Option (List ℕ)) (answer : LineStep) (p : Piecing old mid g before now)
    → IsFeeder new → new.room ≡ mid.room → new.at_end ≡ mid.at_end
    → GivesLine answer (held_of old ++ p.got) (reader_of new h.bytes.items (is_line answer) (is_last answer))
    → Reads answer (reader_of old [] false false) (reader_of new h.bytes.items (is_line answer) (is_last answer)) before now
Piecing-gives old mid new g h before now answer p is room at_end gives = record {
  got = p.got;
  consumed = p.consumed;
  room = omega (arith, p.room);
  gives = gives;
  at_end = λ e. ((p.at_end e).0, at_end ∙ (p.at_end e).1);
  seen = λ e. elim (p.seen (sym at_end ∙ e)) [ inl was ↦ inl was | inr end ↦ inr (end.0, omega (arith, end.1)) ];
  lazy = p.lazy;
  few = held_few new is;
  drained = λ e. (nothing_held new (is.2 e).0, (is.2 e).1);
}

-- a whole line, as one that fits or one that does not
Gives-step : (bytes line : List ℕ) (f : Feeder) (h : Gathered) (answer : LineStep) → IsStep line h.bytes.items answer → IsFirstLine line bytes (held_of f) f.at_end
    → GivesLine answer bytes (reader_of f h.bytes.items (is_line answer) (is_last answer))
Gives-step bytes line f h step.Line s first = (line, ap Some s.0, s.1, first, refl)
Gives-step bytes line f h step.TooLong s first = (line, refl, s, first, refl)
Gives-step bytes line f h step.End s first = absurd s
Gives-step bytes line f h step.ReadFault s first = absurd s
Gives-step bytes line f h step.InputLimit s first = absurd s

-- a line feed was found
pub Reads-line : (old mid new : Feeder) (g h : Gathered) (before now : Option (List ℕ)) (answer : LineStep) → Piecing old mid g before now → MovesPart true mid new g h → IsFeeder new
    → ((all : List ℕ) → IsGathered all h → IsStep all h.bytes.items answer)
    → Reads answer (reader_of old [] false false) (reader_of new h.bytes.items (is_line answer) (is_last answer)) before now
Reads-line old mid new g h before now answer p m is step =
    let line = p.all ++ m.0 in
    let whole : held_of old ++ p.got ≡ line ++ 10 ∷ held_of new = p.moved ∙ ap (λ r. p.all ++ r) m.2 ∙ sym (append_assoc p.all m.0 (10 ∷ held_of new)) in
    Piecing-gives old mid new g h before now answer p is m.4 m.5
    (Gives-step _ line new h answer (step line (m.3 p.all p.gathered)) (HasNoFeed-append p.all m.0 p.no_feed m.1, inl whole))

-- the source ended after bytes with no line feed
pub Reads-rest : (old new : Feeder) (h : Gathered) (before now : Option (List ℕ)) (answer : LineStep) → Piecing old new h before now → IsFeeder new → new.from ≡ new.to → new.at_end ≡ true
    → ((all : List ℕ) → IsGathered all h → IsStep all h.bytes.items answer)
    → ((all : List ℕ) → IsGathered all h → false ≡ eqb (length all) 0)
    → Reads answer (reader_of old [] false false) (reader_of new h.bytes.items (is_line answer) (is_last answer)) before now
Reads-rest old new h before now answer p is none end step some =
    let whole : held_of old ++ p.got ≡ p.all = p.moved ∙ ap (λ r. p.all ++ r) (nothing_held new none) ∙ append-nil p.all in
    let filled : p.all ≢ [] = λ e. true_is_not (sym (ap (λ l. eqb (length l) 0) e) ∙ sym (some p.all p.gathered)) in
    Piecing-gives old new new h h before now answer p is refl refl
    (Gives-step _ p.all new h answer (step p.all p.gathered) (p.no_feed, inr (whole, filled, nothing_held new none, end)))

pub Reads-end : (old new : Feeder) (h : Gathered) (before now : Option (List ℕ)) → Piecing old new h before now → IsFeeder new → new.from ≡ new.to → new.at_end ≡ true
    → ((all : List ℕ) → IsGathered all h → true ≡ eqb (length all) 0)
    → Reads step.End (reader_of old [] false false) (reader_of new h.bytes.items false true) before now
Reads-end old new h before now p is none end empty =
    let nil : p.all ≡ [] = nil_from_length p.all (eqb-true _ _ (sym (empty p.all p.gathered))) in
    let whole : held_of old ++ p.got ≡ [] = p.moved ∙ ap (λ r. p.all ++ r) (nothing_held new none) ∙ append-nil p.all ∙ nil in
    Piecing-gives old new new h h before now step.End p is refl refl (whole, refl, nothing_held new none, end, refl)

pub Reads-limit : (old new : Feeder) (h : Gathered) (before now : Option (List ℕ)) → Piecing old new h before now → IsFeeder new → new.from ≡ new.to → new.at_end ≡ false → new.room ≡ 0
    → Reads step.InputLimit (reader_of old [] false false) (reader_of new h.bytes.items false true) before now
Reads-limit old new h before now p is none running full =
    Piecing-gives old new new h h before now step.InputLimit p is refl refl (no_feed_so_far old new h before now p none, refl, running, full, refl)

Piecing-kept : (old mid : Feeder) (h : Gathered) (before between now : Option (List ℕ)) → Piecing old mid h before between → Keeps between now → mid.at_end ≡ false → Piecing old mid h before now
Piecing-kept old mid h before between now p kept running = record {
  got = p.got;
  all = p.all;
  moved = p.moved;
  no_feed = p.no_feed;
  gathered = p.gathered;
  consumed = Consumes-kept before between now p.got p.consumed kept;
  room = p.room;
  at_end = p.at_end;
  seen = λ e. absurd (true_is_not (sym e ∙ running));
  lazy = p.lazy;
}

pub Reads-fault : (old mid new : Feeder) (h : Gathered) (before between now : Option (List ℕ)) → Piecing old mid h before between → IsFeeder new → mid.from ≡ mid.to
    → (new.from ≡ new.to) × (new.room ≡ mid.room) × (new.at_end ≡ false) × Keeps between now → mid.at_end ≡ false
    → Reads step.ReadFault (reader_of old [] false false) (reader_of new h.bytes.items false true) before now
unfolding Piecing-kept
Reads-fault old mid new h before between now p is none kept running =
    Piecing-gives old mid new h h before now step.ReadFault (Piecing-kept old mid h before between now p kept.3 running) is
    kept.1 (kept.2 ∙ sym running) (no_feed_so_far old mid h before between p none, refl, kept.2, refl)
