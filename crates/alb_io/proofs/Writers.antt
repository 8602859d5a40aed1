-- How calls that write join to one that writes the longer text.
use Rattle.std.proofs.Common.{◌≡◌, ℕ, ◌≤◌, List, [], ◌++◌, length, take, take-append-drop, Result, Ok, Err, refl, sym, ap, ◌∙◌, subst, append_assoc, append-nil, arith}
use Rattle.std.specs.Prelude.{OnErr}
use Rattle.std.specs.Io.KnownBytes.{Appends, Keeps}
use Rattle.std.specs.List.{slice_range}
use Rattle.std.specs.Result.{IsErrAnd}
use Rattle.std.proofs.KnownBytes.{Appends-nil, Appends-kept}
use Rattle.std.proofs.lemmas.Slice.{between_to_end}
use Rattle.std.proofs.lemmas.Result.{err_from_is_err_and}
use Rattle.alb_io.specs.Causes.{Rose, HasCause}
use Rattle.alb_io.specs.Writes.{Writes}
use Rattle.alb_io.specs.declared.sink.Sink.{Ghosts}
use Rattle.alb_io.proofs.Fronts.{AppendsFront-more, Puts-then}

rose-before : {E : Type 0} (r : Result (Unit {0}) E) (a b c : ℕ) → a ≤ b → OnErr r (Rose b c) → OnErr r (Rose a c)
rose-before (Ok u) a b c le h = tt
rose-before (Err e) a b c le h = omega (arith, le, h)

cause-later : {E : Type 0} (r : Result (Unit {0}) E) (a b c : ℕ) → a ≤ b → HasCause b c r → HasCause a c r
cause-later r a b c le h = record { later = omega (arith, le, h.later); failed = rose-before r a b c le h.failed }

module _ {K : Type 0} {sink : Ghosts K} where
  -- nothing is written
  pub Writes-none : {E : Type 0} {u : Unit {0}} (a : K) → Writes {E = E} sink a a [] (Ok u)
  Writes-none a = record { puts = Appends-nil (sink.taken a); same_name = refl; cause = record { later = omega arith; failed = tt } }

  -- one text after another
  pub Writes-then : {E F : Type 0} {a b c : K} {text more : List ℕ} {u : Unit {0}} {r : Result (Unit {0}) F}
      → Writes {E = E} sink a b text (Ok u) → Writes sink b c more r → Writes sink a c (text ++ more) r
  Writes-then {a = a} {b = b} {c = c} {text = text} {more = more} {r = r} first second = record {
    puts = Puts-then r (sink.taken a) (sink.taken b) (sink.taken c) text more first.puts second.puts;
    same_name = second.same_name ∙ first.same_name;
    cause = cause-later r (sink.faults a) (sink.faults b) (sink.faults c) first.cause.later second.cause;
  }

  -- at a fault nothing more is written
  pub Writes-more : {E : Type 0} {a b : K} {text : List ℕ} {e : E} (more : List ℕ) → Writes sink a b text (Err e) → Writes {E = E} sink a b (text ++ more) (Err e)
  Writes-more {a = a} {b = b} {text = text} more fault = record {
    puts = AppendsFront-more (sink.taken a) (sink.taken b) text more fault.puts;
    same_name = fault.same_name;
    cause = record { later = fault.cause.later; failed = fault.cause.failed };
  }

  -- the exit of a `?` returns a fault too
  pub Writes-exit : {E F : Type 0} {a b : K} {text : List ℕ} {e : E} (r : Result (Unit {0}) F) (Q : F → Type 0) → IsErrAnd r Q
      → Writes sink a b text (Err e) → Writes sink a b text r
  Writes-exit {F = F} {a = a} {b = b} {text = text} r Q exit fault =
      let is = err_from_is_err_and r exit in
      subst (λ (x : Result (Unit {0}) F). Writes sink a b text x) (sym is.1)
      (record { puts = fault.puts; same_name = fault.same_name; cause = record { later = fault.cause.later; failed = fault.cause.failed } })

  -- an answer says nothing but that all was written
  pub Writes-ok : {E F : Type 0} {a b : K} {text : List ℕ} {u v : Unit {0}} → Writes {E = E} sink a b text (Ok u) → Writes {E = F} sink a b text (Ok v)
  Writes-ok h = record { puts = h.puts; same_name = h.same_name; cause = record { later = h.cause.later; failed = tt } }

  -- the same text
  pub Writes-text : {E : Type 0} {a b : K} {text other : List ℕ} {r : Result (Unit {0}) E} → text ≡ other → Writes sink a b text r → Writes sink a b other r
  Writes-text {a = a} {b = b} {r = r} same h = subst (λ l. Writes sink a b l r) same h

-- ---- a text in pieces, one after the other

-- a front of the text was written, and this is left of it
pub record Writing {K : Type 0} (sink : Ghosts K) (start now : K) (text left : List ℕ) : Type 0 where
  pub front : List ℕ
  pub whole : text ≡ front ++ left
  pub written : Writes {E = ⊥} sink start now front (Ok tt)

module _ {K : Type 0} {sink : Ghosts K} where
  pub Writing-start : (a : K) {text left : List ℕ} → text ≡ left → Writing sink a a text left
  Writing-start a same = record { front = []; whole = same; written = Writes-none a }

  -- one piece more
  pub Writing-more : {E : Type 0} {a b c : K} {text left piece rest : List ℕ} {u : Unit {0}} → Writing sink a b text left → Writes {E = E} sink b c piece (Ok u)
      → left ≡ piece ++ rest → Writing sink a c text rest
  Writing-more {piece = piece} {rest = rest} so_far h is = record {
    front = so_far.front ++ piece;
    whole = so_far.whole ∙ ap (λ l. so_far.front ++ l) is ∙ sym (append_assoc so_far.front piece rest);
    written = Writes-ok (Writes-then so_far.written h);
  }

  -- a piece failed
  pub Writing-fails : {E : Type 0} {a b c : K} {text left piece : List ℕ} {e : E} (rest : List ℕ) → Writing sink a b text left → Writes sink b c piece (Err e)
      → left ≡ piece ++ rest → Writes sink a c text (Err e)
  Writing-fails {piece = piece} rest so_far h is =
      Writes-text (sym (so_far.whole ∙ ap (λ l. so_far.front ++ l) is)) (Writes-then so_far.written (Writes-more rest h))

  -- nothing is left
  pub Writing-all : {E : Type 0} {a b : K} {text left : List ℕ} {u : Unit {0}} → Writing sink a b text left → left ≡ [] → Writes {E = E} sink a b text (Ok u)
  Writing-all so_far none = Writes-ok (Writes-text (sym (so_far.whole ∙ ap (λ l. so_far.front ++ l) none ∙ append-nil so_far.front)) so_far.written)

-- what is left is its first bytes and those after them
cut : (left : List ℕ) (n : ℕ) → left ≡ take n left ++ slice_range left n (length left)
cut left n = rw (between_to_end left n (length left) (omega arith)) (sym (take-append-drop n left))

module _ {K : Type 0} {sink : Ghosts K} where
  -- a put took the first bytes of what was left
  pub Writing-put : {E : Type 0} {a b c : K} {text left : List ℕ} {n : ℕ} → Writing sink a b text left → Appends (sink.taken b) (sink.taken c) (take n left)
      → sink.name c ≡ sink.name b → HasCause {T = ℕ} {E = E} (sink.faults b) (sink.faults c) (Ok n) → Writing sink a c text (slice_range left n (length left))
  Writing-put {left = left} {n = n} so_far bytes same_name cause =
      Writing-more {E = ⊥} {piece = take n left} {u = tt} so_far (record { puts = bytes; same_name = same_name; cause = record { later = cause.later; failed = tt } })
      (cut left n)

  -- a put failed
  pub Writing-fault : {T E F : Type 0} {a b c : K} {text left : List ℕ} {e : E} (f : F) → Writing sink a b text left → Keeps (sink.taken b) (sink.taken c)
      → sink.name c ≡ sink.name b → HasCause {T = T} {E = E} (sink.faults b) (sink.faults c) (Err e) → Writes {E = F} sink a c text (Err f)
  Writing-fault {b = b} {c = c} {left = left} f so_far kept same_name cause =
      Writing-fails {piece = []} {e = f} left so_far
      (record {
        puts = record { front = []; rest = []; whole = refl; taken = Appends-kept (sink.taken b) (sink.taken b) (sink.taken c) [] (Appends-nil (sink.taken b)) kept };
        same_name = same_name;
        cause = record { later = cause.later; failed = cause.failed };
      })
      refl
