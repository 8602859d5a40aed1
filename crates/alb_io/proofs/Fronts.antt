-- Fronts of lists, as they move from a source and to a sink.
use Rattle.std.proofs.Common.{◌≡◌, ℕ, ◌+◌, ◌≤◌, List, [], ◌++◌, length, take, drop, refl, sym, ap, ◌∙◌, append_assoc, take-append-drop, Option, Result, Ok, Err, subst, arith}
use Rattle.std.specs.Io.KnownBytes.{Appends, Keeps}
use Rattle.std.proofs.KnownBytes.{Appends-nil, Appends-kept}
use Rattle.alb_io.specs.Puts.{AppendsFront, Puts}
use Rattle.std.proofs.KnownBytes.{Appends-trans}
use Rattle.std.proofs.lemmas.Slice.{between_to_end}
use Rattle.std.proofs.lemmas.List.{take_at, drop-drop, length-take-le, length-drop, append-nil}
use Rattle.std.specs.List.{slice_range}

-- what was appended so far is a front of the piece
pub record Front (piece rest : List ℕ) (before now : Option (List ℕ)) : Type 0 where
  pub front : List ℕ
  pub whole : piece ≡ front ++ rest
  pub taken : Appends before now front

pub Front-start : (piece : List ℕ) (a : Option (List ℕ)) → Front piece piece a a
Front-start piece a = record { front = []; whole = refl; taken = Appends-nil a }

-- one put more
pub Front-more : (piece rest : List ℕ) (a b c : Option (List ℕ)) (n : ℕ) → Front piece rest a b → Appends b c (take n rest)
    → Front piece (slice_range rest n (length rest)) a c
Front-more piece rest a b c n had more = record {
  front = had.front ++ take n rest;
  whole = rw (between_to_end rest n (length rest) (omega arith)) (had.whole ∙ sym (append_assoc had.front (take n rest) (drop n rest) ∙ ap (λ l. had.front ++ l) (take-append-drop n rest)));
  taken = Appends-trans a b c _ _ had.taken more;
}

pub Front-all : (piece rest : List ℕ) (a b : Option (List ℕ)) → Front piece rest a b → rest ≡ [] → Appends a b piece
Front-all piece rest a b had none = subst (Appends a b) (sym (had.whole ∙ ap (λ l. had.front ++ l) none ∙ append-nil had.front)) had.taken

pub Front-part : (piece rest : List ℕ) (a b c : Option (List ℕ)) → Front piece rest a b → Keeps b c → AppendsFront a c piece
Front-part piece rest a b c had kept = record { front = had.front; rest = rest; whole = had.whole; taken = Appends-kept a b c had.front had.taken kept }

-- one text after another
pub AppendsFront-more : (a b : Option (List ℕ)) (text more : List ℕ) → AppendsFront a b text → AppendsFront a b (text ++ more)
AppendsFront-more a b text more p = record { front = p.front; rest = p.rest ++ more; whole = ap (λ l. l ++ more) p.whole ∙ append_assoc p.front p.rest more; taken = p.taken }

pub AppendsFront-then : (a b c : Option (List ℕ)) (text more : List ℕ) → Appends a b text → AppendsFront b c more → AppendsFront a c (text ++ more)
AppendsFront-then a b c text more had p = record { front = text ++ p.front; rest = p.rest; whole = ap (λ l. text ++ l) p.whole ∙ sym (append_assoc text p.front p.rest); taken = Appends-trans a b c text p.front had p.taken }

-- what a copy into a buffer gave
pub given : (bytes x rest : List ℕ) (at n : ℕ) → at + n ≤ length bytes → x ≡ slice_range bytes at (at + n) → drop at bytes ≡ take n (x ++ rest) ++ drop (at + n) bytes
given bytes x rest at n fits is =
    let piece : x ≡ take n (drop at bytes) = is ∙ ap (λ k. take k (drop at bytes)) (omega arith) in
    let size : n ≤ length (drop at bytes) = omega (arith, length-drop at bytes) in
    let long : n ≡ length x = sym (ap length piece ∙ length-take-le n (drop at bytes) size) in
    rw (take_at x rest n (sym long), piece, ← drop-drop n at bytes) (sym (take-append-drop n (drop at bytes)))

pub Puts-then : {E : Type 0} (r : Result (Unit {0}) E) (a b c : Option (List ℕ)) (text more : List ℕ) → Appends a b text → Puts r b c more → Puts r a c (text ++ more)
Puts-then (Ok u) a b c text more had p = Appends-trans a b c text more had p
Puts-then (Err e) a b c text more had p = AppendsFront-then a b c text more had p
