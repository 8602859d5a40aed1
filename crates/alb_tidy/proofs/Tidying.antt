-- Lines that are kept one after the other.
use Rattle.std.proofs.Common.{◌≡◌, ℕ, zero, suc, ◌+◌, ◌-◌, ◌<◌, ◌≤◌, Bool, true, false, List, [], ◌∷◌, ◌++◌, map, length, get_or, All, IfOk, Result, refl, sym, ap, ◌∙◌, subst, arith}
use Rattle.std.proofs.lemmas.List.{length-map}
use Rattle.alb_poly.specs.Instance.{Form}
use Rattle.alb_poly.specs.Poly.{Poly}
use Rattle.alb_deriv.specs.Derivation.{Line}
use Rattle.alb_deriv.specs.Short.{AreFine, IsLineOf, value_of}
use Rattle.alb_deriv.specs.Views.{line, IsLine}
use Rattle.alb_deriv.specs.declared.line.Line.{Line as Entry}
use Rattle.alb_poly.proofs.Consequence.{alike_poly}
use Rattle.alb_deriv.proofs.Appended.{line-alike}
use Rattle.alb_tidy.specs.Cites.{IsNumber, CitesWithin, AreOrdered, renumbered}
use Rattle.alb_tidy.specs.Keeps.{Keeps, Skips}
use Rattle.alb_tidy.specs.Needed.{is_marked, AreNeeded}
use Rattle.alb_tidy.specs.Numbers.{lines_in}
use Rattle.alb_tidy.specs.Tidy.{line_at, IsTidy}
use Rattle.alb_tidy.specs.declared.keeping.Keeping.{Keeping}
use Rattle.alb_tidy.proofs.Kept.{IsKept, kept-nothing, kept-skip, kept-next, kept-tidy, last-number}
use Rattle.alb_tidy.proofs.KeptFine.{IsKeptFine, nothing-kept, fine-skip, fine-next}
use Rattle.alb_tidy.proofs.Numbered.{Numbers, numbers-seen}
use Rattle.alb_tidy.proofs.Printing.{copy-printable, numbered-printable}

-- what is known after k lines
pub record IsTidying (lines : List Entry) (marks : List Bool) (k : ℕ) (held : List Entry) (places : List ℕ) : Type 0 where
  pub kept : IsKept (map line lines) marks k (map line held) places
  pub fine : (p : ℕ) (pos : 0 < p) (most : ℕ) (target : List ℕ) (fs : List Form) → AreFine p most target fs (map line lines) →
      IsKeptFine p pos most target fs (map line lines) marks k (map line held) places
  pub printable : (p n : ℕ) → All (λ x. IsLine p n x) lines → All (λ x. IsLine p n x) held

pub at-line : (xs : List Entry) (k : ℕ) (x : Entry) → k < length xs → x ≡ get_or xs k x → line_at (map line xs) k ≡ line x
at-line [] k x l e = absurd (omega arith)
at-line (y ∷ xs) zero x l e = ap line (sym e)
at-line (y ∷ xs) (suc k) x l e = at-line xs k x (omega arith) e

pub tidying-start : (lines : List Entry) (marks : List Bool) → IsTidying lines marks 0 [] []
tidying-start lines marks = record {
  kept = kept-nothing (map line lines) marks;
  fine = λ p pos most target fs good. nothing-kept p pos most target fs (map line lines) marks;
  printable = λ p n a k d l. absurd (omega arith);
}

module _ (lines : List Entry) (last : ℕ) (marks : List Bool) (number : IsNumber (length lines) last) (ordered : AreOrdered (map line lines)) (need : AreNeeded (map line lines) last marks) where
  all-lines : length (map line lines) ≡ length lines
  all-lines = length-map lines line

  module _ (k : ℕ) (below : k < last) (held : List Entry) (places : List ℕ) (h : IsTidying lines marks k held places) where
    inside : k < length (map line lines)
    inside = omega (arith, number.among, all-lines)

    -- a line cites lines that have places
    pub tidying-within : (entry : Entry) → entry ≡ get_or lines k entry → CitesWithin (length places) (line entry)
    tidying-within entry e =
        let at : line_at (map line lines) k ≡ line entry = at-line lines k entry (omega (arith, all-lines, inside)) e in
        subst (λ n. CitesWithin n (line entry)) (sym h.kept.count) (subst (CitesWithin k) at (ordered k inside))

    pub tidying-skip : (old new : Keeping) → lines_in old.ledger ≡ held → old.places.items ≡ places → is_marked marks k ≡ false → Skips old new → IsTidying lines marks (k + 1) (lines_in new.ledger) new.places.items
    tidying-skip old new eh ep out s =
        let q : lines_in new.ledger ≡ held = s.lines ∙ eh in
        let w : new.places.items ≡ places ++ 0 ∷ [] = s.places ∙ ap (λ ps. ps ++ 0 ∷ []) ep in
        subst (λ ls. IsTidying lines marks (k + 1) ls new.places.items) (sym q) (subst (IsTidying lines marks (k + 1) held) (sym w) (record {
          kept = kept-skip (map line lines) marks k (map line held) places h.kept ordered inside out;
          fine = λ p pos most target fs good. fine-skip p pos most target fs (map line lines) good marks k inside (map line held) places h.kept (h.fine p pos most target fs good) out;
          printable = h.printable;
        }))

    pub tidying-keep : (entry : Entry) → entry ≡ get_or lines k entry → is_marked marks k ≡ true → (old new : Keeping) → lines_in old.ledger ≡ held → old.places.items ≡ places → Keeps old new entry →
        IsTidying lines marks (k + 1) (lines_in new.ledger) new.places.items
    tidying-keep entry e mark old new eh ep s =
        let at : line_at (map line lines) k ≡ line entry = at-line lines k entry (omega (arith, all-lines, inside)) e in
        let is : line s.copy ≡ renumbered places (line_at (map line lines) k) = s.is ∙ ap (λ ps. renumbered ps (line entry)) ep ∙ ap (renumbered places) (sym at) in
        let n : Numbers (map line held) (map line (lines_in new.ledger)) (renumbered places (line_at (map line lines) k)) s.number =
        subst (λ xs. Numbers (map line xs) (map line (lines_in new.ledger)) (renumbered places (line_at (map line lines) k)) s.number) eh
        (numbers-seen (lines_in old.ledger) (lines_in new.ledger) s.copy s.number (renumbered places (line_at (map line lines) k)) is s.numbered) in
        let w : new.places.items ≡ places ++ s.number ∷ [] = s.places ∙ ap (λ ps. ps ++ s.number ∷ []) ep in
        let closed = need.closed k below mark in
        subst (IsTidying lines marks (k + 1) (lines_in new.ledger)) (sym w) (record {
          kept = kept-next (map line lines) marks k (map line held) places h.kept ordered inside closed (map line (lines_in new.ledger)) s.number n mark;
          fine = λ p pos most target fs good. fine-next p pos most target fs (map line lines) good marks k inside (map line held) places h.kept (h.fine p pos most target fs good) closed (map line (lines_in new.ledger)) s.number n;
          printable = λ p m a. numbered-printable p m (lines_in old.ledger) (lines_in new.ledger) s.copy s.number s.numbered
              (copy-printable p m places entry s.copy (s.is ∙ ap (λ ps. renumbered ps (line entry)) ep) (subst (IsLine p m) (sym e) (a k entry (omega (arith, all-lines, inside)))))
              (subst (All (λ x. IsLine p m x)) (sym eh) (h.printable p m a));
        })

  -- ---- after the last line

  module _ (held : List Entry) (places : List ℕ) (h : IsTidying lines marks last held places) where
    pub tidied : IsTidy (map line held)
    tidied = kept-tidy (map line lines) marks last (map line held) places h.kept number.above need

    pub tidied-fine : (p most : ℕ) (target : List ℕ) (fs : List Form) (f : Poly) → 0 < p → AreFine p most target fs (map line lines) → IsLineOf p fs (map line lines) last f →
        AreFine p most target fs (map line held) × IsLineOf p fs (map line held) (length held) f
    tidied-fine p most target fs f pos good is =
        let x = h.fine p pos most target fs good in
        let n : get_or places (last - 1) 0 ≡ length held = last-number (map line lines) marks last (map line held) places h.kept number.above need ∙ length-map held line in
        let one : last - 1 + 1 ≡ last = omega (arith, number.above) in
        let v = subst (λ m. IsLineOf p fs (map line held) m (value_of fs (map line lines) (last - 1 + 1))) n (x.values (last - 1) (omega (arith, number.above)) need.ends) in
        (x.fine, line-alike p fs (alike_poly is.same) (subst (λ m. IsLineOf p fs (map line held) (length held) (value_of fs (map line lines) m)) one v))
