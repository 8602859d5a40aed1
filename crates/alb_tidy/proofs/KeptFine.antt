-- What is kept of lines without a fault has no fault, and the same polynomials.
use Rattle.std.proofs.Common.{◌≡◌, ℕ, zero, suc, ◌+◌, ◌-◌, ◌<◌, ◌≤◌, Bool, true, false, List, [], ◌∷◌, ◌++◌, length, get_or, take, refl, sym, ap, ◌∙◌, subst, arith, inl, inr}
use Rattle.std.proofs.lemmas.Bool.{false≢true}
use Rattle.alb_mono.specs.Listing.{Each}
use Rattle.alb_poly.specs.Poly.{Poly}
use Rattle.alb_poly.specs.Instance.{Form}
use Rattle.alb_deriv.specs.Derivation.{Line, earlier, line_value, line_values, IsLineBelow}
use Rattle.alb_deriv.specs.Short.{IsShort, AreFine, value_of, IsLineOf}
use Rattle.alb_deriv.proofs.Appended.{Appends, line-kept, nothing-fine}
use Rattle.alb_tidy.specs.Tidy.{line_at, cites}
use Rattle.alb_tidy.specs.Cites.{AreOrdered, new_number, renumbered}
use Rattle.alb_tidy.specs.Needed.{is_marked}
use Rattle.alb_tidy.proofs.Citing.{cites-within, sound-ordered}
use Rattle.alb_tidy.proofs.Kept.{IsKept, number_at, number-front, number-end, at-or-below, cited-number}
use Rattle.alb_tidy.proofs.Mirror.{mirror}
use Rattle.alb_tidy.proofs.Numbered.{Numbers, HasNumbered, numbered-fine}
use Rattle.alb_tidy.proofs.Whole.{value-before, earlier-front, fault-before}

each-place : {X : Type 0} (P : X → Type 0) (xs : List X) (k : ℕ) (d : X) → Each P xs → k < length xs → P (get_or xs k d)
each-place P [] k d a l = absurd (omega arith)
each-place P (x ∷ xs) zero d a l = a.0
each-place P (x ∷ xs) (suc k) d a l = each-place P xs k d a.1 (omega arith)

module _ (p : ℕ) (pos : 0 < p) (most : ℕ) (target : List ℕ) (fs : List Form) where
  -- the lines `ms` have no fault, and the polynomials of the marked ones of the first k lines `ls`
  pub record IsKeptFine (ls : List Line) (marks : List Bool) (k : ℕ) (ms : List Line) (places : List ℕ) : Type 0 where
    pub fine : AreFine p most target fs ms
    pub values : (j : ℕ) → j < k → is_marked marks j ≡ true → IsLineOf p fs ms (number_at places j) (value_of fs ls (j + 1))

  pub nothing-kept : (ls : List Line) (marks : List Bool) → IsKeptFine ls marks 0 [] []
  nothing-kept ls marks = record { fine = nothing-fine p pos most target fs; values = λ j l e. absurd (omega arith) }

  module _ (ls : List Line) (good : AreFine p most target fs ls) (marks : List Bool) (k : ℕ) (below : k < length ls) (ms : List Line) (places : List ℕ)
      (h : IsKept ls marks k ms places) (v : IsKeptFine ls marks k ms places) where
    ordered : AreOrdered ls
    ordered = sound-ordered p target fs ls good.sound

    value-front : (n j : ℕ) → j < k → {new : List Line} → IsLineOf p fs new (number_at places j) (value_of fs ls (j + 1)) → IsLineOf p fs new (number_at (places ++ n ∷ []) j) (value_of fs ls (j + 1))
    value-front n j l {new} x = subst (λ m. IsLineOf p fs new m (value_of fs ls (j + 1))) (sym (number-front places n k j h.count l)) x

    pub fine-skip : is_marked marks k ≡ false → IsKeptFine ls marks (k + 1) ms (places ++ 0 ∷ [])
    fine-skip out = record {
      fine = v.fine;
      values = λ j l e. elim (at-or-below j k l) [
        | inl b ↦ value-front 0 j b (v.values j b e)
        | inr q ↦ absurd (false≢true (sym out ∙ ap (is_marked marks) (sym q) ∙ e))
      ];
    }

    -- what a line cites has its polynomials among the new lines
    cited-value : ((j : ℕ) → cites (line_at ls k) (j + 1) ≡ true → is_marked marks j ≡ true) → (c : ℕ) → cites (line_at ls k) c ≡ true →
        IsLineOf p fs ms (new_number places c) (earlier (line_values fs [] (take k ls)) c)
    cited-value closed c e =
        let w = cites-within k (line_at ls k) c (ordered k below) e in
        let b = cited-number ls marks k ms places h ordered below closed c e in
        let one : c - 1 + 1 ≡ c = omega (arith, w.above) in
        let same : value_of fs ls (c - 1 + 1) ≡ earlier (line_values fs [] (take k ls)) c = ap (value_of fs ls) one ∙ sym (earlier-front fs ls k c (omega (arith, below)) w) in
        subst (IsLineOf p fs ms (new_number places c)) same (v.values (c - 1) b.0 b.1)

    pub fine-next : ((j : ℕ) → cites (line_at ls k) (j + 1) ≡ true → is_marked marks j ≡ true) → (new : List Line) (n : ℕ) →
        Numbers ms new (renumbered places (line_at ls k)) n → IsKeptFine ls marks (k + 1) new (places ++ n ∷ [])
    fine-next closed new n s =
        let x = mirror p pos most target fs (line_values fs [] (take k ls)) (line_at ls k) ms places (fault-before p target fs ls k good.sound below)
        (each-place (IsLineBelow (length target)) ls k _ good.lettered below) (each-place (IsShort most) ls k _ good.short below) v.fine (cited-value closed) in
        let y = numbered-fine p most target fs ms new (renumbered places (line_at ls k)) n _ s v.fine x in
        record {
          fine = y.fine;
          values = λ j l e. elim (at-or-below j k l) [
            | inl b ↦ value-front n j b (line-more s (v.values j b e))
            | inr q ↦ subst (λ i. IsLineOf p fs new (number_at (places ++ n ∷ []) i) (value_of fs ls (i + 1))) (sym q)
                (subst (λ m. IsLineOf p fs new m (value_of fs ls (k + 1))) (sym (number-end places n k h.count))
                (subst (IsLineOf p fs new n) (sym (value-before fs ls k below)) y.has))
          ];
        }
      where
        line-more : {l : Line} {f : Poly} {i : ℕ} → Numbers ms new l n → IsLineOf p fs ms i f → IsLineOf p fs new i f
        line-more {l} {f} {i} s a = elim s.lines [
          | inl e ↦ subst (λ xs. IsLineOf p fs xs i f) (sym e) a
          | inr e ↦ subst (λ xs. IsLineOf p fs xs i f) (sym e) (line-kept p fs ms (l ∷ []) i a)
        ]
