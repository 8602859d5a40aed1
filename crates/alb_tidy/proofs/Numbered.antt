-- Lines of which each stands once, and the number of one more.
use Rattle.std.proofs.Common.{◌≡◌, ℕ, ◌+◌, ◌-◌, ◌<◌, ◌≤◌, ◌⊎◌, List, [], ◌∷◌, ◌++◌, map, length, refl, sym, ap, ◌∙◌, subst, arith, inl, inr, length-append}
use Rattle.std.proofs.lemmas.Bool.{cases_lt}
use Rattle.std.proofs.lemmas.List.{map-append, length-map}
use Rattle.std.proofs.Math.ListN.{get_or-append}
use Rattle.std.proofs.Math.Seq.{get_or-append_seam}
use Rattle.alb_poly.specs.Poly.{Poly}
use Rattle.alb_poly.specs.Instance.{Form}
use Rattle.alb_poly.proofs.Consequence.{poly_alike, alike_poly, itself'}
use Rattle.gf_sums.proofs.Alike.{joined}
use Rattle.alb_deriv.specs.Derivation.{Line}
use Rattle.alb_deriv.specs.Short.{AreFine, IsPlace, value_of, IsLineOf}
use Rattle.alb_deriv.specs.Views.{line}
use Rattle.alb_deriv.specs.declared.line.Line.{Line as Entry}
use Rattle.alb_deriv.proofs.Appended.{Appends, value-kept}
use Rattle.alb_tidy.specs.Tidy.{line_at, AreDifferent}
use Rattle.alb_tidy.specs.Cites.{IsNumber, AreOrdered}
use Rattle.alb_tidy.specs.Numbers.{IsNumbered}
use Rattle.alb_tidy.proofs.Citing.{sound-ordered}
use Rattle.alb_tidy.proofs.Whole.{value-again}

-- the same of lines as the definition of a derivation sees them
pub record Numbers (old new : List Line) (l : Line) (n : ℕ) : Type 0 where
  pub lines : (new ≡ old) ⊎ (new ≡ old ++ l ∷ [])
  pub number : IsNumber (length new) n
  pub stands : line_at new (n - 1) ≡ l
  pub different : AreDifferent new

pub numbers-seen : (old new : List Entry) (x : Entry) (n : ℕ) (l : Line) → line x ≡ l → IsNumbered old new x n → Numbers (map line old) (map line new) l n
numbers-seen old new x n l e h = record {
  lines = elim h.lines [
    | inl q ↦ inl (ap (map line) q)
    | inr q ↦ inr (ap (map line) q ∙ map-append line old (x ∷ []) ∙ ap (λ y. map line old ++ y ∷ []) e)
  ];
  number = record { above = h.number.above; among = subst (λ k. n ≤ k) (sym (length-map new line)) h.number.among };
  stands = h.stands ∙ e;
  different = h.different;
}

-- ---- places

pub at-front : (ls : List Line) (l : Line) (k : ℕ) → k < length ls → line_at (ls ++ l ∷ []) k ≡ line_at ls k
at-front ls l k h = get_or-append ls (l ∷ []) _ k h

pub at-end : (ls : List Line) (l : Line) → line_at (ls ++ l ∷ []) (length ls) ≡ l
at-end ls l = get_or-append_seam ls l [] _

pub at-kept : {old new : List Line} {l : Line} {n : ℕ} → Numbers old new l n → (k : ℕ) → k < length old → line_at new k ≡ line_at old k
at-kept {old} {new} {l} s k h = elim s.lines [
  | inl e ↦ ap (λ xs. line_at xs k) e
  | inr e ↦ ap (λ xs. line_at xs k) e ∙ at-front old l k h
]

pub length-more : {old new : List Line} {l : Line} {n : ℕ} → Numbers old new l n → length old ≤ length new
length-more {old} {new} {l} s = elim s.lines [
  | inl e ↦ omega (arith, ap length e)
  | inr e ↦ omega (arith, ap length e, length-append old (l ∷ []))
]

-- where a line was put after the others, its number is the last one
pub number-last : {old new : List Line} {l : Line} {n : ℕ} → Numbers old new l n → new ≡ old ++ l ∷ [] → n ≡ length old + 1
number-last {old} {new} {l} {n} s e =
    let c : length new ≡ length old + 1 = ap length e ∙ length-append old (l ∷ []) in
    let last : line_at new (length old) ≡ l = ap (λ xs. line_at xs (length old)) e ∙ at-end old l in
    elim (cases_lt (length old) n) [
      | inl a ↦ omega (arith, a, s.number.among, c)
      | inr b ↦ absurd (s.different (n - 1) (length old) (omega (arith, s.number.above, b)) (omega (arith, c)) (s.stands ∙ sym last))
    ]

-- ---- polynomials

-- the lines have no fault, and line `n` has the polynomial `f`
pub record HasNumbered (p most : ℕ) (target : List ℕ) (fs : List Form) (new : List Line) (n : ℕ) (f : Poly) : Type 0 where
  pub fine : AreFine p most target fs new
  pub has : IsLineOf p fs new n f

module _ (p most : ℕ) (target : List ℕ) (fs : List Form) where
  again-behind : (old : List Line) (l : Line) (n : ℕ) (f : Poly) → Appends p most target fs old l f → IsNumber (length (old ++ l ∷ [])) n → line_at (old ++ l ∷ []) (n - 1) ≡ l →
      IsLineOf p fs (old ++ l ∷ []) n f
  again-behind old l n f a w e =
      let M : List Line = old ++ l ∷ [] in
      let c : length M ≡ length old + 1 = length-append old (l ∷ []) in
      let m : n - 1 + 1 ≡ n = omega (arith, w.above) in
      let o : AreOrdered M = sound-ordered p target fs M a.fine.sound in
      let v : value_of fs M n ≡ value_of fs M (length old + 1) =
      ap (value_of fs M) (sym m) ∙ value-again fs M (n - 1) (length old) o (omega (arith, w.above, w.among)) (omega (arith, c)) (e ∙ sym (at-end old l)) in
      record { place = record { above = w.above; among = w.among }; same = poly_alike (joined (itself' _ _ v) (alike_poly a.line.same)) }

  -- A line that stands among the others already has the polynomial that it would have after them.
  pub numbered-fine : (old new : List Line) (l : Line) (n : ℕ) (f : Poly) → Numbers old new l n → AreFine p most target fs old → Appends p most target fs old l f → HasNumbered p most target fs new n f
  numbered-fine old new l n f s h a = elim s.lines [
    | inr e ↦ (let w : IsNumber (length (old ++ l ∷ [])) n = subst (λ xs. IsNumber (length xs) n) e s.number in
        subst (λ xs. HasNumbered p most target fs xs n f) (sym e)
        (record { fine = a.fine; has = again-behind old l n f a w (subst (λ xs. line_at xs (n - 1) ≡ l) e s.stands) }))
    | inl e ↦ (let w : IsNumber (length old) n = subst (λ xs. IsNumber (length xs) n) e s.number in
        let c : length (old ++ l ∷ []) ≡ length old + 1 = length-append old (l ∷ []) in
        let place : IsPlace old n = record { above = w.above; among = w.among } in
        let stands : line_at (old ++ l ∷ []) (n - 1) ≡ l = at-front old l (n - 1) (omega (arith, w.above, w.among)) ∙ subst (λ xs. line_at xs (n - 1) ≡ l) e s.stands in
        let x = again-behind old l n f a (record { above = w.above; among = omega (arith, w.among, c) }) stands in
        subst (λ xs. HasNumbered p most target fs xs n f) (sym e)
        (record {
          fine = h;
          has = record { place = place; same = poly_alike (joined (itself' _ _ (sym (value-kept fs old (l ∷ []) n place))) (alike_poly x.same)) };
        }))
  ]
