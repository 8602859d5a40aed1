-- Every derivation has one with the same last polynomial and short sums.
use Rattle.std.proofs.Common.{◌≡◌, ℕ, zero, suc, ◌+◌, ◌-◌, ◌%◌, ◌<◌, ◌≤◌, Bool, true, false, not, ◌&&◌, List, [], ◌∷◌, ◌++◌, map, length, get_or, sym, refl, ap, ◌∙◌, subst, arith, inl, inr, None, append_assoc}
use Rattle.std.specs.Bool.{◌==◌}
use Rattle.std.specs.List.{flat_map}
use Rattle.std.proofs.lemmas.List.{length-append}
use Rattle.std.proofs.lemmas.Bool.{false≢true, eqb-true, not-false}
use Rattle.std.proofs.Math.Nat.{mod-eq_of_lt}
use Rattle.gf_field.proofs.Mod.{same}
use Rattle.gf_sums.specs.Sums.{coefficient, scale}
use Rattle.gf_sums.proofs.Alike.{append-alike, scale-alike}
use Rattle.alb_mono.specs.Tree.{type_of, type_le, same_tree}
use Rattle.alb_mono.specs.Listing.{Each}
use Rattle.alb_poly.specs.Poly.{Poly, IsSamePoly}
use Rattle.alb_poly.specs.Instance.{Form, IsWithin}
use Rattle.alb_poly.specs.Consequence.{form_at, IsConsequence, AreMultilinear}
use Rattle.alb_poly.proofs.Consequence.{poly_alike, alike_poly}
use Rattle.alb_deriv.specs.Derivation.{Line, Instance, Times, Sum, earlier, line_value, line_values, last_value, fault, AreSound, IsDerivation, IsLineBelow, is_no_place, passes_target}
use Rattle.alb_deriv.specs.Short.{AreFine, value_of, IsLineOf, IsSumOf, IsShortDerivation, HasShortDerivation}
use Rattle.alb_deriv.proofs.Derived.{none_if, count_same}
use Rattle.alb_deriv.proofs.Fits.{absent-or, none-any}
use Rattle.alb_deriv.proofs.Limited.{place_positive}
use Rattle.alb_deriv.proofs.Lines.{length-values}
use Rattle.alb_deriv.proofs.Derivable.{consequence-derivation}
use Rattle.alb_deriv.proofs.Appended.{IsFitting, line-kept, sum-alike, sum-zero, sum-one, append-instance, append-times, append-sum, nothing-fine}
use Rattle.alb_deriv.proofs.LongSums.{long-sum}

-- fine lines, the last of which has the polynomial
pub fine-short : {p most : ℕ} {target : List ℕ} {fs : List Form} {g : Poly} {ls : List Line} → AreFine p most target fs ls → IsSamePoly p (last_value fs ls) g →
    IsShortDerivation p most target fs g ls
fine-short h e = record { derives = record { sound = h.sound; last = e }; lettered = h.lettered; short = h.short }

-- a polynomial that does not pass the target has no monomial above it
passes-fitting : (p : ℕ) → 0 < p → (target : List ℕ) (f : Poly) → passes_target p target f ≡ false → IsFitting p target f
passes-fitting p pos target f h x e = elim (absent-or (λ y. (not (coefficient same_tree f y % p == 0) && not (type_le (type_of (length target) y) target)) ≡ false) f x (none-any _ f h)) [
  | inl k ↦ record { same = eqb-true _ 0 (zero_when (coefficient same_tree f x % p == 0) (type_le (type_of (length target) x) target) k e) ∙ sym (mod-eq_of_lt pos) }
  | inr z ↦ same z
]
  where
    zero_when : (a b : Bool) → (not a && not b) ≡ false → b ≡ false → a ≡ true
    zero_when true b k e = refl
    zero_when false true k e = absurd (false≢true (sym e))
    zero_when false false k e = absurd (false≢true (sym k))

-- the sum of multiples of the polynomials
abbrev sum_before : List Poly → List (ℕ × ℕ) → Poly
sum_before gs cs = flat_map (λ c. scale c.0 (earlier gs c.1)) cs

module _ (p : ℕ) (pos : 0 < p) (most : ℕ) (big : 2 ≤ most) (target : List ℕ) (fs : List Form) where
  -- each polynomial has the line whose number stands beside it
  abbrev Follows : List Line → List Poly → List ℕ → Type 0
  Follows ls [] [] = Unit {0}
  Follows ls [] (k ∷ ks) = ⊥
  Follows ls (g ∷ gs) [] = ⊥
  Follows ls (g ∷ gs) (k ∷ ks) = IsLineOf p fs ls k g × Follows ls gs ks

  follows-kept : (ls more : List Line) (gs : List Poly) (ks : List ℕ) → Follows ls gs ks → Follows (ls ++ more) gs ks
  follows-kept ls more [] [] h = tt
  follows-kept ls more [] (k ∷ ks) h = h
  follows-kept ls more (g ∷ gs) [] h = h
  follows-kept ls more (g ∷ gs) (k ∷ ks) h = (line-kept p fs ls more k h.0, follows-kept ls more gs ks h.1)

  follows-push : (ls : List Line) (gs : List Poly) (ks : List ℕ) (g : Poly) (k : ℕ) → Follows ls gs ks → IsLineOf p fs ls k g → Follows ls (gs ++ g ∷ []) (ks ++ k ∷ [])
  follows-push ls [] [] g k h l = (l, tt)
  follows-push ls [] (j ∷ ks) g k h l = absurd h
  follows-push ls (f ∷ gs) [] g k h l = absurd h
  follows-push ls (f ∷ gs) (j ∷ ks) g k h l = (h.0, follows-push ls gs ks g k h.1 l)

  follows-at : (ls : List Line) (gs : List Poly) (ks : List ℕ) (j : ℕ) → Follows ls gs ks → j < length gs → IsLineOf p fs ls (get_or ks j 0) (get_or gs j [])
  follows-at ls [] ks j h l = absurd (omega arith)
  follows-at ls (g ∷ gs) [] j h l = absurd h
  follows-at ls (g ∷ gs) (k ∷ ks) zero h l = h.0
  follows-at ls (g ∷ gs) (k ∷ ks) (suc j) h l = follows-at ls gs ks j h.1 (omega arith)

  earlier-at : (ls : List Line) (gs : List Poly) (ks : List ℕ) (j : ℕ) → Follows ls gs ks → is_no_place (length gs) j ≡ false → IsLineOf p fs ls (get_or ks (j - 1) 0) (earlier gs j)
  earlier-at ls gs ks j h n = let q = place_positive (length gs) j n in let l : j - 1 < length gs = omega (arith, q.0, q.1) in follows-at ls gs ks (j - 1) h l

  renumbered : List ℕ → List (ℕ × ℕ) → List (ℕ × ℕ)
  renumbered ks cs = map (λ c. (c.0, get_or ks (c.1 - 1) 0)) cs

  follows-sum : (ls : List Line) (gs : List Poly) (ks : List ℕ) (cs : List (ℕ × ℕ)) → Follows ls gs ks → Each (λ c. is_no_place (length gs) c.1 ≡ false) cs →
      IsSumOf p fs ls (renumbered ks cs) (sum_before gs cs)
  unfolding renumbered
  follows-sum ls gs ks [] h a = sum-zero p fs ls
  follows-sum ls gs ks (c ∷ cs) h a =
      let x = earlier-at ls gs ks c.1 h a.0 in
      let y = follows-sum ls gs ks cs h a.1 in
      record {
        places = (x.place, y.places);
        same = poly_alike (append-alike (scale-alike c.0 (alike_poly x.same)) (alike_poly y.same));
      }

  -- the lines `ls` have a line for each polynomial of `gs`
  record Mirrors (ls : List Line) (gs : List Poly) : Type 0 where
    fine : AreFine p most target fs ls
    numbers : List ℕ
    follows : Follows ls gs numbers

  mirror-line : (gs : List Poly) (l : Line) (ls : List Line) → fault p target fs gs l ≡ None → IsLineBelow (length target) l → Mirrors ls gs →
      (more : List Line) × Mirrors (ls ++ more) (gs ++ line_value fs gs l ∷ [])
  mirror-line gs (Instance i ms) ls e b m =
      let a = none_if _ _ _ e in
      let c = none_if _ _ _ a.1 in
      let d = none_if _ _ _ c.1 in
      let q = place_positive (length fs) i a.0 in
      let n : length ms ≡ (form_at fs (i - 1)).degree = count_same _ _ c.0 in
      let x = append-instance p pos most target fs ls (i - 1) ms m.fine (omega (arith, q.0, q.1)) n (not-false _ d.0) b in (
        Instance (i - 1 + 1) ms ∷ [],
        record {
          fine = x.fine;
          numbers = m.numbers ++ (length ls + 1) ∷ [];
          follows = follows-push _ gs m.numbers _ (length ls + 1) (follows-kept ls _ gs m.numbers m.follows) x.line;
        },
      )
  mirror-line gs (Times k s) ls e b m =
      let a = none_if _ _ _ e in
      let c = none_if _ _ _ a.1 in
      let l : IsLineOf p fs ls (get_or m.numbers (k - 1) 0) (earlier gs k) = earlier-at ls gs m.numbers k m.follows a.0 in
      let x = append-times p pos most target fs ls (get_or m.numbers (k - 1) 0) s (earlier gs k) m.fine l b (passes-fitting p pos target _ c.0) in (
        Times (get_or m.numbers (k - 1) 0) s ∷ [],
        record {
          fine = x.fine;
          numbers = m.numbers ++ (length ls + 1) ∷ [];
          follows = follows-push _ gs m.numbers _ (length ls + 1) (follows-kept ls _ gs m.numbers m.follows) x.line;
        },
      )
  mirror-line gs (Sum cs) ls e b m =
      let a = none_if _ _ _ e in
      let x = long-sum p pos most target fs big ls (renumbered m.numbers cs) (sum_before gs cs) m.fine (follows-sum ls gs m.numbers cs m.follows (none-any _ cs a.0)) in (
        x.more,
        record {
          fine = x.fine;
          numbers = m.numbers ++ length (ls ++ x.more) ∷ [];
          follows = follows-push _ gs m.numbers _ (length (ls ++ x.more)) (follows-kept ls x.more gs m.numbers m.follows) x.line;
        },
      )

  mirror-lines : (gs : List Poly) (olds ls : List Line) → AreSound p target fs gs olds → Each (IsLineBelow (length target)) olds → Mirrors ls gs →
      (more : List Line) × Mirrors (ls ++ more) (line_values fs gs olds)
  mirror-lines gs [] ls h b m = ([], subst (λ z. Mirrors z gs) (nothing-behind ls) m)
    where
      nothing-behind : (ls : List Line) → ls ≡ ls ++ []
      nothing-behind [] = refl
      nothing-behind (l ∷ ls) = ap (λ z. l ∷ z) (nothing-behind ls)
  mirror-lines gs (l ∷ olds) ls h b m =
      let x = mirror-line gs l ls h.0 b.0 m in
      let y = mirror-lines (gs ++ line_value fs gs l ∷ []) olds (ls ++ x.0) h.1 b.1 x.1 in
      (x.0 ++ y.0, subst (λ z. Mirrors z (line_values fs gs (l ∷ olds))) (append_assoc ls x.0 y.0) y.1)

  last-sum : (ls : List Line) (gs : List Poly) (ks : List ℕ) (n : ℕ) → Follows ls gs ks → length gs ≡ n → (cs : List (ℕ × ℕ)) × IsSumOf p fs ls cs (earlier gs n) × (length cs ≤ 1)
  last-sum ls gs ks zero h e = ([], subst (λ g. IsSumOf p fs ls [] g) (nothing gs e) (sum-zero p fs ls), omega arith)
    where
      nothing : (gs : List Poly) → length gs ≡ 0 → [] ≡ get_or gs (0 - 1) []
      nothing [] e = refl
      nothing (g ∷ gs) e = absurd (omega arith)
  last-sum ls gs ks (suc n) h e =
      let q : suc n - 1 ≡ n = omega arith in (
        (1, get_or ks n 0) ∷ [],
        subst (λ j. IsSumOf p fs ls ((1, get_or ks n 0) ∷ []) (get_or gs j [])) (sym q) (sum-one p fs (follows-at ls gs ks n h (omega arith))),
        omega arith,
      )

  -- A derivation can stand after any lines: lines `more` after `ls`, with a combination that has its last polynomial.
  pub derivation-behind : (g : Poly) (olds ls : List Line) → IsDerivation p target fs g olds → Each (IsLineBelow (length target)) olds → AreFine p most target fs ls →
      (more : List Line) × AreFine p most target fs (ls ++ more) × (cs : List (ℕ × ℕ)) × IsSumOf p fs (ls ++ more) cs g × (length cs ≤ 1)
  derivation-behind g olds ls d b h =
      let m = mirror-lines [] olds ls d.sound b (record { fine = h; numbers = []; follows = tt }) in
      let G : List Poly = line_values fs [] olds in
      let s = last-sum (ls ++ m.0) G m.1.numbers (length olds) m.1.follows (let z : length {A = Poly} [] ≡ 0 = refl in omega (arith, length-values fs [] olds)) in
      (m.0, m.1.fine, s.0, sum-alike p fs (alike_poly d.last) s.1, s.2)

  -- Every derivation has one with the same last polynomial whose sums have at most `most` items.
  pub derivation-short : (g : Poly) (olds : List Line) → IsDerivation p target fs g olds → Each (IsLineBelow (length target)) olds → HasShortDerivation p most target fs g
  derivation-short g olds d b =
      let m = derivation-behind g olds [] d b (nothing-fine p pos most target fs) in
      let x = append-sum p pos most target fs m.0 m.2 g m.1 m.3 (omega (arith, m.4)) in
      let n : length (m.0 ++ Sum m.2 ∷ []) ≡ length m.0 + 1 = omega (arith, length-append m.0 (Sum m.2 ∷ [])) in
      record {
        lines = m.0 ++ Sum m.2 ∷ [];
        are = fine-short x.fine (subst (λ k. IsSamePoly p (value_of fs (m.0 ++ Sum m.2 ∷ []) k) g) (sym n) x.line.same);
      }

  -- Each consequence within the target has a derivation with short sums.
  pub consequence-short_derivation : (g : Poly) → AreMultilinear fs → IsWithin p target g → IsConsequence p fs g → HasShortDerivation p most target fs g
  consequence-short_derivation g multi within c = let d = consequence-derivation p target fs g pos multi within c in derivation-short g d.0 d.1 d.2
