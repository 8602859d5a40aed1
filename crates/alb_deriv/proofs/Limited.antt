-- Fine lines keep the limits of their text, where they are fewer than 10^18.
use Rattle.std.proofs.Common.{◌≡◌, ℕ, ◌+◌, ◌-◌, ◌<◌, ◌≤◌, ◌^◌, false, not, List, [], ◌∷◌, ◌++◌, length, sum, refl, arith, None}
use Rattle.std.specs.Bool.{◌==◌}
use Rattle.std.specs.List.{list_any}
use Rattle.std.proofs.lemmas.Bool.{not-false}
use Rattle.std.proofs.lemmas.Bool.Decides.{nat_tests}
use Rattle.std.proofs.lemmas.List.{length-append}
use Rattle.gf_sums.specs.Sums.{total}
use Rattle.alb_mono.specs.Listing.{Each}
use Rattle.alb_mono.specs.Tree.{Tree, degree}
use Rattle.alb_poly.specs.Poly.{Poly}
use Rattle.alb_poly.specs.Instance.{Form}
use Rattle.alb_poly.specs.Consequence.{form_at}
use Rattle.alb_linear.proofs.LinearLemmas.{degree-pos, test_from_below}
use Rattle.alb_deriv.specs.Derivation.{Line, Instance, Times, Sum, line_value, fault, BadIdentity, WrongCount, LaterLine, OutOfType, AreSound, AreAllBelow, IsLineBelow, are_within, is_no_place, AreMonos, AreSumItems, IsLimited, IsLimitedDerivation}
use Rattle.alb_deriv.specs.Short.{IsShort, AreFine, IsLineOf}
use Rattle.alb_deriv.proofs.Derived.{none_if}
use Rattle.alb_deriv.proofs.Fits.{within-degree, none-any}

-- coefficients are residues, and a factor has degree at most 64
abbrev pub HasResidues : ℕ → Line → Type 0
HasResidues p (Instance i ms) = Unit {0}
HasResidues p (Times k s) = degree s.1 ≤ 64
HasResidues p (Sum cs) = Each (λ c. c.0 < p) cs

pub place_positive : (n k : ℕ) → is_no_place n k ≡ false → (0 < k) × (k ≤ n)
place_positive n k h = (above n k h, among n k h)
  where
    above : (n k : ℕ) → is_no_place n k ≡ false → 0 < k
    above n k h = grind (arith, nat_tests)

    among : (n k : ℕ) → is_no_place n k ≡ false → k ≤ n
    among n k h = grind (arith, nat_tests)

pub few-degrees : (ms : List Tree) → length ms ≤ total degree ms
few-degrees [] = omega arith
few-degrees (m ∷ ms) = omega (arith, degree-pos m, few-degrees ms)

monos-limited : (n d : ℕ) (ms : List Tree) → AreAllBelow n ms → total degree ms ≤ d → d ≤ 64 → AreMonos n ms
monos-limited n d [] b h l = tt
monos-limited n d (m ∷ ms) b h l = (test_from_below n m b.0, omega arith, monos-limited n d ms b.1 (omega arith) l)

items-limited : (p n : ℕ) (cs : List (ℕ × ℕ)) → Each (λ c. c.0 < p) cs → Each (λ c. is_no_place n c.1 ≡ false) cs → n < 10 ^ 18 → AreSumItems p cs
items-limited p n [] r h l = tt
items-limited p n (c ∷ cs) r h l = let q : (0 < c.1) × (c.1 ≤ n) = place_positive n c.1 h.0 in (r.0, omega (arith, q.1), items-limited p n cs r.1 h.1 l)

module _ (p : ℕ) (target : List ℕ) (fs : List Form) (low : sum target ≤ 12) (few : length fs < 10 ^ 18) where
  line-limited : (gs : List Poly) (l : Line) → length gs < 10 ^ 18 → fault p target fs gs l ≡ None → IsLineBelow (length target) l → IsShort 64 l → HasResidues p l → IsLimited p (length target) l
  line-limited gs (Instance i ms) m e b s r =
      let a = none_if (is_no_place (length fs) i) BadIdentity _ e in
      let c = none_if (not (length ms == (form_at fs (i - 1)).degree)) WrongCount _ a.1 in
      let d = none_if (not (are_within target ms)) OutOfType _ c.1 in
      let q : (0 < i) × (i ≤ length fs) = place_positive (length fs) i a.0 in
      let k : total degree ms ≤ sum target = within-degree target ms b (not-false _ d.0) in
      (omega (arith, q.1), monos-limited (length target) (sum target) ms b k (omega arith), omega (arith, few-degrees ms))
  line-limited gs (Times k x) m e b s r =
      let a = none_if (is_no_place (length gs) k) LaterLine _ e in
      let q : (0 < k) × (k ≤ length gs) = place_positive (length gs) k a.0 in
      (omega (arith, q.1), test_from_below (length target) x.1 b, r)
  line-limited gs (Sum cs) m e b s r =
      let a = none_if (list_any (λ c. is_no_place (length gs) c.1) cs) LaterLine _ e in
      (items-limited p (length gs) cs r (none-any _ cs a.0) m, s)

  lines-limited : (gs : List Poly) (ls : List Line) → length gs + length ls < 10 ^ 18 → AreSound p target fs gs ls → Each (IsLineBelow (length target)) ls → Each (IsShort 64) ls → Each (HasResidues p) ls →
      Each (IsLimited p (length target)) ls
  lines-limited gs [] m h b s r = tt
  lines-limited gs (l ∷ ls) m h b s r =
      let n : length (gs ++ line_value fs gs l ∷ []) ≡ length gs + 1 = length-append gs (line_value fs gs l ∷ []) in
      (line-limited gs l (omega arith) h.0 b.0 s.0 r.0, lines-limited (gs ++ line_value fs gs l ∷ []) ls (omega (arith, n)) h.1 b.1 s.1 r.1)

  -- Lines without a fault, the last of which has the polynomial, are a derivation within the limits.
  pub fine-limited : (g : Poly) (ls : List Line) → length ls < 10 ^ 18 → AreFine p 64 target fs ls → Each (HasResidues p) ls → IsLineOf p fs ls (length ls) g → IsLimitedDerivation p target fs g ls
  fine-limited g ls m fine r is =
      let z : length {A = Poly} [] ≡ 0 = refl in
      record {
        derives = record { sound = fine.sound; last = is.same };
        few = m;
        limited = lines-limited [] ls (omega (arith, z)) fine.sound fine.lettered fine.short r;
      }
