-- Each line's polynomial is a consequence.
use Rattle.std.proofs.Common.{◌≡◌, ℕ, ◌-◌, ◌<◌, Bool, true, false, not, List, [], ◌∷◌, ◌++◌, length, sym, refl, arith, inl, inr, Option, Some, None}
use Rattle.std.specs.Bool.{if◌then◌else◌, ◌==◌}
use Rattle.std.specs.List.{flat_map}
use Rattle.std.proofs.lemmas.Bool.{cases_Bool, false≢true, eqb-true}
use Rattle.std.proofs.lemmas.Bool.Decides.{nat_tests}
use Rattle.gf_sums.specs.Sums.{scale}
use Rattle.alb_poly.specs.Poly.{Poly}
use Rattle.alb_poly.specs.Instance.{Form}
use Rattle.alb_poly.specs.Consequence.{IsConsequence}
use Rattle.alb_mono.specs.Listing.{Each}
use Rattle.alb_poly.proofs.Multilinear.{each-append}
use Rattle.alb_poly.proofs.Parts.{each_at}
use Rattle.alb_poly.proofs.Consequence.{consequence-instance, consequence-zero, consequence-append, consequence-scale, consequence-beside}
use Rattle.alb_deriv.specs.Derivation.{Line, Instance, Times, Sum, earlier, line_value, line_values, fault, DerivationFault, AreSound, is_no_place}

pub none_if : (b : Bool) (x : DerivationFault) (o : Option DerivationFault) → (if b then Some x else o) ≡ None → (b ≡ false) × (o ≡ None)
none_if true x o h = absurd (cc)
none_if false x o h = (refl, h)

place_below : (n k : ℕ) → is_no_place n k ≡ false → k - 1 < n
place_below n k h = grind (arith, nat_tests)

pub count_same : (m n : ℕ) → not (m == n) ≡ false → m ≡ n
count_same m n h = elim (cases_Bool (m == n)) [ inl e ↦ eqb-true m n e | inr e ↦ absurd (false≢true (sym (rw e at h))) ]

module _ (p : ℕ) (target : List ℕ) (fs : List Form) where
  earlier-consequence : (gs : List Poly) (k : ℕ) → Each (IsConsequence p fs) gs → IsConsequence p fs (earlier gs k)
  earlier-consequence gs k h = each_at (IsConsequence p fs) gs (k - 1) [] (consequence-zero p fs) h

  sum-consequence : (gs : List Poly) (cs : List (ℕ × ℕ)) → Each (IsConsequence p fs) gs → IsConsequence p fs (flat_map (λ c. scale c.0 (earlier gs c.1)) cs)
  sum-consequence gs [] h = consequence-zero p fs
  sum-consequence gs (c ∷ cs) h = consequence-append p fs (consequence-scale p fs c.0 (earlier-consequence gs c.1 h)) (sum-consequence gs cs h)

  line-consequence : (gs : List Poly) (l : Line) → Each (IsConsequence p fs) gs → fault p target fs gs l ≡ None → IsConsequence p fs (line_value fs gs l)
  line-consequence gs (Instance i ms) h k =
      let a = none_if _ _ _ k in let b = none_if _ _ _ a.1 in
      consequence-instance p fs (i - 1) ms (place_below (length fs) i a.0) (count_same (length ms) _ b.0)
  line-consequence gs (Times n s) h k = consequence-beside p fs s (earlier-consequence gs n h)
  line-consequence gs (Sum cs) h k = sum-consequence gs cs h

  pub lines-consequences : (gs : List Poly) (ls : List Line) → Each (IsConsequence p fs) gs → AreSound p target fs gs ls →
      Each (IsConsequence p fs) (line_values fs gs ls)
  lines-consequences gs [] h k = h
  lines-consequences gs (l ∷ ls) h k = lines-consequences (gs ++ line_value fs gs l ∷ []) ls
      (each-append (IsConsequence p fs) gs (line_value fs gs l ∷ []) h (line-consequence gs l h k.0, tt)) k.1
