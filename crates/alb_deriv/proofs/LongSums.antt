-- Sums of any length, by lines with few items each.
use Rattle.std.proofs.Common.{◌≡◌, ℕ, zero, suc, ◌+◌, ◌<◌, ◌≤◌, List, [], ◌∷◌, ◌++◌, length, take, drop, sym, ap, ◌∙◌, subst, arith, inl, inr, append_assoc}
use Rattle.std.proofs.lemmas.List.{length-append, take-append-drop, length-take-le}
use Rattle.std.proofs.lemmas.Bool.{cases_lt}
use Rattle.gf_sums.proofs.Alike.{itself, joined}
use Rattle.alb_mono.specs.Listing.{Each}
use Rattle.alb_poly.specs.Poly.{Poly}
use Rattle.alb_poly.specs.Instance.{Form}
use Rattle.alb_poly.proofs.Consequence.{poly_alike, alike_poly, itself'}
use Rattle.alb_deriv.specs.Derivation.{Line, Sum}
use Rattle.alb_deriv.specs.Short.{AreFine, IsPlace, IsLineOf, sum_of, IsSumOf}
use Rattle.alb_deriv.proofs.Appended.{Appends, sum_of-append, sum-append, sum-alike, sum-kept, sum-one, append-sum}
use Rattle.alb_deriv.proofs.Limited.{HasResidues}

-- lines after `ls`, not many more than the items `cs`, the last of which has the polynomial `f`
pub record Closes (p most : ℕ) (target : List ℕ) (fs : List Form) (ls : List Line) (cs : List (ℕ × ℕ)) (f : Poly) : Type 0 where
  pub more : List Line
  pub fine : AreFine p most target fs (ls ++ more)
  pub line : IsLineOf p fs (ls ++ more) (length (ls ++ more)) f
  pub few : length more ≤ 1 + length cs
  pub residues : 1 < p → Each (λ c. c.0 < p) cs → Each (HasResidues p) more

each-front : {X : Type 0} (P : X → Type 0) (xs ys : List X) → Each P (xs ++ ys) → Each P xs
each-front P [] ys a = tt
each-front P (x ∷ xs) ys a = (a.0, each-front P xs ys a.1)

each-back : {X : Type 0} (P : X → Type 0) (xs ys : List X) → Each P (xs ++ ys) → Each P ys
each-back P [] ys a = a
each-back P (x ∷ xs) ys a = each-back P xs ys a.1

module _ (p : ℕ) (pos : 0 < p) (most : ℕ) (target : List ℕ) (fs : List Form) where
  -- A step: the first items become a line, which takes their place in the combination.
  pub sum-step : (ls : List Line) (part rest : List (ℕ × ℕ)) (f : Poly) → AreFine p most target fs ls → IsSumOf p fs ls (part ++ rest) f → length part ≤ most →
      AreFine p most target fs (ls ++ Sum part ∷ []) × IsSumOf p fs (ls ++ Sum part ∷ []) ((1, length ls + 1) ∷ rest) f
  sum-step ls part rest f h s l =
      let first : IsSumOf p fs ls part (sum_of fs ls part) = record { places = each-front (λ c. IsPlace ls c.1) part rest s.places; same = poly_alike (itself _) } in
      let second : IsSumOf p fs ls rest (sum_of fs ls rest) = record { places = each-back (λ c. IsPlace ls c.1) part rest s.places; same = poly_alike (itself _) } in
      let x : Appends p most target fs ls (Sum part) (sum_of fs ls part) = append-sum p pos most target fs ls part _ h first l in (
        x.fine,
        sum-alike p fs (joined (itself' _ _ (sym (sum_of-append fs ls part rest))) (alike_poly s.same))
            (sum-append p fs (sum-one p fs x.line) (sum-kept p fs ls (Sum part ∷ []) rest second)),
      )

  -- one line, where the items are few
  closed : (ls : List Line) (cs : List (ℕ × ℕ)) (f : Poly) → AreFine p most target fs ls → IsSumOf p fs ls cs f → length cs ≤ most → Closes p most target fs ls cs f
  closed ls cs f h s l =
      let x = append-sum p pos most target fs ls cs f h s l in
      let n : length ls + 1 ≡ length (ls ++ Sum cs ∷ []) = omega (arith, length-append ls (Sum cs ∷ [])) in
      record {
        more = Sum cs ∷ [];
        fine = x.fine;
        line = subst (λ k. IsLineOf p fs (ls ++ Sum cs ∷ []) k f) n x.line;
        few = omega arith;
        residues = λ big r. (r, tt);
      }

  chain : 2 ≤ most → (n : ℕ) (ls : List Line) (cs : List (ℕ × ℕ)) (f : Poly) → length cs ≤ n → AreFine p most target fs ls → IsSumOf p fs ls cs f → Closes p most target fs ls cs f
  chain big zero ls cs f m h s = closed ls cs f h s (omega arith)
  chain big (suc n) ls cs f m h s = elim (cases_lt most (length cs)) [
    | inr l ↦ closed ls cs f h s l
    | inl l ↦ (
        let part : List (ℕ × ℕ) = take most cs in
        let rest : List (ℕ × ℕ) = drop most cs in
        let e : part ++ rest ≡ cs = take-append-drop most cs in
        let k : length part ≡ most = length-take-le most cs (omega arith) in
        let m' : length part + length rest ≡ length cs = sym (length-append part rest) ∙ ap length e in
        let x = sum-step ls part rest f h (subst (λ c. IsSumOf p fs ls c f) (sym e) s) (omega arith) in
        let y = chain big n (ls ++ Sum part ∷ []) ((1, length ls + 1) ∷ rest) f (omega arith) x.0 x.1 in
        let q : (ls ++ Sum part ∷ []) ++ y.more ≡ ls ++ Sum part ∷ y.more = append_assoc ls (Sum part ∷ []) y.more in
        record {
          more = Sum part ∷ y.more;
          fine = subst (AreFine p most target fs) q y.fine;
          line = subst (λ z. IsLineOf p fs z (length z) f) q y.line;
          few = omega (arith, y.few);
          residues = λ one r. let r' : Each (λ c. c.0 < p) (part ++ rest) = subst (Each (λ c. c.0 < p)) (sym e) r in (each-front _ part rest r', y.residues one (one, each-back _ part rest r'));
        })
  ]

  -- A combination of lines, of any length, has a chain of sums with at most `most` items each.
  pub long-sum : 2 ≤ most → (ls : List Line) (cs : List (ℕ × ℕ)) (f : Poly) → AreFine p most target fs ls → IsSumOf p fs ls cs f → Closes p most target fs ls cs f
  long-sum big ls cs f h s = chain big (length cs) ls cs f (omega arith) h s
