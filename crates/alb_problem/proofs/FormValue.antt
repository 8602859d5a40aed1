-- The value of a multilinear form at vectors is linear at each of its positions.
use Rattle.std.proofs.Common.{◌≡◌, ℕ, zero, suc, ◌+◌, ◌<◌, ◌≤◌, true, false, [], ◌∷◌, sym, refl, ap, ◌∙◌, arith, inl, inr, eqb}
use Rattle.std.specs.Bool.{if◌then◌else◌, ◌==◌}
use Rattle.std.proofs.lemmas.Bool.Decides.{nat_tests}
use Rattle.std.proofs.lemmas.Bool.{cases_eq}
use Rattle.alb_mono.specs.Tree.{Tree, leaf, node, count}
use Rattle.gf_sums.specs.Sums.{Comb, weigh}
use Rattle.gf_sums.proofs.Totals.{weigh-equal, weigh-swap}
use Rattle.gf_field.specs.Modular.{IsSameMod}
use Rattle.gf_field.proofs.Mod.{same, ◌⊙◌, plus, times}
use Rattle.gf_sums.proofs.Alike.{Alike}
use Rattle.alb_poly.specs.Instance.{Form, total_from, IsMultilinear, IsMultilinearForm}
use Rattle.alb_poly.proofs.Parts.{count-leaves, weigh-each}
pub use Rattle.alb_poly.proofs.Evaluate.{weigh-evaluate_poly}
use Rattle.alb_problem.proofs.Evaluate.{evaluate-linear}
use Rattle.alb_poly.specs.Textbook.{evaluate, evaluate_poly, unit, put}

-- each position below `n` occurs once
run-none : (k i n : ℕ) → k < i → total_from (λ j. if j == k then 1 else 0) i n ≡ 0
run-none k i zero h = refl
run-none k i (suc n) h = let e : eqb i k ≡ false = grind (arith, nat_tests) in rw e (omega (arith, run-none k (suc i) n (omega arith)))

run-one : (k i n : ℕ) → i ≤ k → k < i + n → total_from (λ j. if j == k then 1 else 0) i n ≡ 1
run-one k i zero h l = absurd (omega arith)
run-one k i (suc n) h l = elim (cases_eq i k) [
  | inl e ↦ let q : eqb i k ≡ true = grind (arith, nat_tests) in rw q (omega (arith, run-none k (suc i) n (omega arith)))
  | inr e ↦ let q : eqb i k ≡ false = grind (arith, nat_tests) in rw q (omega (arith, run-one k (suc i) n (omega arith) (omega arith)))
]

pub count-multilinear : (n k : ℕ) (m : Tree) → IsMultilinear n m → k < n → count k m ≡ 1
count-multilinear n k m h l = count-leaves k m ∙ h _ ∙ run-one k 0 n (omega arith) (omega arith)

-- the value at a combination at one place is the combination of the values at its basis elements
pub form-linear : {I : Type 0} (prod : I → I → Comb I) (v : ℕ → Comb I) (k : ℕ) (w : I → ℕ) (u : Comb I) (f : Form) → IsMultilinearForm f → k < f.degree →
    weigh w (evaluate_poly prod (put v k u) f.terms) ≡ weigh (λ i. weigh w (evaluate_poly prod (put v k (unit i)) f.terms)) u
form-linear prod v k w u f h l =
    weigh-evaluate_poly prod (put v k u) w f.terms
    ∙ weigh-each (IsMultilinear f.degree) _ _ f.terms (λ m a. evaluate-linear prod v k w u m (count-multilinear f.degree k m a l)) h
    ∙ weigh-swap (λ m i. weigh w (evaluate prod (put v k (unit i)) m)) f.terms u
    ∙ weigh-equal _ _ u (λ i. sym (weigh-evaluate_poly prod (put v k (unit i)) w f.terms))

-- ---- a form that is zero at basis elements is zero at all vectors

pub evaluate-equal : {I : Type 0} (prod : I → I → Comb I) (u v : ℕ → Comb I) (m : Tree) → ((j : ℕ) → u j ≡ v j) → evaluate prod u m ≡ evaluate prod v m
evaluate-equal prod u v (leaf k) h = h k
evaluate-equal prod u v (node l r) h = rw (evaluate-equal prod u v l h, evaluate-equal prod u v r h)

pub poly-equal : {I : Type 0} (prod : I → I → Comb I) (u v : ℕ → Comb I) (f : Comb Tree) → ((j : ℕ) → u j ≡ v j) → evaluate_poly prod u f ≡ evaluate_poly prod v f
poly-equal prod u v [] h = refl
poly-equal prod u v (t ∷ f) h = rw (evaluate-equal prod u v t.1 h, poly-equal prod u v f h)

-- vectors that are basis elements from place `n` on
abbrev pub AreUnitsFrom : {I : Type 0} → ℕ → (ℕ → Comb I) → Type 0
AreUnitsFrom {I} n v = (j : ℕ) → n ≤ j → (i : I) × (v j ≡ unit i)

pub put_itself : {I : Type 0} (v : ℕ → Comb I) (k j : ℕ) → v j ≡ put v k (v k) j
put_itself v k j = elim (cases_eq j k) [
  | inl e ↦ let q : eqb j k ≡ true = grind (arith, nat_tests) in rw q (ap v e)
  | inr e ↦ let q : eqb j k ≡ false = grind (arith, nat_tests) in rw q
]

put_units : {I : Type 0} (v : ℕ → Comb I) (n : ℕ) (i : I) → AreUnitsFrom (suc n) v → AreUnitsFrom n (put v n (unit i))
put_units v n i h j l = elim (cases_eq j n) [
  | inl e ↦ let q : eqb j n ≡ true = grind (arith, nat_tests) in (i, rw q)
  | inr e ↦ let q : eqb j n ≡ false = grind (arith, nat_tests) in let k = h j (omega arith) in (k.0, rw q k.1)
]

weigh-vanishes : {I : Type 0} {p : ℕ} (c : I → ℕ) (u : Comb I) → ((i : I) → IsSameMod p (c i) 0) → IsSameMod p (weigh c u) 0
weigh-vanishes c [] h = same refl
weigh-vanishes c (t ∷ u) h = plus {b = 0} (times (same {a = t.0} refl) (h t.1) ⊙ same (omega arith)) (weigh-vanishes c u h)

pub form-zero : {I : Type 0} {p : ℕ} (prod : I → I → Comb I) (f : Form) → IsMultilinearForm f →
    ((b : ℕ → I) → Alike p (evaluate_poly prod (λ j. unit (b j)) f.terms) []) →
    (n : ℕ) (v : ℕ → Comb I) → n ≤ f.degree → AreUnitsFrom n v → Alike p (evaluate_poly prod v f.terms) []
form-zero prod f m z zero v l h = rw (poly-equal prod v (λ j. unit (h j (omega arith)).0) f.terms (λ j. (h j (omega arith)).1)) (z (λ j. (h j (omega arith)).0))
form-zero prod f m z (suc n) v l h =
    rw (poly-equal prod v (put v n (v n)) f.terms (put_itself v n))
    (record {
      at = λ w. same (form-linear prod v n w (v n) f m l)
          ⊙ weigh-vanishes _ (v n) (λ i. (form-zero prod f m z n (put v n (unit i)) (omega arith) (put_units v n i h)).at w);
    })
