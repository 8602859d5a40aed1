-- The answers to a polynomial, by its types, its degree and its value.
use Rattle.std.proofs.Common.{◌≡◌, ℕ, zero, suc, ◌<◌, ◌≤◌, true, false, Bool, drop, List, [], ◌∷◌, length, get_or, sym, refl, ap, subst, arith, inl, inr, nat_lt}
use Rattle.std.specs.Prelude.{All, IsTrue, None, Some, if◌then◌else◌}
use Rattle.std.proofs.lemmas.Bool.{cases_Bool}
use Rattle.std.proofs.lemmas.Bool.Decides.{nat_tests}
use Rattle.alb_mono.specs.Listing.{Each}
use Rattle.alb_mono.specs.Tree.{Tree, degree, are_below}
use Rattle.alb_mono.proofs.Both.{and_left, and_right}
use Rattle.alb_poly.specs.Consequence.{IsConsequence}
use Rattle.alb_poly.specs.Instance.{Form}
use Rattle.alb_poly.specs.Poly.{Poly, greatest_degree}
use Rattle.alb_poly.specs.Terms.{term, terms}
use Rattle.alb_poly.specs.declared.term.Term.{Term}
use Rattle.alb_poly.proofs.NormalLemmas.{each-degree}
use Rattle.alb_table.specs.Right.{IsWithinDegree}
use Rattle.alb_query.specs.Answer.{Zero, NotZero, NotBuilt, fits_target, misfit, IsAnswer, IsNormalForm}

-- what holds of the terms of a list, at a place of the list
pub all-terms : (P : ℕ × Tree → Type 0) (ts : List Term) (g : Poly) → terms ts ≡ g → All P g → (k : ℕ) (d : Term) → k < length ts → P (term (get_or ts k d))
all-terms P ts g e a k d h = at_place ts k d h (subst (All P) (sym e) a)
  where
    at_place : (ts : List Term) (k : ℕ) (d : Term) → k < length ts → All P (terms ts) → P (term (get_or ts k d))
    at_place [] k d h a = absurd (omega arith)
    at_place (t ∷ ts) zero d h a = a 0 (term t) (omega arith)
    at_place (t ∷ ts) (suc k) d h a = at_place ts k d (omega arith) (λ j u l. a (suc j) u (omega arith))

fits-within : (target : List ℕ) (d : ℕ) (m : Tree) → fits_target target m ≡ true → degree m ≤ d → IsWithinDegree target d m
fits-within target d m f h = record { below = and_left _ _ f; type = and_right _ _ f; degree = h }

-- a polynomial all of whose types are at most the target is within a table of its degree
pub all-within : (target : List ℕ) (d : ℕ) (g : Poly) → misfit target g ≡ None → greatest_degree g ≤ d → Each (λ s. IsWithinDegree target d s.1) g
all-within target d g m h = go g m (each-degree d g h)
  where
    go : (g : Poly) → misfit target g ≡ None → Each (λ s. degree s.1 ≤ d) g → Each (λ s. IsWithinDegree target d s.1) g
    go [] m a = tt
    go (t ∷ g) m a = elim (cases_Bool (fits_target target t.1)) [
      | inl e ↦ (fits-within target d t.1 e a.0, go g (rw e at m) a.1)
      | inr e ↦ let q : Some t.1 ≡ None = rw e at m in absurd (cc)
    ]

module _ (p : ℕ) (fs : List Form) (target : List ℕ) (d : ℕ) (g : Poly) (m : misfit target g ≡ None) where
  pub not-built : (n : ℕ) → n ≡ greatest_degree g → d < n → IsAnswer p fs target d g (NotBuilt n)
  not-built n e h = let l : nat_lt d (greatest_degree g) ≡ true = let k : d < greatest_degree g = omega arith in grind (arith, nat_tests) in rw (m, l) (ap NotBuilt e)

  not-above : greatest_degree g ≤ d → nat_lt d (greatest_degree g) ≡ false
  not-above h = grind (arith, nat_tests)

  pub zero-answer : greatest_degree g ≤ d → IsConsequence p fs g → IsAnswer p fs target d g Zero
  zero-answer h c = rw (m, not-above h) c

  pub not-zero-answer : greatest_degree g ≤ d → (IsConsequence p fs g → ⊥) → (f : Poly) → IsNormalForm p fs g f → IsAnswer p fs target d g (NotZero f)
  not-zero-answer h c f n = rw (m, not-above h) (c, n)

-- the first misfit from a term on
pub misfit-first : (target : List ℕ) (ts : List Term) (k j : ℕ) (t : Term) → k < length ts → j ≡ suc k → t ≡ get_or ts k t →
    misfit target (drop k (terms ts)) ≡ (if fits_target target (term t).1 then misfit target (drop j (terms ts)) else Some (term t).1)
misfit-first target [] k j t h s e = absurd (omega arith)
misfit-first target (u ∷ ts) zero j t h s e = rw (s, e) refl
misfit-first target (u ∷ ts) (suc k) j t h s e = rw s (misfit-first target ts k (suc k) t (omega arith) refl e)

pub not-both : (b : Bool) → b ≡ false → IsTrue b → ⊥
not-both b e h = cc

-- a misfit has no other generators than the polynomial
pub misfit-known : (n : ℕ) (target : List ℕ) (g : Poly) (m : Tree) → misfit target g ≡ Some m → All (λ t. IsTrue (are_below n t.1)) g → IsTrue (are_below n m)
misfit-known n target [] m is known = absurd (cc)
misfit-known n target (t ∷ g) m is known = elim (cases_Bool (fits_target target t.1)) [
  | inl e ↦ misfit-known n target g m (rw e at is) (λ k d l. known (suc k) d (omega arith))
  | inr e ↦
      let q : Some t.1 ≡ Some m = rw e at is in
      let same : t.1 ≡ m = cc in subst (λ x. IsTrue (are_below n x)) same (known 0 t (omega arith))
]
