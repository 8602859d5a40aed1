-- Lists that are constant on blocks, and the values of numbered monomials there.
use Rattle.std.proofs.Common.{◌≡◌, ℕ, zero, suc, ◌+◌, ◌-◌, ◌<◌, ◌≤◌, List, [], ◌∷◌, ◌++◌, take, drop, length, get_or, sum, refl, ap, ◌∙◌, arith, eqb, true}
use Rattle.std.proofs.lemmas.List.{length-append}
use Rattle.std.proofs.Math.Nat.{zero-add, suc-add}
use Rattle.std.proofs.lemmas.Bool.{eq-eqb}
use Rattle.alb_mono.specs.Tree.{Tree, leaf, node, count, AreBelow}
use Rattle.gf_sums.specs.Sums.{Comb}
use Rattle.alb_poly.specs.Instance.{numbered, first_number, HasType}
use Rattle.alb_poly.proofs.Multilinear.{sum_cons}
use Rattle.alb_poly.specs.Textbook.{evaluate}
use Rattle.alb_problem.proofs.Polarize.{repeated}
use Rattle.alb_problem.proofs.OneVariable.{vectors}

-- `u 0` as often as the first number of `e` says, then `u 1` as often as the second says, and so on
abbrev pub blocks : {X : Type 0} → List ℕ → (ℕ → X) → List X
blocks [] u = []
blocks (n ∷ e) u = repeated n (u 0) ++ blocks e (λ v. u (suc v))

module _ {X : Type 0} where
  pub length-repeated : (n : ℕ) (x : X) → length (repeated n x) ≡ n
  length-repeated zero x = refl
  length-repeated (suc n) x = ap suc (length-repeated n x)

  pub take-repeated : (n : ℕ) (x : X) (ys : List X) → take n (repeated n x ++ ys) ≡ repeated n x
  take-repeated zero x ys = refl
  take-repeated (suc n) x ys = ap (λ zs. x ∷ zs) (take-repeated n x ys)

  pub drop-repeated : (n : ℕ) (x : X) (ys : List X) → drop n (repeated n x ++ ys) ≡ ys
  drop-repeated zero x ys = refl
  drop-repeated (suc n) x ys = drop-repeated n x ys

  get-repeated : (n j : ℕ) (x d : X) (ys : List X) → j < n → get_or (repeated n x ++ ys) j d ≡ x
  get-repeated zero j x d ys h = absurd (omega arith)
  get-repeated (suc n) zero x d ys h = refl
  get-repeated (suc n) (suc j) x d ys h = get-repeated n j x d ys (omega arith)

  get-past : (n k : ℕ) (x d : X) (ys : List X) → get_or (repeated n x ++ ys) (n + k) d ≡ get_or ys k d
  get-past zero k x d ys = rw (zero-add k)
  get-past (suc n) k x d ys = rw (suc-add n k) (get-past n k x d ys)

pub length-blocks : {X : Type 0} (e : List ℕ) (u : ℕ → X) → length (blocks e u) ≡ sum e
length-blocks [] u = refl
length-blocks (n ∷ e) u = omega (arith, length-append (repeated n (u 0)) (blocks e (λ v. u (suc v))), length-repeated n (u 0), length-blocks e (λ v. u (suc v)), sum_cons n e)

-- each place of the block of a variable holds its vector
pub get-blocks : {X : Type 0} (e : List ℕ) (u : ℕ → X) (v j : ℕ) (d : X) → v < length e → j < get_or e v 0 → get_or (blocks e u) (first_number e v + j) d ≡ u v
get-blocks [] u v j d h k = absurd (omega arith)
get-blocks (n ∷ e) u zero j d h k = rw (zero-add j) (get-repeated n j (u 0) d _ k)
get-blocks (n ∷ e) u (suc v) j d h k =
    let q : first_number (n ∷ e) (suc v) + j ≡ n + (first_number e v + j) = omega (arith, sum_cons n (take v e)) in
    rw q (get-past n (first_number e v + j) (u 0) d (blocks e (λ v. u (suc v))) ∙ get-blocks e (λ v. u (suc v)) v j d (omega arith) k)

module _ {I : Type 0} (prod : I → I → Comb I) (e : List ℕ) (u : ℕ → Comb I) where
  evaluate-numbered : (next : ℕ → ℕ) (m : Tree) → AreBelow (length e) m →
      ((v : ℕ) → v < length e → first_number e v ≤ next v) →
      ((v : ℕ) → v < length e → next v + count v m ≤ first_number e v + get_or e v 0) →
      evaluate prod (vectors (blocks e u)) (numbered next m) ≡ evaluate prod u m
  evaluate-numbered next (leaf v) h low high =
      let q : eqb v v ≡ true = eq-eqb v v refl in
      let k = rw q at (high v h) in
      let s : next v ≡ first_number e v + (next v - first_number e v) = omega (arith, low v h) in
      ap (λ j. get_or (blocks e u) j []) s ∙ get-blocks e u v (next v - first_number e v) [] h (omega (arith, low v h, k))
  evaluate-numbered next (node l r) h low high =
      rw (
        evaluate-numbered next l h.0 low (λ v k. omega (arith, high v k)),
        evaluate-numbered (λ v. next v + count v l) r h.1 (λ v k. omega (arith, low v k)) (λ v k. omega (arith, high v k)),
      )

  -- at vectors that are constant on blocks, a numbered monomial has the value of the monomial
  pub evaluate-blocks : (m : Tree) → HasType e m → evaluate prod (vectors (blocks e u)) (numbered (first_number e) m) ≡ evaluate prod u m
  evaluate-blocks m h = evaluate-numbered (first_number e) m h.below (λ v k. omega arith) (λ v k. omega (arith, h.counts v k))
