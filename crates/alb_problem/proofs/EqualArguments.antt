-- At vectors that are constant on blocks, the value of a linearization is a multiple of the identity's value.
use Rattle.std.proofs.Common.{◌≡◌, ℕ, zero, suc, ◌*◌, ◌<◌, List, [], ◌∷◌, ◌++◌, map, take, drop, length, sum, sym, refl, ap, ◌∙◌, subst, arith}
use Rattle.std.proofs.lemmas.List.{length-drop, length-take-le}
use Rattle.std.proofs.Math.Nat.{mul_assoc, mul_comm, mul_left_comm}
use Rattle.gf_field.specs.Modular.{IsPrime, IsUnit}
use Rattle.gf_field.proofs.Mod.{same, ◌⊙◌, times, unit_times}
use Rattle.alb_mono.specs.Tree.{Tree}
use Rattle.gf_sums.specs.Sums.{total, Comb, weigh, scale}
use Rattle.gf_sums.proofs.Totals.{total-equal, total-map, total-flat, total-times, weigh-scale}
use Rattle.gf_sums.proofs.Alike.{Alike}
use Rattle.alb_poly.specs.Poly.{Poly}
use Rattle.alb_poly.specs.Instance.{insertions, orders, arrangements, numbered, first_number, fill, positions, linearization, HasType, IsHomogeneous}
use Rattle.alb_mono.specs.Listing.{Each}
use Rattle.alb_poly.proofs.Multilinear.{each-map, each-flat, IsOrder, order-length, orders-order, sum_cons, length_total, positions-sum}
use Rattle.alb_poly.specs.Textbook.{evaluate, evaluate_poly}
use Rattle.alb_poly.proofs.Extra.{factorial, unit_factorial}
use Rattle.alb_problem.proofs.Polarize.{repeated, total-each}
use Rattle.alb_problem.proofs.OneVariable.{vectors}
use Rattle.alb_poly.proofs.Parts.{weigh-each}
use Rattle.alb_problem.proofs.Blocks.{blocks, take-repeated, drop-repeated, length-blocks, evaluate-blocks}
use Rattle.alb_problem.proofs.FormValue.{weigh-evaluate_poly}
use Rattle.alb_problem.proofs.Arranged.{arranged, weigh-linearization}

-- ---- every arrangement of blocks is the blocks again

insertions-repeated : {X : Type 0} (n : ℕ) (x : X) → Each (λ a. a ≡ repeated (suc n) x) (insertions x (repeated n x))
insertions-repeated zero x = (refl, tt)
insertions-repeated (suc n) x = (
  refl,
  each-map (λ a. a ≡ repeated (suc n) x) (λ a. a ≡ repeated (suc (suc n)) x) (λ zs. x ∷ zs) (insertions x (repeated n x)) (λ a e. ap (λ zs. x ∷ zs) e) (insertions-repeated n x),
)

orders-repeated : {X : Type 0} (n : ℕ) (x : X) → Each (λ a. a ≡ repeated n x) (orders (repeated n x))
orders-repeated zero x = (refl, tt)
orders-repeated (suc n) x = each-flat (λ a. a ≡ repeated n x) (λ a. a ≡ repeated (suc n) x) (insertions x) (orders (repeated n x))
    (λ a e. subst (λ b. Each (λ c. c ≡ repeated (suc n) x) (insertions x b)) (sym e) (insertions-repeated n x)) (orders-repeated n x)

arrangements-blocks : {X : Type 0} (e : List ℕ) (u : ℕ → X) → Each (λ a. a ≡ blocks e u) (arrangements e (blocks e u))
arrangements-blocks [] u = (refl, tt)
arrangements-blocks (n ∷ e) u =
    let rest = blocks e (λ v. u (suc v)) in
    rw (take-repeated n (u 0) rest, drop-repeated n (u 0) rest)
    (each-flat (λ a. a ≡ repeated n (u 0)) (λ a. a ≡ repeated n (u 0) ++ rest) (λ a. map (λ b. a ++ b) (arrangements e rest)) (orders (repeated n (u 0)))
    (λ a k. each-map (λ b. b ≡ rest) (λ b. b ≡ repeated n (u 0) ++ rest) (λ b. a ++ b) (arrangements e rest)
    (λ b j. ap (λ c. c ++ b) k ∙ ap (λ c. repeated n (u 0) ++ c) j) (arrangements-blocks e (λ v. u (suc v))))
    (orders-repeated n (u 0)))

-- ---- the number of arrangements

-- the product of the factorials
abbrev pub factorials : List ℕ → ℕ
factorials [] = 1
factorials (n ∷ e) = factorial n * factorials e

insertions-constant : {X : Type 0} (c : ℕ) (x : X) (zs : List X) → total (λ a. c) (insertions x zs) ≡ suc (length zs) * c
insertions-constant c x [] = omega arith
insertions-constant c x (z ∷ zs) = omega (arith, total-map (λ a. c) (λ a. z ∷ a) (insertions x zs), insertions-constant c x zs)

pub orders-constant : {X : Type 0} (c : ℕ) (xs : List X) → total (λ a. c) (orders xs) ≡ factorial (length xs) * c
orders-constant c [] = omega arith
orders-constant c (x ∷ xs) =
    total-flat (λ a. c) (insertions x) (orders xs)
    ∙ total-each (IsOrder xs) _ (λ zs. suc (length xs) * c) (orders xs)
    (λ zs o. insertions-constant c x zs ∙ ap (λ n. suc n * c) (order-length xs zs o)) (orders-order xs)
    ∙ orders-constant (suc (length xs) * c) xs
    ∙ grind arith

pub arrangements-constant : {X : Type 0} (c : ℕ) (e : List ℕ) (xs : List X) → length xs ≡ sum e → total (λ a. c) (arrangements e xs) ≡ factorials e * c
arrangements-constant c [] xs h = omega arith
arrangements-constant c (n ∷ e) xs h =
    let k : length (drop n xs) ≡ sum e = omega (arith, length-drop n xs, sum_cons n e) in
    let j : length (take n xs) ≡ n = length-take-le n xs (omega (arith, sum_cons n e)) in
    total-flat (λ a. c) _ (orders (take n xs))
    ∙ total-equal _ (λ a. factorials e * c) (orders (take n xs))
    (λ a. total-map (λ b. c) (λ b. a ++ b) (arrangements e (drop n xs)) ∙ arrangements-constant c e (drop n xs) k)
    ∙ orders-constant (factorials e * c) (take n xs)
    ∙ ap (λ z. factorial z * (factorials e * c)) j
    ∙ sym (mul_assoc (factorial n) (factorials e) c)

pub length-orders : {X : Type 0} (xs : List X) → length (orders xs) ≡ factorial (length xs)
length-orders xs = sym (length_total (orders xs)) ∙ orders-constant 1 xs ∙ omega arith

pub length-arrangements : {X : Type 0} (e : List ℕ) (xs : List X) → length xs ≡ sum e → length (arrangements e xs) ≡ factorials e
length-arrangements e xs h = sym (length_total (arrangements e xs)) ∙ arrangements-constant 1 e xs h ∙ omega arith

-- the number of terms of a linearization
pub length-linearization : (e : List ℕ) (f : Poly) → length (linearization e f).terms ≡ length f * factorials e
length-linearization e f =
    let all : List (List Tree) = arrangements e (positions 0 (sum e)) in
    sym (length_total (linearization e f).terms)
    ∙ total-flat (λ t. 1) _ f
    ∙ total-equal _ (λ t. factorials e) f (λ t.
    total-map (λ s. 1) (λ a. (t.0, fill a (numbered (first_number e) t.1))) all
    ∙ arrangements-constant 1 e (positions 0 (sum e)) (positions-sum e) ∙ omega arith)
    ∙ total-equal (λ t. factorials e) (λ t. factorials e * 1) f (λ t. omega arith)
    ∙ total-times (factorials e) (λ t. 1) f
    ∙ ap (λ n. factorials e * n) (length_total f)
    ∙ mul_comm (factorials e) (length f)

-- below a prime the product of factorials has an inverse
pub unit_factorials : (p : ℕ) (e : List ℕ) → IsPrime p → Each (λ n. n < p) e → IsUnit p (factorials e)
unit_factorials p [] prime h = (1, same refl)
unit_factorials p (n ∷ e) prime h = unit_times (factorial n) (factorials e) (unit_factorial p n prime h.0) (unit_factorials p e prime h.1)

-- ---- the values

pub weigh-times : {I : Type 0} (c : ℕ) (w : I → ℕ) (f : Comb I) → weigh (λ i. c * w i) f ≡ c * weigh w f
weigh-times c w f = total-equal _ _ f (λ t. mul_left_comm t.0 c (w t.1)) ∙ total-times c _ f

module _ {I : Type 0} (prod : I → I → Comb I) (e : List ℕ) (u : ℕ → Comb I) where
  arranged-blocks : (w : I → ℕ) (m : Tree) → HasType e m → arranged prod w e (blocks e u) m ≡ factorials e * weigh w (evaluate prod u m)
  arranged-blocks w m h =
      total-each (λ a. a ≡ blocks e u) _ (λ a. weigh w (evaluate prod u m)) (arrangements e (blocks e u))
      (λ a k. ap (λ b. weigh w (evaluate prod (vectors b) (numbered (first_number e) m))) k ∙ ap (weigh w) (evaluate-blocks prod e u m h))
      (arrangements-blocks e u)
      ∙ arrangements-constant _ e (blocks e u) (length-blocks e u)

  -- the value of the linearization, by the value of the identity
  pub weigh-equal_arguments : (w : I → ℕ) (f : Poly) → IsHomogeneous e f →
      weigh w (evaluate_poly prod (vectors (blocks e u)) (linearization e f).terms) ≡ factorials e * weigh w (evaluate_poly prod u f)
  weigh-equal_arguments w f h =
      weigh-linearization prod w e (blocks e u) f h (length-blocks e u)
      ∙ weigh-each (HasType e) _ _ f (arranged-blocks w) h
      ∙ weigh-times (factorials e) _ f
      ∙ ap (λ n. factorials e * n) (sym (weigh-evaluate_poly prod u w f))

  -- where the prime is above all degrees, the identity's value is a multiple of the linearization's
  pub value-divided : (p : ℕ) (f : Poly) → IsPrime p → Each (λ n. n < p) e → IsHomogeneous e f →
      (c : ℕ) × Alike p (scale c (evaluate_poly prod (vectors (blocks e u)) (linearization e f).terms)) (evaluate_poly prod u f)
  value-divided p f prime small h =
      let x = unit_factorials p e prime small in (
        x.0,
        record {
          at = λ w.
              same (weigh-scale w x.0 (evaluate_poly prod (vectors (blocks e u)) (linearization e f).terms)
              ∙ ap (λ n. x.0 * n) (weigh-equal_arguments w f h)
              ∙ sym (mul_assoc x.0 (factorials e) (weigh w (evaluate_poly prod u f)))
              ∙ ap (λ n. n * weigh w (evaluate_poly prod u f)) (mul_comm x.0 (factorials e)))
              ⊙ times x.1 (same {a = weigh w (evaluate_poly prod u f)} refl)
              ⊙ same (omega arith);
        },
      )
