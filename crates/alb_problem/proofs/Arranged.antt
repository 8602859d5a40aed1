-- The value of a linearization at vectors is the sum over the arrangements of the vectors.
use Rattle.std.proofs.Common.{◌≡◌, ℕ, zero, suc, ◌+◌, ◌*◌, List, [], ◌∷◌, map, drop, length, get_or, sum, sym, ap, ◌∙◌, subst, arith, drop-cons}
use Rattle.std.proofs.lemmas.List.{get_or-map}
use Rattle.std.proofs.Math.ListN.{drop_of_length-le}
use Rattle.std.proofs.Math.Nat.{zero-add}
use Rattle.alb_mono.specs.Tree.{Tree, leaf, node, AreBelow}
use Rattle.gf_sums.specs.Sums.{total, Comb, weigh}
use Rattle.gf_sums.proofs.Totals.{total-map, total-flat, total-times}
use Rattle.alb_poly.specs.Poly.{Poly}
use Rattle.alb_poly.specs.Instance.{fill, arrangements, numbered, first_number, positions, linearization, HasType, IsHomogeneous, IsMultilinear}
use Rattle.alb_poly.proofs.Orders.{arrangements-map}
use Rattle.alb_poly.proofs.Multilinear.{IsOrder, order-length, arrangements-order, positions-sum, leaves-first, multilinear-below}
use Rattle.alb_poly.specs.Textbook.{evaluate, evaluate_poly}
use Rattle.alb_problem.proofs.FormValue.{weigh-evaluate_poly}
use Rattle.alb_problem.proofs.OneVariable.{vectors}
use Rattle.alb_problem.proofs.Polarize.{total-each}

-- the numbered leaves of a monomial of type `e` are the positions below its degree
pub multilinear-numbered : (e : List ℕ) (m : Tree) → HasType e m → IsMultilinear (sum e) (numbered (first_number e) m)
multilinear-numbered e m h w = leaves-first w e m h

module _ {I : Type 0} (prod : I → I → Comb I) where
  evaluate-fill : (v : ℕ → Comb I) (a : List Tree) (m : Tree) → AreBelow (length a) m → evaluate prod v (fill a m) ≡ evaluate prod (vectors (map (evaluate prod v) a)) m
  evaluate-fill v a (leaf k) h = sym (get_or-map (evaluate prod v) a k (leaf k) [] h)
  evaluate-fill v a (node l r) h = rw (evaluate-fill v a l h.0, evaluate-fill v a r h.1)

  values-positions : (us : List (Comb I)) (k n : ℕ) → k + n ≡ length us → map (evaluate prod (vectors us)) (positions k n) ≡ drop k us
  values-positions us k zero h = sym (drop_of_length-le us (omega arith))
  values-positions us k (suc n) h =
      let e : drop k us ≡ get_or us k [] ∷ drop (suc k) us = drop-cons us k [] (omega arith) in
      rw (e, values-positions us (suc k) n (omega arith))

  -- the sum of the values of a monomial of type `e` at all arrangements
  abbrev pub arranged : (I → ℕ) → List ℕ → List (Comb I) → Tree → ℕ
  arranged w e us m = total (λ a. weigh w (evaluate prod (vectors a) (numbered (first_number e) m))) (arrangements e us)

  arranged-positions : (w : I → ℕ) (e : List ℕ) (us : List (Comb I)) (m : Tree) → length us ≡ sum e → HasType e m →
      total (λ a. weigh w (evaluate prod (vectors us) (fill a (numbered (first_number e) m)))) (arrangements e (positions 0 (sum e))) ≡ arranged w e us m
  arranged-positions w e us m n h =
      let T : Tree = numbered (first_number e) m in
      let value : List (Comb I) → ℕ = λ a. weigh w (evaluate prod (vectors a) T) in
      total-each (IsOrder (positions 0 (sum e))) _ _ (arrangements e (positions 0 (sum e)))
      (λ a o. ap (weigh w) (evaluate-fill (vectors us) a T (subst (λ j. AreBelow j T)
      (sym (order-length (positions 0 (sum e)) a o ∙ positions-sum e))
      (multilinear-below (sum e) T (multilinear-numbered e m h)))))
      (arrangements-order e (positions 0 (sum e)) (positions-sum e))
      ∙ sym (total-map value (map (evaluate prod (vectors us))) (arrangements e (positions 0 (sum e))))
      ∙ ap (total value) (sym (arrangements-map (evaluate prod (vectors us)) e (positions 0 (sum e)))
      ∙ ap (arrangements e) (values-positions us 0 (sum e) (zero-add (sum e) ∙ sym n)))

  -- the value of the linearization of `f` at the vectors `us`
  pub weigh-linearization : (w : I → ℕ) (e : List ℕ) (us : List (Comb I)) (f : Poly) → IsHomogeneous e f → length us ≡ sum e →
      weigh w (evaluate_poly prod (vectors us) (linearization e f).terms) ≡ weigh (arranged w e us) f
  weigh-linearization w e us f h n =
      weigh-evaluate_poly prod (vectors us) w (linearization e f).terms
      ∙ total-flat _ _ f
      ∙ total-each (λ t. HasType e t.1) _ _ f (λ t k.
      total-map _ _ (arrangements e (positions 0 (sum e)))
      ∙ total-times t.0 (λ a. weigh w (evaluate prod (vectors us) (fill a (numbered (first_number e) t.1)))) (arrangements e (positions 0 (sum e)))
      ∙ ap (λ z. t.0 * z) (arranged-positions w e us t.1 n k)) h
