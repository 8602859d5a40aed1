-- Values in an algebra with a basis: `prod` is the product of two basis elements.
use Rattle.std.proofs.Common.{◌≡◌, ℕ, true, false, sym, ◌∙◌, arith, inl, inr, eqb}
use Rattle.std.proofs.lemmas.Bool.{cases_eq}
use Rattle.std.proofs.lemmas.Bool.Decides.{nat_tests}
use Rattle.alb_mono.specs.Tree.{Tree, leaf, node, count}
use Rattle.gf_sums.specs.Sums.{Comb, weigh}
use Rattle.alb_poly.specs.Textbook.{evaluate, unit, put}
use Rattle.gf_sums.proofs.Totals.{weigh-equal, weigh-multiply}
pub use Rattle.gf_sums.proofs.Totals.{weigh-swap}

module _ {I : Type 0} (prod : I → I → Comb I) (v : ℕ → Comb I) (k : ℕ) where
  -- a vector that does not occur does not matter
  pub evaluate-away : (u : Comb I) (t : Tree) → count k t ≡ 0 → evaluate prod (put v k u) t ≡ evaluate prod v t
  evaluate-away u (leaf j) h = let e : eqb j k ≡ false = grind (arith, nat_tests) in rw e
  evaluate-away u (node l r) h = rw (evaluate-away u l (omega arith), evaluate-away u r (omega arith))

  -- a vector that occurs once counts linearly
  pub evaluate-linear : (w : I → ℕ) (u : Comb I) (t : Tree) → count k t ≡ 1 →
      weigh w (evaluate prod (put v k u) t) ≡ weigh (λ i. weigh w (evaluate prod (put v k (unit i)) t)) u
  evaluate-linear w u (leaf j) h =
      let e : eqb j k ≡ true = grind (arith, nat_tests) in rw e (weigh-equal _ _ u (λ i. omega arith))
  evaluate-linear w u (node l r) h = elim (cases_eq (count k l) 0) [
    | inl z ↦
        weigh-multiply prod w (evaluate prod (put v k u) l) (evaluate prod (put v k u) r)
        ∙ rw (evaluate-away u l z) (weigh-equal _ _ (evaluate prod v l) (λ i. evaluate-linear (λ j. weigh w (prod i j)) u r (omega arith))
        ∙ weigh-swap (λ i a. weigh (λ j. weigh w (prod i j)) (evaluate prod (put v k (unit a)) r)) (evaluate prod v l) u
        ∙ weigh-equal _ _ u (λ a. sym (weigh-multiply prod w (evaluate prod (put v k (unit a)) l) (evaluate prod (put v k (unit a)) r) ∙ rw (evaluate-away (unit a) l z))))
    | inr z ↦
        let o : count k l ≡ 1 = omega arith in let y : count k r ≡ 0 = omega arith in
        weigh-multiply prod w (evaluate prod (put v k u) l) (evaluate prod (put v k u) r)
        ∙ rw (evaluate-away u r y) (evaluate-linear (λ i. weigh (λ j. weigh w (prod i j)) (evaluate prod v r)) u l o
        ∙ weigh-equal _ _ u (λ a. sym (weigh-multiply prod w (evaluate prod (put v k (unit a)) l) (evaluate prod (put v k (unit a)) r) ∙ rw (evaluate-away (unit a) r y))))
  ]
