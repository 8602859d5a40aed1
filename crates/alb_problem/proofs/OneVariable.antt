-- Polarization of the value of a multilinear monomial.
use Rattle.std.proofs.Common.{◌≡◌, ℕ, zero, suc, ◌+◌, ◌<◌, true, false, List, [], ◌∷◌, ◌++◌, length, get_or, sym, refl, ap, ◌∙◌, subst, arith, inl, inr, eqb, append_assoc}
use Rattle.std.proofs.Math.Seq.{get_or-append_seam}
use Rattle.std.proofs.lemmas.List.{length-append}
use Rattle.std.proofs.lemmas.Bool.{cases_eq}
use Rattle.std.proofs.lemmas.Bool.Decides.{nat_tests}
use Rattle.gf_field.specs.Modular.{IsSameMod}
use Rattle.alb_mono.specs.Tree.{Tree}
use Rattle.gf_sums.specs.Sums.{total, Comb, weigh}
use Rattle.gf_sums.proofs.Totals.{weigh-append}
use Rattle.alb_poly.specs.Instance.{orders, IsMultilinear}
use Rattle.alb_poly.specs.Textbook.{evaluate, unit, put}
use Rattle.alb_problem.proofs.Evaluate.{evaluate-linear}
use Rattle.alb_problem.proofs.FormValue.{evaluate-equal, count-multilinear}
use Rattle.alb_problem.proofs.Polarize.{IsAdditive, alternating, polarization}

-- another place does not see what stands at the seam
get-other : {X : Type 0} (us ws : List X) (u v d : X) (j : ℕ) → (j ≡ length us → ⊥) → get_or (us ++ u ∷ ws) j d ≡ get_or (us ++ v ∷ ws) j d
get-other [] ws u v d zero h = absurd (h refl)
get-other [] ws u v d (suc j) h = refl
get-other (x ∷ us) ws u v d zero h = refl
get-other (x ∷ us) ws u v d (suc j) h = get-other us ws u v d j (λ e. h (ap suc e))

-- the vectors of a list, and none past its end
abbrev pub vectors : {I : Type 0} → List (Comb I) → ℕ → Comb I
vectors us j = get_or us j []

pub put-seam : {I : Type 0} (us ws : List (Comb I)) (u : Comb I) (j : ℕ) → vectors (us ++ u ∷ ws) j ≡ put (vectors (us ++ [] ∷ ws)) (length us) u j
put-seam us ws u j = elim (cases_eq j (length us)) [
  | inl e ↦ let q : eqb j (length us) ≡ true = grind (arith, nat_tests) in rw q (ap (λ k. get_or (us ++ u ∷ ws) k []) e ∙ get_or-append_seam us u ws [])
  | inr e ↦ let q : eqb j (length us) ≡ false = grind (arith, nat_tests) in rw q (get-other us ws u [] [] j e)
]

module _ {I : Type 0} (prod : I → I → Comb I) (w : I → ℕ) (n : ℕ) (m : Tree) (h : IsMultilinear n m) where
  value-seam : (us ws : List (Comb I)) (u : Comb I) → length us < n →
      weigh w (evaluate prod (vectors (us ++ u ∷ ws)) m) ≡ weigh (λ i. weigh w (evaluate prod (put (vectors (us ++ [] ∷ ws)) (length us) (unit i)) m)) u
  value-seam us ws u l =
      rw (evaluate-equal prod (vectors (us ++ u ∷ ws)) (put (vectors (us ++ [] ∷ ws)) (length us) u) m (put-seam us ws u))
      (evaluate-linear prod (vectors (us ++ [] ∷ ws)) (length us) w u m (count-multilinear n (length us) m h l))

  additive-from : (k : ℕ) (us : List (Comb I)) → length us + k ≡ n → IsAdditive k (λ ws. weigh w (evaluate prod (vectors (us ++ ws)) m))
  additive-from zero us e = tt
  additive-from (suc k) us e = (
    (λ u v ws. value-seam us ws (u ++ v) (omega arith) ∙ weigh-append _ u v
        ∙ sym (rw (value-seam us ws u (omega arith), value-seam us ws v (omega arith)))),
    (λ ws. value-seam us ws [] (omega arith)),
    (λ u. subst (λ g. IsAdditive k g) (ext u) (additive-from k (us ++ u ∷ []) (omega (arith, length-append us (u ∷ []))))),
  )
    where
      ext : (u : Comb I) → ◌≡◌ {A = List (Comb I) → ℕ} (λ ws. weigh w (evaluate prod (vectors ((us ++ u ∷ []) ++ ws)) m)) (λ ws. weigh w (evaluate prod (vectors (us ++ u ∷ ws)) m))
      ext u = λ i ws. ap (λ vs. weigh w (evaluate prod (vectors vs) m)) (append_assoc us (u ∷ []) ws) i

  pub value-additive : IsAdditive n (λ ws. weigh w (evaluate prod (vectors ws) m))
  value-additive = additive-from n [] (omega arith)

  -- the values at all orders of vectors, by the values at sums of some of them
  pub value-polarized : (p : ℕ) (zs : List (Comb I)) → 0 < p → length zs ≡ n →
      IsSameMod p (alternating p n (λ ws. weigh w (evaluate prod (vectors ws) m)) zs [])
      (total (λ ws. weigh w (evaluate prod (vectors ws) m)) (orders zs))
  value-polarized p zs pos e = polarization p n _ zs pos value-additive e
