-- Polarization block by block: the sum over all arrangements, by values at vectors that are constant on blocks.
use Rattle.std.proofs.Common.{◌≡◌, ℕ, zero, suc, ◌+◌, ◌-◌, ◌*◌, ◌<◌, List, [], ◌∷◌, ◌++◌, take, drop, length, get_or, sum, sym, refl, ap, ◌∙◌, subst, arith}
use Rattle.std.specs.List.{flat_map}
use Rattle.std.proofs.lemmas.List.{length-drop, length-take-le}
use Rattle.gf_field.specs.Modular.{IsSameMod}
use Rattle.gf_field.proofs.Mod.{same, ◌⊙◌, plus, times}
use Rattle.alb_mono.specs.Tree.{Tree}
use Rattle.gf_sums.specs.Sums.{total, Comb, weigh, scale, multiply}
use Rattle.gf_sums.proofs.Totals.{total-same, total-equal, total-times, total-swap, total-map, total-flat, weigh-append, weigh-scale, weigh-multiply, weigh-equal}
use Rattle.alb_poly.specs.Poly.{Poly}
use Rattle.alb_poly.specs.Instance.{orders, arrangements, numbered, first_number, linearization, HasType, IsHomogeneous}
use Rattle.alb_mono.specs.Listing.{Each}
use Rattle.alb_poly.proofs.Multilinear.{IsOrder, order-length, orders-order, sum_cons}
use Rattle.alb_poly.specs.Textbook.{evaluate, evaluate_poly}
use Rattle.alb_problem.proofs.Evaluate.{weigh-swap}
use Rattle.alb_problem.proofs.FormValue.{weigh-evaluate_poly}
use Rattle.alb_problem.proofs.Polarize.{IsAdditive, repeated, gather, alternating, polarization}
use Rattle.alb_problem.proofs.OneVariable.{vectors, value-additive}
use Rattle.gf_sums.proofs.Alike.{Alike, weigh-flat}
use Rattle.alb_problem.proofs.Blocks.{blocks, evaluate-blocks}
use Rattle.alb_problem.proofs.Arranged.{arranged, multilinear-numbered, weigh-linearization}

-- ---- one block

-- the sums of some of `zs` with `base`, each with its sign
pub signed_sums : {A : Type 0} → ℕ → List (List A) → List (List A) → Comb (List A)
signed_sums p [] base = (1, gather base) ∷ []
signed_sums p (z ∷ zs) base = signed_sums p zs (z ∷ base) ++ scale (p - 1) (signed_sums p zs base)

module _ {A : Type 0} where
  weigh-signed_sums : (p n : ℕ) (m : List (List A) → ℕ) (zs base : List (List A)) → weigh (λ u. m (repeated n u)) (signed_sums p zs base) ≡ alternating p n m zs base
  unfolding signed_sums alternating
  weigh-signed_sums p n m [] base = omega arith
  weigh-signed_sums p n m (z ∷ zs) base =
      weigh-append _ (signed_sums p zs (z ∷ base)) (scale (p - 1) (signed_sums p zs base))
      ∙ rw (weigh-scale (λ u. m (repeated n u)) (p - 1) (signed_sums p zs base), weigh-signed_sums p n m zs (z ∷ base), weigh-signed_sums p n m zs base)

  additive-prefix : (n j k : ℕ) (m : List (List A) → ℕ) (ws : List (List A)) → j ≡ n + k → IsAdditive j m → IsAdditive n (λ us. m (us ++ ws))
  additive-prefix zero j k m ws e h = tt
  additive-prefix (suc n) zero k m ws e h = absurd (omega arith)
  additive-prefix (suc n) (suc j) k m ws e h =
      ((λ u v us. h.0 u v (us ++ ws)), (λ us. h.1 (us ++ ws)), (λ u. additive-prefix n j k (λ vs. m (u ∷ vs)) ws (omega arith) (h.2 u)))

  additive-suffix : (j k : ℕ) (m : List (List A) → ℕ) (us : List (List A)) → j ≡ length us + k → IsAdditive j m → IsAdditive k (λ ws. m (us ++ ws))
  additive-suffix j k m [] e h = subst (λ i. IsAdditive i m) (omega arith) h
  additive-suffix zero k m (u ∷ us) e h = absurd (omega arith)
  additive-suffix (suc j) k m (u ∷ us) e h = additive-suffix j k (λ ws. m (u ∷ ws)) us (omega arith) (h.2 u)

-- ---- all blocks

-- for each block a signed sum of some of its vectors
pub signed_choices : {A : Type 0} → ℕ → List ℕ → List (List A) → Comb (List (List A))
signed_choices p [] us = (1, []) ∷ []
signed_choices p (n ∷ e) us = multiply (λ u us. (1, u ∷ us) ∷ []) (signed_sums p (take n us) []) (signed_choices p e (drop n us))

weigh-total : {I X : Type 0} (f : I → X → ℕ) (xs : List X) (c : Comb I) → weigh (λ i. total (f i) xs) c ≡ total (λ x. weigh (λ i. f i x) c) xs
weigh-total f xs c = total-equal _ _ c (λ t. sym (total-times t.0 (f t.1) xs)) ∙ total-swap (λ t x. t.0 * f t.1 x) c xs

total-same_each : {X : Type 0} {p : ℕ} (P : X → Type 0) (f g : X → ℕ) (xs : List X) → ((x : X) → P x → IsSameMod p (f x) (g x)) → Each P xs → IsSameMod p (total f xs) (total g xs)
total-same_each P f g [] h a = same refl
total-same_each P f g (x ∷ xs) h a = plus (h x a.0) (total-same_each P f g xs h a.1)

-- the elements of a list, and the zero vector past its end
abbrev pub element : {A : Type 0} → List (List A) → ℕ → List A
element us j = get_or us j []

module _ {A : Type 0} (p : ℕ) (pos : 0 < p) where
  -- The sum over all arrangements, by the values at vectors that are constant on blocks.
  pub arrangements-polarized : (e : List ℕ) (m : List (List A) → ℕ) (us : List (List A)) → IsAdditive (sum e) m → length us ≡ sum e →
      IsSameMod p (weigh (λ c. m (blocks e (element c))) (signed_choices p e us)) (total m (arrangements e us))
  unfolding signed_choices
  arrangements-polarized [] m us h l = same (omega arith)
  arrangements-polarized (n ∷ e) m us h l =
      let s : sum (n ∷ e) ≡ n + sum e = sum_cons n e in
      let j : length (take n us) ≡ n = length-take-le n us (omega arith) in
      let k : length (drop n us) ≡ sum e = omega (arith, length-drop n us) in
      let S : Comb (List A) = signed_sums p (take n us) [] in
      let C : Comb (List (List A)) = signed_choices p e (drop n us) in
      let value : List A → List (List A) → ℕ = λ u c. m (repeated n u ++ blocks e (element c)) in
      same (weigh-multiply (λ u us. (1, u ∷ us) ∷ []) (λ c. m (blocks (n ∷ e) (element c))) S C
      ∙ weigh-equal _ (λ u. weigh (value u) C) S (λ u. weigh-equal (λ c. 1 * value u c + 0) (value u) C (λ c. omega arith))
      ∙ weigh-swap value S C)
      ⊙ total-same _ (λ c. c.0 * total (λ a. m (a ++ blocks e (element c.1))) (orders (take n us))) C (λ c. times (same {a = c.0} refl)
      (same (weigh-signed_sums p n (λ ws. m (ws ++ blocks e (element c.1))) (take n us) [])
      ⊙ polarization p n (λ ws. m (ws ++ blocks e (element c.1))) (take n us) pos
      (additive-prefix n (sum (n ∷ e)) (sum e) m (blocks e (element c.1)) s h) j))
      ⊙ same (weigh-total (λ c a. m (a ++ blocks e (element c))) (orders (take n us)) C)
      ⊙ total-same_each (IsOrder (take n us)) _ (λ a. total (λ b. m (a ++ b)) (arrangements e (drop n us))) (orders (take n us))
      (λ a o. let i : length a ≡ n = order-length (take n us) a o ∙ j in
      arrangements-polarized e (λ b. m (a ++ b)) (drop n us) (additive-suffix (sum (n ∷ e)) (sum e) m a (omega arith) h) k)
      (orders-order (take n us))
      ⊙ same (sym (total-flat m _ (orders (take n us)) ∙ total-equal _ _ (orders (take n us)) (λ a. total-map m (λ b. a ++ b) (arrangements e (drop n us)))))

-- ---- the value of a linearization

module _ {I : Type 0} (prod : I → I → Comb I) (p : ℕ) (pos : 0 < p) (e : List ℕ) (us : List (Comb I)) (len : length us ≡ sum e) where
  arranged-polarized : (w : I → ℕ) (m : Tree) → HasType e m →
      IsSameMod p (weigh (λ c. weigh w (evaluate prod (vectors c) m)) (signed_choices p e us)) (arranged prod w e us m)
  arranged-polarized w m h =
      same (weigh-equal _ _ (signed_choices p e us) (λ c. ap (weigh w) (sym (evaluate-blocks prod e (vectors c) m h))))
      ⊙ arrangements-polarized p pos e (λ ws. weigh w (evaluate prod (vectors ws) (numbered (first_number e) m))) us
      (value-additive prod w (sum e) (numbered (first_number e) m) (multilinear-numbered e m h)) len

  -- The value of a linearization is a signed sum of values of the identity.
  pub linearization-polarized : (f : Poly) → IsHomogeneous e f →
      Alike p (flat_map (λ s. scale s.0 (evaluate_poly prod (vectors s.1) f)) (signed_choices p e us)) (evaluate_poly prod (vectors us) (linearization e f).terms)
  linearization-polarized f h = record {
    at = λ w.
        same (weigh-flat w _ (signed_choices p e us)
        ∙ total-equal _ _ (signed_choices p e us) (λ s. weigh-scale w s.0 (evaluate_poly prod (vectors s.1) f)
        ∙ ap (λ n. s.0 * n) (weigh-evaluate_poly prod (vectors s.1) w f))
        ∙ weigh-swap (λ c m. weigh w (evaluate prod (vectors c) m)) (signed_choices p e us) f)
        ⊙ total-same_each (λ t. HasType e t.1) _ _ f (λ t k. times (same {a = t.0} refl) (arranged-polarized w t.1 k)) h
        ⊙ same (sym (weigh-linearization prod w e us f h len));
  }
