-- The laws of sums over lists and of combinations.
use Rattle.std.proofs.Common.{◌≡◌, ℕ, zero, suc, ◌+◌, ◌*◌, ◌≤◌, Bool, true, false, List, [], ◌∷◌, ◌++◌, map, length, nat_eq, sym, refl, ap, ◌∙◌, arith, inl, inr}
use Rattle.std.specs.Bool.{if◌then◌else◌}
use Rattle.std.specs.List.{flat_map}
use Rattle.std.proofs.lemmas.Bool.{cases_Bool, eqb-true, eq-eqb}
use Rattle.std.proofs.Math.Nat.{mul_assoc, mul_left_comm, add-mul}
use Rattle.gf_field.specs.Modular.{IsSameMod}
use Rattle.gf_field.proofs.Mod.{same as alike, next, plus, times}
use Rattle.gf_sums.specs.Sums.{total, Comb, weigh, coefficient, AreSame, scale, multiply, TellsApart}

module _ {X : Type 0} where
  pub total-append : (f : X → ℕ) (xs ys : List X) → total f (xs ++ ys) ≡ total f xs + total f ys
  total-append f [] ys = omega arith
  total-append f (x ∷ xs) ys = omega (arith, total-append f xs ys)

  pub total-equal : (f g : X → ℕ) (xs : List X) → ((x : X) → f x ≡ g x) → total f xs ≡ total g xs
  total-equal f g [] h = refl
  total-equal f g (x ∷ xs) h = rw (h x, total-equal f g xs h)

  pub total-same : {p : ℕ} (f g : X → ℕ) (xs : List X) → ((x : X) → IsSameMod p (f x) (g x)) → IsSameMod p (total f xs) (total g xs)
  total-same f g [] h = alike refl
  total-same f g (x ∷ xs) h = plus (h x) (total-same f g xs h)

  pub total-plus : (f g : X → ℕ) (xs : List X) → total (λ x. f x + g x) xs ≡ total f xs + total g xs
  total-plus f g [] = refl
  total-plus f g (x ∷ xs) = omega (arith, total-plus f g xs)

  pub total-times : (c : ℕ) (f : X → ℕ) (xs : List X) → total (λ x. c * f x) xs ≡ c * total f xs
  total-times c f [] = omega arith
  total-times c f (x ∷ xs) = omega (arith, total-times c f xs)

  pub total-zero : (xs : List X) → total (λ x. 0) xs ≡ 0
  total-zero [] = refl
  total-zero (x ∷ xs) = omega (arith, total-zero xs)

  pub total-map : {Y : Type 0} (f : X → ℕ) (g : Y → X) (ys : List Y) → total f (map g ys) ≡ total (λ y. f (g y)) ys
  total-map f g [] = refl
  total-map f g (y ∷ ys) = rw (total-map f g ys)

  pub total-flat : {Y : Type 0} (f : X → ℕ) (g : Y → List X) (ys : List Y) → total f (flat_map g ys) ≡ total (λ y. total f (g y)) ys
  total-flat f g [] = refl
  total-flat f g (y ∷ ys) = rw (total-append f (g y) (flat_map g ys), total-flat f g ys)

-- sums in either order
pub total-swap : {X Y : Type 0} (f : X → Y → ℕ) (xs : List X) (ys : List Y) →
    total (λ x. total (f x) ys) xs ≡ total (λ y. total (λ x. f x y) xs) ys
total-swap f [] ys = sym (total-zero ys)
total-swap f (x ∷ xs) ys = rw (total-swap f xs ys) (sym (total-plus (f x) (λ y. total (λ z. f z y) xs) ys))

module _ {I : Type 0} where
  pub weigh-append : (w : I → ℕ) (f g : Comb I) → weigh w (f ++ g) ≡ weigh w f + weigh w g
  weigh-append w f g = total-append (λ t. t.0 * w t.1) f g

  pub weigh-scale : (w : I → ℕ) (c : ℕ) (f : Comb I) → weigh w (scale c f) ≡ c * weigh w f
  weigh-scale w c [] = omega arith
  weigh-scale w c (t ∷ f) = omega (arith, weigh-scale w c f, mul_assoc c t.0 (w t.1))

pub weigh-zero : {I : Type 0} (f : Comb I) → weigh (λ i. 0) f ≡ 0
weigh-zero [] = refl
weigh-zero (t ∷ f) = omega (arith, weigh-zero f)

pub weigh-equal : {I : Type 0} (v w : I → ℕ) (f : Comb I) → ((i : I) → v i ≡ w i) → weigh v f ≡ weigh w f
weigh-equal v w f h = total-equal _ _ f (λ t. ap (λ n. t.0 * n) (h t.1))

-- a weight of two indices, summed in either order
pub weigh-swap : {I J : Type 0} (w : I → J → ℕ) (f : Comb I) (g : Comb J) → weigh (λ i. weigh (w i) g) f ≡ weigh (λ j. weigh (λ i. w i j) f) g
weigh-swap w f g =
    total-equal _ _ f (λ s. sym (total-times s.0 _ g))
    ∙ total-swap (λ s t. s.0 * (t.0 * w s.1 t.1)) f g
    ∙ total-equal _ _ g (λ t. total-equal _ _ f (λ s. mul_left_comm s.0 t.0 (w s.1 t.1)) ∙ total-times t.0 _ f)

pub weigh-multiply : {I J K : Type 0} (prod : I → J → Comb K) (w : K → ℕ) (f : Comb I) (g : Comb J) →
    weigh w (multiply prod f g) ≡ weigh (λ i. weigh (λ j. weigh w (prod i j)) g) f
weigh-multiply prod w f g =
    total-flat _ _ f ∙ total-equal _ _ f (λ s.
    total-flat _ _ g ∙ total-equal _ _ g (λ t. weigh-scale w (s.0 * t.0) (prod s.1 t.1) ∙ mul_assoc s.0 t.0 _)
    ∙ total-times s.0 _ g)

-- numbers are told apart by `nat_eq`
pub numbers-tell : TellsApart nat_eq
numbers-tell = record { sound = eqb-true; whole = λ i. eq-eqb i i refl }

-- ---- equal combinations have equal values at every weight

-- the terms at other indices than `i`
without : {I : Type 0} → (I → I → Bool) → I → Comb I → Comb I
without same i [] = []
without same i (t ∷ f) = if same t.1 i then without same i f else t ∷ without same i f

module _ {I : Type 0} (same : I → I → Bool) (tells : TellsApart same) where
  -- the terms at `i`, and the others
  split : (w : I → ℕ) (i : I) (f : Comb I) → weigh w f ≡ coefficient same f i * w i + weigh w (without same i f)
  unfolding without
  split w i [] = omega arith
  split w i (t ∷ f) = elim (cases_Bool (same t.1 i)) [
    | inl e ↦ rw e (let q : t.1 ≡ i = tells.sound t.1 i e in rw q (omega (arith, split w i f, add-mul t.0 (coefficient same f i) (w i))))
    | inr e ↦ rw e (omega (arith, split w i f))
  ]

  without_other : (i j : I) (f : Comb I) → same i j ≡ false → coefficient same (without same i f) j ≡ coefficient same f j
  unfolding without
  without_other i j [] h = refl
  without_other i j (t ∷ f) h = elim (cases_Bool (same t.1 i)) [
    | inl e ↦ rw e (let q : same t.1 j ≡ false = ap (λ k. same k j) (tells.sound t.1 i e) ∙ h in rw q (omega (arith, without_other i j f h)))
    | inr e ↦ rw e (ap (λ n. (if same t.1 j then t.0 else 0) + n) (without_other i j f h))
  ]

  without_here : (i j : I) (f : Comb I) → same i j ≡ true → coefficient same (without same i f) j ≡ 0
  unfolding without
  without_here i j [] h = refl
  without_here i j (t ∷ f) h = elim (cases_Bool (same t.1 i)) [
    | inl e ↦ rw e (without_here i j f h)
    | inr e ↦ rw e (let q : same t.1 j ≡ false = ap (same t.1) (sym (tells.sound i j h)) ∙ e in rw q (omega (arith, without_here i j f h)))
  ]

  shorter : (i : I) (f : Comb I) → length (without same i f) ≤ length f
  unfolding without
  shorter i [] = omega arith
  shorter i (t ∷ f) = elim (cases_Bool (same t.1 i)) [ inl e ↦ rw e (omega (arith, shorter i f)) | inr e ↦ rw e (omega (arith, shorter i f)) ]

  remains : {p : ℕ} (i : I) (f g : Comb I) → AreSame same p f g → AreSame same p (without same i f) (without same i g)
  remains i f g h j = elim (cases_Bool (same i j)) [
    | inl e ↦ alike (without_here i j f e ∙ sym (without_here i j g e))
    | inr e ↦ next (alike (without_other i j f e)) (next (h j) (alike (sym (without_other i j g e))))
  ]

  head_gone : (t : ℕ × I) (f : Comb I) → length (without same t.1 (t ∷ f)) ≤ length f
  unfolding without
  head_gone t f = rw (tells.whole t.1) (shorter t.1 f)

  same_within : {p : ℕ} (w : I → ℕ) (n : ℕ) (f g : Comb I) → length f + length g ≤ n → AreSame same p f g → IsSameMod p (weigh w f) (weigh w g)
  same_within w n [] [] small h = alike refl
  same_within w zero (t ∷ f) g small h = absurd (omega arith)
  same_within w zero [] (t ∷ g) small h = absurd (omega arith)
  same_within w (suc n) (t ∷ f) g small h =
      let k : length (without same t.1 (t ∷ f)) + length (without same t.1 g) ≤ n = omega (arith, head_gone t f, shorter t.1 g) in
      next (alike (split w t.1 (t ∷ f)))
      (next (plus (times (h t.1) (alike {a = w t.1} refl)) (same_within w n _ _ k (remains t.1 (t ∷ f) g h)))
      (alike (sym (split w t.1 g))))
  same_within w (suc n) [] (t ∷ g) small h =
      let k : length (without same t.1 []) + length (without same t.1 (t ∷ g)) ≤ n = omega (arith, head_gone t g, shorter t.1 []) in
      next (alike (split w t.1 []))
      (next (plus (times (h t.1) (alike {a = w t.1} refl)) (same_within w n _ _ k (remains t.1 [] (t ∷ g) h)))
      (alike (sym (split w t.1 (t ∷ g)))))

  -- equal combinations have equal values at every weight
  pub weigh-same : {p : ℕ} (f g : Comb I) → AreSame same p f g → (w : I → ℕ) → IsSameMod p (weigh w f) (weigh w g)
  weigh-same f g h w = same_within w (length f + length g) f g (omega arith) h

  -- a coefficient is the value at the weight that is 1 at one index
  pub coefficient-weigh : (f : Comb I) (i : I) → coefficient same f i ≡ weigh (λ k. if same k i then 1 else 0) f
  coefficient-weigh [] i = refl
  coefficient-weigh (t ∷ f) i = elim (cases_Bool (same t.1 i)) [
    | inl e ↦ rw e (omega (arith, coefficient-weigh f i))
    | inr e ↦ rw e (omega (arith, coefficient-weigh f i))
  ]

  -- and combinations with equal values at every weight are equal
  pub same-weigh : {p : ℕ} (f g : Comb I) → ((w : I → ℕ) → IsSameMod p (weigh w f) (weigh w g)) → AreSame same p f g
  same-weigh f g h i = next (alike (coefficient-weigh f i)) (next (h _) (alike (sym (coefficient-weigh g i))))
