-- Polarization: the sum over all orders of z, by the values at sums of some of the z.
use Rattle.std.proofs.Common.{◌≡◌, ℕ, zero, suc, ◌+◌, ◌-◌, ◌*◌, ◌<◌, List, [], ◌∷◌, ◌++◌, map, length, sym, refl, ap, ◌∙◌, arith}
use Rattle.gf_field.specs.Modular.{IsSameMod}
use Rattle.gf_field.proofs.Mod.{same, ◌⊙◌, plus, times, multiple}
use Rattle.gf_sums.specs.Sums.{total}
use Rattle.gf_sums.proofs.Totals.{total-equal, total-plus, total-map, total-flat, total-zero}
use Rattle.alb_poly.specs.Instance.{insertions, orders}
use Rattle.alb_poly.proofs.Multilinear.{IsOrder, each-map}
use Rattle.alb_mono.specs.Listing.{Each}

-- each element with the others
abbrev pub picks : {X : Type 0} → List X → List (X × List X)
picks [] = []
picks (x ∷ xs) = (x, xs) ∷ map (λ q. (q.0, x ∷ q.1)) (picks xs)

abbrev zero_unless_empty : {X : Type 0} → List X → ℕ → ℕ
zero_unless_empty [] n = n
zero_unless_empty (x ∷ xs) n = 0

-- The sum of `m` over the words of length `n` over `zs` and `base` that use each of `zs`, by the first letter.
pub covers : {X : Type 0} → ℕ → List X → List X → (List X → ℕ) → ℕ
covers zero zs base m = zero_unless_empty zs (m [])
covers (suc n) zs base m =
    total (λ b. covers n zs base (λ w. m (b ∷ w))) base + total (λ q. covers n q.1 (q.0 ∷ base) (λ w. m (q.0 ∷ w))) (picks zs)

pub total-each : {X : Type 0} (P : X → Type 0) (f g : X → ℕ) (xs : List X) → ((x : X) → P x → f x ≡ g x) → Each P xs → total f xs ≡ total g xs
total-each P f g [] k a = refl
total-each P f g (x ∷ xs) k a = rw (k x a.0, total-each P f g xs k a.1)

picks-length : {X : Type 0} (zs : List X) → Each (λ q. suc (length q.1) ≡ length zs) (picks zs)
picks-length [] = tt
picks-length (z ∷ zs) = (refl, each-map (λ q. suc (length q.1) ≡ length zs) (λ q. suc (length q.1) ≡ suc (length zs)) (λ q. (q.0, z ∷ q.1)) (picks zs) (λ q e. ap suc e) (picks-length zs))

-- the sum over all orders, by the first element
by_picks : {X : Type 0} → ℕ → List X → (List X → ℕ) → ℕ
by_picks zero zs m = m []
by_picks (suc n) zs m = total (λ q. by_picks n q.1 (λ w. m (q.0 ∷ w))) (picks zs)

module _ {X : Type 0} where
  covers-order : (n : ℕ) (zs base base' : List X) (m : List X → ℕ) → IsOrder base base' → covers n zs base' m ≡ covers n zs base m
  unfolding covers
  covers-order zero zs base base' m o = refl
  covers-order (suc n) zs base base' m o =
      rw (o (λ b. covers n zs base' (λ w. m (b ∷ w))))
      (rw (
        total-equal (λ b. covers n zs base' (λ w. m (b ∷ w))) (λ b. covers n zs base (λ w. m (b ∷ w))) base (λ b. covers-order n zs base base' _ o),
        total-equal (λ q. covers n q.1 (q.0 ∷ base') (λ w. m (q.0 ∷ w))) (λ q. covers n q.1 (q.0 ∷ base) (λ w. m (q.0 ∷ w))) (picks zs)
            (λ q. covers-order n q.1 (q.0 ∷ base) (q.0 ∷ base') _ (λ w. ap (λ k. w q.0 + k) (o w))),
      ))

  -- a word over `zs`, `base` and z uses z or does not
  covers-split : (n : ℕ) (z : X) (zs base : List X) (m : List X → ℕ) → covers n zs (z ∷ base) m ≡ covers n (z ∷ zs) base m + covers n zs base m
  unfolding covers
  covers-split zero z [] base m = omega arith
  covers-split zero z (y ∷ zs) base m = omega arith
  covers-split (suc n) z zs base m =
      let a : total (λ b. covers n zs (z ∷ base) (λ w. m (b ∷ w))) base
      ≡ total (λ b. covers n (z ∷ zs) base (λ w. m (b ∷ w))) base + total (λ b. covers n zs base (λ w. m (b ∷ w))) base =
      total-equal _ _ base (λ b. covers-split n z zs base _) ∙ total-plus _ _ base in
      let c : total {X = X × List X} (λ q. covers n q.1 (q.0 ∷ z ∷ base) (λ w. m (q.0 ∷ w))) (picks zs)
      ≡ total {X = X × List X} (λ q. covers n (z ∷ q.1) (q.0 ∷ base) (λ w. m (q.0 ∷ w))) (picks zs) + total {X = X × List X} (λ q. covers n q.1 (q.0 ∷ base) (λ w. m (q.0 ∷ w))) (picks zs) =
      total-equal _ _ (picks zs) (λ q. covers-order n q.1 (z ∷ q.0 ∷ base) (q.0 ∷ z ∷ base) _ (λ w. omega arith) ∙ covers-split n z q.1 (q.0 ∷ base) _)
      ∙ total-plus _ _ (picks zs) in
      let d : total {X = X × List X} (λ q. covers n q.1 (q.0 ∷ base) (λ w. m (q.0 ∷ w))) (map (λ q. (q.0, z ∷ q.1)) (picks zs))
      ≡ total {X = X × List X} (λ q. covers n (z ∷ q.1) (q.0 ∷ base) (λ w. m (q.0 ∷ w))) (picks zs) = total-map _ _ (picks zs) in
      omega (arith, a, c, d)

  -- words over `zs` and `base` that are shorter than `zs` miss one of them
  covers-short : (n : ℕ) (zs base : List X) (m : List X → ℕ) → n < length zs → covers n zs base m ≡ 0
  unfolding covers
  covers-short zero [] base m h = absurd (omega arith)
  covers-short zero (z ∷ zs) base m h = refl
  covers-short (suc n) zs base m h =
      let a : total (λ b. covers n zs base (λ w. m (b ∷ w))) base ≡ 0 =
      total-equal _ _ base (λ b. covers-short n zs base _ (omega arith)) ∙ total-zero base in
      let c : total {X = X × List X} (λ q. covers n q.1 (q.0 ∷ base) (λ w. m (q.0 ∷ w))) (picks zs) ≡ 0 =
      total-each (λ q. suc (length q.1) ≡ length zs) _ (λ q. 0) (picks zs) (λ q e. covers-short n q.1 (q.0 ∷ base) _ (omega arith)) (picks-length zs)
      ∙ total-zero (picks zs) in
      omega (arith, a, c)

  covers-picks : (n : ℕ) (zs base : List X) (m : List X → ℕ) → length zs ≡ n → covers n zs base m ≡ by_picks n zs m
  unfolding covers by_picks
  covers-picks zero [] base m h = refl
  covers-picks zero (z ∷ zs) base m h = absurd (omega arith)
  covers-picks (suc n) zs base m h =
      let a : total (λ b. covers n zs base (λ w. m (b ∷ w))) base ≡ 0 =
      total-equal _ _ base (λ b. covers-short n zs base _ (omega arith)) ∙ total-zero base in
      let c : total {X = X × List X} (λ q. covers n q.1 (q.0 ∷ base) (λ w. m (q.0 ∷ w))) (picks zs)
      ≡ total {X = X × List X} (λ q. by_picks n q.1 (λ w. m (q.0 ∷ w))) (picks zs) =
      total-each (λ q. suc (length q.1) ≡ length zs) _ _ (picks zs) (λ q e. covers-picks n q.1 (q.0 ∷ base) _ (omega arith)) (picks-length zs) in
      omega (arith, a, c)

  picks-equal : (n : ℕ) (zs : List X) (f g : List X → ℕ) → ((w : List X) → f w ≡ g w) → by_picks n zs f ≡ by_picks n zs g
  unfolding by_picks
  picks-equal zero zs f g h = h []
  picks-equal (suc n) zs f g h = total-equal _ _ (picks zs) (λ q. picks-equal n q.1 _ _ (λ w. h (q.0 ∷ w)))

  picks-plus : (n : ℕ) (zs : List X) (f g : List X → ℕ) → by_picks n zs (λ w. f w + g w) ≡ by_picks n zs f + by_picks n zs g
  unfolding by_picks
  picks-plus zero zs f g = refl
  picks-plus (suc n) zs f g = total-equal _ _ (picks zs) (λ q. picks-plus n q.1 _ _) ∙ total-plus _ _ (picks zs)

  picks-insert : (n : ℕ) (x : X) (xs : List X) (m : List X → ℕ) → length xs ≡ n → by_picks (suc n) (x ∷ xs) m ≡ by_picks n xs (λ w. total m (insertions x w))
  unfolding by_picks
  picks-insert zero x [] m h = refl
  picks-insert zero x (y ∷ ys) m h = absurd (omega arith)
  picks-insert (suc n) x xs m h =
      let a : total {X = X × List X} (λ q. by_picks (suc n) q.1 (λ w. m (q.0 ∷ w))) (map (λ q. (q.0, x ∷ q.1)) (picks xs))
      ≡ total {X = X × List X} (λ q. by_picks n q.1 (λ w. total (λ v. m (q.0 ∷ v)) (insertions x w))) (picks xs) =
      total-map _ _ (picks xs) ∙ total-each (λ q. suc (length q.1) ≡ length xs) _ _ (picks xs)
      (λ q e. picks-insert n x q.1 (λ w. m (q.0 ∷ w)) (omega arith)) (picks-length xs) in
      let b : total {X = X × List X} (λ q. by_picks n q.1 (λ w. total m (insertions x (q.0 ∷ w)))) (picks xs)
      ≡ total {X = X × List X} (λ q. by_picks n q.1 (λ w. m (x ∷ q.0 ∷ w))) (picks xs)
      + total {X = X × List X} (λ q. by_picks n q.1 (λ w. total (λ v. m (q.0 ∷ v)) (insertions x w))) (picks xs) =
      total-equal _ _ (picks xs) (λ q. picks-equal n q.1 _ _ (λ w. ap (λ k. m (x ∷ q.0 ∷ w) + k) (total-map m (λ v. q.0 ∷ v) (insertions x w)))
      ∙ picks-plus n q.1 _ _) ∙ total-plus _ _ (picks xs) in
      omega (arith, a, b)

  picks-orders : (n : ℕ) (xs : List X) (m : List X → ℕ) → length xs ≡ n → by_picks n xs m ≡ total m (orders xs)
  unfolding by_picks
  picks-orders zero [] m h = omega arith
  picks-orders zero (x ∷ xs) m h = absurd (omega arith)
  picks-orders (suc n) [] m h = absurd (omega arith)
  picks-orders (suc n) (x ∷ xs) m h =
      picks-insert n x xs m (omega arith) ∙ picks-orders n xs _ (omega arith) ∙ sym (total-flat m (insertions x) (orders xs))

-- ---- a function of a list of vectors that is additive at each place

-- `m` is additive at each of the first `n` places
abbrev pub IsAdditive : {A : Type 0} → ℕ → (List (List A) → ℕ) → Type 0
IsAdditive zero m = Unit {0}
IsAdditive {A} (suc n) m =
    ((u v : List A) (ws : List (List A)) → m ((u ++ v) ∷ ws) ≡ m (u ∷ ws) + m (v ∷ ws))
    × ((ws : List (List A)) → m ([] ∷ ws) ≡ 0)
    × ((u : List A) → IsAdditive n (λ ws. m (u ∷ ws)))

-- the sum of vectors
abbrev pub gather : {A : Type 0} → List (List A) → List A
gather [] = []
gather (u ∷ us) = u ++ gather us

-- `n` times `u`
abbrev pub repeated : {A : Type 0} → ℕ → A → List A
repeated zero u = []
repeated (suc n) u = u ∷ repeated n u

-- The alternating sum over the subsets of `zs` of the values at the sum of the subset and `base`, where `p - 1` is -1.
unfoldable pub alternating : {A : Type 0} → ℕ → ℕ → (List (List A) → ℕ) → List (List A) → List (List A) → ℕ
alternating p n m [] base = m (repeated n (gather base))
alternating p n m (z ∷ zs) base = alternating p n m zs (z ∷ base) + (p - 1) * alternating p n m zs base

module _ {A : Type 0} where
  spread : (n : ℕ) (m : List (List A) → ℕ) (base : List (List A)) (ws : List (List A)) → IsAdditive (suc n) m → m (gather base ∷ ws) ≡ total (λ b. m (b ∷ ws)) base
  spread n m [] ws h = h.1 ws
  spread n m (b ∷ base) ws h = h.0 b (gather base) ws ∙ ap (λ k. m (b ∷ ws) + k) (spread n m base ws h)

  -- the value at sums is the sum over all words
  expand : (n : ℕ) (m : List (List A) → ℕ) (base : List (List A)) → IsAdditive n m → m (repeated n (gather base)) ≡ covers n [] base m
  unfolding covers
  expand zero m base h = refl
  expand (suc n) m base h =
      let a : total (λ b. m (b ∷ repeated n (gather base))) base ≡ total (λ b. covers n [] base (λ w. m (b ∷ w))) base =
      total-equal _ _ base (λ b. expand n (λ w. m (b ∷ w)) base (h.2 b)) in
      omega (arith, spread n m base (repeated n (gather base)) h, a)

  alternating-covers : (p n : ℕ) (m : List (List A) → ℕ) (zs base : List (List A)) → 0 < p → IsAdditive n m →
      IsSameMod p (alternating p n m zs base) (covers n zs base m)
  unfolding alternating
  alternating-covers p n m [] base pos h = same (expand n m base h)
  alternating-covers p n m (z ∷ zs) base pos h =
      plus (alternating-covers p n m zs (z ∷ base) pos h) (times (same {a = p - 1} refl) (alternating-covers p n m zs base pos h))
      ⊙ same (let q : (p - 1) + 1 ≡ p = omega arith in omega (arith, covers-split n z zs base m, ap (λ j. covers n zs base m * j) q))
      ⊙ multiple (covers n zs base m) (covers n (z ∷ zs) base m)

  -- the sum over all orders is the alternating sum over the subsets
  pub polarization : (p n : ℕ) (m : List (List A) → ℕ) (zs : List (List A)) → 0 < p → IsAdditive n m → length zs ≡ n →
      IsSameMod p (alternating p n m zs []) (total m (orders zs))
  polarization p n m zs pos h e =
      alternating-covers p n m zs [] pos h ⊙ same (covers-picks n zs [] m e ∙ picks-orders n zs m e)
