-- Sums over lists, and combinations: lists of (coefficient, index).
use Rattle.std.specs.declared.cmp.Ordering.{Ordering}
use Rattle.std.specs.declared.cmp.Ordering.TheVariants.{Less}
use Rattle.std.specs.Prelude.{◌≡◌, ◌<◌, true, ℕ, ◌+◌, ◌*◌, Bool, if◌then◌else◌, List, [], ◌∷◌, map}
use Rattle.std.specs.List.{flat_map}
use Rattle.gf_field.specs.Modular.{IsSameMod}

-- the sum of `f` over a list
abbrev pub total : {X : Type 0} → (X → ℕ) → List X → ℕ
total f [] = 0
total f (x ∷ xs) = f x + total f xs

-- a combination: coefficients at indices
abbrev pub Comb : Type 0 → Type 0
Comb I = List (ℕ × I)

-- the combination's value, where each index has a weight
abbrev pub weigh : {I : Type 0} → (I → ℕ) → Comb I → ℕ
weigh w f = total (λ t. t.0 * w t.1) f

-- the coefficient at an index, where `same` tests indices
abbrev pub coefficient : {I : Type 0} → (I → I → Bool) → Comb I → I → ℕ
coefficient same f i = total (λ t. if same t.1 i then t.0 else 0) f

-- equal combinations: the same coefficient modulo `p` at every index
abbrev pub AreSame : {I : Type 0} → (I → I → Bool) → ℕ → Comb I → Comb I → Type 0
AreSame {I} same p f g = (i : I) → IsSameMod p (coefficient same f i) (coefficient same g i)

-- a multiple
abbrev pub scale : {I : Type 0} → ℕ → Comb I → Comb I
scale c f = map (λ t. (c * t.0, t.1)) f

-- each index changed
abbrev pub reindex : {I J : Type 0} → (I → J) → Comb I → Comb J
reindex h f = map (λ t. (t.0, h t.1)) f

-- the product that `prod` of two indices spreads over combinations, linear on both sides
abbrev pub multiply : {I J K : Type 0} → (I → J → Comb K) → Comb I → Comb J → Comb K
multiply prod f g = flat_map (λ s. flat_map (λ t. scale (s.0 * t.0) (prod s.1 t.1)) g) f

-- `same` tells indices apart
pub record TellsApart {I : Type 0} (same : I → I → Bool) : Type 0 where
  pub sound : (i j : I) → same i j ≡ true → i ≡ j
  pub whole : (i : I) → same i i ≡ true

-- every index comes before `i`
abbrev pub AllBefore : {I : Type 0} → (I → I → Ordering) → I → Comb I → Type 0
AllBefore order i [] = Unit {0}
AllBefore order i (t ∷ f) = (order t.1 i ≡ Less) × AllBefore order i f

-- strictly descending, with coefficients that are residues and not 0
abbrev pub IsCanonical : {I : Type 0} → (I → I → Ordering) → ℕ → Comb I → Type 0
IsCanonical order p [] = Unit {0}
IsCanonical order p (t ∷ f) = (0 < t.0) × (t.0 < p) × AllBefore order t.1 f × IsCanonical order p f
