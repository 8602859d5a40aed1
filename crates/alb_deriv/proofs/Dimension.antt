-- A combination of polynomials over few monomials is one of as few of them as there are monomials.
use Rattle.std.proofs.Common.{◌≡◌, ℕ, suc, ◌+◌, ◌-◌, ◌*◌, ◌%◌, ◌<◌, ◌≤◌, ◌⊎◌, List, [], ◌∷◌, ◌++◌, length, sym, refl, ap, ◌∙◌, subst, arith, inl, inr}
use Rattle.std.specs.Bool.{if◌then◌else◌}
use Rattle.std.specs.List.{flat_map}
use Rattle.std.proofs.lemmas.Bool.{cases_eq}
use Rattle.std.proofs.Math.Nat.{mod-lt, mod-eq_of_lt}
use Rattle.gf_field.specs.Modular.{IsSameMod, IsUnit, IsPrime}
use Rattle.gf_field.proofs.Mod.{same, back, ◌⊙◌, plus, times, of_mod, multiple}
use Rattle.gf_field.proofs.Table.{IsUnit-below_prime}
use Rattle.gf_sums.specs.Sums.{Comb, weigh, coefficient, scale}
use Rattle.gf_sums.proofs.Totals.{total-equal, weigh-append, weigh-scale, coefficient-weigh}
use Rattle.gf_sums.proofs.Alike.{Alike, weigh-flat, itself, append-alike, scale-alike}
use Rattle.alb_mono.specs.Listing.{Each, IsIn}
use Rattle.alb_mono.specs.Tree.{Tree, same_tree}
use Rattle.alb_mono.proofs.ListingLemmas.{each-weaker}
use Rattle.alb_poly.specs.Poly.{Poly}
use Rattle.alb_poly.proofs.Consequence.{alike_poly, tree_tells}

-- ---- numbers

vanished : {p : ℕ} (a b c : ℕ) → 0 < p → IsSameMod p (c * b) 1 → IsSameMod p (a + (b * (a * (p - 1))) * c) 0
vanished {p} a b c pos h =
    let q : (p - 1) + 1 ≡ p = omega arith in
    let z : ℕ = a * (p - 1) in
    let e : (b * z) * c ≡ (c * b) * z = grind arith in
    let f : a + 1 * z ≡ a * p + 0 = omega (arith, ap (λ n. a * n) q) in
    same (ap (λ n. a + n) e) ⊙ plus (same {a = a} refl) (times h (same {a = z} refl)) ⊙ same f ⊙ multiple a 0

moved : {p : ℕ} (a b k l c : ℕ) → 0 < p → IsSameMod p (a + k * c) (b + l * c) → IsSameMod p a (((l + k * (p - 1)) % p) * c + b)
moved {p} a b k l c pos h =
    let r : ℕ = p - 1 in
    let q : p ≡ r + 1 = omega arith in
    let e : (k * c) * p + a ≡ (a + k * c) + (k * r) * c = ap (λ n. (k * c) * n + a) q ∙ grind arith in
    let f : (b + l * c) + (k * r) * c ≡ (l + k * r) * c + b = grind arith in
    back (multiple (k * c) a) ⊙ same e ⊙ plus h (same {a = (k * r) * c} refl) ⊙ same f ⊙ plus (times (back (of_mod (l + k * r))) (same {a = c} refl)) (same {a = b} refl)

-- ---- combinations

-- the combination of polynomials
abbrev pub spread : {X : Type 0} → (X → Poly) → Comb X → Poly
spread v cs = flat_map (λ c. scale c.0 (v c.1)) cs

pub weigh-spread : {X : Type 0} (w : Tree → ℕ) (v : X → Poly) (cs : Comb X) → weigh w (spread v cs) ≡ weigh (λ x. weigh w (v x)) cs
weigh-spread w v cs = weigh-flat w _ cs ∙ total-equal _ _ cs (λ c. weigh-scale w c.0 (v c.1))

weigh-plus : {X : Type 0} (v k : X → ℕ) (c : ℕ) (cs : Comb X) → weigh (λ x. v x + k x * c) cs ≡ weigh v cs + weigh k cs * c
weigh-plus v k c [] = omega arith
weigh-plus v k c (t ∷ cs) = rw (weigh-plus v k c cs) (grind arith)

-- the weight that counts one monomial
mark : Tree → Tree → ℕ
mark y k = if same_tree k y then 1 else 0

coefficient-mark : (f : Poly) (y : Tree) → coefficient same_tree f y ≡ weigh (mark y) f
unfolding mark
coefficient-mark f y = coefficient-weigh same_tree tree_tells f y

module _ {X : Type 0} (p : ℕ) (prime : IsPrime p) (Q : X → Type 0) where
  pos : 0 < p
  pos = omega (arith, prime.above_one)

  -- the polynomial has no other monomials than these
  abbrev pub IsOver : List Tree → (X → Poly) → X → Type 0
  IsOver ms v x = (y : Tree) → IsIn y ms ⊎ IsSameMod p (coefficient same_tree (v x) y) 0

  -- the polynomial f is a combination of at most n of those that are known
  pub record HasFew (v : X → Poly) (n : ℕ) (f : Poly) : Type 0 where
    pub items : Comb X
    pub each : Each (λ c. (c.0 < p) × Q c.1) items
    pub few : length items ≤ n
    pub same : Alike p f (spread v items)

  none-left : (v : X → Poly) (cs : Comb X) → Each (λ c. IsOver [] v c.1) cs → Alike p (spread v cs) []
  none-left v [] h = itself []
  none-left v (c ∷ cs) h = append-alike (scale-alike c.0 {g = []} (alike_poly (λ y. zero y (h.0 y)))) (none-left v cs h.1)
    where
      zero : (y : Tree) → IsIn y [] ⊎ IsSameMod p (coefficient same_tree (v c.1) y) 0 → IsSameMod p (coefficient same_tree (v c.1) y) 0
      zero y (inl a) = absurd a
      zero y (inr a) = a

  -- one of the polynomials has a monomial
  record Pivot (m : Tree) (ms : List Tree) (v : X → Poly) : Type 0 where
    x : X
    known : Q x
    over : IsOver (m ∷ ms) v x
    unit : IsUnit p (coefficient same_tree (v x) m)

  -- none of them has it
  abbrev AreZero : Tree → (X → Poly) → Comb X → Type 0
  AreZero m v cs = Each (λ c. IsSameMod p (coefficient same_tree (v c.1) m) 0) cs

  zero-or-unit : (a : ℕ) → IsSameMod p a 0 ⊎ IsUnit p a
  zero-or-unit a = elim (cases_eq (a % p) 0) [
    | inl e ↦ inl (record { same = e ∙ sym (mod-eq_of_lt pos) })
    | inr e ↦ inr (let u = IsUnit-below_prime p (a % p) prime (omega arith) (mod-lt a pos) in (u.0, times (back (of_mod a)) (same refl) ⊙ u.1))
  ]

  search : (m : Tree) (ms : List Tree) (v : X → Poly) (cs : Comb X) → Each (λ c. Q c.1) cs → Each (λ c. IsOver (m ∷ ms) v c.1) cs → AreZero m v cs ⊎ Pivot m ms v
  search m ms v [] q o = inl tt
  search m ms v (c ∷ cs) q o = elim (zero-or-unit (coefficient same_tree (v c.1) m)) [
    | inr u ↦ inr (record { x = c.1; known = q.0; over = o.0; unit = u })
    | inl z ↦ elim (search m ms v cs q.1 o.1) [ inl a ↦ inl (z, a) | inr a ↦ inr a ]
  ]

  dropped : (m : Tree) (ms : List Tree) (v : X → Poly) (cs : Comb X) → AreZero m v cs → Each (λ c. IsOver (m ∷ ms) v c.1) cs → Each (λ c. IsOver ms v c.1) cs
  dropped m ms v [] z o = tt
  dropped m ms v (c ∷ cs) z o = ((λ y. here y (o.0 y)), dropped m ms v cs z.1 o.1)
    where
      here : (y : Tree) → IsIn y (m ∷ ms) ⊎ IsSameMod p (coefficient same_tree (v c.1) y) 0 → IsIn y ms ⊎ IsSameMod p (coefficient same_tree (v c.1) y) 0
      here y (inl (inl e)) = inr (subst (λ x. IsSameMod p (coefficient same_tree (v c.1) x) 0) (sym e) z.0)
      here y (inl (inr i)) = inl i
      here y (inr a) = inr a

  module _ (m : Tree) (ms : List Tree) (v : X → Poly) (h : Pivot m ms v) where
    -- how much of the pivot is added
    factor : X → ℕ
    factor x = h.unit.0 * (coefficient same_tree (v x) m * (p - 1))

    -- with which the monomial is gone
    reduced : X → Poly
    reduced x = v x ++ scale (factor x) (v h.x)

    weigh-reduced : (w : Tree → ℕ) (x : X) → weigh w (reduced x) ≡ weigh w (v x) + factor x * weigh w (v h.x)
    unfolding reduced
    weigh-reduced w x = weigh-append w (v x) (scale (factor x) (v h.x)) ∙ ap (λ n. weigh w (v x) + n) (weigh-scale w (factor x) (v h.x))

    coefficient-reduced : (x : X) (y : Tree) → coefficient same_tree (reduced x) y ≡ coefficient same_tree (v x) y + factor x * coefficient same_tree (v h.x) y
    coefficient-reduced x y =
        coefficient-mark (reduced x) y ∙ weigh-reduced (mark y) x
        ∙ (λ i. sym (coefficient-mark (v x) y) i + factor x * sym (coefficient-mark (v h.x) y) i)

    over-reduced : (x : X) → IsOver (m ∷ ms) v x → IsOver ms reduced x
    unfolding factor
    over-reduced x o y = by (o y) (h.over y)
      where
        gone : IsSameMod p (coefficient same_tree (reduced x) m) 0
        gone = same (coefficient-reduced x m) ⊙ vanished (coefficient same_tree (v x) m) h.unit.0 (coefficient same_tree (v h.x) m) pos h.unit.1

        by : IsIn y (m ∷ ms) ⊎ IsSameMod p (coefficient same_tree (v x) y) 0 → IsIn y (m ∷ ms) ⊎ IsSameMod p (coefficient same_tree (v h.x) y) 0 →
            IsIn y ms ⊎ IsSameMod p (coefficient same_tree (reduced x) y) 0
        by (inl (inl e)) b = inr (subst (λ z. IsSameMod p (coefficient same_tree (reduced x) z) 0) (sym e) gone)
        by (inl (inr i)) b = inl i
        by (inr a) (inl (inl e)) = inr (subst (λ z. IsSameMod p (coefficient same_tree (reduced x) z) 0) (sym e) gone)
        by (inr a) (inl (inr i)) = inl i
        by (inr a) (inr b) =
            let e : 0 + factor x * 0 ≡ 0 = omega arith in
            inr (same (coefficient-reduced x y) ⊙ plus a (times (same {a = factor x} refl) b) ⊙ same e)

    each-reduced : (cs : Comb X) → Each (λ c. IsOver (m ∷ ms) v c.1) cs → Each (λ c. IsOver ms reduced c.1) cs
    each-reduced cs o = each-weaker _ _ cs (λ c k. over-reduced c.1 k) o

    weigh-all : (w : Tree → ℕ) (cs : Comb X) → weigh w (spread reduced cs) ≡ weigh w (spread v cs) + weigh factor cs * weigh w (v h.x)
    weigh-all w cs =
        weigh-spread w reduced cs
        ∙ total-equal _ _ cs (λ c. ap (λ n. c.0 * n) (weigh-reduced w c.1))
        ∙ weigh-plus (λ x. weigh w (v x)) factor (weigh w (v h.x)) cs
        ∙ ap (λ n. n + weigh factor cs * weigh w (v h.x)) (sym (weigh-spread w v cs))

    -- the combination with the pivot again
    restored : (cs : Comb X) (n : ℕ) → HasFew reduced n (spread reduced cs) → HasFew v (suc n) (spread v cs)
    restored cs n r =
        let k : ℕ = (weigh factor r.items + weigh factor cs * (p - 1)) % p in
        record {
          items = (k, h.x) ∷ r.items;
          each = ((mod-lt (weigh factor r.items + weigh factor cs * (p - 1)) pos, h.known), r.each);
          few = omega (arith, r.few);
          same = record {
            at = λ w.
                moved (weigh w (spread v cs)) (weigh w (spread v r.items)) (weigh factor cs) (weigh factor r.items) (weigh w (v h.x)) pos
                (same (sym (weigh-all w cs)) ⊙ r.same.at w ⊙ same (weigh-all w r.items))
                ⊙ same (sym (weigh-append w (scale k (v h.x)) (spread v r.items) ∙ ap (λ z. z + weigh w (spread v r.items)) (weigh-scale w k (v h.x))));
          };
        }

  -- A COMBINATION of polynomials over the monomials has one of no more of them than there are monomials.
  pub fewer : (ms : List Tree) (v : X → Poly) (cs : Comb X) → Each (λ c. Q c.1) cs → Each (λ c. IsOver ms v c.1) cs → HasFew v (length ms) (spread v cs)
  fewer [] v cs q o = record { items = []; each = tt; few = omega arith; same = none-left v cs o }
  fewer (m ∷ ms) v cs q o = elim (search m ms v cs q o) [
    | inl z ↦ (let r = fewer ms v cs q (dropped m ms v cs z o) in record { items = r.items; each = r.each; few = omega (arith, r.few); same = r.same })
    | inr h ↦ restored m ms v h cs (length ms) (fewer ms (reduced m ms v h) cs q (each-reduced m ms v h cs o))
  ]
