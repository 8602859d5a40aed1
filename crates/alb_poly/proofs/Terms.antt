-- The terms of a descending list are its coefficients.
use Rattle.std.proofs.Common.{◌≡◌, ◌≢◌, ℕ, ◌%◌, ◌<◌, ◌⊎◌, false, [], ◌∷◌, sym, refl, ap, ◌∙◌, subst, arith, inl, inr}
use Rattle.std.specs.Ordering.{ordering_reverse}
use Rattle.std.specs.declared.cmp.Ordering.TheVariants.{Less}
use Rattle.std.proofs.lemmas.Bool.{cases_Bool}
use Rattle.std.proofs.Math.Nat.{mod-eq_of_lt}
use Rattle.gf_sums.specs.Sums.{coefficient, AllBefore, IsCanonical}
use Rattle.alb_mono.specs.Listing.{Each}
use Rattle.alb_mono.specs.Tree.{Tree, same_tree, cmp_monos}
use Rattle.alb_mono.proofs.Order.{cmp_monos_total}
use Rattle.alb_poly.specs.Poly.{Poly}
use Rattle.alb_poly.proofs.Consequence.{tree_tells}

not-itself : (m : Tree) → cmp_monos m m ≡ Less → ⊥
not-itself m h = let e = sym h ∙ cmp_monos_total.antisymm m m ∙ ap ordering_reverse h in cc

-- what comes before a monomial is another one
other : (m n : Tree) → cmp_monos n m ≡ Less → same_tree m n ≡ false
other m n h = elim (cases_Bool (same_tree m n)) [
  | inl e ↦ absurd (not-itself m (subst (λ x. cmp_monos x m ≡ Less) (sym (tree_tells.sound m n e)) h))
  | inr e ↦ e
]

other-turned : (m n : Tree) → cmp_monos n m ≡ Less → same_tree n m ≡ false
other-turned m n h = elim (cases_Bool (same_tree n m)) [
  | inl e ↦ absurd (not-itself m (subst (λ x. cmp_monos x m ≡ Less) (tree_tells.sound n m e) h))
  | inr e ↦ e
]

pub absent : (m : Tree) (f : Poly) → AllBefore cmp_monos m f → coefficient same_tree f m ≡ 0
absent m [] h = refl
absent m (t ∷ f) h = rw (other-turned m t.1 h.0) (omega (arith, absent m f h.1))

-- one more term in front leaves the coefficients at the later monomials
extended : (t : ℕ × Tree) (whole f : Poly) → AllBefore cmp_monos t.1 f → Each (λ u. coefficient same_tree whole u.1 ≡ u.0) f →
    Each (λ u. coefficient same_tree (t ∷ whole) u.1 ≡ u.0) f
extended t whole [] b h = tt
extended t whole (u ∷ f) b h = (rw (other t.1 u.1 b.0) (omega (arith, h.0)), extended t whole f b.1 h.1)

pub canonical-coefficients : (p : ℕ) (f : Poly) → IsCanonical cmp_monos p f → Each (λ t. coefficient same_tree f t.1 ≡ t.0) f
canonical-coefficients p [] h = tt
canonical-coefficients p (t ∷ f) h =
    (rw (tree_tells.whole t.1) (omega (arith, absent t.1 f h.2)), extended t f f h.2 (canonical-coefficients p f h.3))

-- a canonical list has no coefficient that is 0 modulo `p`
pub canonical-nonzero : (p : ℕ) (f : Poly) → IsCanonical cmp_monos p f → Each (λ t. coefficient same_tree f t.1 % p ≢ 0) f
canonical-nonzero p f h = each_nonzero p f f h (canonical-coefficients p f h)
  where
    differs : (p c n : ℕ) → n ≡ c → 0 < c → c < p → n % p ≢ 0
    differs p c n e pos small z = let q : c ≡ 0 = sym (mod-eq_of_lt small) ∙ ap (λ k. k % p) (sym e) ∙ z in absurd (omega arith)

    each_nonzero : (p : ℕ) (whole f : Poly) → IsCanonical cmp_monos p f → Each (λ t. coefficient same_tree whole t.1 ≡ t.0) f → Each (λ t. coefficient same_tree whole t.1 % p ≢ 0) f
    each_nonzero p whole [] h k = tt
    each_nonzero p whole (t ∷ f) h k = (differs p t.0 _ k.0 h.0 h.1, each_nonzero p whole f h.3 k.1)

-- what holds of each monomial of a list holds of one, or its coefficient is 0
pub absent-or : (P : Tree → Type 0) (f : Poly) (m : Tree) → Each (λ t. P t.1) f → P m ⊎ (coefficient same_tree f m ≡ 0)
absent-or P [] m h = inr refl
absent-or P (t ∷ f) m h = elim (cases_Bool (same_tree t.1 m)) [
  | inl e ↦ inl (subst P (tree_tells.sound t.1 m e) h.0)
  | inr e ↦ elim (absent-or P f m h.1) [ inl a ↦ inl a | inr z ↦ inr (rw e (omega (arith, z))) ]
]

-- and so of each one with a coefficient that is not 0 modulo `p`
pub of_terms : (P : Tree → Type 0) (p : ℕ) (f : Poly) → 0 < p → Each (λ t. P t.1) f → (m : Tree) → coefficient same_tree f m % p ≢ 0 → P m
of_terms P p f pos h m ne = elim (absent-or P f m h) [ inl a ↦ a | inr z ↦ absurd (ne (ap (λ n. n % p) z ∙ mod-eq_of_lt pos)) ]
