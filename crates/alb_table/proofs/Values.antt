-- The laws of values in a table.
use Rattle.std.proofs.Common.{◌≡◌, ℕ, ◌-◌, ◌*◌, ◌<◌, Bool, true, false, List, [], ◌∷◌, sym, refl, ◌∙◌, subst, arith, inl, inr}
use Rattle.std.specs.List.{flat_map}
use Rattle.std.specs.Ordering.{is_le}
use Rattle.std.specs.declared.cmp.Ordering.{Ordering}
use Rattle.std.specs.declared.cmp.Ordering.TheVariants.{Less, Equal, Greater}
use Rattle.std.proofs.lemmas.Bool.{cases_Bool, false≢true}
use Rattle.std.proofs.Math.Nat.{mul-add, mul_assoc}
use Rattle.gf_field.proofs.Mod.{same, back, ◌⊙◌, plus, times}
use Rattle.alb_mono.specs.Tree.{Tree, leaf, node, cmp_trees, same_tree}
use Rattle.alb_mono.proofs.Order.{cmp_trees_total, trees_equal}
use Rattle.gf_sums.specs.Sums.{Comb, weigh, scale, multiply}
use Rattle.gf_sums.proofs.Totals.{total-equal, weigh-append, weigh-scale}
use Rattle.alb_poly.specs.Textbook.{unit}
use Rattle.gf_sums.proofs.Alike.{Alike, equal, itself, turned, weigh-flat}
use Rattle.alb_poly.specs.Poly.{Poly, product}
use Rattle.alb_poly.specs.Instance.{Form}
use Rattle.alb_poly.specs.Consequence.{IsConsequence, AreMultilinear}
use Rattle.alb_mono.specs.Listing.{Each}
use Rattle.alb_poly.proofs.Multilinear.{each-append, each-from, each-map, each-flat}
use Rattle.alb_poly.proofs.Consequence.{tree_tells, alike_poly, consequence-zero}
use Rattle.alb_table.specs.Right.{SameType, IsZeroAt, LeadsWith, IsNormal, difference, IsCongruent, mono_value, poly_value, IsBasis, IsPart, StandsFor}
use Rattle.alb_table.proofs.Types.{type-itself, type-turned, type-joined, type-node}
use Rattle.alb_table.proofs.Coefficients.{keep, each-filter, filter-each, each-coefficient, coefficient-kept, order_cases, greater-turned, greater-joined, less-turned}
use Rattle.alb_table.proofs.Normal.{IsLower, leads-by, led-leading, leading-found, normal-zero}
use Rattle.alb_table.proofs.Congruent.{minus_twice, zero-difference, consequence-alike, congruent-alike, congruent-joined, congruent-turned, congruent-scale, congruent-flat, congruent-product, congruent-consequence}
use Rattle.alb_table.proofs.Bases.{IsTable}

pub each-scale : {I : Type 0} (P : I → Type 0) (c : ℕ) (f : Comb I) → Each (λ t. P t.1) f → Each (λ t. P t.1) (scale c f)
each-scale P c f a = each-map (λ t. P t.1) (λ t. P t.1) (λ t. (c * t.0, t.1)) f (λ t h. h) a

-- what the products of parts have, their sum has
pub each-multiply : {I J K : Type 0} (P : I → Type 0) (Q : J → Type 0) (R : K → Type 0) (prod : I → J → Comb K) (f : Comb I) (g : Comb J) →
    ((i : I) (j : J) → P i → Q j → Each (λ t. R t.1) (prod i j)) → Each (λ t. P t.1) f → Each (λ t. Q t.1) g → Each (λ t. R t.1) (multiply prod f g)
each-multiply P Q R prod f g h a b =
    each-flat (λ t. P t.1) (λ t. R t.1) _ f (λ s k. each-flat (λ t. Q t.1) (λ t. R t.1) _ g (λ t l. each-scale R (s.0 * t.0) (prod s.1 t.1) (h s.1 t.1 k l)) b) a

-- the sum of the terms, each by itself
pub units-alike : {p : ℕ} (f : Poly) → Alike p f (flat_map (λ t. scale t.0 (unit t.1)) f)
units-alike f = equal _ _ (λ w. sym (weigh-flat w (λ t. scale t.0 (unit t.1)) f ∙ total-equal _ _ f (λ t. omega arith)))

module _ (p : ℕ) (pos : 0 < p) (fs : List Form) (Within Basis : Tree → Type 0) (entry : Tree → Tree → Poly) (table : IsTable p fs Within Basis entry) where
  product-congruent : (l r : Tree) (f g : Poly) → Within (node l r) → Each (λ t. IsPart Basis l t.1) f → Each (λ t. IsPart Basis r t.1) g →
      IsCongruent p fs (product f g) (multiply entry f g)
  product-congruent l r f g m a b =
      congruent-flat p fs pos (λ s. IsPart Basis l s.1) _ _ f (λ s h.
      congruent-flat p fs pos (λ t. IsPart Basis r t.1) _ _ g (λ t k.
      congruent-scale p fs pos (s.0 * t.0) (table.entries s.1 t.1 h.basis k.basis (inside s.1 t.1 h k)).congruent) b) a
    where
      inside : (x y : Tree) → IsPart Basis l x → IsPart Basis r y → Within (node x y)
      inside x y h k = table.closed.respects (node l r) (node x y) (type-turned (type-node h.type k.type)) m

  -- the value of a monomial stands for it
  pub value-stands : (m : Tree) → Within m → StandsFor p fs Basis m (mono_value entry m)
  value-stands (leaf k) m = record {
    parts = (record { basis = table.generators k m; type = type-itself (leaf k) }, tt);
    congruent = congruent-alike p fs pos (itself _);
  }
  value-stands (node l r) m =
      let a = value-stands l (table.closed.left l r m) in
      let b = value-stands r (table.closed.right l r m) in
      record {
        parts = each-multiply (IsPart Basis l) (IsPart Basis r) (IsPart Basis (node l r)) entry _ _ (λ x y h k.
            let t : SameType (node x y) (node l r) = type-node h.type k.type in
            each-from _ _ (entry x y) (λ s q. record { basis = q.basis; type = type-joined q.type t })
            (table.entries x y h.basis k.basis (table.closed.respects (node l r) (node x y) (type-turned t) m)).parts) a.parts b.parts;
        congruent = congruent-joined p fs pos (congruent-alike p fs pos (equal _ _ (λ w. omega arith)))
            (congruent-joined p fs pos (congruent-product p fs pos a.congruent b.congruent) (product-congruent l r _ _ m a.parts b.parts));
      }

  -- a polynomial within the table less its value is a consequence
  pub poly-value-congruent : (f : Poly) → Each (λ t. Within t.1) f → IsCongruent p fs f (poly_value entry f)
  poly-value-congruent f a = congruent-joined p fs pos (congruent-alike p fs pos (units-alike f))
      (congruent-flat p fs pos (λ t. Within t.1) _ _ f (λ t h. congruent-scale p fs pos t.0 (value-stands t.1 h).congruent) a)

  pub poly-value-basis : (f : Poly) → Each (λ t. Within t.1) f → Each (λ t. Basis t.1) (poly_value entry f)
  poly-value-basis f a = each-flat (λ t. Within t.1) (λ t. Basis t.1) _ f (λ t h.
      each-scale Basis t.0 _ (each-from _ _ _ (λ s k. k.basis) (value-stands t.1 h).parts)) a

-- combinations of normal monomials that differ by a consequence are equal
pub normal-unique : (p : ℕ) → 0 < p → (fs : List Form) → AreMultilinear fs → (f g : Poly) → Each (λ t. IsNormal p fs t.1) f → Each (λ t. IsNormal p fs t.1) g →
    IsCongruent p fs f g → Alike p f g
normal-unique p pos fs multi f g a b c =
    zero-difference p pos (normal-zero p fs multi (difference p f g) (each-append _ f _ a (each-scale (IsNormal p fs) (p - 1) g b)) c.differ)

-- the terms that pass are all, where the others are zero
pub keep-alike-all : {p : ℕ} (q : Tree → Bool) (f : Poly) → ((x : Tree) → q x ≡ false → IsZeroAt p f x) → Alike p f (keep q f)
keep-alike-all q f h = alike_poly (λ x. elim (cases_Bool (q x)) [
  | inl e ↦ same (sym (coefficient-kept same_tree tree_tells q f x e))
  | inr n ↦ elim (each-coefficient same_tree tree_tells (λ y. q y ≡ true) (keep q f) x (filter-each (λ t. q t.1) f)) [
    | inl y ↦ absurd (false≢true (sym n ∙ y))
    | inr z ↦ h x n ⊙ same (sym z)
  ]
])

-- a basis monomial of the type of `m`, and at most `m`
pub record IsAtMost (Basis : Tree → Type 0) (m x : Tree) : Type 0 where
  pub part : IsPart Basis m x
  pub most : cmp_trees x m ≡ Greater → ⊥

-- a combination of such monomials
pub record Descends (p : ℕ) (Basis : Tree → Type 0) (m : Tree) (f : Poly) : Type 0 where
  pub terms : Poly
  pub each : Each (λ t. IsAtMost Basis m t.1) terms
  pub alike : Alike p f terms

above : (x y z : Tree) → cmp_trees x z ≡ Greater → (cmp_trees y z ≡ Greater → ⊥) → cmp_trees x y ≡ Greater
above x y z g n = elim (cmp_trees y z) as (λ o. cmp_trees y z ≡ o → cmp_trees x y ≡ Greater) [
  | Less ↦ λ e. greater-joined cmp_trees_total x z y g (greater-turned cmp_trees_total y z e)
  | Equal ↦ λ e. subst (λ u. cmp_trees x u ≡ Greater) (sym (trees_equal y z e)) g
  | Greater ↦ λ e. absurd (n e)
] refl

most_of : (o : Ordering) → is_le o ≡ true → o ≡ Greater → ⊥
most_of Less k e = absurd (cc)
most_of Equal k e = absurd (cc)
most_of Greater k e = false≢true k

greater_of : (o : Ordering) → is_le o ≡ false → o ≡ Greater
greater_of Less k = absurd (false≢true (sym k))
greater_of Equal k = absurd (false≢true (sym k))
greater_of Greater k = refl

pub each-both : {X : Type 0} (P Q R : X → Type 0) (xs : List X) → ((x : X) → P x → Q x → R x) → Each P xs → Each Q xs → Each R xs
each-both P Q R [] h a b = tt
each-both P Q R (x ∷ xs) h a b = (h x a.0 b.0, each-both P Q R xs h a.1 b.1)

is_at_most : Tree → Tree → Bool
is_at_most m x = is_le (cmp_trees x m)

module _ (p : ℕ) (pos : 0 < p) (fs : List Form) (multi : AreMultilinear fs) (Within : Tree → Type 0) (entry : Tree → Tree → Poly)
    (table : IsTable p fs Within (IsBasis p fs Within) entry) where
  -- the value of a polynomial within the table is zero exactly where the polynomial is a consequence
  pub consequence-value : (f : Poly) → Each (λ t. Within t.1) f → IsConsequence p fs f → Alike p (poly_value entry f) []
  consequence-value f a c = normal-zero p fs multi (poly_value entry f)
      (each-from _ _ _ (λ t h. h.normal) (poly-value-basis p pos fs Within (IsBasis p fs Within) entry table f a))
      (congruent-consequence p fs pos (congruent-turned p fs pos (poly-value-congruent p pos fs Within (IsBasis p fs Within) entry table f a)) c)

  pub value-consequence : (f : Poly) → Each (λ t. Within t.1) f → Alike p (poly_value entry f) [] → IsConsequence p fs f
  value-consequence f a z =
      congruent-consequence p fs pos (poly-value-congruent p pos fs Within (IsBasis p fs Within) entry table f a)
      (consequence-alike p fs (turned z) (consequence-zero p fs))

  stands : (m : Tree) → Within m → StandsFor p fs (IsBasis p fs Within) m (mono_value entry m)
  stands m h = value-stands p pos fs Within (IsBasis p fs Within) entry table m h

  -- the value of a normal monomial is the monomial
  pub value-normal : (m : Tree) → IsBasis p fs Within m → Alike p (mono_value entry m) (unit m)
  value-normal m h =
      let s = stands m h.within in
      turned (normal-unique p pos fs multi (unit m) (mono_value entry m) (h.normal, tt) (each-from _ _ _ (λ t k. k.basis.normal) s.parts) s.congruent)

  -- the monomial less its value does not lead with a monomial of the value
  not_above : (m y : Tree) → Within m → IsPart (IsBasis p fs Within) m y → LeadsWith p (mono_value entry m) y → cmp_trees y m ≡ Greater → ⊥
  not_above m y w part l g =
      let s = stands m w in
      let b = leads-by p (mono_value entry m) y l in
      part.basis.normal.none (led-leading p fs y (record {
        coef = (p - 1) * b.coef;
        rest = (1, m) ∷ scale (p - 1) b.rest;
        nonzero = λ z. b.nonzero (back (minus_twice p b.coef pos) ⊙ times (same {a = p - 1} refl) z ⊙ same (omega arith));
        lower = (record { type = type-turned part.type; less = less-turned cmp_trees_total y m g }, each-scale (IsLower y) (p - 1) b.rest b.lower);
        consequence = consequence-alike p fs (record {
          at = λ w.
              same (weigh-append w (unit m) (scale (p - 1) (mono_value entry m)))
              ⊙ plus (same {a = weigh w (unit m)} refl) (same (weigh-scale w (p - 1) (mono_value entry m)) ⊙ times (same {a = p - 1} refl) (b.alike.at w))
              ⊙ same (omega (arith, mul-add (p - 1) (b.coef * w y) (weigh w b.rest), mul_assoc (p - 1) b.coef (w y), weigh-scale w (p - 1) b.rest));
        }) s.congruent.differ;
      }))

  -- no monomial of the value is above the monomial
  pub value-descends : (m x : Tree) → Within m → cmp_trees x m ≡ Greater → IsZeroAt p (mono_value entry m) x
  value-descends m x w g =
      let s = stands m w in
      elim (leading-found p (IsPart (IsBasis p fs Within) m) m (mono_value entry m) s.parts (each-from _ _ _ (λ t k. type-turned k.type) s.parts)) [
        | inl z ↦ z x
        | inr l ↦ (elim (order_cases (cmp_trees l.monomial m)) [
          | inl k ↦ absurd (not_above m l.monomial w l.has l.leads k)
          | inr n ↦ l.leads.greatest x (above x l.monomial m g n)
        ])
      ]

  -- the value of a monomial is a combination of basis monomials that are at most the monomial
  pub value-at-most : (m : Tree) → Within m → Descends p (IsBasis p fs Within) m (mono_value entry m)
  unfolding is_at_most
  value-at-most m w = record {
    terms = keep (is_at_most m) (mono_value entry m);
    each = each-both (λ t. IsPart (IsBasis p fs Within) m t.1) (λ t. is_at_most m t.1 ≡ true) (λ t. IsAtMost (IsBasis p fs Within) m t.1) _
        (λ t h k. record { part = h; most = most_of (cmp_trees t.1 m) k })
        (each-filter _ _ _ (stands m w).parts) (filter-each (λ t. is_at_most m t.1) (mono_value entry m));
    alike = keep-alike-all (is_at_most m) (mono_value entry m) (λ x n. value-descends m x w (greater_of (cmp_trees x m) n));
  }

  -- a monomial that its own value has is normal
  pub value-itself : (m : Tree) → Within m → (IsZeroAt p (mono_value entry m) m → ⊥) → IsNormal p fs m
  value-itself m w n = elim (each-coefficient same_tree tree_tells (IsNormal p fs) (mono_value entry m) m (each-from _ _ _ (λ t k. k.basis.normal) (stands m w).parts)) [
    | inl h ↦ h
    | inr e ↦ absurd (n (same e))
  ]
