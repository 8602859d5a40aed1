-- The values of the rows of a type stay the same where the entries that they read do.
use Rattle.std.proofs.Common.{◌≡◌, ℕ, zero, suc, ◌+◌, ◌*◌, ◌<◌, ◌≤◌, List, [], ◌∷◌, ◌++◌, length, get_or, sym, refl, ap, ◌∙◌, subst, arith, sum, inl, inr}
use Rattle.std.specs.List.{flat_map}
use Rattle.gf_sums.specs.Sums.{Comb, scale, multiply, reindex}
use Rattle.alb_mono.specs.Listing.{Each}
use Rattle.alb_mono.specs.Tree.{Tree, leaf, node}
use Rattle.alb_mono.proofs.ListingLemmas.{each-at}
use Rattle.alb_poly.specs.Textbook.{evaluate, unit}
use Rattle.alb_poly.specs.Poly.{Poly}
use Rattle.alb_poly.specs.Instance.{Form, fill}
use Rattle.alb_poly.specs.Consequence.{form_at, AreMultilinear}
use Rattle.alb_poly.proofs.Multilinear.{each-from}
use Rattle.alb_table.specs.Right.{outer, SameType, AreHigh, IsPart, IsWithinDegree, IsBasisTo, IsTypeTo, IsRight}
use Rattle.alb_table.specs.Block.{image, spread, IsTupleAt, tuple_row}
use Rattle.alb_table.proofs.Bases.{IsTable, IsNext}
use Rattle.alb_table.proofs.Types.{type-itself, type-turned, type-joined, type-node}
use Rattle.alb_table.proofs.Values.{each-multiply}
use Rattle.alb_table.proofs.Within.{within-same, within-block}
use Rattle.alb_table.proofs.Right.{of_type-within, of_type-degree, instance-types, tuple_instance}
use Rattle.std.proofs.lemmas.Bool.{cases_lt}

scale-agree : {K : Type 0} (c : ℕ) (f g : Comb K) → f ≡ g → scale c f ≡ scale c g
scale-agree c f g e = ap (scale c) e

-- products agree where the entries of what is listed do
multiply-agree : {I J K : Type 0} (P : I → Type 0) (Q : J → Type 0) (prod prod' : I → J → Comb K) (f : Comb I) (g : Comb J) →
    ((i : I) (j : J) → P i → Q j → prod i j ≡ prod' i j) → Each (λ t. P t.1) f → Each (λ t. Q t.1) g → multiply prod f g ≡ multiply prod' f g
multiply-agree P Q prod prod' [] g h a b = refl
multiply-agree {I} {J} {K} P Q prod prod' (s ∷ f) g h a b = rw (row g b, multiply-agree P Q prod prod' f g h a.1 b) refl
  where
    row : (g : Comb J) → Each (λ t. Q t.1) g → flat_map (λ t. scale (s.0 * t.0) (prod s.1 t.1)) g ≡ flat_map (λ t. scale (s.0 * t.0) (prod' s.1 t.1)) g
    row [] b = refl
    row (t ∷ g) b = rw (h s.1 t.1 a.0 b.0, row g b.1) refl

get-past : (ms : List Tree) (k : ℕ) (d : Tree) → length ms ≤ k → get_or ms k d ≡ d
get-past [] k d l = refl
get-past (m ∷ ms) zero d l = absurd (omega arith)
get-past (m ∷ ms) (suc k) d l = get-past ms k d (omega arith)

module _ (p : ℕ) (fs : List Form) (Within Basis : Tree → Type 0) (entry entry' : Tree → Tree → Poly) (table : IsTable p fs Within Basis entry)
    (agree : (b c : Tree) → Basis b → Basis c → Within (node b c) → entry b c ≡ entry' b c) (ms : List Tree) (basis : Each Basis ms) where
  abbrev at_places : ℕ → Poly
  at_places k = unit (get_or ms k (leaf k))

  -- what the value of a monomial at basis monomials is a combination of
  value-parts : (m : Tree) → Within (fill ms m) → Each (λ t. IsPart Basis (fill ms m) t.1) (evaluate entry at_places m)
  value-parts (leaf k) w = elim (cases_lt k (length ms)) [
    | inl l ↦ (record { basis = each-at Basis ms k (leaf k) basis l; type = type-itself (get_or ms k (leaf k)) }, tt)
    | inr g ↦ (
        let e : get_or ms k (leaf k) ≡ leaf k = get-past ms k (leaf k) g in
        let b : Basis (get_or ms k (leaf k)) = subst Basis (sym e) (table.generators k (subst Within e w)) in
        (record { basis = b; type = type-itself (get_or ms k (leaf k)) }, tt))
  ]
  value-parts (node l r) w =
      each-multiply (IsPart Basis (fill ms l)) (IsPart Basis (fill ms r)) (IsPart Basis (node (fill ms l) (fill ms r))) entry _ _ (λ x y h k.
      let t : SameType (node x y) (node (fill ms l) (fill ms r)) = type-node h.type k.type in
      each-from _ _ (entry x y) (λ s q. record { basis = q.basis; type = type-joined q.type t })
      (table.entries x y h.basis k.basis (table.closed.respects (node (fill ms l) (fill ms r)) (node x y) (type-turned t) w)).parts)
      (value-parts l (table.closed.left (fill ms l) (fill ms r) w)) (value-parts r (table.closed.right (fill ms l) (fill ms r) w))

  value-agree : (m : Tree) → Within (fill ms m) → evaluate entry at_places m ≡ evaluate entry' at_places m
  value-agree (leaf k) w = refl
  value-agree (node l r) w =
      let wl : Within (fill ms l) = table.closed.left (fill ms l) (fill ms r) w in
      let wr : Within (fill ms r) = table.closed.right (fill ms l) (fill ms r) w in
      multiply-agree (IsPart Basis (fill ms l)) (IsPart Basis (fill ms r)) entry entry' (evaluate entry at_places l) (evaluate entry at_places r)
      (λ x y h k. agree x y h.basis k.basis (table.closed.respects (node (fill ms l) (fill ms r)) (node x y) (type-turned (type-node h.type k.type)) w))
      (value-parts l wl) (value-parts r wr)
      ∙ ap (λ f. multiply entry' f (evaluate entry at_places r)) (value-agree l wl)
      ∙ ap (λ f. multiply entry' (evaluate entry' at_places l) f) (value-agree r wr)

  image-agree : (m : Tree) → IsNext Within (fill ms m) → image node entry at_places m ≡ image node entry' at_places m
  image-agree (leaf k) n = refl
  image-agree (node l r) n = ap (λ f. outer node f (evaluate entry at_places r)) (value-agree l n.0) ∙ ap (λ f. outer node (evaluate entry' at_places l) f) (value-agree r n.1)

  pub row-agree : (ts : Poly) → Each (λ s. IsNext Within s.1) (reindex (fill ms) ts) → spread (image node entry at_places) ts ≡ spread (image node entry' at_places) ts
  row-agree [] a = refl
  row-agree (t ∷ ts) a = ap (λ f. scale t.0 f ++ spread (image node entry at_places) ts) (image-agree t.1 a.0)
      ∙ ap (λ f. scale t.0 (image node entry' at_places t.1) ++ f) (row-agree ts a.1)

module _ (p : ℕ) (pos : 0 < p) (fs : List Form) (multi : AreMultilinear fs) (high : AreHigh fs) (target : List ℕ) (d : ℕ) (big : 1 ≤ d)
    (entry entry' : Tree → Tree → Poly) (table : IsTable p fs (IsWithinDegree target d) (IsBasisTo p fs target d) entry)
    (agree : (b c : Tree) → IsBasisTo p fs target d b → IsBasisTo p fs target d c → IsWithinDegree target d (node b c) → entry b c ≡ entry' b c)
    (t : List ℕ) (ty : IsTypeTo target (d + 1) t) (next : sum t ≡ d + 1) where
  -- the row of an instance of the type is the same
  pub tuple-agree : (name : ℕ × List Tree) → IsTupleAt p fs target d t name → tuple_row fs entry name ≡ tuple_row fs entry' name
  unfolding tuple_instance
  tuple-agree name h =
      row-agree p fs (IsWithinDegree target d) (IsBasisTo p fs target d) entry entry' table agree name.1 h.basis (form_at fs name.0).terms
      (each-from _ _ (reindex (fill name.1) (form_at fs name.0).terms)
      (λ s o. (within-block target d s.1 big (of_type-within target (d + 1) t s.1 ty o) (of_type-degree t s.1 o ∙ next)).next s.1 (type-itself s.1))
      (instance-types p pos fs multi high target d big entry table t ty next name h))

-- a right table is right to each smaller degree
module _ (p : ℕ) (fs : List Form) (target : List ℕ) where
  pub basis-more : (d e : ℕ) → d ≤ e → (b : Tree) → IsBasisTo p fs target d b → IsBasisTo p fs target e b
  basis-more d e l b h = record { within = record { below = h.within.below; type = h.within.type; degree = omega (arith, h.within.degree) }; normal = h.normal }

  pub right-lower : (d e : ℕ) → d ≤ e → (basis : List ℕ → List Tree) (entry : Tree → Tree → Poly) → IsRight p fs target e basis entry → IsRight p fs target d basis entry
  right-lower d e l basis entry r = record {
    bases = λ t ty. r.bases t (record { counts = ty.counts; le = ty.le; degree = omega (arith, ty.degree) });
    entries = λ b c hb hc w.
        let s = r.entries b c (basis-more d e l b hb) (basis-more d e l c hc) (record { below = w.below; type = w.type; degree = omega (arith, w.degree) }) in
        record {
          parts = each-from _ _ (entry b c) (λ t k. record { basis = record { within = within-same target d (node b c) t.1 (type-turned k.type) w; normal = k.basis.normal }; type = k.type }) s.parts;
          congruent = s.congruent;
        };
  }
