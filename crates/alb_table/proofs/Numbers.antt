-- Values by numbers of basis elements are values by the elements.
use Rattle.std.proofs.Common.{◌≡◌, ℕ, zero, suc, ◌*◌, ◌<◌, ◌≤◌, false, List, [], ◌∷◌, ◌++◌, length, refl, ap, ◌∙◌, arith, Bool, inl, inr}
use Rattle.std.specs.List.{flat_map, IsDistinct, AllByRecursion}
use Rattle.std.proofs.lemmas.List.{map-append, get_or_append_left}
use Rattle.std.proofs.lemmas.Bool.{cases_Bool}
use Rattle.alb_mono.specs.Tree.{Tree, leaf, node, same_tree, AreBelow}
use Rattle.gf_sums.specs.Sums.{Comb, scale, reindex, multiply, coefficient}
use Rattle.alb_poly.specs.Textbook.{evaluate, evaluate_poly, unit}
use Rattle.alb_poly.specs.Poly.{Poly}
use Rattle.alb_poly.specs.Instance.{Form, IsMultilinearForm}
use Rattle.alb_mono.specs.Listing.{Each}
use Rattle.alb_poly.proofs.Multilinear.{each-from, multilinear-below}
use Rattle.alb_poly.proofs.Consequence.{tree_tells}
use Rattle.alb_table.specs.Right.{poly_value, basis_mono, place_of, entry_by}
use Rattle.alb_table.specs.Block.{image, spread, form_row}
use Rattle.alb_table.proofs.Values.{each-multiply}

-- the monomials differ, entries have numbers of basis monomials, and the first `n` basis monomials are the generators
pub record IsNumbered (n : ℕ) (monos : List Tree) (product : ℕ → ℕ → Comb ℕ) : Type 0 where
  pub different : IsDistinct same_tree monos
  pub entries : (b c : ℕ) → b < length monos → c < length monos → Each (λ t. t.1 < length monos) (product b c)
  pub many : n ≤ length monos
  pub generators : (k : ℕ) → k < n → basis_mono monos k ≡ leaf k

reindex-scale : {I J : Type 0} (h : I → J) (c : ℕ) (f : Comb I) → reindex h (scale c f) ≡ scale c (reindex h f)
reindex-scale h c [] = refl
reindex-scale h c (t ∷ f) = ap (λ ys. (c * t.0, h t.1) ∷ ys) (reindex-scale h c f)

-- a map of indices that respects products
module _ {I J K I' J' K' : Type 0} (P : I → Type 0) (Q : J → Type 0) (h : I → I') (g : J → J') (r : K → K') (prod : I → J → Comb K) (prod' : I' → J' → Comb K')
    (respects : (i : I) (j : J) → P i → Q j → reindex r (prod i j) ≡ prod' (h i) (g j)) where
  multiply-one : (c : ℕ) (i : I) (v : Comb J) → P i → Each (λ t. Q t.1) v →
      reindex r (flat_map (λ t. scale (c * t.0) (prod i t.1)) v) ≡ flat_map (λ t. scale (c * t.0) (prod' (h i) t.1)) (reindex g v)
  multiply-one c i [] a b = refl
  multiply-one c i (t ∷ v) a b =
      map-append _ (scale (c * t.0) (prod i t.1)) (flat_map (λ t. scale (c * t.0) (prod i t.1)) v)
      ∙ rw (reindex-scale r (c * t.0) (prod i t.1), respects i t.1 a b.0, multiply-one c i v a b.1)

  pub multiply-reindex : (u : Comb I) (v : Comb J) → Each (λ t. P t.1) u → Each (λ t. Q t.1) v → reindex r (multiply prod u v) ≡ multiply prod' (reindex h u) (reindex g v)
  multiply-reindex [] v a b = refl
  multiply-reindex (s ∷ u) v a b =
      map-append _ (flat_map (λ t. scale (s.0 * t.0) (prod s.1 t.1)) v) (multiply prod u v)
      ∙ rw (multiply-one s.0 s.1 v a.0 b, multiply-reindex u v a.1 b)

module _ {I J : Type 0} (P : I → Type 0) (h : I → J) (prod : I → I → Comb I) (prod' : J → J → Comb J)
    (closed : (i j : I) → P i → P j → Each (λ t. P t.1) (prod i j)) (respects : (i j : I) → P i → P j → reindex h (prod i j) ≡ prod' (h i) (h j))
    (v : ℕ → Comb I) (v' : ℕ → Comb J) (n : ℕ) (known : (k : ℕ) → k < n → Each (λ t. P t.1) (v k)) (equal : (k : ℕ) → k < n → reindex h (v k) ≡ v' k) where
  pub evaluate-each : (m : Tree) → AreBelow n m → Each (λ t. P t.1) (evaluate prod v m)
  evaluate-each (leaf k) b = known k b
  evaluate-each (node l r) b = each-multiply P P P prod (evaluate prod v l) (evaluate prod v r) closed (evaluate-each l b.0) (evaluate-each r b.1)

  -- the value of a monomial
  pub evaluate-reindex : (m : Tree) → AreBelow n m → reindex h (evaluate prod v m) ≡ evaluate prod' v' m
  evaluate-reindex (leaf k) b = equal k b
  evaluate-reindex (node l r) b =
      multiply-reindex P P h h h prod prod' respects (evaluate prod v l) (evaluate prod v r) (evaluate-each l b.0) (evaluate-each r b.1)
      ∙ rw (evaluate-reindex l b.0, evaluate-reindex r b.1)

  -- the value of a polynomial
  pub poly-reindex : (g : Poly) → Each (λ t. AreBelow n t.1) g → reindex h (evaluate_poly prod v g) ≡ evaluate_poly prod' v' g
  poly-reindex [] a = refl
  poly-reindex (t ∷ g) a =
      map-append _ (scale t.0 (evaluate prod v t.1)) (evaluate_poly prod v g)
      ∙ rw (reindex-scale h t.0 (evaluate prod v t.1), evaluate-reindex t.1 a.0, poly-reindex g a.1)

  -- the image of a monomial over pairs
  module _ {K K' : Type 0} (pair : I → I → K) (pair' : J → J → K') (r : K → K') (pairs : (i j : I) → r (pair i j) ≡ pair' (h i) (h j)) where
    pub image-reindex : (m : Tree) → AreBelow n m → reindex r (image pair prod v m) ≡ image pair' prod' v' m
    image-reindex (leaf k) b = refl
    image-reindex (node a c) b =
        multiply-reindex P P h h r (λ i j. (1, pair i j) ∷ []) (λ i j. (1, pair' i j) ∷ []) (λ i j p q. ap (λ k. (1, k) ∷ []) (pairs i j))
        (evaluate prod v a) (evaluate prod v c) (evaluate-each a b.0) (evaluate-each c b.1)
        ∙ rw (evaluate-reindex a b.0, evaluate-reindex c b.1)

    -- the sum of the images at vectors
    pub images-reindex : (f : Poly) → Each (λ t. AreBelow n t.1) f → reindex r (spread (image pair prod v) f) ≡ spread (image pair' prod' v') f
    images-reindex [] a = refl
    images-reindex (t ∷ f) a =
        map-append _ (scale t.0 (image pair prod v t.1)) (spread (image pair prod v) f)
        ∙ rw (reindex-scale r t.0 (image pair prod v t.1), image-reindex t.1 a.0, images-reindex f a.1)

-- ---- a table over numbers

different-head : (m : Tree) (ms : List Tree) (j : ℕ) → AllByRecursion (λ y. same_tree m y ≡ false) ms → j < length ms → same_tree m (basis_mono ms j) ≡ false
different-head m [] j a h = absurd (omega arith)
different-head m (x ∷ ms) zero a h = a.0
different-head m (x ∷ ms) (suc j) a h = different-head m ms j a.1 (omega arith)

-- the place of a basis monomial is its number
pub place-mono : (monos : List Tree) (b : ℕ) → IsDistinct same_tree monos → b < length monos → place_of monos (basis_mono monos b) ≡ b
unfolding IsDistinct
place-mono [] b d h = absurd (omega arith)
place-mono (m ∷ ms) zero d h = rw (tree_tells.whole m)
place-mono (m ∷ ms) (suc b) d h =
    let k : b < length ms = omega arith in
    rw (different-head m ms b d.0 k) (ap suc (place-mono ms b d.1 k))

module _ (n : ℕ) (monos : List Tree) (product : ℕ → ℕ → Comb ℕ) (numbered : IsNumbered n monos product) where
  pub entry-respects : (i j : ℕ) → i < length monos → j < length monos → reindex (basis_mono monos) (product i j) ≡ entry_by monos product (basis_mono monos i) (basis_mono monos j)
  entry-respects i j h k = rw (place-mono monos i numbered.different h, place-mono monos j numbered.different k)

  -- the value over numbers is the value over monomials
  pub value-by_numbers : (g : Poly) → Each (λ t. AreBelow n t.1) g → reindex (basis_mono monos) (evaluate_poly product (λ k. unit k) g) ≡ poly_value (entry_by monos product) g
  value-by_numbers g a = poly-reindex (λ i. i < length monos) (basis_mono monos) product (entry_by monos product) numbered.entries entry-respects
      (λ k. unit k) (λ k. unit (leaf k)) n (λ k h. (let m = numbered.many in omega arith, tt)) (λ k h. ap unit (numbered.generators k h)) g a

  -- the row over pairs of numbers is the row over monomials
  pub row-by_numbers : (b : ℕ → ℕ) (f : Form) → IsMultilinearForm f → ((k : ℕ) → k < f.degree → b k < length monos) →
      reindex (λ (q : ℕ × ℕ). node (basis_mono monos q.0) (basis_mono monos q.1)) (form_row (λ i j. (i, j)) product b f)
      ≡ form_row node (entry_by monos product) (λ k. basis_mono monos (b k)) f
  row-by_numbers b f m h = images-reindex (λ i. i < length monos) (basis_mono monos) product (entry_by monos product) numbered.entries entry-respects
      (λ k. unit (b k)) (λ k. unit (basis_mono monos (b k))) f.degree (λ k l. (h k l, tt)) (λ k l. refl)
      (λ i j. (i, j)) node (λ (q : ℕ × ℕ). node (basis_mono monos q.0) (basis_mono monos q.1)) (λ i j. refl)
      f.terms (each-from _ _ f.terms (λ t q. multilinear-below f.degree t.1 q) m)

-- ---- a longer list of basis monomials

pub place-append : (monos news : List Tree) (x : Tree) → place_of monos x < length monos → place_of (monos ++ news) x ≡ place_of monos x
place-append [] news x h = absurd (omega arith)
place-append (m ∷ monos) news x h = elim (cases_Bool (same_tree m x)) [
  | inl e ↦ rw e
  | inr e ↦ rw e (ap suc (place-append monos news x (let k : suc (place_of monos x) < suc (length monos) = rw e at h in omega arith)))
]

reindex-longer : (monos news : List Tree) (f : Comb ℕ) → Each (λ t. t.1 < length monos) f → reindex (basis_mono (monos ++ news)) f ≡ reindex (basis_mono monos) f
reindex-longer monos news [] a = refl
reindex-longer monos news (t ∷ f) a = rw (get_or_append_left monos news (leaf 0) t.1 a.0, reindex-longer monos news f a.1)

-- the older entries over monomials stay
pub entry-longer : (monos news : List Tree) (product product' : ℕ → ℕ → Comb ℕ) (x y : Tree) → place_of monos x < length monos → place_of monos y < length monos →
    product' (place_of monos x) (place_of monos y) ≡ product (place_of monos x) (place_of monos y) →
    Each (λ t. t.1 < length monos) (product (place_of monos x) (place_of monos y)) → entry_by (monos ++ news) product' x y ≡ entry_by monos product x y
entry-longer monos news product product' x y h k e a =
    rw (place-append monos news x h, place-append monos news y k, e) (reindex-longer monos news (product (place_of monos x) (place_of monos y)) a)

-- ---- coefficients

-- the coefficient at the image of an index, under a map that keeps indices apart
pub coefficient-reindex : {I J : Type 0} (P : I → Type 0) (here : I → I → Bool) (there : J → J → Bool) (h : I → J) →
    ((i j : I) → P i → P j → there (h i) (h j) ≡ here i j) → (f : Comb I) (i : I) → P i → Each (λ t. P t.1) f →
    coefficient there (reindex h f) (h i) ≡ coefficient here f i
coefficient-reindex P here there h apart [] i k a = refl
coefficient-reindex P here there h apart (t ∷ f) i k a = rw (apart t.1 i a.0 k, coefficient-reindex P here there h apart f i k a.1)
