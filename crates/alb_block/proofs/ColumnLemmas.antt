-- The columns of a type are its products of two basis monomials, descending.
use Rattle.std.proofs.Common.{◌≡◌, ℕ, zero, suc, ◌+◌, ◌-◌, ◌<◌, ◌≤◌, true, List, [], ◌∷◌, map, length, sym, refl, ap, ◌∙◌, subst, arith, sum}
use Rattle.std.specs.Ordering.{flip_args}
use Rattle.std.specs.declared.cmp.Ordering.{Ordering}
use Rattle.std.specs.declared.cmp.Ordering.TheVariants.{Less}
use Rattle.alb_mono.specs.Listing.{Each, IsIn, Ascends}
use Rattle.alb_mono.specs.Tree.{Tree, node, degree, type_of, type_plus, cmp_types, cmp_trees, are_below, AreBelow, rising, splits, IsSplit}
use Rattle.alb_mono.proofs.ListingLemmas.{each-member, each-map, ascends-append, in-map}
use Rattle.alb_mono.proofs.Leaves.{below_from_test, length-type_of, sum-type_of}
use Rattle.alb_mono.proofs.TypesListing.{splits-listing}
use Rattle.alb_poly.specs.Instance.{Form}
use Rattle.alb_table.specs.Table.{PartView, first_of, dim_of, elems, monos, mono_at, rectangle, products, products_of, Table, IsTable}
use Rattle.alb_table.specs.Right.{IsOfType, IsRight, IsTypeTo}
use Rattle.alb_table.specs.RightTable.{basis_monos, mono_entry}
use Rattle.alb_table.specs.Block.{IsColumnAt}
use Rattle.alb_table.specs.Columns.{AreColumns}
use Rattle.alb_table.proofs.Types.{type-listed}
use Rattle.alb_table.proofs.Within.{of_type-same, degree-positive}
use Rattle.alb_table.proofs.RangeLemmas.{InRange, type_of_range, product_of, product_in, rising_bounds}
use Rattle.alb_table.proofs.RightTables.{length-monos, number-type, number-basis, basis-number, numbers-ascend, type-to}
use Rattle.alb_block.specs.Instances.{columns_of}
use Rattle.alb_block.specs.Meaning.{column_monos}
use Rattle.alb_table.proofs.TableLemmas.{each-in}
use Rattle.alb_block.proofs.ListLemmas.{in-reverse, each-reverse, descends, sorted-from, contains-in, ascends-mapped, in-parts, in-mapped}
use Rattle.alb_block.proofs.OrderLemmas.{types-order, less-by-type, less-by-left, less-by-right}
use Rattle.alb_poly.proofs.Falling.{type_of-node}

-- the product of a pair of numbers
abbrev pub pair_mono : List PartView → ℕ × ℕ → Tree
pair_mono parts q = node (mono_at parts q.0) (mono_at parts q.1)

abbrev by_mono : List PartView → ℕ × ℕ → ℕ × ℕ → Ordering
by_mono parts q r = cmp_trees (pair_mono parts q) (pair_mono parts r)

module _ (fs : List Form) (t : Table) (tab : IsTable t) (right : IsRight t.p fs t.target t.degree (basis_monos t.parts) (mono_entry t.parts))
    (small : length t.target ≤ 26) where
  range-type : (w : List ℕ) (b : ℕ) → InRange t.parts w b → IsOfType w (mono_at t.parts b)
  range-type w b r = let h = type_of_range t.parts w b r in subst (λ u. IsOfType u (mono_at t.parts b)) h.1 (number-type fs t tab right b h.0)

  range-to : (w : List ℕ) (b : ℕ) → InRange t.parts w b → IsTypeTo t.target t.degree w
  range-to w b r = let h = type_of_range t.parts w b r in subst (IsTypeTo t.target t.degree) h.1 (type-to fs t tab right b h.0)

  -- in one type
  same-26 : (w : List ℕ) (a b : ℕ) → InRange t.parts w a → InRange t.parts w b → type_of 26 (mono_at t.parts a) ≡ type_of 26 (mono_at t.parts b)
  same-26 w a b r s = type-listed 26 (mono_at t.parts a) (mono_at t.parts b) (of_type-same w (mono_at t.parts a) (mono_at t.parts b) (range-type w a r) (range-type w b s))

  less-26 : (u w : List ℕ) (a b : ℕ) → InRange t.parts u a → InRange t.parts w b → cmp_types u w ≡ Less
      → cmp_types (type_of 26 (mono_at t.parts a)) (type_of 26 (mono_at t.parts b)) ≡ Less
  less-26 u w a b r s h =
      let n : ℕ = length t.target in
      let x : Tree = mono_at t.parts a in
      let y : Tree = mono_at t.parts b in
      let lu : length u ≡ n = (range-to u a r).counts in
      let lw : length w ≡ n = (range-to w b s).counts in
      let bx : AreBelow n x = subst (λ k. AreBelow k x) lu (below_from_test (length u) x (range-type u a r).below) in
      let by : AreBelow n y = subst (λ k. AreBelow k y) lw (below_from_test (length w) y (range-type w b s).below) in
      let ex : type_of n x ≡ u = ap (λ k. type_of k x) (sym lu) ∙ (range-type u a r).counts in
      let ey : type_of n y ≡ w = ap (λ k. type_of k y) (sym lw) ∙ (range-type w b s).counts in
      let wide : n + (26 - n) ≡ 26 = omega arith in
      ap (λ k. cmp_types (type_of k x) (type_of k y)) (sym wide) ∙ types-order n (26 - n) x y bx by
      ∙ ap (λ z. cmp_types z (type_of n y)) ex ∙ ap (cmp_types u) ey ∙ h

  -- the products of one left factor ascend
  row-ascends : (w u : List ℕ) (b k n : ℕ) → first_of t.parts u ≤ k → k + n ≤ first_of t.parts u + dim_of t.parts u →
      Ascends (by_mono t.parts) (map (λ c. (b, c)) (rising k n))
  row-ascends w u b k zero low high = tt
  row-ascends w u b k (suc n) low high = (
    each-map (λ q. by_mono t.parts (b, k) q ≡ Less) (λ c. (b, c)) (rising (suc k) n) (each-in (λ c. by_mono t.parts (b, k) (b, c) ≡ Less) (rising (suc k) n) (λ c m.
        let i = rising_bounds (suc k) n c m in
        let rk : InRange t.parts u k = record { low = low; high = omega (arith, i.0, i.1) } in
        let rc : InRange t.parts u c = record { low = omega (arith, i.0); high = omega (arith, i.1) } in
        less-by-right (mono_at t.parts b) (mono_at t.parts k) (mono_at t.parts c)
        (numbers-ascend fs t tab right u k c (range-to u k rk) rk rc (omega (arith, i.0))))),
    row-ascends w u b (suc k) n (omega arith) (omega arith),
  )

  -- the products of two types ascend
  rectangle-ascends : (w u : List ℕ) (k n : ℕ) → first_of t.parts w ≤ k → k + n ≤ first_of t.parts w + dim_of t.parts w →
      Ascends (by_mono t.parts) (rectangle k n (first_of t.parts u) (dim_of t.parts u))
  rectangle-ascends w u k zero low high = tt
  rectangle-ascends w u k (suc n) low high =
      let f : ℕ = first_of t.parts u in
      let m : ℕ = dim_of t.parts u in
      ascends-append (by_mono t.parts) (map (λ j. (k, j)) (rising f m)) (rectangle (suc k) n f m)
      (row-ascends w u k f m (omega arith) (omega arith)) (rectangle-ascends w u (suc k) n (omega arith) (omega arith))
      (each-in (λ q. Each (λ r. by_mono t.parts q r ≡ Less) (rectangle (suc k) n f m)) (map (λ j. (k, j)) (rising f m)) (λ q a.
      each-in (λ r. by_mono t.parts q r ≡ Less) (rectangle (suc k) n f m) (λ r z. cross q r a z)))
    where
      cross : (q r : ℕ × ℕ) → IsIn q (map (λ j. (k, j)) (rising (first_of t.parts u) (dim_of t.parts u)))
          → IsIn r (rectangle (suc k) n (first_of t.parts u) (dim_of t.parts u)) → by_mono t.parts q r ≡ Less
      cross q r a z =
          let x = in-mapped (λ j. (k, j)) q (rising (first_of t.parts u) (dim_of t.parts u)) a in
          let y = in-parts (λ i. map (λ j. (i, j)) (rising (first_of t.parts u) (dim_of t.parts u))) r (rising (suc k) n) z in
          let v = in-mapped (λ j. (y.0, j)) r (rising (first_of t.parts u) (dim_of t.parts u)) y.2 in
          let i = rising_bounds (suc k) n y.0 y.1 in
          let rk : InRange t.parts w k = record { low = low; high = omega (arith, i.0, i.1, high) } in
          let ri : InRange t.parts w y.0 = record { low = omega (arith, i.0, low); high = omega (arith, i.1, high) } in
          let less : by_mono t.parts (k, x.0) (y.0, v.0) ≡ Less =
          less-by-left (mono_at t.parts k) (mono_at t.parts x.0) (mono_at t.parts y.0) (mono_at t.parts v.0) (same-26 w k y.0 rk ri)
          (numbers-ascend fs t tab right w k y.0 (range-to w k rk) rk ri (omega (arith, i.0))) in
          subst (λ z. by_mono t.parts z r ≡ Less) (sym x.2) (subst (λ z. by_mono t.parts (k, x.0) z ≡ Less) (sym v.2) less)

  abbrev split_products : List ℕ × List ℕ → List (ℕ × ℕ)
  split_products s = rectangle (first_of t.parts s.0) (dim_of t.parts s.0) (first_of t.parts s.1) (dim_of t.parts s.1)

  -- where the numbers of a product of two types stand
  split-ranges : (s : List ℕ × List ℕ) (q : ℕ × ℕ) → IsIn q (split_products s) → InRange t.parts s.0 q.0 × InRange t.parts s.1 q.1
  split-ranges s q h =
      let y = in-parts (λ i. map (λ j. (i, j)) (rising (first_of t.parts s.1) (dim_of t.parts s.1))) q (rising (first_of t.parts s.0) (dim_of t.parts s.0)) h in
      let v = in-mapped (λ j. (y.0, j)) q (rising (first_of t.parts s.1) (dim_of t.parts s.1)) y.2 in
      let i = rising_bounds (first_of t.parts s.0) (dim_of t.parts s.0) y.0 y.1 in
      let j = rising_bounds (first_of t.parts s.1) (dim_of t.parts s.1) v.0 v.1 in
      let both : InRange t.parts s.0 y.0 × InRange t.parts s.1 v.0 = (record { low = i.0; high = i.1 }, record { low = j.0; high = j.1 }) in
      subst (λ z. InRange t.parts s.0 z.0 × InRange t.parts s.1 z.1) (sym v.2) both

  splits-ascend : (ss : List (List ℕ × List ℕ)) → Ascends (λ q r. cmp_types q.0 r.0) ss → Ascends (by_mono t.parts) (products_of t.parts ss)
  splits-ascend [] a = tt
  splits-ascend (s ∷ ss) a =
      ascends-append (by_mono t.parts) (split_products s) (products_of t.parts ss)
      (rectangle-ascends s.0 s.1 (first_of t.parts s.0) (dim_of t.parts s.0) (omega arith) (omega arith)) (splits-ascend ss a.1)
      (each-in (λ q. Each (λ r. by_mono t.parts q r ≡ Less) (products_of t.parts ss)) (split_products s) (λ q h.
      each-in (λ r. by_mono t.parts q r ≡ Less) (products_of t.parts ss) (λ r z.
      let w = in-parts split_products r ss z in
      less-by-type (mono_at t.parts q.0) (mono_at t.parts q.1) (mono_at t.parts r.0) (mono_at t.parts r.1)
      (less-26 s.0 w.0.0 q.0 r.0 (split-ranges s q h).0 (split-ranges w.0 r w.2).0 (each-member (λ u. cmp_types s.0 u.0 ≡ Less) ss w.0 a.0 w.1)))))

  products-ascend : (w : List ℕ) → Ascends (by_mono t.parts) (products t.parts w)
  products-ascend w = splits-ascend (splits w) (splits-listing w).ascends

  -- a product is a column
  product-column : (w : List ℕ) (q : ℕ × ℕ) → length w ≡ length t.target → IsIn q (products t.parts w) → IsColumnAt t.p fs t.target t.degree w (pair_mono t.parts q)
  product-column w q e h =
      let k = product_of t.parts w q.0 q.1 h in
      let x : Tree = mono_at t.parts q.0 in
      let y : Tree = mono_at t.parts q.1 in
      let ox : IsOfType k.left x = range-type k.left q.0 k.left_range in
      let oy : IsOfType k.right y = range-type k.right q.1 k.right_range in
      let bx : are_below (length w) x ≡ true = subst (λ n. are_below n x ≡ true) k.split.long ox.below in
      let by : are_below (length w) y ≡ true = subst (λ n. are_below n y ≡ true) k.split.long_right oy.below in
      let tx : type_of (length w) x ≡ k.left = ap (λ n. type_of n x) (sym k.split.long) ∙ ox.counts in
      let ty : type_of (length w) y ≡ k.right = ap (λ n. type_of n y) (sym k.split.long_right) ∙ oy.counts in
      record {
        left = x;
        right = y;
        product = refl;
        left_basis = number-basis fs t tab right q.0 (type_of_range t.parts k.left q.0 k.left_range).0;
        right_basis = number-basis fs t tab right q.1 (type_of_range t.parts k.right q.1 k.right_range).0;
        type = record {
          below = rw (bx, by) refl;
          counts = type_of-node (length w) x y ∙ ap (λ z. type_plus z (type_of (length w) y)) tx ∙ ap (type_plus k.left) ty ∙ k.split.both;
        };
      }

  -- and each column is a product
  column-product : (w : List ℕ) (m : Tree) → length w ≡ length t.target → IsColumnAt t.p fs t.target t.degree w m
      → (q : ℕ × ℕ) × IsIn q (products t.parts w) × (pair_mono t.parts q ≡ m)
  column-product w m e h =
      let n : ℕ = length t.target in
      let b = basis-number fs t tab right h.left h.left_basis in
      let c = basis-number fs t tab right h.right h.right_basis in
      let o : IsOfType w (node h.left h.right) = subst (IsOfType w) h.product h.type in
      let sum_is : type_plus (type_of n h.left) (type_of n h.right) ≡ w =
      sym (type_of-node n h.left h.right) ∙ ap (λ k. type_of k (node h.left h.right)) (sym e) ∙ o.counts in
      let split : IsSplit w (type_of n h.left, type_of n h.right) = record {
        long = length-type_of n h.left ∙ sym e;
        long_right = length-type_of n h.right ∙ sym e;
        left = (let d : sum (type_of n h.left) ≡ degree h.left = sum-type_of n h.left h.left_basis.within.below in omega (arith, d, degree-positive h.left));
        right = (let d : sum (type_of n h.right) ≡ degree h.right = sum-type_of n h.right h.right_basis.within.below in omega (arith, d, degree-positive h.right));
        both = sum_is;
      } in (
        (b.0, c.0),
        product_in t.parts b.0 c.0 w (type_of n h.left) (type_of n h.right) split b.3 c.3,
        ap (λ x. node x (mono_at t.parts c.0)) b.2 ∙ ap (node h.left) c.2 ∙ sym h.product,
      )

  -- THE COLUMNS
  pub columns-are : (w : List ℕ) → length w ≡ length t.target → AreColumns (IsColumnAt t.p fs t.target t.degree w) (column_monos t.parts w)
  columns-are w e = record {
    descends = sorted-from (flip_args cmp_trees) (column_monos t.parts w)
        (ascends-mapped (flip_args cmp_trees) (pair_mono t.parts) (columns_of t.parts w) (descends (by_mono t.parts) (products t.parts w) (products-ascend w)));
    columns = each-map (IsColumnAt t.p fs t.target t.degree w) (pair_mono t.parts) (columns_of t.parts w)
        (each-reverse (λ q. IsColumnAt t.p fs t.target t.degree w (pair_mono t.parts q)) (products t.parts w)
        (each-in (λ q. IsColumnAt t.p fs t.target t.degree w (pair_mono t.parts q)) (products t.parts w) (λ q h. product-column w q e h)));
    whole = λ m h.
        let q = column-product w m e h in
        contains-in m (column_monos t.parts w) (subst (λ x. IsIn x (column_monos t.parts w)) q.2
        (in-map (pair_mono t.parts) q.0 (columns_of t.parts w) (in-reverse q.0 (products t.parts w) q.1)));
  }

  -- their factors are numbers of the table
  pub columns-in : (w : List ℕ) → Each (λ q. q.0 < length (monos t.parts) × q.1 < length (monos t.parts)) (columns_of t.parts w)
  columns-in w = each-reverse (λ q. q.0 < length (monos t.parts) × q.1 < length (monos t.parts)) (products t.parts w)
      (each-in (λ q. q.0 < length (monos t.parts) × q.1 < length (monos t.parts)) (products t.parts w) (λ q h.
      let k = product_of t.parts w q.0 q.1 h in
      let e : length (monos t.parts) ≡ length (elems t.parts) = length-monos t.parts in
      let a : q.0 < length (elems t.parts) = (type_of_range t.parts k.left q.0 k.left_range).0 in
      let b : q.1 < length (elems t.parts) = (type_of_range t.parts k.right q.1 k.right_range).0 in
      (omega (arith, a, e), omega (arith, b, e))))
