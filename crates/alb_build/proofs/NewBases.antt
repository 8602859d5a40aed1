-- The bases of the types of the next degree are the normal products.
use Rattle.std.proofs.Common.{◌≡◌, ℕ, ◌+◌, ◌-◌, ◌<◌, ◌≤◌, true, false, List, ◌++◌, map, length, get_or, reverse, sym, ap, ◌∙◌, subst, arith}
use Rattle.std.specs.List.{Contains}
use Rattle.std.specs.Ordering.{flip_args}
use Rattle.std.specs.declared.cmp.Ordering.TheVariants.{Less}
use Rattle.std.proofs.lemmas.List.{length-reverse, reverse-reverse, length-map, get_or_default}
use Rattle.std.proofs.lemmas.Map.Keys.{Less-from_sorted}
use Rattle.alb_mono.specs.Listing.{IsIn}
use Rattle.alb_mono.specs.Tree.{Tree, leaf, node, cmp_trees, rising}
use Rattle.alb_poly.specs.Instance.{Form}
use Rattle.alb_rows.specs.Span as Vectors
use Rattle.alb_reduce.specs.Reduction.{kept}
use Rattle.alb_table.specs.declared.part.Elem.{Elem}
use Rattle.alb_table.specs.declared.part.Elem.TheVariants.{Prod}
use Rattle.alb_build.specs.Part.{elements_of}
use Rattle.alb_table.specs.Table as View
use Rattle.alb_table.specs.Table.{PartView, first_of, dim_of, elems, monos, mono_at, products, Table, IsTable, extended}
use Rattle.alb_table.specs.Block.{AreFreeAt}
use Rattle.alb_table.specs.RightTable.{basis_monos, mono_entry}
use Rattle.alb_table.proofs.MonoLemmas.{mono_step}
use Rattle.alb_table.proofs.GridLemmas.{get_some}
use Rattle.alb_table.proofs.RangeLemmas.{range_within, product_of, type_of_range}
use Rattle.alb_table.proofs.RightTables.{length-monos}
use Rattle.alb_block.specs.Meaning.{column_monos}
use Rattle.alb_table.proofs.TableLemmas.{each-in}
use Rattle.alb_block.proofs.ListLemmas.{sorted-from}
use Rattle.alb_block.proofs.MeaningLemmas.{block-basis}
use Rattle.alb_build.proofs.Blocks.{free_monos, free-each, free-ascends, free-contains, run-monos, map-elements, col-place}
use Rattle.alb_build.proofs.KeptParts.{mono-kept}
use Rattle.alb_build.proofs.Places.{HasPart}

-- a product as a monomial
abbrev pub pair_mono : List PartView → ℕ × ℕ → Tree
pair_mono parts q = node (mono_at parts q.0) (mono_at parts q.1)

module _ (fs : List Form) (t : Table) (new : List PartView) (tab : IsTable (extended t new)) (w : List ℕ) (h : HasPart fs t (t.parts ++ new) 0 w) where
  pub cols : reverse h.block.columns ≡ products t.parts w
  cols = ap reverse h.is_block.block.columns ∙ reverse-reverse (products t.parts w)

  pub wide_is : length h.block.columns ≡ length (products t.parts w)
  wide_is = ap length h.is_block.block.columns ∙ length-reverse (products t.parts w)

  pub free-long : length h.made.free ≡ length (products t.parts w)
  free-long = h.made.are_free.full ∙ wide_is

  pub pair-kept : (q : ℕ × ℕ) → IsIn q (products t.parts w) → View.mono_of (monos (t.parts ++ new)) (Prod q.0 q.1) ≡ pair_mono t.parts q
  pair-kept q i =
      let p = product_of t.parts w q.0 q.1 i in
      let a = (type_of_range t.parts p.left q.0 p.left_range).0 in
      let b = (type_of_range t.parts p.right q.1 p.right_range).0 in
      let m = length-monos t.parts in
      ap (λ x. node x (mono_at (t.parts ++ new) q.1)) (mono-kept t.parts new q.0 (omega arith)) ∙ ap (λ y. node (mono_at t.parts q.0) y) (mono-kept t.parts new q.1 (omega arith))

  pub step : (i : ℕ) (u : Elem) → i < length h.part.basis → mono_at (t.parts ++ new) (h.first + i) ≡ View.mono_of (monos (t.parts ++ new)) (get_or h.part.basis i u)
  step i u l =
      let r : first_of (t.parts ++ new) w + dim_of (t.parts ++ new) w ≤ length (elems (t.parts ++ new)) = range_within (t.parts ++ new) w in
      let f = h.first_is in let d = h.dim_is in
      let x : Elem = get_or h.part.basis i u in
      let k : h.first + i < length (elems (t.parts ++ new)) = omega arith in
      let g : get_or (elems (t.parts ++ new)) (h.first + i) x ≡ x = h.elements i x l ∙ get_or_default h.part.basis i x u l in
      mono_step (extended t new) (h.first + i) x tab k (get_some (elems (t.parts ++ new)) (h.first + i) x k (sym g))

  -- the basis of the type
  pub basis-is : basis_monos (t.parts ++ new) w ≡ free_monos (pair_mono t.parts) (products t.parts w) h.made.free
  basis-is =
      ap (λ n. map (mono_at (t.parts ++ new)) (rising n (dim_of (t.parts ++ new) w))) h.first_is
      ∙ ap (λ n. map (mono_at (t.parts ++ new)) (rising h.first n)) h.dim_is
      ∙ run-monos (mono_at (t.parts ++ new)) (View.mono_of (monos (t.parts ++ new))) h.first h.part.basis step
      ∙ ap (map (View.mono_of (monos (t.parts ++ new)))) (h.made.basis ∙ ap (λ qs. elements_of qs h.made.free) cols)
      ∙ map-elements (View.mono_of (monos (t.parts ++ new))) (pair_mono t.parts) (products t.parts w) h.made.free
      (each-in (λ (q : ℕ × ℕ). View.mono_of (monos (t.parts ++ new)) (Prod q.0 q.1) ≡ pair_mono t.parts q) (products t.parts w) pair-kept)

  pub long : length (column_monos t.parts w) ≡ length (products t.parts w)
  long = length-map (reverse (products t.parts w)) (pair_mono t.parts) ∙ length-reverse (products t.parts w)

  pub place-is : (k : ℕ) → k < length (products t.parts w) → get_or (column_monos t.parts w) (length (products t.parts w) - 1 - k) (leaf 0) ≡ pair_mono t.parts (get_or (products t.parts w) k (0, 0))
  place-is k l =
      let z : length (products t.parts w) - 1 - (length (products t.parts w) - 1 - k) ≡ k = omega arith in
      col-place (pair_mono t.parts) (products t.parts w) (length (products t.parts w) - 1 - k) (omega arith) ∙ ap (λ i. pair_mono t.parts (get_or (products t.parts w) i (0, 0))) z

  pub ascends : (k m : ℕ) → k < m → m < length (products t.parts w) →
      cmp_trees (pair_mono t.parts (get_or (products t.parts w) k (0, 0))) (pair_mono t.parts (get_or (products t.parts w) m (0, 0))) ≡ Less
  ascends k m l n =
      let i : ℕ = length (products t.parts w) - 1 - m in
      let j : ℕ = length (products t.parts w) - 1 - k in
      let c : cmp_trees (get_or (column_monos t.parts w) j (leaf 0)) (get_or (column_monos t.parts w) i (leaf 0)) ≡ Less =
      Less-from_sorted (flip_args cmp_trees) (column_monos t.parts w) i j (leaf 0) h.is_block.meaning.columns.descends (omega arith) (omega (arith, long)) in
      subst (λ x. cmp_trees x (pair_mono t.parts (get_or (products t.parts w) m (0, 0))) ≡ Less) (place-is k (omega arith))
      (subst (λ y. cmp_trees (get_or (column_monos t.parts w) j (leaf 0)) y ≡ Less) (place-is m n) c)

  -- a product that is true is no pivot, and the converse
  pub no-pivot : (k : ℕ) → k < length (products t.parts w) → get_or h.made.free k false ≡ true → Vectors.IsPivot t.p (kept h.block.reduced) (length (products t.parts w) - 1 - k) → ⊥
  no-pivot k l e v =
      (h.made.are_free.each k (omega (arith, l, wide_is))).0 e
      (subst (λ p. Vectors.IsPivot p (kept h.block.reduced) (length h.block.columns - 1 - k)) (sym h.is_block.block.field)
      (subst (λ n. Vectors.IsPivot t.p (kept h.block.reduced) (n - 1 - k)) (sym wide_is) v))

  pub is-free : (k : ℕ) → k < length (products t.parts w) → (Vectors.IsPivot t.p (kept h.block.reduced) (length (products t.parts w) - 1 - k) → ⊥) → get_or h.made.free k false ≡ true
  is-free k l n = (h.made.are_free.each k (omega (arith, l, wide_is))).1 (λ v. n
      (subst (λ m. Vectors.IsPivot t.p (kept h.block.reduced) (m - 1 - k)) wide_is
      (subst (λ p. Vectors.IsPivot p (kept h.block.reduced) (length h.block.columns - 1 - k)) h.is_block.block.field v)))

  -- THE BASIS of a new type
  pub new-basis : AreFreeAt t.p fs t.target t.degree (mono_entry t.parts) w (basis_monos (t.parts ++ new) w)
  new-basis = subst (AreFreeAt t.p fs t.target t.degree (mono_entry t.parts) w) (sym basis-is)
      (block-basis fs t w h.block.reduced h.block.origins h.is_block.meaning (free_monos (pair_mono t.parts) (products t.parts w) h.made.free)
      (sorted-from cmp_trees _ (free-ascends (pair_mono t.parts) (products t.parts w) h.made.free ascends))
      (free-each (pair_mono t.parts) _ (products t.parts w) h.made.free (λ k l e. (length (products t.parts w) - 1 - k, omega (arith, l, long), place-is k l, no-pivot k l e)))
      (λ j l n.
      let k : ℕ = length (products t.parts w) - 1 - j in
      let m : j < length (products t.parts w) = omega (arith, l, long) in
      let z : length (products t.parts w) - 1 - k ≡ j = omega arith in
      let e : get_or h.made.free k false ≡ true = is-free k (omega arith) (λ v. n (subst (Vectors.IsPivot t.p (kept h.block.reduced)) z v)) in
      subst (Contains (free_monos (pair_mono t.parts) (products t.parts w) h.made.free)) (sym (col-place (pair_mono t.parts) (products t.parts w) j m))
      (free-contains (pair_mono t.parts) (products t.parts w) h.made.free k (omega (arith, free-long)) (sym free-long) e)))
