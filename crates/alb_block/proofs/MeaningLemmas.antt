-- What a block says where the table is right.
use Rattle.std.proofs.Common.{◌≡◌, ℕ, zero, suc, ◌+◌, ◌%◌, ◌<◌, ◌≤◌, List, [], ◌∷◌, map, length, get_or, reverse, sym, refl, ap, ◌∙◌, subst, arith, inl, inr}
use Rattle.std.specs.Prelude.{◌↔◌}
use Rattle.std.specs.List.{Contains}
use Rattle.std.specs.List.Sorted.{IsStrictlySortedBy}
use Rattle.std.specs.Ordering.{flip_args}
use Rattle.std.specs.declared.cmp.Ordering.TheVariants.{Less}
use Rattle.std.proofs.lemmas.List.{length-reverse, length-map, get_or_default}
use Rattle.std.proofs.lemmas.Map.Keys.{Less-from_sorted}
use Rattle.gf_field.proofs.Mod.{same, ◌⊙◌}
use Rattle.gf_sums.proofs.Alike.{itself, turned}
use Rattle.alb_mono.specs.Listing.{Each, IsIn, Ascends}
use Rattle.alb_mono.specs.Tree.{Tree, leaf, cmp_trees, IsTypeWithin}
use Rattle.alb_mono.proofs.ListingLemmas.{each-map, each-member, each-weaker, in-map}
use Rattle.alb_poly.specs.Poly.{Poly}
use Rattle.alb_poly.specs.Instance.{Form, IsMultilinearForm}
use Rattle.alb_poly.specs.Consequence.{form_at, AreMultilinear}
use Rattle.alb_poly.proofs.Multilinear.{each-from}
use Rattle.alb_poly.proofs.Parts.{multilinear_at}
use Rattle.alb_rows.specs.Span as Vectors
use Rattle.alb_rows.specs.Span.{SameSpan, ArePivots}
use Rattle.alb_rows.proofs.SpanLemmas.{span_one, span_through, span_same}
use Rattle.alb_reduce.specs.Reduction.{Reduction, kept}
use Rattle.alb_table.specs.Table.{Table, IsTable}
use Rattle.alb_table.specs.Right.{IsZeroAt, IsNormal, AreHigh, IsBasisTo, IsRight, IsTypeTo, IsWithinDegree}
use Rattle.alb_table.specs.RightTable.{basis_monos, mono_entry, instance_at}
use Rattle.alb_table.specs.Block.{InNamedSpan, IsTupleAt, tuple_row, IsColumnAt, IsPivotAt, IsFreeAt, IsEntryAt, ArePivotsAt, AreOriginsAt, AreFreeAt, block_image}
use Rattle.alb_table.specs.Columns.{vector_of, AreColumns, col, HasElement, HaveSpan}
use Rattle.alb_table.proofs.Bases.{IsTable as IsTableOver}
use Rattle.alb_table.proofs.Spans.{span-alike, span-one, span-zero}
use Rattle.alb_table.proofs.Congruent.{difference-zero}
use Rattle.alb_poly.specs.Textbook.{unit}
use Rattle.alb_table.proofs.FirstLemmas.{few_generators}
use Rattle.alb_table.proofs.GeneratorLemmas.{above_one}
use Rattle.alb_table.proofs.Right.{right-table, element-columns_at, free-normal, normal-free, image-spans_at, span-image_at}
use Rattle.alb_table.proofs.Columns.{vector-alike, element-vector, vector-element, pivot-number, number-pivot, column-at, number}
use Rattle.alb_table.proofs.Block.{number-free, pivot-entry, origins-span}
use Rattle.alb_subst.specs.Sums.{instance_row}
use Rattle.alb_block.specs.Instances.{BlockSetting, IsInstance, columns_of, instance_vector, all_instances, listed_instances, AreOrigins}
use Rattle.alb_block.specs.Laws.{IsImageOf, RowsSpanImages}
use Rattle.alb_block.specs.Meaning.{column_monos, IsBlockAt}
use Rattle.alb_block.proofs.ColumnLemmas.{columns-are, columns-in}
use Rattle.alb_table.proofs.TableLemmas.{each-in}
use Rattle.alb_block.proofs.ListLemmas.{in-reverse, each-reverse, descends, sorted-from, contains-in, ascends-mapped, in_place, place_in}
use Rattle.alb_block.proofs.InstanceLemmas.{instance-tuple, tuple-instance, HasNumbers, numbers-each, row-monos, row-in, vector-pairs}

-- a span that is equal to one that the rows have is one that they have
have-same : {N K L : Type 0} (p : ℕ) (Named : N → Type 0) (row : N → Poly) (Column : Tree → Type 0) (cols : List Tree) (are : AreColumns Column cols)
    (f : K → ℕ → ℕ) (g : L → ℕ → ℕ) (span : HaveSpan p Named row cols f)
    (columns : (x : Poly) → InNamedSpan p Named row x → (m : Tree) → (IsZeroAt p x m → ⊥) → Column m) → SameSpan p g f → HaveSpan p Named row cols g
have-same p Named row Column cols are f g span columns s = record {
  into = λ k. vector-element p Named row Column cols are f span columns (g k) (s.into k);
  from = λ n h. span_through p f g (vector_of cols (row n)) s.back (span.from n h);
}

-- the rows of a list of instances, by their places
abbrev rows_at : BlockSetting → List (ℕ × List ℕ) → ℕ → ℕ → ℕ
rows_at s [] k j = 0
rows_at s (n ∷ ns) zero j = instance_vector s n j
rows_at s (n ∷ ns) (suc k) j = rows_at s ns k j

module _ (fs : List Form) (t : Table) (tab : IsTable t) (right : IsRight t.p fs t.target t.degree (basis_monos t.parts) (mono_entry t.parts))
    (multi : AreMultilinear fs) (high : AreHigh fs) (small : length t.target ≤ 26) (w : List ℕ) (ty : IsTypeWithin t.target (t.degree + 1) w) where
  abbrev here : BlockSetting
  here = record { p = t.p; forms = fs; parts = t.parts; at = w }

  abbrev cols : List Tree
  cols = column_monos t.parts w

  abbrev entries : Tree → Tree → Poly
  entries = mono_entry t.parts

  abbrev Named : ℕ × List Tree → Type 0
  Named name = IsTupleAt t.p fs t.target t.degree w name

  abbrev Column : Tree → Type 0
  Column m = IsColumnAt t.p fs t.target t.degree w m

  pos : 0 < t.p
  pos = omega (arith, above_one t tab)

  to : IsTypeTo t.target (t.degree + 1) w
  to = record { counts = ty.long; le = ty.within; degree = omega (arith, ty.degree) }

  over : IsTableOver t.p fs (IsWithinDegree t.target t.degree) (IsBasisTo t.p fs t.target t.degree) entries
  over = right-table t.p pos fs multi high t.target t.degree (basis_monos t.parts) entries right

  are : AreColumns Column cols
  are = columns-are fs t tab right small w ty.long

  columns : (x : Poly) → InNamedSpan t.p Named (tuple_row fs entries) x → (m : Tree) → (IsZeroAt t.p x m → ⊥) → Column m
  columns x s m n = element-columns_at t.p pos fs multi high t.target t.degree tab.started entries over w to ty.degree x s m n

  -- the rows over numbers and over monomials have one vector
  row-vector : (name : ℕ × List ℕ) → IsInstance here name → (j : ℕ) → vector_of cols (tuple_row fs entries (instance_at t.parts name)) j ≡ instance_vector here name j
  row-vector name h j =
      let f : Form = form_at fs name.0 in
      let m : IsMultilinearForm f = multilinear_at fs name.0 multi in
      ap (λ g. vector_of cols g j) (sym (row-monos fs t tab right f name.1 m (numbers-each fs t tab right name.1 h.tuple.numbers) h.tuple.long))
      ∙ vector-pairs fs t tab right (columns_of t.parts w) (instance_row t.parts f name.1) j (columns-in fs t tab right small w)
      (row-in fs t tab right f name.1 m (numbers-each fs t tab right name.1 h.tuple.numbers) h.tuple.long)

  all-have : HaveSpan t.p Named (tuple_row fs entries) cols (all_instances here)
  all-have = record {
    into = λ k. record {
      element = tuple_row fs entries (instance_at t.parts k.0);
      in_span = span-one t.p Named (tuple_row fs entries) (instance_at t.parts k.0) (instance-tuple fs t tab right w ty.long k.0 k.1);
      vector = λ j. same (sym (row-vector k.0 k.1 j));
    };
    from = λ n h. of-number n (tuple-instance fs t tab right w ty.long n h);
  }
    where
      of-number : (n : ℕ × List Tree) → HasNumbers fs t tab right w ty.long n → Vectors.InSpan t.p (all_instances here) (vector_of cols (tuple_row fs entries n))
      of-number n k = subst (λ m. Vectors.InSpan t.p (all_instances here) (vector_of cols (tuple_row fs entries m))) k.same
          (span_same t.p (all_instances here) (all_instances here (k.number, k.instance)) (vector_of cols (tuple_row fs entries (instance_at t.parts k.number)))
          (λ j. ap (λ n. n % t.p) (sym (row-vector k.number k.instance j))) (span_one t.p (all_instances here) (k.number, k.instance)))

  -- a vector of the span of the instances is that of the image of a consequence
  rows-image : (v : ℕ → ℕ) → Vectors.InSpan t.p (all_instances here) v → IsImageOf fs t w v
  rows-image v s =
      let e : HasElement t.p Named (tuple_row fs entries) cols v = vector-element t.p Named (tuple_row fs entries) Column cols are (all_instances here) all-have columns v s in
      let i = span-image_at t.p pos fs multi high t.target t.degree tab.started entries over w to ty.degree e.element e.in_span in
      record {
        polynomial = i.polynomial;
        consequence = i.consequence;
        types = i.types;
        vector = λ j. e.vector j ⊙ vector-alike cols e.element (block_image entries i.polynomial) i.alike j;
      }

  -- and the converse
  image-rows : (v : ℕ → ℕ) → IsImageOf fs t w v → Vectors.InSpan t.p (all_instances here) v
  image-rows v h =
      let x : Poly = block_image entries h.polynomial in
      let s = image-spans_at t.p pos fs multi high t.target t.degree tab.started entries over w to ty.degree h.polynomial h.consequence h.types in
      span_same t.p (all_instances here) (vector_of cols x) v (λ j. sym (h.vector j).same)
      (element-vector t.p Named (tuple_row fs entries) Column cols are (all_instances here) all-have columns x s)

  module _ (r : Reduction) (spans : SameSpan t.p (kept r) (all_instances here)) where
    have : HaveSpan t.p Named (tuple_row fs entries) cols (kept r)
    have = have-same t.p Named (tuple_row fs entries) Column cols are (all_instances here) (kept r) all-have columns spans

    free : (j : ℕ) → j < length cols → (Vectors.IsPivot t.p (kept r) j → ⊥) → IsFreeAt t.p fs t.target t.degree entries w (col cols j)
    free j l n = number-free t.p pos fs multi high t.target t.degree tab.started entries over w to ty.degree cols are (kept r) have j l n

    column : (j : ℕ) → j < length cols → Column (col cols j)
    column j l = column-at t.p Named (tuple_row fs entries) Column cols are (kept r) have columns j l

    pivot : (j : ℕ) → Vectors.IsPivot t.p (kept r) j → (j < length cols) × IsPivotAt t.p fs t.target t.degree entries w (col cols j)
    pivot j v = number-pivot t.p Named (tuple_row fs entries) Column cols are (kept r) have columns j v

    normal : (j : ℕ) → j < length cols → (Vectors.IsPivot t.p (kept r) j → ⊥) ↔ IsNormal t.p fs (col cols j)
    normal j l = (
      λ n. (free-normal t.p pos fs multi high t.target t.degree tab.started entries over w to ty.degree (col cols j) (free j l n)).0,
      λ n v. (normal-free t.p pos fs multi high t.target t.degree tab.started entries over w to ty.degree (col cols j) (column j l).type n).no_pivot (pivot j v).1,
    )

    -- ---- the pivots

    pivots-descend : (ps : List ℕ) → Vectors.Ascending ps → Each (λ c. c < length cols) ps → Ascends (λ i j. cmp_trees (col cols j) (col cols i)) ps
    pivots-descend [] a b = tt
    pivots-descend (c ∷ ps) a b = (
      each-in (λ d. cmp_trees (col cols d) (col cols c) ≡ Less) ps (λ d h.
          let k = in_place d ps h in
          let l : c < d = omega (arith, a 0 (suc k.0) (omega arith) (omega (arith, k.1)), k.2 0) in
          Less-from_sorted (flip_args cmp_trees) cols c d (leaf 0) are.descends l (each-member (λ c. c < length cols) ps d b.1 h)),
      pivots-descend ps (λ i j l m. a (suc i) (suc j) (omega arith) (omega arith)) b.1,
    )

    module _ (ps : List ℕ) (pivots : ArePivots t.p (kept r) ps) where
      pivot-at : (c : ℕ) → IsIn c ps → Vectors.IsPivot t.p (kept r) c
      pivot-at c h = let k = in_place c ps h in subst (Vectors.IsPivot t.p (kept r)) (k.2 0) (pivots.each k.0 k.1)

      pivots-are : ArePivotsAt t.p fs t.target t.degree entries w (map (col cols) (reverse ps))
      pivots-are = record {
        ascends = sorted-from cmp_trees (map (col cols) (reverse ps)) (ascends-mapped cmp_trees (col cols) (reverse ps)
            (descends (λ i j. cmp_trees (col cols j) (col cols i)) ps (pivots-descend ps pivots.ascending (each-in (λ c. c < length cols) ps (λ c h. (pivot c (pivot-at c h)).0)))));
        pivots = each-map (IsPivotAt t.p fs t.target t.degree entries w) (col cols) (reverse ps)
            (each-reverse (λ c. IsPivotAt t.p fs t.target t.degree entries w (col cols c)) ps (each-in (λ c. IsPivotAt t.p fs t.target t.degree entries w (col cols c)) ps (λ c h. (pivot c (pivot-at c h)).1)));
        whole = λ m v.
            let i = number t.p Named (tuple_row fs entries) Column cols are (kept r) have columns m (columns v.element v.in_span m v.nonzero) in
            let n = pivots.all i.0 (pivot-number t.p Named (tuple_row fs entries) Column cols are (kept r) have columns i.0 i.1 (subst (IsPivotAt t.p fs t.target t.degree entries w) (sym i.2) v)) in
            let c : IsIn i.0 ps = subst (λ x. IsIn x ps) n.2 (place_in ps n.0 n.1) in
            contains-in m (map (col cols) (reverse ps)) (subst (λ x. IsIn x (map (col cols) (reverse ps))) i.2 (in-map (col cols) i.0 (reverse ps) (in-reverse i.0 ps c)));
      }

      module _ (names : List (ℕ × List ℕ)) (origins : AreOrigins here r names) where
        other : ℕ × List Tree
        other = (0, [])

        listed-rows : (k j : ℕ) (ns : List (ℕ × List ℕ)) → Each (IsInstance here) ns → k < length ns →
            rows_at here ns k j ≡ vector_of cols (tuple_row fs entries (get_or (map (instance_at t.parts) ns) k other)) j
        listed-rows k j [] a l = absurd (omega arith)
        listed-rows zero j (n ∷ ns) a l = sym (row-vector n a.0 j)
        listed-rows (suc k) j (n ∷ ns) a l = listed-rows k j ns a.1 (omega arith)

        rows-past : (k j : ℕ) (ns : List (ℕ × List ℕ)) → length ns ≤ k → rows_at here ns k j ≡ 0
        rows-past k j [] l = refl
        rows-past zero j (n ∷ ns) l = absurd (omega arith)
        rows-past (suc k) j (n ∷ ns) l = rows-past k j ns (omega arith)

        listed-in : (n : ℕ × List ℕ) (ns : List (ℕ × List ℕ)) → IsIn n ns → (k : ℕ) × ((j : ℕ) → rows_at here ns k j ≡ instance_vector here n j)
        listed-in n [] h = absurd h
        listed-in n (m ∷ ns) (inl e) = (0, λ j. ap (λ x. instance_vector here x j) (sym e))
        listed-in n (m ∷ ns) (inr h) = let k = listed-in n ns h in (suc k.0, k.1)

        from-listed : (k : (name : ℕ × List ℕ) × IsIn name names) → Vectors.InSpan t.p (rows_at here names) (listed_instances here names k)
        from-listed k = let i = listed-in k.0 names k.1 in
            span_same t.p (rows_at here names) (rows_at here names i.0) (instance_vector here k.0) (λ j. ap (λ n. n % t.p) (i.1 j)) (span_one t.p (rows_at here names) i.0)

        origins-are : AreOriginsAt t.p fs t.target t.degree entries w (map (instance_at t.parts) names)
        origins-are = record {
          named = each-map Named (instance_at t.parts) names (each-weaker (IsInstance here) (λ n. Named (instance_at t.parts n)) names
              (λ n h. instance-tuple fs t tab right w ty.long n h) origins.are);
          pivots = map (col cols) (reverse ps);
          are_pivots = pivots-are;
          count = omega (arith, length-map names (instance_at t.parts), length-map (reverse ps) (col cols), length-reverse ps, origins.count ps pivots);
          spans = λ name h. origins-span t.p pos fs multi high t.target t.degree tab.started entries over w to ty.degree cols are (kept r) have
              (map (instance_at t.parts) names) other (rows_at here names)
              (each-map Named (instance_at t.parts) names (each-weaker (IsInstance here) (λ n. Named (instance_at t.parts n)) names (λ n k. instance-tuple fs t tab right w ty.long n k) origins.are))
              (λ k j l. same (listed-rows k j names origins.are (omega (arith, l, length-map names (instance_at t.parts)))))
              (λ k j l. same (rows-past k j names (omega (arith, l, length-map names (instance_at t.parts)))))
              (λ n k. span_through t.p (kept r) (rows_at here names) (vector_of cols (tuple_row fs entries n))
              (λ i. span_through t.p (listed_instances here names) (rows_at here names) (kept r i) from-listed (origins.spans.into i)) (have.from n k))
              name h;
        }

        -- THE BLOCK
        pub block-at : IsBlockAt fs t w r names
        block-at = record {
          columns = are;
          normal = normal;
          pivots = pivot;
          free = free;
          entries = λ j l v red e k. pivot-entry t.p pos fs multi high t.target t.degree tab.started entries over w to ty.degree cols are (kept r) have j l v red e k;
          origins = origins-are;
        }

-- THE LAW
pub rows-span-images : RowsSpanImages
rows-span-images r t w v h ty =
    let few = few_generators t.target h.table.goal in
    let small : length t.target ≤ 26 = omega arith in (
      rows-image r.forms t h.table h.right.right h.multilinear h.high small w ty v,
      image-rows r.forms t h.table h.right.right h.multilinear h.high small w ty v,
    )

-- ---- for the table of the next degree

-- the basis of the type: an ascending list of the columns that are no pivots
pub block-basis : (fs : List Form) (t : Table) (w : List ℕ) (r : Reduction) (names : List (ℕ × List ℕ)) → IsBlockAt fs t w r names → (ms : List Tree) →
    IsStrictlySortedBy cmp_trees ms →
    Each (λ m. (j : ℕ) × (j < length (column_monos t.parts w)) × (col (column_monos t.parts w) j ≡ m) × (Vectors.IsPivot t.p (kept r) j → ⊥)) ms →
    ((j : ℕ) → j < length (column_monos t.parts w) → (Vectors.IsPivot t.p (kept r) j → ⊥) → Contains ms (col (column_monos t.parts w) j)) →
    AreFreeAt t.p fs t.target t.degree (mono_entry t.parts) w ms
block-basis fs t w r names b ms s a h = record {
  ascends = s;
  free = each-from _ _ ms (λ m k. subst (IsFreeAt t.p fs t.target t.degree (mono_entry t.parts) w) k.2 (b.free k.0 k.1 k.3)) a;
  whole = λ m f.
      let c = b.columns.whole m f.column in
      let e : col (column_monos t.parts w) c.0 ≡ m = get_or_default (column_monos t.parts w) c.0 (leaf 0) m c.1 ∙ c.2 in
      subst (Contains ms) e (h c.0 c.1 (λ v. f.no_pivot (subst (λ x. IsPivotAt t.p fs t.target t.degree (mono_entry t.parts) w x) e (b.pivots c.0 v).1)));
}

-- the entry of a column that is no pivot is itself
pub block-itself : (fs : List Form) (t : Table) (w : List ℕ) → 0 < t.p → (m : Tree) → IsFreeAt t.p fs t.target t.degree (mono_entry t.parts) w m →
    IsEntryAt t.p fs t.target t.degree (mono_entry t.parts) w m (unit m)
block-itself fs t w pos m f = record {
  free = (f, tt);
  in_span = span-alike t.p (IsTupleAt t.p fs t.target t.degree w) (tuple_row fs (mono_entry t.parts)) (turned (difference-zero t.p pos (itself (unit m))))
      (span-zero t.p (IsTupleAt t.p fs t.target t.degree w) (tuple_row fs (mono_entry t.parts)));
}
