-- Right tables: their laws, how they grow, and that they are unique.
use Rattle.std.proofs.Common.{◌≡◌, ℕ, zero, suc, ◌+◌, ◌<◌, ◌≤◌, true, false, List, [], ◌∷◌, length, sym, refl, ap, ◌∙◌, subst, arith, inl, inr, ◌⊎◌, eqb, get_or, sum}
use Rattle.std.specs.Bool.{IsTrue}
use Rattle.std.specs.List.{Contains, AllByRecursion}
use Rattle.std.specs.List.Sorted.{IsStrictlySortedBy}
use Rattle.std.specs.declared.cmp.Ordering.TheVariants.{Less, Equal}
use Rattle.std.proofs.lemmas.Cmp.{tied_itself}
use Rattle.std.proofs.lemmas.Map.Keys.{sorted_head, sorted_tail}
use Rattle.std.proofs.lemmas.Bool.{cases_eq, cases_lt}
use Rattle.std.proofs.lemmas.Bool.Decides.{nat_tests}
use Rattle.std.proofs.lemmas.List.Sums.{sum_by-cons}
use Rattle.gf_field.proofs.Mod.{same, ◌⊙◌, plus, times}
use Rattle.alb_mono.specs.Tree.{Tree, leaf, node, degree, count, listed, type_of, type_le, AreBelow, are_below, cmp_trees, same_tree}
use Rattle.alb_mono.proofs.Order.{cmp_trees_total}
use Rattle.gf_sums.specs.Sums.{Comb, coefficient, reindex, scale, total}
use Rattle.alb_poly.specs.Textbook.{unit}
use Rattle.gf_sums.proofs.Alike.{Alike, itself, turned, joined}
use Rattle.alb_poly.specs.Poly.{Poly}
use Rattle.alb_mono.specs.declared.side.Side.{Side}
use Rattle.alb_mono.specs.declared.side.Side.TheVariants.{Left, Right}
use Rattle.alb_poly.specs.Consequence.{within, form_at, Item, IsItem, AreItems, item_value, IsConsequence, AreMultilinear}
use Rattle.alb_poly.specs.Instance.{fill, Form, instance, IsMultilinear, total_from}
use Rattle.alb_mono.specs.Listing.{Each}
use Rattle.alb_poly.proofs.Multilinear.{each-append, each-from, each-map, each-flat, multilinear-below}
use Rattle.alb_poly.proofs.Parts.{multilinear_at, listed-equal}
use Rattle.alb_mono.proofs.Leaves.{below_from_test, length-type_of}
use Rattle.alb_poly.proofs.Consequence.{tree_tells, value, consequence-zero, consequence-append, consequence-scale, alike_poly, consequence-instance}
use Rattle.alb_table.specs.Right.{SameType, IsZeroAt, IsNormal, IsCongruent, difference, AreHigh, poly_value, StandsFor, IsOfType, IsWithinDegree, IsBasisTo, IsBasisOf, IsTypeTo, IsRight}
use Rattle.alb_table.proofs.Types.{type-itself, type-turned}
use Rattle.alb_table.proofs.Coefficients.{zero_or, coefficient-append, coefficient-scale, each-coefficient}
use Rattle.alb_table.proofs.Congruent.{congruent-joined, congruent-turned}
use Rattle.alb_table.proofs.Bases.{IsTable, IsBlock, IsTuple, IsColumn}
use Rattle.alb_table.specs.Block.{InNamedSpan, tuple_row, spread, block_image, IsPivotMonomial, IsTupleAt, IsColumnAt, IsFreeAt, IsEntryAt, AreFreeAt, Grows}
use Rattle.alb_table.proofs.Values.{each-both, each-scale, normal-unique, poly-value-congruent, poly-value-basis, consequence-value, value-consequence}
use Rattle.alb_table.proofs.Image.{high-at, high_node, count-fill, image-spans, tuple-image, spread-spread}
use Rattle.alb_table.proofs.Spans.{span-zero, span-one, spread-each}
use Rattle.alb_table.proofs.Pivots.{pivot-leading, normal-column, column-normal, span-consequence, element-columns}
use Rattle.alb_table.proofs.Within.{test_from_below, none-past, degree-positive, get-listed, degree-counts, within-closed, within-more, within-cases, within-block, of_type-same, same-of_type, degree-same}

-- ---- generators are normal

abbrev IsProduct : Tree → Type 0
IsProduct (leaf k) = ⊥
IsProduct (node l r) = Unit {0}

within-product : (c : List (Side × Tree)) (x : Tree) → IsProduct x → IsProduct (within c x)
within-product [] x h = h
within-product ((Left, m) ∷ c) x h = within-product c (node m x) tt
within-product ((Right, m) ∷ c) x h = within-product c (node x m) tt

fill-product : (ms : List Tree) (n : ℕ) (x : Tree) → 2 ≤ n → IsMultilinear n x → IsProduct (fill ms x)
fill-product ms n (leaf k) h m = absurd (high_node n k h m)
fill-product ms n (node l r) h m = tt

module _ (fs : List Form) (multi : AreMultilinear fs) (high : AreHigh fs) where
  item-products : (it : Item) → IsItem fs it → Each (λ t. IsProduct t.1) (item_value fs it)
  item-products it h =
      let f : Form = form_at fs it.form in
      each-scale IsProduct it.coef _ (each-map (λ t. IsProduct t.1) (λ t. IsProduct t.1) _ (instance f it.args) (λ t q. within-product it.context t.1 q)
      (each-map (λ t. IsMultilinear f.degree t.1) (λ t. IsProduct t.1) _ f.terms (λ t m. fill-product it.args f.degree t.1 (high-at fs it.form high h.named) m)
      (multilinear_at fs it.form multi)))

  items-products : (its : List Item) → AreItems fs its → Each (λ t. IsProduct t.1) (value fs its)
  items-products [] a = tt
  items-products (it ∷ its) a = each-append _ (item_value fs it) (value fs its) (item-products it a.0) (items-products its a.1)

  pub generator-normal : (p k : ℕ) → IsNormal p fs (leaf k)
  generator-normal p k = record {
    none = λ h. h.leads.nonzero
        (elim (each-coefficient same_tree tree_tells IsProduct (value fs h.consequence.items) (leaf k) (items-products h.consequence.items h.consequence.are)) [
          | inl q ↦ absurd q
          | inr e ↦ h.consequence.same (leaf k) ⊙ same e
        ]);
  }

-- ---- a block by its type, and by one of its monomials

span-named : {N : Type 0} {p : ℕ} (P Q : N → Type 0) (row : N → Poly) {x : Poly} → ((n : N) → P n → Q n) → InNamedSpan p P row x → InNamedSpan p Q row x
span-named P Q row h s = record { items = s.items; named = each-from (λ t. P t.1) (λ t. Q t.1) s.items (λ t a. h t.1 a) s.named; gives = s.gives }

pivot-named : {N : Type 0} {p : ℕ} (P Q : N → Type 0) (row : N → Poly) {m : Tree} → ((n : N) → P n → Q n) → IsPivotMonomial p P row m → IsPivotMonomial p Q row m
pivot-named P Q row h v = record { element = v.element; in_span = span-named P Q row h v.in_span; nonzero = v.nonzero; greatest = v.greatest }

total-absent : (n g : ℕ) (ms : List Tree) → Each (AreBelow n) ms → n ≤ g → total (count g) ms ≡ 0
total-absent n g [] a l = refl
total-absent n g (m ∷ ms) a l = omega (arith, none-past n g m a.0 l, total-absent n g ms a.1 l)

module _ (p : ℕ) (fs : List Form) (target : List ℕ) (d : ℕ) (t : List ℕ) (len : length t ≡ length target) (z : Tree) (type : IsOfType t z) where
  tuple-by-one : (name : ℕ × List Tree) → IsTupleAt p fs target d t name → IsTuple fs (IsBasisTo p fs target d) z name
  unfolding type_of
  tuple-by-one name h = record {
    form = h.form;
    full = h.full;
    basis = h.basis;
    types = λ g. elim (cases_lt g (length t)) [
      | inl l ↦ (let e : 0 + g ≡ g = omega arith in
          ap (λ k. total (count k) name.1) (sym e) ∙ sym (get-listed (λ k. total (count k) name.1) 0 (length t) g l)
          ∙ ap (λ y. get_or y g 0) (h.types ∙ sym type.counts)
          ∙ get-listed (λ k. count k z) 0 (length t) g l ∙ ap (λ k. count k z) e)
      | inr q ↦ total-absent (length t) g name.1 (each-from _ _ name.1 (λ m b. subst (λ n. AreBelow n m) (sym len) (below_from_test (length target) m b.within.below)) h.basis) q
          ∙ sym (none-past (length t) g z (below_from_test (length t) z type.below) q)
    ];
  }

  tuple-by-type : (name : ℕ × List Tree) → IsTuple fs (IsBasisTo p fs target d) z name → IsTupleAt p fs target d t name
  unfolding type_of
  tuple-by-type name h = record {
    form = h.form;
    full = h.full;
    basis = h.basis;
    types = listed-equal _ _ 0 (length t) h.types ∙ type.counts;
  }

sum-listed : (f : ℕ → ℕ) (k n : ℕ) → sum (listed f k n) ≡ total_from f k n
sum-listed f k zero = refl
sum-listed f k (suc n) = sum_by-cons (λ x. x) (f k) (listed f (suc k) n) ∙ ap (λ x. f k + x) (sum-listed f (suc k) n)

-- the degree is the sum of the type
pub degree-type : (n : ℕ) (m : Tree) → AreBelow n m → degree m ≡ sum (type_of n m)
unfolding type_of
degree-type n m h = sym (sum-listed (λ g. count g m) 0 n ∙ degree-counts n m h)

-- what a monomial of a type within is
pub of_type-within : (target : List ℕ) (d : ℕ) (t : List ℕ) (m : Tree) → IsTypeTo target d t → IsOfType t m → IsWithinDegree target d m
of_type-within target d t m ty h =
    let e : type_of (length target) m ≡ t = subst (λ n. type_of n m ≡ t) ty.counts h.counts in
    let b : IsTrue (are_below (length target) m) = subst (λ n. IsTrue (are_below n m)) ty.counts h.below in
    record {
      below = b;
      type = subst (λ y. IsTrue (type_le y target)) (sym e) ty.le;
      degree = subst (λ n. n ≤ d) (sym (degree-type (length target) m (below_from_test (length target) m b) ∙ ap sum e)) ty.degree;
    }

pub of_type-degree : (t : List ℕ) (m : Tree) → IsOfType t m → degree m ≡ sum t
of_type-degree t m h = degree-type (length t) m (below_from_test (length t) m h.below) ∙ ap sum h.counts

-- the type of a monomial within
pub within-type : (target : List ℕ) (d : ℕ) (m : Tree) → IsWithinDegree target d m → IsTypeTo target d (type_of (length target) m)
within-type target d m h = record {
  counts = length-type_of (length target) m;
  le = h.type;
  degree = subst (λ n. n ≤ d) (degree-type (length target) m (below_from_test (length target) m h.below)) h.degree;
}

pub within-of_type : (target : List ℕ) (d : ℕ) (m : Tree) → IsWithinDegree target d m → IsOfType (type_of (length target) m) m
within-of_type target d m h =
    let e : length (type_of (length target) m) ≡ length target = length-type_of (length target) m in
    record { below = subst (λ n. IsTrue (are_below n m)) (sym e) h.below; counts = ap (λ n. type_of n m) e }

module _ (p : ℕ) (pos : 0 < p) (fs : List Form) (multi : AreMultilinear fs) (high : AreHigh fs) (target : List ℕ) where
  -- a right table is a table
  pub right-table : (d : ℕ) (basis : List ℕ → List Tree) (entry : Tree → Tree → Poly) → IsRight p fs target d basis entry →
      IsTable p fs (IsWithinDegree target d) (IsBasisTo p fs target d) entry
  right-table d basis entry r = record {
    closed = within-closed target d;
    generators = λ k w. record { within = w; normal = generator-normal fs multi high p k };
    entries = r.entries;
  }

  module _ (d : ℕ) (big : 1 ≤ d) (entry : Tree → Tree → Poly) (table : IsTable p fs (IsWithinDegree target d) (IsBasisTo p fs target d) entry)
      (t : List ℕ) (ty : IsTypeTo target (d + 1) t) (next : sum t ≡ d + 1) where
    block_of : (m : Tree) → IsOfType t m → IsBlock (IsWithinDegree target d) m
    block_of m h = within-block target d m big (of_type-within target (d + 1) t m ty h) (of_type-degree t m h ∙ next)

    -- a column by its type, and by one of its monomials
    column-by-one : (z m : Tree) → IsOfType t z → IsColumnAt p fs target d t m → IsColumn (IsBasisTo p fs target d) z m
    column-by-one z m o h = subst (IsColumn (IsBasisTo p fs target d) z) (sym h.product)
        (h.left_basis, h.right_basis, of_type-same t (node h.left h.right) z (subst (IsOfType t) h.product h.type) o)

    column-by-type : (z m : Tree) → IsOfType t z → IsColumn (IsBasisTo p fs target d) z m → IsColumnAt p fs target d t m
    column-by-type z (leaf k) o h = absurd h
    column-by-type z (node b c) o h = record {
      left = b;
      right = c;
      product = refl;
      left_basis = h.0;
      right_basis = h.1;
      type = same-of_type t z (node b c) (type-turned h.2) o;
    }

    -- a column that is no pivot is a normal monomial of the type
    pub free-normal : (m : Tree) → IsFreeAt p fs target d entry t m → IsNormal p fs m × IsOfType t m
    free-normal m h =
        let o : IsOfType t m = h.column.type in (
          column-normal p pos fs multi high (IsWithinDegree target d) entry table m (block_of m o) m (column-by-one m m o h.column)
              (λ v. h.no_pivot (pivot-named (IsTuple fs (IsBasisTo p fs target d) m) (IsTupleAt p fs target d t) (tuple_row fs entry) (tuple-by-type p fs target d t ty.counts m o) v)),
          o,
        )

    -- and the converse
    pub normal-free : (m : Tree) → IsOfType t m → IsNormal p fs m → IsFreeAt p fs target d entry t m
    normal-free m o n = record {
      column = column-by-type m m o (normal-column p pos fs multi high (IsWithinDegree target d) entry table m (block_of m o) m n (type-itself m));
      no_pivot = λ v. n.none (pivot-leading p pos fs multi high (IsWithinDegree target d) entry table m (block_of m o) m
          (pivot-named (IsTupleAt p fs target d t) (IsTuple fs (IsBasisTo p fs target d) m) (tuple_row fs entry) (tuple-by-one p fs target d t ty.counts m o) v));
    }

    -- the monomials of an element of the span are columns
    pub span-columns : (z : Tree) → IsOfType t z → (x : Poly) → InNamedSpan p (IsTupleAt p fs target d t) (tuple_row fs entry) x →
        (m : Tree) → (IsZeroAt p x m → ⊥) → IsColumnAt p fs target d t m
    span-columns z o x s m n = column-by-type z m o (element-columns p pos fs multi high (IsWithinDegree target d) entry table z (block_of z o) x
        (span-named (IsTupleAt p fs target d t) (IsTuple fs (IsBasisTo p fs target d) z) (tuple_row fs entry) (tuple-by-one p fs target d t ty.counts z o) s) m n)

    -- an element of the span is a consequence
    pub span-known : (m : Tree) → IsOfType t m → (x : Poly) → InNamedSpan p (IsTupleAt p fs target d t) (tuple_row fs entry) x → IsConsequence p fs x
    span-known m o x s = span-consequence p pos fs multi high (IsWithinDegree target d) entry table m (block_of m o) x
        (span-named (IsTupleAt p fs target d t) (IsTuple fs (IsBasisTo p fs target d) m) (tuple_row fs entry) (tuple-by-one p fs target d t ty.counts m o) s)

    -- ---- the rows of type `t` span the images of the consequences of type `t`

    -- the image of a consequence of type `t` is a combination of rows of type `t`
    pub image-spans_at : (g : Poly) → IsConsequence p fs g → Each (λ s. IsOfType t s.1) g → InNamedSpan p (IsTupleAt p fs target d t) (tuple_row fs entry) (block_image entry g)
    image-spans_at [] c a = span-zero p (IsTupleAt p fs target d t) (tuple_row fs entry)
    image-spans_at (s ∷ g) c a =
        span-named (IsTuple fs (IsBasisTo p fs target d) s.1) (IsTupleAt p fs target d t) (tuple_row fs entry) (tuple-by-type p fs target d t ty.counts s.1 a.0)
        (image-spans p pos fs multi high (IsWithinDegree target d) entry table s.1 (block_of s.1 a.0) (s ∷ g) c
        (each-from (λ u. IsOfType t u.1) (λ u. SameType u.1 s.1) (s ∷ g) (λ u o. of_type-same t u.1 s.1 o a.0) a))

    unfoldable pub tuple_instance : ℕ × List Tree → Poly
    tuple_instance name = instance (form_at fs name.0) name.1

    pub instance-types : (name : ℕ × List Tree) → IsTupleAt p fs target d t name → Each (λ s. IsOfType t s.1) (tuple_instance name)
    unfolding tuple_instance type_of
    instance-types name h = each-map (λ s. IsMultilinear (form_at fs name.0).degree s.1) (λ s. IsOfType t s.1) _ (form_at fs name.0).terms
        (λ s m. let k : IsMultilinear (length name.1) s.1 = subst (λ j. IsMultilinear j s.1) (sym h.full) m in record {
          below = test_from_below (length t) (fill name.1 s.1) (fill-below name.1 s.1 (each-from _ _ name.1 (λ b q. subst (λ n. AreBelow n b) (sym ty.counts) (below_from_test (length target) b q.within.below)) h.basis)
              (multilinear-below (length name.1) s.1 k));
          counts = listed-equal _ _ 0 (length t) (λ g. count-fill name.1 s.1 g k) ∙ h.types;
        }) (multilinear_at fs name.0 multi)
      where
        at_place : (n : ℕ) (ms : List Tree) (k : ℕ) → Each (AreBelow n) ms → k < length ms → AreBelow n (get_or ms k (leaf k))
        at_place n ms k a l = go ms k (leaf k) a l
          where
            go : (xs : List Tree) (j : ℕ) (e : Tree) → Each (AreBelow n) xs → j < length xs → AreBelow n (get_or xs j e)
            go [] j e a l = absurd (omega arith)
            go (x ∷ xs) zero e a l = a.0
            go (x ∷ xs) (suc j) e a l = go xs j e a.1 (omega arith)

        fill-below : (ms : List Tree) (x : Tree) → Each (AreBelow (length t)) ms → AreBelow (length ms) x → AreBelow (length t) (fill ms x)
        fill-below ms (leaf k) a b = at_place (length t) ms k a b
        fill-below ms (node l r) a b = (fill-below ms l a b.0, fill-below ms r a b.1)

    -- the row of a tuple is the image of its instance
    pub tuple-image_at : (name : ℕ × List Tree) → IsTupleAt p fs target d t name → Alike p (tuple_row fs entry name) (block_image entry (tuple_instance name))
    unfolding tuple_instance
    tuple-image_at name h = by_terms (form_at fs name.0).terms refl (instance-types name h)
      where
        by_terms : (ts : Poly) → (form_at fs name.0).terms ≡ ts → Each (λ s. IsOfType t s.1) (tuple_instance name) → Alike p (tuple_row fs entry name) (block_image entry (tuple_instance name))
        by_terms [] e a = rw e (itself [])
        by_terms (s ∷ ts) e a =
            let o : IsOfType t (fill name.1 s.1) = (subst (λ f. Each (λ u. IsOfType t u.1) (reindex (fill name.1) f)) e a).0 in
            tuple-image p pos fs multi high (IsWithinDegree target d) entry table (fill name.1 s.1) (block_of (fill name.1 s.1) o) name
            (tuple-by-one p fs target d t ty.counts (fill name.1 s.1) o name h)

    -- the monomials of a row are columns
    row-columns : (name : ℕ × List Tree) → IsTupleAt p fs target d t name → (m : Tree) → (IsZeroAt p (tuple_row fs entry name) m → ⊥) → IsColumnAt p fs target d t m
    unfolding tuple_instance
    row-columns name h m n = by_terms (form_at fs name.0).terms refl (instance-types name h)
      where
        by_terms : (ts : Poly) → (form_at fs name.0).terms ≡ ts → Each (λ s. IsOfType t s.1) (tuple_instance name) → IsColumnAt p fs target d t m
        by_terms [] e a = absurd (n (rw e (same refl)))
        by_terms (s ∷ ts) e a =
            let o : IsOfType t (fill name.1 s.1) = (subst (λ f. Each (λ u. IsOfType t u.1) (reindex (fill name.1) f)) e a).0 in
            span-columns (fill name.1 s.1) o (tuple_row fs entry name) (span-one p (IsTupleAt p fs target d t) (tuple_row fs entry) name h) m n

    -- the monomials of an element of the span are columns
    pub element-columns_at : (x : Poly) → InNamedSpan p (IsTupleAt p fs target d t) (tuple_row fs entry) x → (m : Tree) → (IsZeroAt p x m → ⊥) → IsColumnAt p fs target d t m
    element-columns_at x s m n = sum_columns s.items s.named (λ z. n (s.gives m ⊙ z))
      where
        sum_columns : (items : Comb (ℕ × List Tree)) → Each (λ u. IsTupleAt p fs target d t u.1) items → (IsZeroAt p (spread (tuple_row fs entry) items) m → ⊥) → IsColumnAt p fs target d t m
        sum_columns [] a k = absurd (k (same refl))
        sum_columns (u ∷ items) a k = elim (zero_or p (coefficient same_tree (tuple_row fs entry u.1) m)) [
          | inr y ↦ row-columns u.1 a.0 m y
          | inl z ↦ sum_columns items a.1 (λ y. k (
              same (coefficient-append same_tree tree_tells (scale u.0 (tuple_row fs entry u.1)) (spread (tuple_row fs entry) items) m)
              ⊙ plus {b = 0} (same (coefficient-scale same_tree tree_tells u.0 (tuple_row fs entry u.1) m) ⊙ times (same {a = u.0} refl) z ⊙ same (omega arith)) y))
        ]

    -- an element of the span of the rows of type `t` is the image of a consequence of type `t`
    pub record IsImageAt (x : Poly) : Type 0 where
      pub polynomial : Poly
      pub consequence : IsConsequence p fs polynomial
      pub types : Each (λ s. IsOfType t s.1) polynomial
      pub alike : Alike p x (block_image entry polynomial)

    instances-consequence : (items : Comb (ℕ × List Tree)) → Each (λ s. IsTupleAt p fs target d t s.1) items → IsConsequence p fs (spread tuple_instance items)
    unfolding tuple_instance
    instances-consequence [] a = consequence-zero p fs
    instances-consequence (s ∷ items) a =
        consequence-append p fs (consequence-scale p fs s.0 (consequence-instance p fs s.1.0 s.1.1 a.0.form a.0.full)) (instances-consequence items a.1)

    pub span-image_at : (x : Poly) → InNamedSpan p (IsTupleAt p fs target d t) (tuple_row fs entry) x → IsImageAt x
    span-image_at x s = record {
      polynomial = spread tuple_instance s.items;
      consequence = instances-consequence s.items s.named;
      types = each-flat (λ u. IsTupleAt p fs target d t u.1) (λ u. IsOfType t u.1) _ s.items (λ u h. each-scale (IsOfType t) u.0 _ (instance-types u.1 h)) s.named;
      alike = joined (alike_poly s.gives) (joined (spread-each (IsTupleAt p fs target d t) _ _ s.items tuple-image_at s.named) (turned (spread-spread _ tuple_instance s.items)));
    }

    -- the free columns of a block are the basis of its type
    pub free-basis : (ms : List Tree) → AreFreeAt p fs target d entry t ms → IsBasisOf p fs t ms
    free-basis ms h = record {
      ascends = h.ascends;
      types = each-from _ _ ms (λ m k. (free-normal m k).1) h.free;
      normal = each-from _ _ ms (λ m k. (free-normal m k).0) h.free;
      whole = λ m o n. h.whole m (normal-free m o n);
    }

    -- what stands in the block for a column stands for it in the table of the next degree
    pub entry-stands : (m : Tree) (e : Poly) → IsOfType t m → IsEntryAt p fs target d entry t m e → StandsFor p fs (IsBasisTo p fs target (d + 1)) m e
    entry-stands m e o h = record {
      parts = each-from _ _ e (λ s k. let n = free-normal s.1 k in record {
        basis = record { within = of_type-within target (d + 1) t s.1 ty n.1; normal = n.0 };
        type = of_type-same t s.1 m n.1 o;
      }) h.free;
      congruent = record { differ = span-known m o (difference p (unit m) e) h.in_span };
    }

  -- the entry of an older degree stands in the table of the next degree too
  stands-more : (d : ℕ) (m : Tree) (e : Poly) → StandsFor p fs (IsBasisTo p fs target d) m e → StandsFor p fs (IsBasisTo p fs target (d + 1)) m e
  stands-more d m e h = record {
    parts = each-from _ _ e (λ s k. record {
      basis = record { within = within-more target d s.1 k.basis.within; normal = k.basis.normal };
      type = k.type;
    }) h.parts;
    congruent = h.congruent;
  }

  -- a right table grows to a right table
  pub right-grows : (d : ℕ) → 1 ≤ d → (basis basis' : List ℕ → List Tree) (entry entry' : Tree → Tree → Poly) →
      IsRight p fs target d basis entry → Grows p fs target d basis entry basis' entry' → IsRight p fs target (d + 1) basis' entry'
  right-grows d big basis basis' entry entry' r g = record {
    bases = λ t ty. elim (cases_lt d (sum t)) [
      | inr old ↦ (let o : IsTypeTo target d t = record { counts = ty.counts; le = ty.le; degree = old } in
          subst (IsBasisOf p fs t) (sym (g.old_bases t o)) (r.bases t o))
      | inl new ↦ (let e : sum t ≡ d + 1 = omega (arith, ty.degree) in
          free-basis d big entry table t ty e (basis' t) (g.new_bases t ty e))
    ];
    entries = λ b c hb hc w. elim (within-cases target d (node b c) w) [
      | inl old ↦ (
          let ob : IsBasisTo p fs target d b = record { within = table.closed.left b c old; normal = hb.normal } in
          let oc : IsBasisTo p fs target d c = record { within = table.closed.right b c old; normal = hc.normal } in
          subst (StandsFor p fs (IsBasisTo p fs target (d + 1)) (node b c)) (sym (g.old_entries b c ob oc old))
          (stands-more d (node b c) (entry b c) (r.entries b c ob oc old)))
      | inr new ↦ (
          let t : List ℕ = type_of (length target) (node b c) in
          let ty : IsTypeTo target (d + 1) t = within-type target (d + 1) (node b c) w in
          let o : IsOfType t (node b c) = within-of_type target (d + 1) (node b c) w in
          let e : sum t ≡ d + 1 = sym (of_type-degree t (node b c) o) ∙ new in
          let f = (within-block target d (node b c) big w new).next (node b c) (type-itself (node b c)) in
          entry-stands d big entry table t ty e (node b c) (entry' b c) o
          (g.new_entries t b c ty e (record {
            left = b;
            right = c;
            product = refl;
            left_basis = record { within = f.0; normal = hb.normal };
            right_basis = record { within = f.1; normal = hc.normal };
            type = o;
          })))
    ];
  }
    where
      table : IsTable p fs (IsWithinDegree target d) (IsBasisTo p fs target d) entry
      table = right-table d basis entry r

  -- ---- uniqueness

  -- two right tables have the same entries
  pub entry-unique : (d : ℕ) (basis basis' : List ℕ → List Tree) (entry entry' : Tree → Tree → Poly) →
      IsRight p fs target d basis entry → IsRight p fs target d basis' entry' → (b c : Tree) → IsBasisTo p fs target d b → IsBasisTo p fs target d c → IsWithinDegree target d (node b c) →
      Alike p (entry b c) (entry' b c)
  entry-unique d basis basis' entry entry' r s b c hb hc w =
      let x = r.entries b c hb hc w in
      let y = s.entries b c hb hc w in
      normal-unique p pos fs multi (entry b c) (entry' b c) (each-from _ _ (entry b c) (λ t k. k.basis.normal) x.parts) (each-from _ _ (entry' b c) (λ t k. k.basis.normal) y.parts)
      (congruent-joined p fs pos (congruent-turned p fs pos x.congruent) y.congruent)

  -- ---- the laws of values in a right table

  module _ (d : ℕ) (basis : List ℕ → List Tree) (entry : Tree → Tree → Poly) (right : IsRight p fs target d basis entry) where
    -- what stands in a basis is a basis monomial of the table, and the converse
    pub right-basis : (t : List ℕ) → IsTypeTo target d t → Each (IsBasisTo p fs target d) (basis t)
    right-basis t ty = let b = right.bases t ty in
        each-both (IsOfType t) (IsNormal p fs) (IsBasisTo p fs target d) (basis t)
        (λ m o n. record { within = of_type-within target d t m ty o; normal = n }) b.types b.normal

    pub right-contains : (x : Tree) → IsBasisTo p fs target d x → Contains (basis (type_of (length target) x)) x
    right-contains x h = (right.bases (type_of (length target) x) (within-type target d x h.within)).whole x (within-of_type target d x h.within) h.normal

    -- a polynomial within the table less its value is a consequence
    pub right-congruent : (g : Poly) → Each (λ t. IsWithinDegree target d t.1) g → IsCongruent p fs g (poly_value entry g)
    right-congruent g a = poly-value-congruent p pos fs (IsWithinDegree target d) (IsBasisTo p fs target d) entry (right-table d basis entry right) g a

    pub right-normal : (g : Poly) → Each (λ t. IsWithinDegree target d t.1) g → Each (λ t. IsNormal p fs t.1) (poly_value entry g)
    right-normal g a = each-from _ _ (poly_value entry g) (λ t k. k.normal)
        (poly-value-basis p pos fs (IsWithinDegree target d) (IsBasisTo p fs target d) entry (right-table d basis entry right) g a)

    -- the value is zero exactly where the polynomial is a consequence
    pub consequence-zero_value : (g : Poly) → Each (λ t. IsWithinDegree target d t.1) g → IsConsequence p fs g → Alike p (poly_value entry g) []
    consequence-zero_value g a c = consequence-value p pos fs multi (IsWithinDegree target d) entry (right-table d basis entry right) g a c

    pub zero_value-consequence : (g : Poly) → Each (λ t. IsWithinDegree target d t.1) g → Alike p (poly_value entry g) [] → IsConsequence p fs g
    zero_value-consequence g a z = value-consequence p pos fs multi (IsWithinDegree target d) entry (right-table d basis entry right) g a z

    -- the value is the one combination of normal monomials that differs from the polynomial by a consequence
    pub normal_form-unique : (g h : Poly) → Each (λ t. IsWithinDegree target d t.1) g → Each (λ t. IsNormal p fs t.1) h → IsCongruent p fs g h → Alike p h (poly_value entry g)
    normal_form-unique g h a n c = normal-unique p pos fs multi h (poly_value entry g) n (right-normal g a)
        (congruent-joined p fs pos (congruent-turned p fs pos c) (right-congruent g a))

-- membership by recursion
abbrev Member : Tree → List Tree → Type 0
Member m [] = ⊥
Member m (x ∷ xs) = (x ≡ m) ⊎ Member m xs

member : (m : Tree) (ms : List Tree) → Contains ms m → Member m ms
member m ms h = by_place ms h.0 h.1 h.2
  where
    by_place : (xs : List Tree) (k : ℕ) → k < length xs → get_or xs k m ≡ m → Member m xs
    by_place [] k l e = absurd (omega arith)
    by_place (x ∷ xs) zero l e = inl e
    by_place (x ∷ xs) (suc k) l e = inr (by_place xs k (omega arith) e)

member-less : (x m : Tree) (ys : List Tree) → AllByRecursion (λ y. cmp_trees x y ≡ Less) ys → Member m ys → cmp_trees x m ≡ Less
member-less x m [] a h = absurd h
member-less x m (y ∷ ys) a (inl e) = subst (λ u. cmp_trees x u ≡ Less) e a.0
member-less x m (y ∷ ys) a (inr h) = member-less x m ys a.1 h

not-less-both : (x y : Tree) → cmp_trees x y ≡ Less → cmp_trees y x ≡ Less → ⊥
not-less-both x y h k = let e : cmp_trees x x ≡ Less = cmp_trees_total.trans x y x h k in let q : cmp_trees x x ≡ Equal = tied_itself cmp_trees_total x in absurd (cc)

-- what follows the first element stands in the rest
rest-members : (x : Tree) (xs ys : List Tree) → AllByRecursion (λ m. cmp_trees x m ≡ Less) xs → Each (λ m. Member m (x ∷ ys)) xs → Each (λ m. Member m ys) xs
rest-members x [] ys a h = tt
rest-members x (m ∷ xs) ys a h = (one h.0, rest-members x xs ys a.1 h.1)
  where
    one : Member m (x ∷ ys) → Member m ys
    one (inl e) = absurd (not-less-both x x (subst (λ u. cmp_trees x u ≡ Less) (sym e) a.0) (subst (λ u. cmp_trees x u ≡ Less) (sym e) a.0))
    one (inr k) = k

same_heads : (x y : Tree) (xs ys : List Tree) → AllByRecursion (λ m. cmp_trees x m ≡ Less) xs → AllByRecursion (λ m. cmp_trees y m ≡ Less) ys →
    Member x (y ∷ ys) → Member y (x ∷ xs) → x ≡ y
same_heads x y xs ys a b (inl e) k = sym e
same_heads x y xs ys a b (inr h) (inl e) = e
same_heads x y xs ys a b (inr h) (inr k) = absurd (not-less-both x y (member-less x y xs a k) (member-less y x ys b h))

-- ascending lists with the same members are equal
pub sorted-members : (xs ys : List Tree) → IsStrictlySortedBy cmp_trees xs → IsStrictlySortedBy cmp_trees ys →
    Each (λ m. Member m ys) xs → Each (λ m. Member m xs) ys → xs ≡ ys
sorted-members [] [] a b h k = refl
sorted-members [] (y ∷ ys) a b h k = absurd (k.0)
sorted-members (x ∷ xs) [] a b h k = absurd (h.0)
sorted-members (x ∷ xs) (y ∷ ys) a b h k =
    let sx = sorted_head cmp_trees x xs a in
    let sy = sorted_head cmp_trees y ys b in
    let e : x ≡ y = same_heads x y xs ys sx sy h.0 k.0 in
    let hs : Each (λ m. Member m ys) xs = rest-members x xs ys sx (subst (λ u. Each (λ m. Member m (u ∷ ys)) xs) (sym e) h.1) in
    let ks : Each (λ m. Member m xs) ys = rest-members y ys xs sy (subst (λ u. Each (λ m. Member m (u ∷ xs)) ys) e k.1) in
    let q : xs ≡ ys = sorted-members xs ys (sorted_tail cmp_trees x xs a) (sorted_tail cmp_trees y ys b) hs ks in
    cc

each-type-normal : (p : ℕ) (fs : List Form) (t : List ℕ) (ms ns : List Tree) → IsBasisOf p fs t ns → Each (IsOfType t) ms → Each (IsNormal p fs) ms → Each (λ m. Member m ns) ms
each-type-normal p fs t [] ns h a b = tt
each-type-normal p fs t (m ∷ ms) ns h a b = (member m ns (h.whole m a.0 b.0), each-type-normal p fs t ms ns h a.1 b.1)

-- two right tables have the same bases
pub basis-unique : (p : ℕ) (fs : List Form) (t : List ℕ) (ms ns : List Tree) → IsBasisOf p fs t ms → IsBasisOf p fs t ns → ms ≡ ns
basis-unique p fs t ms ns h k = sorted-members ms ns h.ascends k.ascends
    (each-type-normal p fs t ms ns k h.types h.normal) (each-type-normal p fs t ns ms h k.types k.normal)

-- ---- the first table

-- no product has degree 1
pub first-entries : (p : ℕ) (fs : List Form) (target : List ℕ) (entry : Tree → Tree → Poly) (b c : Tree) → IsWithinDegree target 1 (node b c) →
    StandsFor p fs (IsBasisTo p fs target 1) (node b c) (entry b c)
first-entries p fs target entry b c w = absurd (omega (arith, w.degree, degree-positive b, degree-positive c))

-- the basis of the type of a generator is the generator
pub first-basis : (p : ℕ) (fs : List Form) → AreMultilinear fs → AreHigh fs → (t : List ℕ) (k : ℕ) → IsOfType t (leaf k) → IsBasisOf p fs t (leaf k ∷ [])
unfolding IsStrictlySortedBy
first-basis p fs multi high t k o = record {
  ascends = (tt, tt);
  types = (o, tt);
  normal = (generator-normal fs multi high p k, tt);
  whole = λ m h n. (0, omega arith, only m (of_type-same t m (leaf k) h o));
}
  where
    only : (m : Tree) → SameType m (leaf k) → get_or (leaf k ∷ []) 0 m ≡ m
    only (leaf j) s = elim (cases_eq k j) [
      | inl e ↦ ap leaf e
      | inr n ↦ let a : eqb j j ≡ true = grind (arith, nat_tests) in let b : eqb k j ≡ false = grind (arith, nat_tests) in
          let c : count j (leaf j) ≡ count j (leaf k) = s.counts j in absurd (omega (arith, rw (a, b) at c))
    ]
    only (node l r) s = absurd (omega (arith, degree-same (node l r) (leaf k) s, degree-positive l, degree-positive r))

-- the type of no monomial has an empty basis
pub empty-basis : (p : ℕ) (fs : List Form) (t : List ℕ) → sum t ≡ 0 → IsBasisOf p fs t []
unfolding IsStrictlySortedBy
empty-basis p fs t e = record {
  ascends = tt;
  types = tt;
  normal = tt;
  whole = λ m o n. absurd (omega (arith, of_type-degree t m o, degree-positive m));
}

-- a table of degree 1: the generators, and no entries
pub first-right : (p : ℕ) (fs : List Form) → AreMultilinear fs → AreHigh fs → (target : List ℕ) (basis : List ℕ → List Tree) (entry : Tree → Tree → Poly) →
    ((t : List ℕ) → IsTypeTo target 1 t → sum t ≡ 1 → (k : ℕ) × IsOfType t (leaf k) × (basis t ≡ leaf k ∷ [])) →
    ((t : List ℕ) → sum t ≡ 0 → basis t ≡ []) → IsRight p fs target 1 basis entry
first-right p fs multi high target basis entry ones none = record {
  bases = λ t ty. elim (cases_eq (sum t) 0) [
    | inl z ↦ subst (IsBasisOf p fs t) (sym (none t z)) (empty-basis p fs t z)
    | inr n ↦ (let k = ones t ty (omega (arith, ty.degree)) in
        subst (IsBasisOf p fs t) (sym k.2) (first-basis p fs multi high t k.0 k.1))
  ];
  entries = λ b c hb hc w. first-entries p fs target entry b c w;
}
