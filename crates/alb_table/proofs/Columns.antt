-- Columns by numbers: a block's pivots and entries, from the reduced form of its rows.
use Rattle.std.proofs.Common.{◌≡◌, ℕ, zero, suc, ◌+◌, ◌-◌, ◌*◌, ◌%◌, ◌<◌, ◌≤◌, true, false, List, [], ◌∷◌, ◌++◌, length, get_or, eqb, sym, refl, ap, ◌∙◌, subst, arith, inl, inr}
use Rattle.std.specs.Ordering.{flip_args}
use Rattle.std.specs.List.{Contains}
use Rattle.std.specs.declared.cmp.Ordering.TheVariants.{Less, Equal, Greater}
use Rattle.std.proofs.lemmas.Map.Keys.{Less-from_sorted}
use Rattle.std.proofs.lemmas.Cmp.{tied_itself}
use Rattle.std.proofs.lemmas.List.{get_or_default}
use Rattle.std.proofs.lemmas.Bool.{eq-eqb, cases_Bool, cases_eq, cases_lt, cases_order}
use Rattle.std.proofs.lemmas.Bool.Decides.{nat_tests}
use Rattle.std.specs.Bool.{if◌then◌else◌}
use Rattle.gf_field.specs.Modular.{IsSameMod}
use Rattle.gf_field.proofs.Mod.{same, back, ◌⊙◌, plus, times, multiple, cancel_plus}
use Rattle.alb_poly.specs.Textbook.{unit}
use Rattle.alb_table.proofs.Congruent.{minus_one}
use Rattle.alb_table.proofs.Values.{each-both, each-scale}
use Rattle.alb_mono.specs.Tree.{Tree, leaf, cmp_trees, same_tree}
use Rattle.alb_mono.proofs.Order.{cmp_trees_total}
use Rattle.gf_sums.specs.Sums.{Comb, coefficient, scale, reindex}
use Rattle.gf_sums.proofs.Totals.{weigh-append, weigh-scale}
use Rattle.gf_sums.proofs.Alike.{Alike}
use Rattle.alb_poly.specs.Poly.{Poly}
use Rattle.alb_mono.specs.Listing.{Each}
use Rattle.alb_poly.proofs.Multilinear.{each-map, each-from}
use Rattle.alb_poly.proofs.Consequence.{tree_tells, alike_poly, poly_alike}
use Rattle.alb_table.specs.Right.{IsZeroAt, difference}
use Rattle.alb_table.proofs.Coefficients.{zero_or, each-coefficient, coefficient-append, coefficient-scale, less-turned, greater-turned}
use Rattle.alb_table.specs.Block.{spread, InNamedSpan, IsPivotMonomial}
use Rattle.alb_table.proofs.Spans.{span-alike, span-zero, span-append, span-scale, span-one}
use Rattle.alb_rows.specs.Span.{combination, Same, IsLead}
use Rattle.alb_rows.specs.Row.{Cells, comb, entry}
use Rattle.alb_table.specs.Columns.{vector_of, AreColumns, col, HasElement, HaveSpan, IsEntryRow}
use Rattle.alb_rows.specs.Span as Vectors

vector-get : (cols : List Tree) (x : Poly) (j : ℕ) (d : Tree) → j < length cols → vector_of cols x j ≡ coefficient same_tree x (get_or cols j d)
vector-get [] x j d h = absurd (omega arith)
vector-get (c ∷ cols) x zero d h = refl
vector-get (c ∷ cols) x (suc j) d h = vector-get cols x j d (omega arith)

vector-past : (cols : List Tree) (x : Poly) (j : ℕ) → length cols ≤ j → vector_of cols x j ≡ 0
vector-past [] x j h = refl
vector-past (c ∷ cols) x zero h = absurd (omega arith)
vector-past (c ∷ cols) x (suc j) h = vector-past cols x j (omega arith)

vector-append : (cols : List Tree) (x y : Poly) (j : ℕ) → vector_of cols (x ++ y) j ≡ vector_of cols x j + vector_of cols y j
vector-append [] x y j = refl
vector-append (c ∷ cols) x y zero = coefficient-append same_tree tree_tells x y c
vector-append (c ∷ cols) x y (suc j) = vector-append cols x y j

vector-scale : (cols : List Tree) (k : ℕ) (x : Poly) (j : ℕ) → vector_of cols (scale k x) j ≡ k * vector_of cols x j
vector-scale [] k x j = omega arith
vector-scale (c ∷ cols) k x zero = coefficient-scale same_tree tree_tells k x c
vector-scale (c ∷ cols) k x (suc j) = vector-scale cols k x j

pub vector-alike : {p : ℕ} (cols : List Tree) (x y : Poly) → Alike p x y → (j : ℕ) → IsSameMod p (vector_of cols x j) (vector_of cols y j)
vector-alike [] x y h j = same refl
vector-alike (c ∷ cols) x y h zero = poly_alike h c
vector-alike (c ∷ cols) x y h (suc j) = vector-alike cols x y h j

-- the vector of a combination of polynomials is the combination of their vectors
pub vector-spread : {N : Type 0} (cols : List Tree) (row : N → Poly) (items : Comb N) (j : ℕ) →
    vector_of cols (spread row items) j ≡ combination (λ n. vector_of cols (row n)) items j
vector-spread [] row [] j = refl
vector-spread (c ∷ cols) row [] zero = refl
vector-spread (c ∷ cols) row [] (suc j) = vector-spread cols row [] j
vector-spread cols row (t ∷ items) j =
    vector-append cols (scale t.0 (row t.1)) (spread row items) j
    ∙ omega (arith, vector-scale cols t.0 (row t.1) j, vector-spread cols row items j)

-- ---- spans of vectors

combination-same : {K : Type 0} {p : ℕ} (f g : K → ℕ → ℕ) (xs : List (ℕ × K)) (j : ℕ) → ((k : K) → IsSameMod p (f k j) (g k j)) →
    IsSameMod p (combination f xs j) (combination g xs j)
combination-same f g [] j h = same refl
combination-same f g (x ∷ xs) j h = plus (times (same {a = x.0} refl) (h x.1)) (combination-same f g xs j h)

module _ {N K : Type 0} (p : ℕ) (Named : N → Type 0) (row : N → Poly) (Column : Tree → Type 0) (cols : List Tree) (are : AreColumns Column cols)
    (f : K → ℕ → ℕ) (span : HaveSpan p Named row cols f)
    (columns : (x : Poly) → InNamedSpan p Named row x → (m : Tree) → (IsZeroAt p x m → ⊥) → Column m) where
  items_vector : (items : Comb N) → Each (λ t. Named t.1) items → Vectors.InSpan p f (combination (λ n. vector_of cols (row n)) items)
  items_vector [] a = record { items = []; gives = λ j. refl }
  items_vector (t ∷ items) a =
      let u = span.from t.1 a.0 in
      let v = items_vector items a.1 in
      record {
        items = scale t.0 u.items ++ v.items;
        gives = λ j. (same (weigh-append (λ k. f k j) (scale t.0 u.items) v.items)
            ⊙ plus (same (weigh-scale (λ k. f k j) t.0 u.items) ⊙ times (same {a = t.0} refl) (record { same = u.gives j })) (record { same = v.gives j })).same;
      }

  -- the vector of an element of the span
  pub element-vector : (x : Poly) → InNamedSpan p Named row x → Vectors.InSpan p f (vector_of cols x)
  element-vector x s =
      let u = items_vector s.items s.named in
      record { items = u.items; gives = λ j. u.gives j ∙ (same (sym (vector-spread cols row s.items j)) ⊙ back (vector-alike cols x (spread row s.items) (alike_poly s.gives) j)).same }

  -- and the element of a vector of the span
  pub vector-element : (v : ℕ → ℕ) → Vectors.InSpan p f v → HasElement p Named row cols v
  vector-element v s = record {
    element = spread (λ k. (span.into k).element) s.items;
    in_span = sum_in_span s.items;
    vector = λ j. back (record { same = s.gives j }) ⊙ combination-same f (λ k. vector_of cols (span.into k).element) s.items j (λ k. (span.into k).vector j) ⊙ same (sym (vector-spread cols (λ k. (span.into k).element) s.items j));
  }
    where
      sum_in_span : (items : Comb K) → InNamedSpan p Named row (spread (λ k. (span.into k).element) items)
      sum_in_span [] = span-zero p Named row
      sum_in_span (t ∷ items) = span-append p Named row (span-scale p Named row t.0 (span.into t.1).in_span) (sum_in_span items)

  before-greater : (i j : ℕ) → i < j → j < length cols → cmp_trees (col cols i) (col cols j) ≡ Greater
  before-greater i j l h = greater-turned cmp_trees_total (col cols j) (col cols i) (Less-from_sorted (flip_args cmp_trees) cols i j (leaf 0) are.descends l h)

  greater-before : (i j : ℕ) → i < length cols → cmp_trees (col cols i) (col cols j) ≡ Greater → i < j
  greater-before i j h g = elim (cases_order i j) [
    | inl e ↦ (let q : cmp_trees (col cols i) (col cols j) ≡ Equal = ap (λ k. cmp_trees (col cols i) (col cols k)) (sym e) ∙ tied_itself cmp_trees_total (col cols i) in absurd (cc))
    | inr (inl l) ↦ l
    | inr (inr m) ↦ (let q : cmp_trees (col cols i) (col cols j) ≡ Less = less-turned cmp_trees_total (col cols j) (col cols i) (before-greater j i m h) in absurd (cc))
  ]

  -- a column's number
  pub number : (m : Tree) → Column m → (i : ℕ) × (i < length cols) × (col cols i ≡ m)
  number m c = let w = are.whole m c in (w.0, w.1, get_or_default cols w.0 (leaf 0) m w.1 ∙ w.2)

  pub column-at : (j : ℕ) → j < length cols → Column (col cols j)
  column-at j h = at_place cols j are.columns h
    where
      at_place : (cs : List Tree) (j : ℕ) → Each Column cs → j < length cs → Column (get_or cs j (leaf 0))
      at_place [] j a l = absurd (omega arith)
      at_place (c ∷ cs) zero a l = a.0
      at_place (c ∷ cs) (suc j) a l = at_place cs j a.1 (omega arith)

  at-col : (x : Poly) (j : ℕ) → j < length cols → vector_of cols x j ≡ coefficient same_tree x (col cols j)
  at-col x j h = vector-get cols x j (leaf 0) h

  -- a pivot by its number, and by its column
  pub pivot-number : (j : ℕ) → j < length cols → IsPivotMonomial p Named row (col cols j) → Vectors.IsPivot p f j
  pivot-number j h v = record {
    element = vector_of cols v.element;
    in_span = element-vector v.element v.in_span;
    lead = record {
      nonzero = λ e. v.nonzero (same (sym (at-col v.element j h)) ⊙ record { same = e ∙ zero_mod p });
      before = λ i l. (same (at-col v.element i (omega arith)) ⊙ v.greatest (col cols i) (before-greater i j l h)).same ∙ sym (zero_mod p);
    };
  }
    where
      zero_mod : (p : ℕ) → 0 ≡ 0 % p
      zero_mod p = grind arith

  pub number-pivot : (j : ℕ) → Vectors.IsPivot p f j → (j < length cols) × IsPivotMonomial p Named row (col cols j)
  number-pivot j v =
      let u = vector-element v.element v.in_span in
      let z : (i : ℕ) → 0 % p ≡ 0 = λ i. grind arith in
      let h : j < length cols = (elim (cases_lt j (length cols)) [
        | inl l ↦ l
        | inr g ↦ absurd (v.lead.nonzero ((u.vector j ⊙ same (vector-past cols u.element j g)).same ∙ z 0))
      ]) in (
        h,
        record {
          element = u.element;
          in_span = u.in_span;
          nonzero = λ e. v.lead.nonzero ((u.vector j ⊙ same (at-col u.element j h) ⊙ e).same ∙ z 0);
          greatest = λ x g. elim (zero_or p (coefficient same_tree u.element x)) [
            | inl e ↦ e
            | inr n ↦ (let i = number x (columns u.element u.in_span x n) in
                let l : i.0 < j = greater-before i.0 j i.1 (subst (λ y. cmp_trees y (col cols j) ≡ Greater) (sym i.2) g) in
                subst (λ y. IsZeroAt p u.element y) i.2 (same (sym (at-col u.element i.0 i.1)) ⊙ back (u.vector i.0) ⊙ record { same = v.lead.before i.0 l ∙ sym (z 0) }))
          ];
        },
      )

  col-different : (i j : ℕ) → i < j → j < length cols → col cols i ≡ col cols j → ⊥
  col-different i j l h e =
      let g : cmp_trees (col cols i) (col cols j) ≡ Greater = before-greater i j l h in
      let q : cmp_trees (col cols i) (col cols j) ≡ Equal = ap (cmp_trees (col cols i)) (sym e) ∙ tied_itself cmp_trees_total (col cols i) in absurd (cc)

  same-col : (i j : ℕ) → i < length cols → j < length cols → same_tree (col cols i) (col cols j) ≡ eqb i j
  same-col i j hi hj = elim (cases_order i j) [
    | inl e ↦ rw e (tree_tells.whole (col cols j) ∙ sym (eq-eqb j j refl))
    | inr n ↦ (elim (cases_Bool (same_tree (col cols i) (col cols j))) [
      | inr f ↦ (elim n [
        | inl l ↦ (let q : eqb i j ≡ false = grind (arith, nat_tests) in f ∙ sym q)
        | inr m ↦ (let q : eqb i j ≡ false = grind (arith, nat_tests) in f ∙ sym q)
      ])
      | inl s ↦ (let e : col cols i ≡ col cols j = tree_tells.sound (col cols i) (col cols j) s in elim n [
        | inl l ↦ absurd (col-different i j l hj e)
        | inr m ↦ absurd (col-different j i m hi (sym e))
      ])
    ])
  ]

  coefficient-col : (e : Comb ℕ) (i : ℕ) → i < length cols → Each (λ s. s.1 < length cols) e →
      coefficient same_tree (reindex (col cols) e) (col cols i) ≡ coefficient eqb e i
  coefficient-col [] i h a = refl
  coefficient-col (t ∷ e) i h a = rw (same-col t.1 i a.0 h, coefficient-col e i h a.1)

  module _ (pos : 0 < p) (j : ℕ) (here : j < length cols) (v : ℕ → ℕ) (reduced : Vectors.IsReducedRow p f j v) (e : Comb ℕ) (entry : IsEntryRow p cols j v e) where
    no-pivot : (i : ℕ) → i < length cols → (IsSameMod p (coefficient eqb e i) 0 → ⊥) → IsPivotMonomial p Named row (col cols i) → ⊥
    no-pivot i h n w = elim (cases_eq i j) [
      | inl q ↦ (let t : eqb i j ≡ true = eq-eqb i j q in
          let one : IsSameMod p (v i) 1 = record { same = ap (λ k. v k % p) q ∙ reduced.one } in
          let s : IsSameMod p (coefficient eqb e i + v i) 1 = (let b : IsSameMod p (coefficient eqb e i + v i) (if eqb i j then 1 else 0) = entry.sums i h in rw t at b) in
          n (cancel_plus (v i) pos (s ⊙ back one ⊙ same (omega arith))))
      | inr ne ↦ (let t : eqb i j ≡ false = grind (arith, nat_tests) in
          let none : IsSameMod p (v i) 0 = record { same = reduced.others i (pivot-number i h w) ne ∙ (let z : 0 ≡ 0 % p = grind arith in z) } in
          let s : IsSameMod p (coefficient eqb e i + v i) 0 = (let b : IsSameMod p (coefficient eqb e i + v i) (if eqb i j then 1 else 0) = entry.sums i h in rw t at b) in
          n (cancel_plus (v i) pos (s ⊙ back none ⊙ same (omega arith))))
    ]

    -- the entry has columns that are no pivots
    pub entry-free : Each (λ s. Column s.1 × (IsPivotMonomial p Named row s.1 → ⊥)) (reindex (col cols) e)
    entry-free = each-map (λ s. (s.1 < length cols) × (IsSameMod p (coefficient eqb e s.1) 0 → ⊥)) (λ s. Column s.1 × (IsPivotMonomial p Named row s.1 → ⊥)) _ e
        (λ s h. (column-at s.1 h.0, no-pivot s.1 h.0 h.1)) (each-both (λ s. s.1 < length cols) (λ s. IsSameMod p (coefficient eqb e s.1) 0 → ⊥) _ e (λ s h k. (h, k)) entry.places entry.kept)

    abbrev pub element : HasElement p Named row cols v
    element = vector-element v reduced.in_span

    abbrev rest : Poly
    rest = difference p (unit (col cols j)) (reindex (col cols) e)

    coefficient-rest : (i : ℕ) → i < length cols → coefficient same_tree rest (col cols i) ≡ (if eqb i j then 1 else 0) + (p - 1) * coefficient eqb e i
    coefficient-rest i h =
        let q : eqb j i ≡ eqb i j = (elim (cases_eq i j) [
          | inl s ↦ (let a : eqb j i ≡ true = grind (arith, nat_tests) in a ∙ sym (eq-eqb i j s))
          | inr n ↦ (let a : eqb j i ≡ false = grind (arith, nat_tests) in let b : eqb i j ≡ false = grind (arith, nat_tests) in a ∙ sym b)
        ]) in
        coefficient-append same_tree tree_tells (unit (col cols j)) (scale (p - 1) (reindex (col cols) e)) (col cols i)
        ∙ rw (coefficient-scale same_tree tree_tells (p - 1) (reindex (col cols) e) (col cols i), coefficient-col e i h entry.places)
        (rw (same-col j i here h, q) (omega arith))

    at_column : (i : ℕ) → i < length cols → IsSameMod p (coefficient same_tree element.element (col cols i)) (coefficient same_tree rest (col cols i))
    at_column i h =
        let c : ℕ = coefficient eqb e i in
        same (sym (at-col element.element i h)) ⊙ back (element.vector i)
        ⊙ back (multiple c (v i))
        ⊙ same (omega (arith, minus_one p c pos))
        ⊙ plus {a = c + v i} (entry.sums i h) (same {a = (p - 1) * c} refl)
        ⊙ same (sym (coefficient-rest i h))

    numbered_terms : Each (λ s. (i : ℕ) × (i < length cols) × (col cols i ≡ s.1)) rest
    numbered_terms = (
      (j, here, refl),
      each-scale (λ m. (i : ℕ) × (i < length cols) × (col cols i ≡ m)) (p - 1) (reindex (col cols) e)
          (each-map (λ s. s.1 < length cols) (λ s. (i : ℕ) × (i < length cols) × (col cols i ≡ s.1)) _ e (λ s h. (s.1, h, refl)) entry.places),
    )

    at_number : (y : Tree) → (i : ℕ) × (i < length cols) × (col cols i ≡ y) → IsSameMod p (coefficient same_tree element.element y) (coefficient same_tree rest y)
    at_number y h = subst (λ x. IsSameMod p (coefficient same_tree element.element x) (coefficient same_tree rest x)) h.2 (at_column h.0 h.1)

    pub at_monomial : (y : Tree) → IsSameMod p (coefficient same_tree element.element y) (coefficient same_tree rest y)
    at_monomial y = elim (each-coefficient same_tree tree_tells (λ m. (i : ℕ) × (i < length cols) × (col cols i ≡ m)) rest y numbered_terms) [
      | inl h ↦ at_number y h
      | inr z ↦ (elim (zero_or p (coefficient same_tree element.element y)) [
        | inl k ↦ k ⊙ same (sym z)
        | inr n ↦ at_number y (number y (columns element.element element.in_span y n))
      ])
    ]

    -- and the column less its entry is in the span
    pub entry-span : InNamedSpan p Named row (difference p (unit (col cols j)) (reindex (col cols) e))
    entry-span = span-alike p Named row (alike_poly at_monomial) element.in_span

-- the entries of a row are the coefficients of its combination
pub entry-cells : (cells : Cells) (j : ℕ) → coefficient eqb (comb cells) j ≡ entry cells j
entry-cells cells j = refl

-- the vectors of the rows of all names, in a list; past its end the vectors are zero
pub rows-have-span : {N : Type 0} (p : ℕ) (Named : N → Type 0) (row : N → Poly) (cols : List Tree) (names : List N) (d : N) (f : ℕ → ℕ → ℕ) →
    Each Named names → ((n : N) → Named n → Contains names n) →
    ((k j : ℕ) → k < length names → IsSameMod p (f k j) (vector_of cols (row (get_or names k d)) j)) →
    ((k j : ℕ) → length names ≤ k → IsSameMod p (f k j) 0) → HaveSpan p Named row cols f
rows-have-span {N = N} p Named row cols names d f named whole rows past = record {
  into = λ k. elim (cases_lt k (length names)) [
    | inl l ↦ record { element = row (get_or names k d); in_span = span-one p Named row (get_or names k d) (at_place names k named l); vector = λ j. rows k j l }
    | inr g ↦ record { element = []; in_span = span-zero p Named row; vector = λ j. past k j g ⊙ same (sym (vector-zero cols j)) }
  ];
  from = λ n h. let w = whole n h in record {
    items = (1, w.0) ∷ [];
    gives = λ j. (same {b = f w.0 j} (omega arith) ⊙ rows w.0 j w.1
        ⊙ same (ap (λ x. vector_of cols (row x) j) (get_or_default names w.0 d n w.1 ∙ w.2))).same;
  };
}
  where
    at_place : (xs : List N) (k : ℕ) → Each Named xs → k < length xs → Named (get_or xs k d)
    at_place [] k a l = absurd (omega arith)
    at_place (x ∷ xs) zero a l = a.0
    at_place (x ∷ xs) (suc k) a l = at_place xs k a.1 (omega arith)

    vector-zero : (cs : List Tree) (j : ℕ) → vector_of cs [] j ≡ 0
    vector-zero [] j = refl
    vector-zero (c ∷ cs) zero = refl
    vector-zero (c ∷ cs) (suc j) = vector-zero cs j

-- ---- an element is determined by its vector

module _ (p : ℕ) (Column : Tree → Type 0) (cols : List Tree) (are : AreColumns Column cols) where
  -- polynomials whose monomials are columns, and that have the same vector, are equal
  pub vectors-alike : (x y : Poly) → ((m : Tree) → (IsZeroAt p x m → ⊥) → Column m) → ((m : Tree) → (IsZeroAt p y m → ⊥) → Column m) →
      ((j : ℕ) → IsSameMod p (vector_of cols x j) (vector_of cols y j)) → Alike p x y
  vectors-alike x y hx hy v = alike_poly (λ m. elim (zero_or p (coefficient same_tree x m)) [
    | inr n ↦ at_column m (hx m n)
    | inl zx ↦ (elim (zero_or p (coefficient same_tree y m)) [
      | inr n ↦ at_column m (hy m n)
      | inl zy ↦ zx ⊙ back zy
    ])
  ])
    where
      at_column : (m : Tree) → Column m → IsSameMod p (coefficient same_tree x m) (coefficient same_tree y m)
      at_column m c =
          let w = are.whole m c in
          let e : get_or cols w.0 (leaf 0) ≡ m = get_or_default cols w.0 (leaf 0) m w.1 ∙ w.2 in
          subst (λ k. IsSameMod p (coefficient same_tree x k) (coefficient same_tree y k)) e
          (same (sym (vector-get cols x w.0 (leaf 0) w.1)) ⊙ v w.0 ⊙ same (vector-get cols y w.0 (leaf 0) w.1))

  -- names whose vectors span those of all names have rows that span all rows
  pub names-span : {N : Type 0} (Named : N → Type 0) (row : N → Poly) → ((x : Poly) → InNamedSpan p Named row x → (m : Tree) → (IsZeroAt p x m → ⊥) → Column m) →
      (names : List N) (d : N) (f : ℕ → ℕ → ℕ) → Each Named names →
      ((k j : ℕ) → k < length names → IsSameMod p (f k j) (vector_of cols (row (get_or names k d)) j)) →
      ((k j : ℕ) → length names ≤ k → IsSameMod p (f k j) 0) →
      (n : N) → Named n → Vectors.InSpan p f (vector_of cols (row n)) → InNamedSpan p (Contains names) row (row n)
  names-span {N = N} Named row columns names d f named rows past n h s =
      let family : HaveSpan p (Contains names) row cols f = rows-have-span p (Contains names) row cols names d f (contains-each names) (λ k c. c) rows past in
      let fewer : (x : Poly) → InNamedSpan p (Contains names) row x → (m : Tree) → (IsZeroAt p x m → ⊥) → Column m = λ x r. columns x (record {
        items = r.items;
        named = each-from _ _ r.items (λ t c. contained names named t.1 c) r.named;
        gives = r.gives;
      }) in
      let u : HasElement p (Contains names) row cols (vector_of cols (row n)) =
      vector-element p (Contains names) row Column cols are f family fewer (vector_of cols (row n)) s in
      span-alike p (Contains names) row
      (vectors-alike u.element (row n) (fewer u.element u.in_span) (columns (row n) (span-one p Named row n h)) (λ j. back (u.vector j)))
      u.in_span
    where
      contains-each : (xs : List N) → Each (Contains xs) xs
      contains-each [] = tt
      contains-each (x ∷ xs) = ((0, omega arith, refl), each-from (Contains xs) (Contains (x ∷ xs)) xs (λ m c. (suc c.0, (let l : c.0 < length xs = c.1 in omega arith), c.2)) (contains-each xs))

      contained : (xs : List N) → Each Named xs → (k : N) → Contains xs k → Named k
      contained xs a k c = subst Named c.2 (at_place xs c.0 k a c.1)
        where
          at_place : (ys : List N) (i : ℕ) (e : N) → Each Named ys → i < length ys → Named (get_or ys i e)
          at_place [] i e a l = absurd (omega arith)
          at_place (y ∷ ys) zero e a l = a.0
          at_place (y ∷ ys) (suc i) e a l = at_place ys i e a.1 (omega arith)
