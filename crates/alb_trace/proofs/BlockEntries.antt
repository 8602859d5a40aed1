-- A product of two basis elements less its entry, out of the rows of the kept instances of its type.
use Rattle.std.proofs.Common.{◌≡◌, ℕ, suc, ◌+◌, ◌-◌, ◌*◌, ◌%◌, ◌<◌, ◌≤◌, List, [], ◌∷◌, map, length, get_or, sum, sym, refl, ap, ◌∙◌, subst, arith, inl, inr}
use Rattle.std.specs.Prelude.{nat_eq, nat_lt, true, false, if◌then◌else◌}
use Rattle.std.proofs.lemmas.Bool.Decides.{nat_tests}
use Rattle.std.proofs.lemmas.Bool.{cases_Bool}
use Rattle.std.proofs.lemmas.List.{length-map, get_or-map}
use Rattle.gf_field.specs.Modular.{IsSameMod}
use Rattle.gf_field.proofs.Mod.{same, back, ◌⊙◌, plus, multiple, of_mod, residues}
use Rattle.std.proofs.lemmas.Nat.{mod_below}
use Rattle.alb_rows.proofs.RowLemmas.{entry_found}
use Rattle.gf_sums.specs.Sums.{Comb}
use Rattle.gf_sums.proofs.Alike.{Alike, joined, turned}
use Rattle.alb_mono.specs.Listing.{Each}
use Rattle.alb_mono.specs.Tree.{Tree, node, degree}
use Rattle.alb_mono.proofs.ListingLemmas.{each-weaker, each-at}
use Rattle.alb_poly.specs.Textbook.{unit}
use Rattle.alb_poly.specs.Poly.{Poly, list_eq}
use Rattle.alb_poly.specs.Instance.{Form, IsMultilinearForm}
use Rattle.alb_poly.specs.Consequence.{form_at}
use Rattle.alb_poly.proofs.Multilinear.{each-from, each_from_all}
use Rattle.alb_poly.proofs.Parts.{multilinear_at}
use Rattle.alb_table.specs.Right.{IsZeroAt, IsBasisTo, IsRight, IsTypeTo, IsOfType, IsWithinDegree}
use Rattle.alb_table.specs.Table.{PartView, elems, origins_at, mono_at, Table, CoversType}
use Rattle.alb_table.specs.RightTable.{RulesView, IsRightFor, basis_monos, mono_entry, instance_at}
use Rattle.alb_rows.specs.Row.{Cells, comb, entry, IsRowOver}
use Rattle.alb_rows.specs.Span.{SameSpan, combination}
use Rattle.alb_rows.proofs.SpanLemmas.{pivot_through}
use Rattle.alb_rows.specs.Span as Vectors
use Rattle.alb_reduce.specs.Reduction.{Reduction, kept, offered, IsRecipe}
use Rattle.alb_table.proofs.Bases.{IsTable}
use Rattle.alb_table.proofs.Block.{number-free, free-entry}
use Rattle.alb_table.proofs.Congruent.{difference-zero}
use Rattle.alb_table.proofs.Spans.{spread-each}
use Rattle.alb_table.proofs.Columns.{column-at}
use Rattle.alb_table.specs.Block.{spread, InNamedSpan, tuple_row, IsTupleAt, IsColumnAt, IsFreeAt, IsEntryAt, AreOriginsAt}
use Rattle.alb_table.specs.Columns.{vector_of, AreColumns, HaveSpan, IsEntryRow, col}
use Rattle.alb_table.proofs.FirstLemmas.{few_generators}
use Rattle.alb_table.proofs.Right.{of_type-degree, right-table, element-columns_at}
use Rattle.alb_table.proofs.TableLemmas.{each-unmap}
use Rattle.alb_table.proofs.Within.{degree-positive}
use Rattle.alb_subst.specs.Sums.{instance_row}
use Rattle.alb_block.specs.Asked.{setting_of}
use Rattle.alb_block.specs.Instances.{columns_of, instance_vector}
use Rattle.alb_block.specs.Meaning.{column_monos}
use Rattle.alb_block.proofs.Vectors.{cells_of, entry-cells, cells-over, cells-below}
use Rattle.alb_table.proofs.RightTables.{columns-below}
use Rattle.alb_poly.proofs.Consequence.{itself'}
use Rattle.alb_block.proofs.ColumnLemmas.{columns-are, columns-in}
use Rattle.alb_block.proofs.InstanceLemmas.{row-monos, row-in, vector-pairs}
use Rattle.alb_trace.specs.Origins.{origin_at, origin_row, IsOriginBlock}
use Rattle.alb_trace.specs.Trace.{product_less}
use Rattle.alb_trace.proofs.OfferedLemmas.{with_past, number_below, reduced_through}
use Rattle.alb_trace.proofs.Recipe.{origins-have-span}
use Rattle.alb_trace.proofs.OriginEntry.{right-lower, entry-alike, origin-entry}
use Rattle.alb_trace.proofs.PushLemmas.{spread-reindex}
use Rattle.alb_trace.proofs.ValueRows.{pos}

-- ---- the entry of a reduced row

each-comb : (P : ℕ → Type 0) (cells : Cells) → ((k : ℕ) → k < length cells → P (get_or cells k (0, 0)).0) → Each (λ s. P s.1) (comb cells)
each-comb P [] h = tt
each-comb P (x ∷ cells) h = (h 0 (omega arith), each-comb P cells (λ k l. h (suc k) (omega arith)))

-- a residue and what is missing to p
filled : (p a x : ℕ) → 0 < p → IsSameMod p (a + (p - x % p) + x) a
filled p a x pos =
    let l : x % p < p = mod_below x p pos in
    let q : (a + (p - x % p)) + x % p ≡ 1 * p + a = omega arith in
    plus (same {a = a + (p - x % p)} refl) (back (of_mod x)) ⊙ same q ⊙ multiple 1 a

module _ (p : ℕ) (pos : 0 < p) (cols : List Tree) (j : ℕ) (v : ℕ → ℕ) where
  -- 1 at the column, less the row
  minus : ℕ → ℕ
  minus i = if nat_lt i (length cols) then (if nat_eq i j then 1 else 0) + (p - v i % p) else 0

  minus-past : (i : ℕ) → length cols ≤ i → minus i % p ≡ 0
  unfolding minus
  minus-past i l = let z : nat_lt i (length cols) ≡ false = grind (arith, nat_tests) in rw z (grind arith)

  minus-at : (i : ℕ) → i < length cols → minus i ≡ (if nat_eq i j then 1 else 0) + (p - v i % p)
  unfolding minus
  minus-at i l = let z : nat_lt i (length cols) ≡ true = grind (arith, nat_tests) in rw z refl

  minus-sum : (i : ℕ) → i < length cols → IsSameMod p (entry (cells_of p (length cols) minus) i + v i) (if nat_eq i j then 1 else 0)
  minus-sum i l =
      plus (same (entry-cells p (length cols) minus minus-past i) ⊙ of_mod (minus i) ⊙ same (minus-at i l)) (same {a = v i} refl)
      ⊙ filled p (if nat_eq i j then 1 else 0) (v i) pos

  minus-kept : (k : ℕ) → k < length (cells_of p (length cols) minus) → IsSameMod p (entry (cells_of p (length cols) minus) (get_or (cells_of p (length cols) minus) k (0, 0)).0) 0 → ⊥
  minus-kept k l z =
      let cells : Cells = cells_of p (length cols) minus in
      let row : IsRowOver p cells = cells-over p (length cols) minus pos in
      let found : entry cells (get_or cells k (0, 0)).0 ≡ (get_or cells k (0, 0)).1 = entry_found cells k (get_or cells k (0, 0)).0 row.row l refl in
      row.row.nonzero k (0, 0) l (residues (row.residues k (0, 0) l) pos (same (sym found) ⊙ z))

  -- each vector has an entry
  pub entry-exists : (e : Comb ℕ) × IsEntryRow p cols j v e
  entry-exists = (
    comb (cells_of p (length cols) minus),
    record {
      places = columns-below (length cols) (cells_of p (length cols) minus) (cells-below p (length cols) minus);
      sums = minus-sum;
      kept = each-comb (λ c. IsSameMod p (entry (cells_of p (length cols) minus) c) 0 → ⊥) (cells_of p (length cols) minus) minus-kept;
    },
  )

-- the origins of a type are those of a part, or none
origins-known : (P : ℕ × List ℕ → Type 0) (parts : List PartView) (w : List ℕ) → Each (λ (q : PartView). Each P q.origins) parts → Each P (origins_at parts w)
origins-known P [] w a = tt
origins-known P (q ∷ qs) w a = elim (cases_Bool (list_eq q.at w)) [
  | inl e ↦ rw e a.0
  | inr e ↦ rw e (origins-known P qs w a.1)
]

module _ (given : RulesView) (t : Table) (g : IsRightFor given t) (w : List ℕ) (cov : CoversType t w) (long : length w ≡ length t.target) (big : 2 ≤ sum w) where
  -- the degree below
  abbrev pub low : ℕ
  low = sum w - 1

  abbrev pub entries : Tree → Tree → Poly
  entries = mono_entry t.parts

  pub next : sum w ≡ low + 1
  next = omega arith

  pub some : 1 ≤ low
  some = omega arith

  pub to : IsTypeTo t.target (low + 1) w
  to = record { counts = long; le = cov.within; degree = omega (arith, next) }

  pub right : IsRight t.p given.forms t.target (low + 1) (basis_monos t.parts) entries
  right = right-lower t.p (pos given t g) given.forms g.multilinear g.high t.target (low + 1) t.degree (omega (arith, cov.degree_le, next)) (basis_monos t.parts) entries g.right.right

  -- a product of the type has factors of smaller degree
  lower-column : (m : Tree) → IsColumnAt t.p given.forms t.target t.degree w m → IsColumnAt t.p given.forms t.target low w m
  lower-column m h =
      let o : IsOfType w (node h.left h.right) = subst (IsOfType w) h.product h.type in
      let e : degree (node h.left h.right) ≡ sum w = of_type-degree w (node h.left h.right) o in
      let l : 1 ≤ degree h.left = degree-positive h.left in
      let r : 1 ≤ degree h.right = degree-positive h.right in
      record {
        left = h.left;
        right = h.right;
        product = h.product;
        left_basis = record { within = record { below = h.left_basis.within.below; type = h.left_basis.within.type; degree = omega arith }; normal = h.left_basis.normal };
        right_basis = record { within = record { below = h.right_basis.within.below; type = h.right_basis.within.type; degree = omega arith }; normal = h.right_basis.normal };
        type = h.type;
      }

  upper-column : (m : Tree) → IsColumnAt t.p given.forms t.target low w m → IsColumnAt t.p given.forms t.target t.degree w m
  upper-column m h =
      let n : sum w ≤ t.degree = cov.degree_le in
      record {
        left = h.left;
        right = h.right;
        product = h.product;
        left_basis = record { within = record { below = h.left_basis.within.below; type = h.left_basis.within.type; degree = omega (arith, h.left_basis.within.degree) }; normal = h.left_basis.normal };
        right_basis = record { within = record { below = h.right_basis.within.below; type = h.right_basis.within.type; degree = omega (arith, h.right_basis.within.degree) }; normal = h.right_basis.normal };
        type = h.type;
      }

  abbrev pub cols : List Tree
  cols = column_monos t.parts w

  small : length t.target ≤ 26
  small = omega (arith, few_generators t.target g.table.goal)

  pub are : AreColumns (IsColumnAt t.p given.forms t.target low w) cols
  are =
      let a = columns-are given.forms t g.table g.right.right small w long in
      record {
        descends = a.descends;
        columns = each-weaker (IsColumnAt t.p given.forms t.target t.degree w) (IsColumnAt t.p given.forms t.target low w) cols lower-column a.columns;
        whole = λ m h. a.whole m (upper-column m h);
      }

  pub over-low : IsTable t.p given.forms (IsWithinDegree t.target low) (IsBasisTo t.p given.forms t.target low) entries
  over-low = right-table t.p (pos given t g) given.forms g.multilinear g.high t.target low (basis_monos t.parts) entries
      (right-lower t.p (pos given t g) given.forms g.multilinear g.high t.target low (low + 1) (omega arith) (basis_monos t.parts) entries right)

  -- ---- the kept instances

  abbrev pub names : List (ℕ × List ℕ)
  names = origins_at t.parts w

  pub kept-origins : AreOriginsAt t.p given.forms t.target low entries w (map (instance_at t.parts) names)
  kept-origins = g.right.origins w long cov big

  pub origin-numbers : Each (λ o. Each (λ b. b < length (elems t.parts)) o.1) names
  origin-numbers = origins-known (λ o. Each (λ b. b < length (elems t.parts)) o.1) t.parts w g.right.known

  module _ (k : ℕ) (here : k < length names) where
    pub origin-named : IsTupleAt t.p given.forms t.target low w (instance_at t.parts (origin_at names k))
    origin-named = each-at (λ o. IsTupleAt t.p given.forms t.target low w (instance_at t.parts o)) names k (0, [])
        (each-unmap (IsTupleAt t.p given.forms t.target low w) (instance_at t.parts) names kept-origins.named) here

    pub origin-below : Each (λ b. b < length (elems t.parts)) (origin_at names k).1
    origin-below = each-at (λ o. Each (λ b. b < length (elems t.parts)) o.1) names k (0, []) origin-numbers here

    pub origin-long : length (origin_at names k).1 ≡ (form_at given.forms (origin_at names k).0).degree
    origin-long = sym (length-map (origin_at names k).1 (mono_at t.parts)) ∙ origin-named.full

    -- its row over numbers and over monomials is one vector
    pub origin-vector : (j : ℕ) → instance_vector (setting_of given.forms t w) (origin_at names k) j ≡ vector_of cols (tuple_row given.forms entries (instance_at t.parts (origin_at names k))) j
    origin-vector j =
        let name : ℕ × List ℕ = origin_at names k in
        let f : Form = form_at given.forms name.0 in
        let m : IsMultilinearForm f = multilinear_at given.forms name.0 g.multilinear in
        sym (ap (λ h. vector_of cols h j) (sym (row-monos given.forms t g.table g.right.right f name.1 m origin-below origin-long))
        ∙ vector-pairs given.forms t g.table g.right.right (columns_of t.parts w) (instance_row t.parts f name.1) j (columns-in given.forms t g.table g.right.right small w)
        (row-in given.forms t g.table g.right.right f name.1 m origin-below origin-long))

  -- ---- the rows of the kept instances, reduced

  module _ (columns : List (ℕ × ℕ)) (r : Reduction) (block : IsOriginBlock given.forms t w columns r) where
    abbrev family : ℕ → ℕ → ℕ
    family = offered r.offers

    abbrev other : ℕ × List Tree
    other = (0, [])

    abbrev instances : List (ℕ × List Tree)
    instances = map (instance_at t.parts) names

    count : length instances ≡ length names
    count = length-map names (instance_at t.parts)

    instance-is : (k : ℕ) → k < length names → get_or instances k other ≡ instance_at t.parts (origin_at names k)
    instance-is k l = get_or-map (instance_at t.parts) names k (0, []) other l

    family-rows : (k i : ℕ) → k < length instances → IsSameMod t.p (family k i) (vector_of cols (tuple_row given.forms entries (get_or instances k other)) i)
    family-rows k i l =
        let m : k < length names = omega (arith, count) in
        subst (λ n. IsSameMod t.p (family k i) (vector_of cols (tuple_row given.forms entries n) i)) (sym (instance-is k m))
        (block.offered_all.rows k m i ⊙ same (origin-vector k m i))

    family-past : (k i : ℕ) → length instances ≤ k → IsSameMod t.p (family k i) 0
    family-past k i l = same (ap (λ (x : Cells). entry x i) (with_past r.offers (length names) k block.offered_all.below (omega (arith, count))))

    in-columns : (x : Poly) → InNamedSpan t.p (IsTupleAt t.p given.forms t.target low w) (tuple_row given.forms entries) x → (m : Tree) → (IsZeroAt t.p x m → ⊥) → IsColumnAt t.p given.forms t.target low w m
    in-columns x s m n = element-columns_at t.p (pos given t g) given.forms g.multilinear g.high t.target low some entries over-low w to next x s m n

    have : HaveSpan t.p (IsTupleAt t.p given.forms t.target low w) (tuple_row given.forms entries) cols family
    have = origins-have-span t.p (pos given t g) (IsTupleAt t.p given.forms t.target low w) (tuple_row given.forms entries) (IsColumnAt t.p given.forms t.target low w) cols are in-columns
        instances other kept-origins.named family family-rows family-past kept-origins.spans

    spans-family : SameSpan t.p (kept r) family
    spans-family = block.offered_all.spans

    module _ (b c j : ℕ) (here : j < length cols) (is : col cols j ≡ node (mono_at t.parts b) (mono_at t.parts c)) where
      column : IsColumnAt t.p given.forms t.target low w (node (mono_at t.parts b) (mono_at t.parts c))
      column = subst (IsColumnAt t.p given.forms t.target low w) is
          (column-at t.p (IsTupleAt t.p given.forms t.target low w) (tuple_row given.forms entries) (IsColumnAt t.p given.forms t.target low w) cols are family have in-columns j here)

      factors : (l r : Tree) → node (mono_at t.parts b) (mono_at t.parts c) ≡ node l r → IsBasisTo t.p given.forms t.target low l → IsBasisTo t.p given.forms t.target low r →
          IsBasisTo t.p given.forms t.target low (mono_at t.parts b) × IsBasisTo t.p given.forms t.target low (mono_at t.parts c)
      factors l r e hl hr =
          let x : mono_at t.parts b ≡ l = cc in
          let y : mono_at t.parts c ≡ r = cc in
          (subst (IsBasisTo t.p given.forms t.target low) (sym x) hl, subst (IsBasisTo t.p given.forms t.target low) (sym y) hr)

      both : IsBasisTo t.p given.forms t.target low (mono_at t.parts b) × IsBasisTo t.p given.forms t.target low (mono_at t.parts c)
      both = factors column.left column.right column.product column.left_basis column.right_basis

      -- a product whose column is no pivot is its entry
      pub product-free : (Vectors.IsPivot t.p (kept r) j → ⊥) → Alike t.p (product_less t (b, c)) []
      unfolding product_less
      product-free n =
          let m : Tree = node (mono_at t.parts b) (mono_at t.parts c) in
          let f : IsFreeAt t.p given.forms t.target low entries w (col cols j) =
          number-free t.p (pos given t g) given.forms g.multilinear g.high t.target low some entries over-low w to next cols are family have j here
          (λ v. n (pivot_through t.p family (kept r) j spans-family.back v)) in
          let e : IsEntryAt t.p given.forms t.target low entries w m (unit m) =
          free-entry t.p (pos given t g) given.forms g.multilinear g.high t.target low some entries over-low w to next cols are family have m (subst (IsFreeAt t.p given.forms t.target low entries w) is f) in
          difference-zero t.p (pos given t g)
          (entry-alike t.p (pos given t g) given.forms g.multilinear g.high t.target low some (basis_monos t.parts) entries right w to next (mono_at t.parts b) (mono_at t.parts c) (unit m) column both.0 both.1 e)

      -- a recipe of a pivot
      pub product-recipe : (items : Comb ℕ) → IsRecipe r j items → Alike t.p (product_less t (b, c)) (spread (origin_row given.forms t w) items)
      unfolding product_less
      product-recipe items k =
          let v : ℕ → ℕ = combination family items in
          let reduced : Vectors.IsReducedRow t.p family j v = reduced_through t.p (kept r) family j v spans-family
          (subst (λ p. Vectors.IsReducedRow p (kept r) j v) block.offered_all.field k.gives) in
          let e = entry-exists t.p (pos given t g) cols j v in
          let numbers : Each (λ s. s.1 < length names) items = each_from_all (λ s. s.1 < length names) items (λ i d l. number_below r.offers (length names) (get_or items i d).1 block.offered_all.below (k.tags i d l)) in
          let places : Each (λ s. s.1 < length instances) items = each-from (λ s. s.1 < length names) _ items (λ s l. omega (arith, l, count)) numbers in
          let x = origin-entry t.p (pos given t g) given.forms g.multilinear g.high t.target low some (basis_monos t.parts) entries right w to next cols are instances other kept-origins.named
          family family-rows family-past kept-origins.spans j here v reduced e.0 e.1 items places (λ i. refl)
          (mono_at t.parts b) (mono_at t.parts c) is column both.0 both.1 in
          joined x (joined (turned (spread-reindex (λ i. get_or instances i other) (tuple_row given.forms entries) items))
          (spread-each (λ i. i < length names) (λ i. tuple_row given.forms entries (get_or instances i other)) (origin_row given.forms t w) items
          (λ i l. itself' _ _ (ap (tuple_row given.forms entries) (instance-is i l))) numbers))
