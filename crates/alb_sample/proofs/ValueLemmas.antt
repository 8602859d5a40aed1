-- Values in the table of the sample.
use Rattle.std.proofs.Common.{◌≡◌, ℕ, ◌+◌, ◌*◌, ◌/◌, ◌%◌, ◌<◌, List, [], ◌∷◌, ◌++◌, length, get_or, nat_eq, sym, refl, ap, ◌∙◌, subst, arith, inl, inr}
use Rattle.std.specs.Prelude.{Result, Ok, Err, Option, IfOk, OnOk}
use Rattle.std.proofs.lemmas.Bool.{cases_lt}
use Rattle.std.proofs.lemmas.List.{get_or_default, get_or_append_left, get_or_push, length_push}
use Rattle.gf_field.specs.Modular.{IsSameMod}
use Rattle.gf_field.proofs.Mod.{same, ◌⊙◌}
use Rattle.gf_sums.specs.Sums.{Comb, scale, reindex, multiply, coefficient}
use Rattle.gf_sums.proofs.Alike.{Alike, equal, turned, joined, append-alike, scale-alike, multiply-alike, same-alike, reindex-alike}
use Rattle.gf_sums.proofs.Totals.{weigh-append, weigh-scale, numbers-tell}
use Rattle.alb_mono.specs.Listing.{Each}
use Rattle.alb_mono.specs.Tree.{Tree, leaf, node, AreBelow, same_tree}
use Rattle.alb_mono.specs.declared.side.Side.{Side}
use Rattle.alb_mono.specs.declared.side.Side.TheVariants.{Left, Right}
use Rattle.alb_mono.proofs.Leaves.{below_from_test}
use Rattle.alb_poly.specs.Textbook.{evaluate, unit}
use Rattle.alb_poly.specs.Consequence.{beside}
use Rattle.alb_poly.specs.Poly.{Poly, normal}
use Rattle.alb_poly.proofs.Consequence.{flat-append, poly_alike}
use Rattle.alb_poly.proofs.Evaluate.{evaluate_poly-alike, evaluate_poly-product, beside-left, beside-right}
use Rattle.alb_poly.proofs.NormalLemmas.{normal-alike}
use Rattle.alb_rows.specs.Row.{Cells, comb, AreSameVector, IsRow, AreCellResidues, ColumnsBelow}
use Rattle.alb_table.specs.Table.{table_product, elems, monos, mono_at, Table}
use Rattle.alb_table.specs.Laws.{HasValue}
use Rattle.alb_table.specs.Right.{basis_mono, mono_value, entry_by, IsWithinDegree, IsBasisTo}
use Rattle.alb_table.specs.RightTable.{RulesView, IsRightFor, basis_monos, mono_entry}
use Rattle.alb_table.specs.Value.{IsBasisRow, generator_vector, table_value}
use Rattle.alb_table.proofs.Coefficients.{each-coefficient}
use Rattle.alb_table.proofs.GeneratorLemmas.{above_one, unit_row}
use Rattle.alb_table.proofs.Numbers.{IsNumbered, evaluate-each, entry-respects, coefficient-reindex}
use Rattle.alb_table.proofs.Right.{right-table}
use Rattle.alb_table.proofs.RightForLemmas.{right-positive}
use Rattle.alb_table.proofs.RightTables.{length-monos, numbered, number-basis}
use Rattle.alb_table.proofs.TableValues.{monos-apart, value-monos}
use Rattle.alb_table.proofs.ValueLemmas.{vector-alike, product_value, same_lists, evaluate-below, generator-unit}
use Rattle.alb_table.proofs.Values.{value-normal}
use Rattle.alb_sample.specs.Choice.{argument, choice_at, chosen, chosen_type, consequence, instance_of}
use Rattle.alb_sample.specs.Draws.{state_after}
use Rattle.alb_sample.specs.Problem.{associator, sample_problem, sample_view}
use Rattle.alb_sample.specs.Sample.{element_at, polynomial, with_element}
use Rattle.alb_sample.specs.declared.choice.Choice.{Choice}
use Rattle.alb_sample.specs.Values.{IsMonoValue, AreValues}
use Rattle.alb_sample.specs.declared.values.Values.{Values}
use Rattle.alb_sample.proofs.ChoiceLemmas.{left-instance, right-instance}
use Rattle.alb_sample.proofs.CodeLemmas.{generator-argument}
use Rattle.alb_sample.proofs.PolyLemmas.{drawn-poly}
use Rattle.alb_sample.proofs.ProblemLemmas.{both, left_law, right_law}

-- the value of a monomial
abbrev value : Table → Tree → Comb ℕ
value t m = evaluate (table_product t.parts) (generator_vector (length t.target)) m

vector : {p : ℕ} {f g : Comb ℕ} → Alike p f g → AreSameVector p f g
vector h = same-alike nat_eq numbers-tell h

-- a monomial as a polynomial
value-unit : (p : ℕ) (t : Table) (m : Tree) → Alike p (table_value t (unit m)) (value t m)
value-unit p t m = equal _ _ (λ w. omega (arith, weigh-append w (scale 1 (value t m)) [], weigh-scale w 1 (value t m)))

-- the value of a sum
value-append : (t : Table) (f g : Poly) → table_value t (f ++ g) ≡ table_value t f ++ table_value t g
value-append t f g = flat-append _ f g

one_more : {p : ℕ} (f g : Comb ℕ) → Alike p (f ++ scale 1 g) (f ++ g)
one_more f g = equal _ _ (λ w. omega (arith, weigh-append w f (scale 1 g), weigh-append w f g, weigh-scale w 1 g))

-- a row with the value of `f` and one with that of `g`, added
pub sum-value : (t : Table) (f g : Poly) (r s z : Cells) → HasValue t f r → HasValue t g s → IsBasisRow t.p (length (elems t.parts)) z →
    AreSameVector t.p (comb z) (comb r ++ scale 1 (comb s)) → HasValue t (f ++ g) z
sum-value t f g r s z h k v e = record {
  row = v;
  value = subst (AreSameVector t.p (comb z)) (sym (value-append t f g))
      (vector (joined (vector-alike e) (joined (one_more (comb r) (comb s)) (append-alike (vector-alike h.value) (vector-alike k.value)))));
}

-- a polynomial with the same coefficients
pub same-value : (t : Table) (f g : Poly) (r : Cells) → Alike t.p f g → HasValue t f r → HasValue t g r
same-value t f g r e h = record {
  row = h.row;
  value = vector (joined (vector-alike h.value) (evaluate_poly-alike (table_product t.parts) t.p (generator_vector (length t.target)) f g e));
}

pub normal-value : (t : Table) (f : Poly) (r : Cells) → IsRightFor sample_view t → HasValue t f r → HasValue t (normal 251 f) r
normal-value t f r right h = same-value t f (normal 251 f) r (subst (λ p. Alike p f (normal 251 f)) (sym right.field) (turned (normal-alike 251 f))) h

-- ---- products

pub mono-product : (t : Table) (l m : Tree) (x y z : Cells) → IsMonoValue t l x → IsMonoValue t m y → IsBasisRow t.p (length (elems t.parts)) z →
    AreSameVector t.p (comb z) (multiply (table_product t.parts) (comb x) (comb y)) → IsMonoValue t (node l m) z
mono-product t l m x y z h k v e = record { row = v; value = product_value t.p (table_product t.parts) x y z (value t l) (value t m) h.value k.value e }

pub left-value : (t : Table) (m : Tree) (f : Poly) (x y z : Cells) → IsMonoValue t m x → HasValue t f y → IsBasisRow t.p (length (elems t.parts)) z →
    AreSameVector t.p (comb z) (multiply (table_product t.parts) (comb x) (comb y)) → HasValue t (reindex (beside (Left, m)) f) z
left-value t m f x y z h k v e =
    let prod = table_product t.parts in
    let gens = generator_vector (length t.target) in
    record {
      row = v;
      value = vector (joined (vector-alike e) (joined
          (multiply-alike prod (joined (vector-alike h.value) (turned (value-unit t.p t m))) (vector-alike k.value))
          (turned (joined (evaluate_poly-alike prod t.p gens _ _ (beside-left m f)) (evaluate_poly-product prod t.p gens (unit m) f)))));
    }

pub right-value : (t : Table) (m : Tree) (f : Poly) (x y z : Cells) → IsMonoValue t m x → HasValue t f y → IsBasisRow t.p (length (elems t.parts)) z →
    AreSameVector t.p (comb z) (multiply (table_product t.parts) (comb y) (comb x)) → HasValue t (reindex (beside (Right, m)) f) z
right-value t m f x y z h k v e =
    let prod = table_product t.parts in
    let gens = generator_vector (length t.target) in
    record {
      row = v;
      value = vector (joined (vector-alike e) (joined
          (multiply-alike prod (vector-alike k.value) (joined (vector-alike h.value) (turned (value-unit t.p t m))))
          (turned (joined (evaluate_poly-alike prod t.p gens _ _ (beside-right m f)) (evaluate_poly-product prod t.p gens f (unit m))))));
    }

-- ---- associators

pub associator-value : (t : Table) (l m n : Tree) (x y z : Cells) → IsMonoValue t (node (node l m) n) x → IsMonoValue t (node l (node m n)) y →
    IsBasisRow t.p (length (elems t.parts)) z → AreSameVector t.p (comb z) (comb x ++ scale 250 (comb y)) → HasValue t (associator l m n) z
associator-value t l m n x y z h k v e =
    let a : Comb ℕ = value t (node (node l m) n) in
    let b : Comb ℕ = value t (node l (node m n)) in
    record {
      row = v;
      value = vector (joined (vector-alike e) (joined (append-alike (vector-alike h.value) (scale-alike 250 (vector-alike k.value)))
          (equal (a ++ scale 250 b) (scale 1 a ++ (scale 250 b ++ [])) (λ w. omega (
            arith,
            weigh-append w a (scale 250 b),
            weigh-append w (scale 1 a) (scale 250 b ++ []),
            weigh-append w (scale 250 b) [],
            weigh-scale w 1 a,
            weigh-scale w 250 b,
          )))));
    }

-- ---- basis elements

module _ (r : RulesView) (t : Table) (h : IsRightFor r t) (b : ℕ) (l : b < length (elems t.parts)) where
  -- the monomial of the basis element
  abbrev mono : Tree
  mono = mono_at t.parts b

  is-basis : IsBasisTo t.p r.forms t.target t.degree mono
  is-basis = number-basis r.forms t h.table h.right.right b l

  below : AreBelow (length t.target) mono
  below = below_from_test (length t.target) mono is-basis.within.below

  known : Each (λ s. s.1 < length (elems t.parts)) (value t mono)
  known = subst (λ n. Each (λ s. s.1 < n) (value t mono)) (length-monos t.parts)
      (subst (Each (λ s. s.1 < length (monos t.parts))) (sym (evaluate-below (table_product t.parts) (generator_vector (length t.target)) (λ k. unit k) (length t.target) mono (generator-unit (length t.target)) below))
      (evaluate-each (λ i. i < length (monos t.parts)) (basis_mono (monos t.parts)) (table_product t.parts) (entry_by (monos t.parts) (table_product t.parts)) numbers.entries
      (entry-respects (length t.target) (monos t.parts) (table_product t.parts) numbers)
      (λ k. unit k) (λ k. unit (leaf k)) (length t.target) (λ k i. (let m = numbers.many in omega arith, tt)) (λ k i. ap unit (numbers.generators k i)) mono below))
    where
      numbers : IsNumbered (length t.target) (monos t.parts) (table_product t.parts)
      numbers = numbered r.forms t h.table h.right.right

  -- over monomials its value is itself
  over-monos : Alike t.p (reindex (mono_at t.parts) (value t mono)) (unit mono)
  over-monos =
      let p = right-positive r t h in
      let over = right-table t.p p r.forms h.multilinear h.high t.target t.degree (basis_monos t.parts) (mono_entry t.parts) h.right.right in
      joined (reindex-alike (mono_at t.parts) (turned (value-unit t.p t mono)))
      (joined (subst (λ f. Alike t.p f (mono_value (mono_entry t.parts) mono)) (sym (value-monos r t h (unit mono) (is-basis.within, tt)))
      (equal _ _ (λ w. omega (arith, weigh-append w (scale 1 (mono_value (mono_entry t.parts) mono)) [], weigh-scale w 1 (mono_value (mono_entry t.parts) mono)))))
      (value-normal t.p p r.forms h.multilinear (IsWithinDegree t.target t.degree) (mono_entry t.parts) over mono is-basis))

  -- and so over numbers
  same-at : (j : ℕ) → j < length (elems t.parts) → IsSameMod t.p (coefficient nat_eq (value t mono) j) (coefficient nat_eq (unit b) j)
  same-at j k =
      let moved : (f : Comb ℕ) → Each (λ s. s.1 < length (elems t.parts)) f → coefficient same_tree (reindex (mono_at t.parts) f) (mono_at t.parts j) ≡ coefficient nat_eq f j =
      λ f a. coefficient-reindex (λ i. i < length (elems t.parts)) nat_eq same_tree (mono_at t.parts) (monos-apart r t h) f j k a in
      same (sym (moved (value t mono) known)) ⊙ poly_alike over-monos (mono_at t.parts j) ⊙ same (moved (unit b) (l, tt))

  element-alike : Alike t.p (value t mono) (unit b)
  element-alike = vector-alike (λ j. elim (each-coefficient nat_eq numbers-tell (λ i. i < length (elems t.parts)) (value t mono) j known) [
    | inl k ↦ same-at j k
    | inr none ↦ elim (each-coefficient nat_eq numbers-tell (λ i. i < length (elems t.parts)) (unit b) j (l, tt)) [
      | inl k ↦ same-at j k
      | inr other ↦ same (none ∙ sym other)
    ]
  ])

  -- the row of a basis element
  pub element-value : (one : Cells) → one ≡ (b, 1) ∷ [] → HasValue t (unit mono) one
  element-value one e = record {
    row = unit_row t.p (length (elems t.parts)) (length (elems t.parts)) b one (above_one t h.table) (omega arith) l e;
    value = vector (joined (vector-alike (same_lists t.p (comb one) (unit b) (ap comb e))) (joined (turned element-alike) (turned (value-unit t.p t mono))));
  }

-- ---- the rows that the code has

-- the kept value of a monomial
pub argument-row : (t : Table) (v : Values) → AreValues t v → (i : ℕ) (x : Cells) → i < 3 → x ≡ get_or v.arguments.items i x → IsMonoValue t (argument i) x
argument-row t v h i x l e =
    let n : i < length v.arguments.items = let f = h.full in omega arith in
    subst (IsMonoValue t (argument i)) (get_or_default v.arguments.items i [] x n ∙ sym e) (h.arguments i l)

-- and of the product of two
pub product-row : (t : Table) (v : Values) → AreValues t v → (i j k : ℕ) (x : Cells) → i < 3 → j < 3 → k ≡ 3 * i + j → x ≡ get_or v.products.items k x →
    IsMonoValue t (node (argument i) (argument j)) x
product-row t v h i j k x l m is e =
    let n : k < length v.products.items = let f = h.full_products in omega arith in
    let q : k / 3 ≡ i = omega arith in
    let r : k % 3 ≡ j = omega arith in
    subst (IsMonoValue t (node (argument i) (argument j))) (get_or_default v.products.items k [] x n ∙ sym e)
    (rw (q, r) at (h.products k (omega arith)))

-- a sum of vectors is one
pub sum-vector : (t : Table) (p : ℕ) (old other new : Cells) → p ≡ t.p → IsBasisRow t.p (length (elems t.parts)) old → IsBasisRow t.p (length (elems t.parts)) other →
    IsRow new → AreCellResidues p new → ((n : ℕ) → ColumnsBelow n old → ColumnsBelow n other → ColumnsBelow n new) → IsBasisRow t.p (length (elems t.parts)) new
sum-vector t p old other new e h k row residues columns = record {
  row = record { row = row; residues = subst (λ q. AreCellResidues q new) e residues };
  below = columns (length (elems t.parts)) h.below k.below;
}

pub both-ok : {X E : Type 0} (r : Result X E) (P Q R : X → Type 0) → IfOk r P → IfOk r Q → ((x : X) → P x → Q x → R x) → IfOk r R
both-ok (Ok x) P Q R p q h = h x p q
both-ok (Err e) P Q R p q h = tt

both-alike : (p : ℕ) (l m r x y z : Tree) → Alike p (associator l m r ++ associator x y z) (both l m r x y z)
both-alike p l m r x y z = equal _ _ (λ w. omega arith)

-- the value of an instance, of either identity
pub left-instance-value : (t : Table) (l m r : Tree) (x : Cells) → HasValue t (associator l m r ++ associator m l r) x → HasValue t (instance_of left_law (l ∷ m ∷ r ∷ [])) x
left-instance-value t l m r x h = subst (λ f. HasValue t f x) (sym (left-instance l m r)) (same-value t (associator l m r ++ associator m l r) (both l m r m l r) x (both-alike t.p l m r m l r) h)

pub right-instance-value : (t : Table) (l m r : Tree) (x : Cells) → HasValue t (associator r l m ++ associator r m l) x → HasValue t (instance_of right_law (l ∷ m ∷ r ∷ [])) x
right-instance-value t l m r x h = subst (λ f. HasValue t f x) (sym (right-instance l m r)) (same-value t (associator r l m ++ associator r m l) (both r l m r m l) x (both-alike t.p r l m r m l) h)

-- the row of a generator
pub generator-row : (t : Table) (v : Values) → AreValues t v → (g i : ℕ) (x : Cells) → g < 2 → i ≡ g → x ≡ get_or v.arguments.items i x → IsMonoValue t (leaf g) x
generator-row t v h g i x l is e =
    subst (λ m. IsMonoValue t m x) (ap argument is ∙ generator-argument g l) (argument-row t v h i x (omega (arith, is, l)) e)

-- the value of a consequence, with the generator on either side
pub left-consequence : (t : Table) (c : Choice) (x y z : Cells) → c.side ≡ Left → IsMonoValue t (leaf c.generator) x →
    HasValue t (instance_of (get_or sample_problem.identities c.identity []) (chosen c)) y → IsBasisRow t.p (length (elems t.parts)) z →
    AreSameVector t.p (comb z) (multiply (table_product t.parts) (comb x) (comb y)) → HasValue t (consequence c) z
unfolding consequence
left-consequence t c x y z s h k v e =
    subst (λ (side : Side). HasValue t (reindex (beside (side, leaf c.generator)) (instance_of (get_or sample_problem.identities c.identity []) (chosen c))) z) (sym s)
    (left-value t (leaf c.generator) (instance_of (get_or sample_problem.identities c.identity []) (chosen c)) x y z h k v e)

pub right-consequence : (t : Table) (c : Choice) (x y z : Cells) → c.side ≡ Right → IsMonoValue t (leaf c.generator) x →
    HasValue t (instance_of (get_or sample_problem.identities c.identity []) (chosen c)) y → IsBasisRow t.p (length (elems t.parts)) z →
    AreSameVector t.p (comb z) (multiply (table_product t.parts) (comb y) (comb x)) → HasValue t (consequence c) z
unfolding consequence
right-consequence t c x y z s h k v e =
    subst (λ (side : Side). HasValue t (reindex (beside (side, leaf c.generator)) (instance_of (get_or sample_problem.identities c.identity []) (chosen c))) z) (sym s)
    (right-value t (leaf c.generator) (instance_of (get_or sample_problem.identities c.identity []) (chosen c)) x y z h k v e)

-- the value of a polynomial that was drawn
pub drawn-value : (t : Table) → IsRightFor sample_view t → (k s s5 : ℕ) (c : Choice) (w : List ℕ) (o : Option ℕ) (x : Cells) → c ≡ choice_at s → s5 ≡ state_after 5 s → w ≡ chosen_type c →
    o ≡ element_at t k w s5 → HasValue t (with_element t c o) x → HasValue t (polynomial t k s) x
drawn-value t right k s s5 c w o x ci si wi oi h =
    subst (λ f. HasValue t f x) (drawn-poly t k s s5 c w o (normal 251 (with_element t c o)) ci si wi oi refl) (normal-value t (with_element t c o) x right h)

pub on-ok : {X E P : Type 0} (r : Result X E) → P → OnOk r P
on-ok (Ok x) h = h
on-ok (Err e) h = tt

-- ---- lists of rows

pub listed-row : (t : Table) (xs : List Cells) → length xs ≡ 3 → ((i : ℕ) → i < 3 → IsMonoValue t (argument i) (get_or xs i [])) → (i : ℕ) (x : Cells) → i < 3 → x ≡ get_or xs i x →
    IsMonoValue t (argument i) x
listed-row t xs n h i x l e = subst (IsMonoValue t (argument i)) (get_or_default xs i [] x (omega (arith, n, l)) ∙ sym e) (h i l)

pub products-length : (xs new : List Cells) (k : ℕ) (x : Cells) → length xs ≡ k → new ≡ xs ++ x ∷ [] → length new ≡ k + 1
products-length xs new k x n e = ap length e ∙ length_push xs x ∙ omega (arith, n)

pub products-more : (t : Table) (k : ℕ) (xs new : List Cells) (x : Cells) → length xs ≡ k → new ≡ xs ++ x ∷ [] →
    ((i : ℕ) → i < k → IsMonoValue t (node (argument (i / 3)) (argument (i % 3))) (get_or xs i [])) → IsMonoValue t (node (argument (k / 3)) (argument (k % 3))) x →
    (i : ℕ) → i < k + 1 → IsMonoValue t (node (argument (i / 3)) (argument (i % 3))) (get_or new i [])
products-more t k xs new x n e h last i l = elim (cases_lt i k) [
  | inl s ↦ subst (IsMonoValue t (node (argument (i / 3)) (argument (i % 3)))) (sym (ap (λ ys. get_or ys i []) e ∙ get_or_append_left xs (x ∷ []) [] i (omega (arith, n, s)))) (h i s)
  | inr s ↦
      let z : i ≡ k = omega (arith, l, s) in
      let g : get_or new k [] ≡ x = ap (λ ys. get_or ys k []) e ∙ get_or_push xs x [] k n in
      subst (λ (j : ℕ). IsMonoValue t (node (argument (j / 3)) (argument (j % 3))) (get_or new j [])) (sym z)
      (subst (IsMonoValue t (node (argument (k / 3)) (argument (k % 3)))) (sym g) last)
]
