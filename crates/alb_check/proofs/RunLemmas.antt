-- The products of a table, gathered from runs of its entries.
use Rattle.std.proofs.Common.{◌≡◌, ℕ, zero, suc, ◌+◌, ◌-◌, ◌<◌, ◌≤◌, ◌==◌, Bool, true, false, ◌&&◌, List, [], ◌∷◌, ◌++◌, length, take, drop, get_or, sym, refl, ap, ◌∙◌, subst, arith, inl, inr, ◌⊎◌, append-nil}
use Rattle.std.specs.Prelude.{IsTrue}
use Rattle.std.specs.List.{filter, slice_range}
use Rattle.std.proofs.lemmas.Bool.{cases_Bool}
use Rattle.std.proofs.lemmas.Bool.Decides.{nat_tests}
use Rattle.std.proofs.lemmas.List.{map-append, take-append-drop, take_all, get_or_append_left, get_or-drop, get_or-take, get_or_default, length-take, length-append}
use Rattle.std.proofs.Math.Seq.{get_or-append_seam, take-add}
use Rattle.std.proofs.lemmas.List.Elements.{filter-append}
use Rattle.std.proofs.lemmas.List.Quantifiers.{all_pairs_push}
use Rattle.gf_sums.specs.Sums.{Comb, weigh, scale}
use Rattle.gf_sums.proofs.Totals.{weigh-append, weigh-scale}
use Rattle.gf_sums.proofs.Alike.{Alike, equal, itself, joined, append-alike, scale-alike}
use Rattle.alb_poly.proofs.Multilinear.{each-append}
use Rattle.alb_rows.specs.Row.{comb, AreCellResidues, AreSameVector}
use Rattle.alb_check.specs.declared.product.Product.{Product}
use Rattle.alb_check.specs.declared.raw.RawEntry.{RawEntry}
use Rattle.alb_check.specs.Raw.{is_before, are_ascending}
use Rattle.alb_check.specs.TableAlgebra.{vector_of, entries_product}
use Rattle.alb_check.specs.Products.{row_at, listed_product, is_pair_before, AreProducts, has_factors, IsFactorRun}
use Rattle.alb_check.proofs.VectorLemmas.{vector_alike, alike_vector, alike-equal}
use Rattle.alb_check.proofs.ProductLemmas.{is_pair, row_none, before_before, before_other}

-- the sum of the two halves
pub halves : (p : ℕ) (es : List RawEntry) (n : ℕ) (x y z : Comb ℕ) → AreSameVector p x (vector_of (take n es)) → AreSameVector p y (vector_of (drop n es)) →
    AreSameVector p z (x ++ scale 1 y) → AreSameVector p z (vector_of es)
halves p es n x y z h k l =
    alike_vector (joined (vector_alike l) (joined (append-alike (vector_alike h) (scale-alike 1 (vector_alike k))) (equal _ _ (λ w.
    weigh-append w (vector_of (take n es)) (scale 1 (vector_of (drop n es)))
    ∙ ap (λ m. weigh w (vector_of (take n es)) + m) (weigh-scale w 1 (vector_of (drop n es)))
    ∙ sym (ap (λ q. weigh w (vector_of q)) (sym (take-append-drop n es)) ∙ ap (weigh w) (map-append (λ e. (e.coef, e.to)) (take n es) (drop n es))
    ∙ weigh-append w (vector_of (take n es)) (vector_of (drop n es)) ∙ omega arith)))))

-- ---- entries in order

pub ascending_at : (es : List RawEntry) (k : ℕ) (d : RawEntry) → are_ascending es ≡ true → suc k < length es → is_before (get_or es k d) (get_or es (suc k) d) ≡ true
ascending_at [] k d h l = absurd (omega arith)
ascending_at (a ∷ []) k d h l = absurd (omega arith)
ascending_at (a ∷ b ∷ es) zero d h l = and_left _ _ h
  where
    and_left : (x y : Bool) → (x && y) ≡ true → x ≡ true
    and_left x y h = grind arith
ascending_at (a ∷ b ∷ es) (suc k) d h l = ascending_at (b ∷ es) k d (and_right _ _ h) (omega arith)
  where
    and_right : (x y : Bool) → (x && y) ≡ true → y ≡ true
    and_right x y h = grind arith

before_pairs : (d e : RawEntry) (i j : ℕ) → is_before d e ≡ true → has_factors i j d ≡ true → has_factors i j e ≡ false → is_pair_before i j e.left e.right ≡ true
before_pairs d e i j h k l = grind (arith, nat_tests)

-- ---- a test that all pass or none

filter_all : {X : Type 0} (test : X → Bool) (xs : List X) → ((k : ℕ) (d : X) → k < length xs → test (get_or xs k d) ≡ true) → filter test xs ≡ xs
filter_all test [] h = refl
filter_all test (x ∷ xs) h =
    let e : test x ≡ true = h 0 x (omega arith) in
    rw e (ap (λ y. x ∷ y) (filter_all test xs (λ k d l. h (suc k) d (omega arith))))

filter_none : {X : Type 0} (test : X → Bool) (xs : List X) → ((k : ℕ) (d : X) → k < length xs → test (get_or xs k d) ≡ false) → filter test xs ≡ []
filter_none test [] h = refl
filter_none test (x ∷ xs) h =
    let e : test x ≡ false = h 0 x (omega arith) in
    rw e (filter_none test xs (λ k d l. h (suc k) d (omega arith)))

-- ---- the rows of a list that grows

row_push : (xs : List Product) (x : Product) (i j : ℕ) → is_pair i j x ≡ false → row_at (xs ++ x ∷ []) i j ≡ row_at xs i j
row_push [] x i j h = rw h refl
row_push (y ∷ xs) x i j h = elim (cases_Bool (y.left == i && y.right == j)) [ inl e ↦ rw e refl | inr e ↦ rw e (row_push xs x i j h) ]

row_pushed : (xs : List Product) (x : Product) (i j : ℕ) → row_at xs i j ≡ [] → ((k : ℕ) (d : Product) → k < length xs → is_pair i j (get_or xs k d) ≡ false) →
    is_pair i j x ≡ true → row_at (xs ++ x ∷ []) i j ≡ x.row
row_pushed [] x i j n h e = rw e refl
row_pushed (y ∷ xs) x i j n h e =
    let q : (y.left == i && y.right == j) ≡ false = h 0 y (omega arith) in
    rw q (row_pushed xs x i j (rw q at n) (λ k d l. h (suc k) d (omega arith)) e)

-- ---- the loop over the runs

-- what stands past the end of a list
abbrev pub no_entry : RawEntry
no_entry = record { left = 0; right = 0; to = 0; coef = 0 }

-- the products of the entries before `start`, all of which stand before the entry there
pub record Gathers (p : ℕ) (es : List RawEntry) (start : ℕ) (xs : List Product) : Type 0 where
  pub within : start ≤ length es
  pub products : AreProducts p xs
  pub values : (i j : ℕ) → AreSameVector p (listed_product xs i j) (entries_product (take start es) i j)
  pub behind : (k : ℕ) (d : Product) (e : RawEntry) → k < length xs → start < length es →
      is_pair_before (get_or xs k d).left (get_or xs k d).right (get_or es start e).left (get_or es start e).right ≡ true

pub gathers_none : (p : ℕ) (es : List RawEntry) → Gathers p es 0 []
gathers_none p es = record {
  within = omega arith;
  products = record { ascending = λ i j d h l. absurd (omega arith); residues = tt };
  values = λ i j. alike_vector (itself []);
  behind = λ k d e h l. absurd (omega arith);
}

pub gathers_all : (p : ℕ) (es : List RawEntry) (start : ℕ) (xs : List Product) → Gathers p es start xs → length es ≤ start →
    (i j : ℕ) → AreSameVector p (listed_product xs i j) (entries_product es i j)
gathers_all p es start xs g l i j = subst (λ q. AreSameVector p (listed_product xs i j) (entries_product q i j)) (take_all start es l) (g.values i j)

module _ (p : ℕ) (es : List RawEntry) (start end : ℕ) (xs : List Product) (g : Gathers p es start xs) (ascends : are_ascending es ≡ true)
    (run : IsFactorRun es start end) (x : Product) (e : RawEntry) (first : e ≡ get_or es start e) (left : x.left ≡ e.left) (right : x.right ≡ e.right)
    (residues : AreCellResidues p x.row) (value : AreSameVector p (comb x.row) (vector_of (slice_range es start end))) where
  -- `x` has the factors of the first entry
  factors_same : (d q : RawEntry) → has_factors (get_or es start d).left (get_or es start d).right q ≡ has_factors x.left x.right q
  factors_same d q =
      let here : start < length es = omega (arith, run.above, run.within) in
      let s : get_or es start d ≡ e = get_or_default es start d e here ∙ sym first in
      ap (λ y. has_factors y.left y.right q) s ∙ ap (λ i. has_factors i e.right q) (sym left) ∙ ap (λ j. has_factors x.left j q) (sym right)

  -- and so has each entry of the run
  factors_at : (k : ℕ) (d : RawEntry) → start ≤ k → k < end → has_factors x.left x.right (get_or es k d) ≡ true
  factors_at k d a b = sym (factors_same d (get_or es k d)) ∙ run.same d k a b

  factors : (k : ℕ) (d : RawEntry) → k < length (slice_range es start end) → has_factors x.left x.right (get_or (slice_range es start end) k d) ≡ true
  factors k d l =
      let small : k < end - start = omega (arith, length-take (end - start) (drop start es)) in
      subst (λ q. has_factors x.left x.right q ≡ true) (sym (get_or-take (end - start) (drop start es) k d small ∙ get_or-drop start es k d))
      (factors_at (start + k) d (omega arith) (omega arith))

  earlier : (k : ℕ) (d : Product) → k < length xs → is_pair_before (get_or xs k d).left (get_or xs k d).right x.left x.right ≡ true
  earlier k d l =
      subst (λ j. is_pair_before (get_or xs k d).left (get_or xs k d).right x.left j ≡ true) (sym right)
      (subst (λ i. is_pair_before (get_or xs k d).left (get_or xs k d).right i e.right ≡ true) (sym left)
      (subst (λ y. is_pair_before (get_or xs k d).left (get_or xs k d).right y.left y.right ≡ true) (sym first)
      (g.behind k d e l (omega (arith, run.above, run.within)))))

  later : (d : RawEntry) → end < length es → is_pair_before x.left x.right (get_or es end d).left (get_or es end d).right ≡ true
  later d l =
      let last : suc (end - 1) ≡ end = omega (arith, run.above) in
      before_pairs (get_or es (end - 1) d) (get_or es end d) x.left x.right
      (subst (λ n. is_before (get_or es (end - 1) d) (get_or es n d) ≡ true) last (ascending_at es (end - 1) d ascends (omega arith)))
      (factors_at (end - 1) d (omega (arith, run.above)) (omega (arith, run.above)))
      (sym (factors_same d (get_or es end d)) ∙ run.other d l)

  behind_more : (k : ℕ) (d : Product) (f : RawEntry) → k < length (xs ++ x ∷ []) → end < length es →
      is_pair_before (get_or (xs ++ x ∷ []) k d).left (get_or (xs ++ x ∷ []) k d).right (get_or es end f).left (get_or es end f).right ≡ true
  behind_more k d f l m = elim (place k (length xs)) [
    | inl h ↦ subst (λ y. is_pair_before y.left y.right (get_or es end f).left (get_or es end f).right ≡ true) (sym (get_or_append_left xs (x ∷ []) d k h))
        (before_before (get_or xs k d).left (get_or xs k d).right x.left x.right (get_or es end f).left (get_or es end f).right (earlier k d h) (later f m))
    | inr h ↦
        let here : k ≡ length xs = omega (arith, length-append xs (x ∷ [])) in
        subst (λ y. is_pair_before y.left y.right (get_or es end f).left (get_or es end f).right ≡ true)
        (sym (ap (λ n. get_or (xs ++ x ∷ []) n d) here ∙ get_or-append_seam xs x [] d)) (later f m)
  ]
    where
      place : (k n : ℕ) → (k < n) ⊎ (n ≤ k)
      place k n = grind arith

  entries_split : (i j : ℕ) → entries_product (take end es) i j ≡ entries_product (take start es) i j ++ entries_product (slice_range es start end) i j
  entries_split i j =
      let last : end ≡ start + (end - start) = omega (arith, run.above) in
      ap (λ n. entries_product (take n es) i j) last
      ∙ ap (λ q. entries_product q i j) (take-add start (end - start) es)
      ∙ ap vector_of (filter-append (has_factors i j) (take start es) (slice_range es start end))
      ∙ map-append (λ d. (d.coef, d.to)) (filter (has_factors i j) (take start es)) (filter (has_factors i j) (slice_range es start end))

  values_here : AreSameVector p (listed_product (xs ++ x ∷ []) x.left x.right) (entries_product (take end es) x.left x.right)
  values_here =
      let other : (k : ℕ) (d : Product) → k < length xs → is_pair x.left x.right (get_or xs k d) ≡ false =
      λ k d l. before_other (get_or xs k d).left (get_or xs k d).right x.left x.right (earlier k d l) in
      let none : row_at xs x.left x.right ≡ [] = row_none xs x.left x.right other in
      let row : row_at (xs ++ x ∷ []) x.left x.right ≡ x.row = row_pushed xs x x.left x.right none other (same_pair x.left x.right) in
      let old : Alike p [] (entries_product (take start es) x.left x.right) = vector_alike (subst (λ r. AreSameVector p (comb r) (entries_product (take start es) x.left x.right)) none (g.values x.left x.right)) in
      let all : entries_product (slice_range es start end) x.left x.right ≡ vector_of (slice_range es start end) =
      ap vector_of (filter_all (has_factors x.left x.right) (slice_range es start end) factors) in
      subst (λ r. AreSameVector p (comb r) (entries_product (take end es) x.left x.right)) (sym row)
      (alike_vector (joined (joined (vector_alike value) (alike-equal _ _ (sym all)))
      (joined (append-alike old (itself (entries_product (slice_range es start end) x.left x.right))) (alike-equal _ _ (sym (entries_split x.left x.right))))))
    where
      same_pair : (a b : ℕ) → (a == a && b == b) ≡ true
      same_pair a b = grind (arith, nat_tests)

  values_other : (i j : ℕ) → is_pair i j x ≡ false → AreSameVector p (listed_product (xs ++ x ∷ []) i j) (entries_product (take end es) i j)
  values_other i j n =
      let none : entries_product (slice_range es start end) i j ≡ [] =
      ap vector_of (filter_none (has_factors i j) (slice_range es start end) (λ k d l.
      other_pair x.left x.right (get_or (slice_range es start end) k d).left (get_or (slice_range es start end) k d).right i j (factors k d l) n)) in
      subst (λ r. AreSameVector p (comb r) (entries_product (take end es) i j)) (sym (row_push xs x i j n))
      (subst (λ q. AreSameVector p (listed_product xs i j) q)
      (sym (entries_split i j ∙ ap (λ q. entries_product (take start es) i j ++ q) none ∙ append-nil (entries_product (take start es) i j)))
      (g.values i j))
    where
      other_pair : (a b c d i j : ℕ) → (c == a && d == b) ≡ true → (a == i && b == j) ≡ false → (c == i && d == j) ≡ false
      other_pair a b c d i j h k = grind (arith, nat_tests)

  values_more : (i j : ℕ) → AreSameVector p (listed_product (xs ++ x ∷ []) i j) (entries_product (take end es) i j)
  values_more i j = elim (cases_Bool (x.left == i && x.right == j)) [
    | inl h ↦
        subst (λ b. AreSameVector p (listed_product (xs ++ x ∷ []) i b) (entries_product (take end es) i b)) (second x.left x.right i j h)
        (subst (λ a. AreSameVector p (listed_product (xs ++ x ∷ []) a x.right) (entries_product (take end es) a x.right)) (one x.left x.right i j h) values_here)
    | inr h ↦ values_other i j h
  ]
    where
      one : (a b i j : ℕ) → (a == i && b == j) ≡ true → a ≡ i
      one a b i j h = grind (arith, nat_tests)

      second : (a b i j : ℕ) → (a == i && b == j) ≡ true → b ≡ j
      second a b i j h = grind (arith, nat_tests)

  pub gathers_more : Gathers p es end (xs ++ x ∷ [])
  gathers_more = record {
    within = run.within;
    products = record {
      ascending = all_pairs_push (λ y z. IsTrue (is_pair_before y.left y.right z.left z.right)) xs x g.products.ascending earlier;
      residues = each-append (λ y. AreCellResidues p y.row) xs (x ∷ []) g.products.residues (residues, tt);
    };
    values = values_more;
    behind = behind_more;
  }
