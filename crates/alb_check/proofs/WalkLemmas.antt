-- The walk over the tuples of elements.
use Rattle.std.proofs.Common.{◌≡◌, ℕ, zero, suc, ◌+◌, ◌-◌, ◌<◌, ◌≤◌, Bool, true, false, List, [], ◌∷◌, ◌++◌, length, map, take, get_or, nat_le, sym, refl, ap, ◌∙◌, subst, arith, inl, inr, ◌⊎◌, append_assoc, append-nil, below_more}
use Rattle.std.specs.Prelude.{IsTrue, ◌↔◌, not}
use Rattle.std.specs.List.{All, filter}
use Rattle.std.specs.Ordering.{nat_cmp}
use Rattle.std.specs.Cmp.Lexicographic.{slice_cmp}
use Rattle.std.specs.declared.cmp.Ordering.TheVariants.{Less, Equal, Greater}
use Rattle.std.proofs.lemmas.Bool.{cases_Bool}
use Rattle.std.proofs.lemmas.Bool.Decides.{nat_tests}
use Rattle.std.proofs.lemmas.Cmp.{ranked, by_ranked}
use Rattle.std.proofs.lemmas.List.{length-append}
use Rattle.std.proofs.Math.Seq.{take-append_seam}
use Rattle.std.proofs.lemmas.List.Kept.{AllPairs-filter}
use Rattle.std.proofs.lemmas.List.Elements.{filter_passes}
use Rattle.gf_sums.specs.Sums.{Comb}
use Rattle.gf_sums.proofs.Totals.{total-append}
use Rattle.gf_sums.proofs.Alike.{joined, turned}
use Rattle.alb_mono.proofs.Both.{and_left, and_right}
use Rattle.alb_mono.specs.Listing.{Each, IsIn}
use Rattle.alb_mono.specs.Tree.{type_le, are_below, type_minus, rising}
use Rattle.alb_poly.specs.Textbook.{evaluate_poly}
use Rattle.alb_poly.specs.Poly.{Poly}
use Rattle.alb_poly.specs.Instance.{Form, IsMultilinear, IsMultilinearForm}
use Rattle.alb_poly.proofs.Multilinear.{each-append, each-from, multilinear-below}
use Rattle.alb_linear.proofs.LinearLemmas.{test_from_below, all_from_each}
use Rattle.alb_problem.proofs.FormValue.{poly-equal}
use Rattle.alb_rows.specs.Row.{Cells, AreCellResidues, AreSameVector}
use Rattle.alb_check.specs.Raw.{Raw, IsRaw, element_type}
use Rattle.alb_check.specs.TableAlgebra.{element_product, units, form_value, IsElement, IsTuple, IsZeroAtTuple, IsZeroAtTuples, IsFirstTuple}
use Rattle.alb_check.specs.Walk.{count_at, Leaves, fits_top, AreCandidates, IsZeroFrom, IsFirstFrom}
use Rattle.alb_check.specs.Products.{listed_product, GivesProducts, vectors}
use Rattle.alb_check.specs.declared.product.Product.{Product}
use Rattle.alb_check.proofs.VectorLemmas.{vector_alike, alike_vector, alike-equal}
use Rattle.alb_check.proofs.RefuteLemmas.{evaluate_poly-products}
use Rattle.alb_check.proofs.TableLemmas.{IsShaped, type_long, le_at, heavy}

-- ---- values at tuples

abbrev pub unit_row : ℕ → Cells
unit_row k = (k, 1) ∷ []

unit_rows : (ks : List ℕ) (i : ℕ) → vectors (map unit_row ks) i ≡ units ks i
unit_rows [] i = refl
unit_rows (k ∷ ks) zero = refl
unit_rows (k ∷ ks) (suc i) = unit_rows ks i

one_residue : (p k i : ℕ) (d : ℕ × ℕ) → 1 < p → i < length (unit_row k) → (get_or (unit_row k) i d).1 < p
one_residue p k zero d h l = h
one_residue p k (suc i) d h l = absurd (omega arith)

pub unit_residues : (p : ℕ) (ks : List ℕ) → 1 < p → All (λ r. AreCellResidues p r) (map unit_row ks)
unit_residues p ks h = all_from_each (λ r. AreCellResidues p r) (map unit_row ks) (each ks)
  where
    each : (js : List ℕ) → Each (λ r. AreCellResidues p r) (map unit_row js)
    each [] = tt
    each (k ∷ js) = (λ i d l. one_residue p k i d h l, each js)

pub known_terms : (f : Form) (n : ℕ) → IsMultilinearForm f → n ≡ f.degree → All (λ t. IsTrue (are_below n t.1)) f.terms
known_terms f n multi e = all_from_each (λ t. IsTrue (are_below n t.1)) f.terms
    (each-from (λ t. IsMultilinear f.degree t.1) (λ t. IsTrue (are_below n t.1)) f.terms
    (λ t m. subst (λ k. are_below k t.1 ≡ true) (sym e) (test_from_below f.degree t.1 (multilinear-below f.degree t.1 m))) multi)

-- the value by the rows is that in the table
pub rows_value : (p : ℕ) (t : Raw) (products : List Product) (u v : ℕ → Comb ℕ) (f : Poly) (x : Comb ℕ) → GivesProducts p t products →
    ((i : ℕ) → u i ≡ v i) → AreSameVector p x (evaluate_poly (listed_product products) u f) → AreSameVector p x (evaluate_poly (element_product t) v f)
rows_value p t products u v f x g e h = alike_vector (joined (vector_alike h)
    (joined (evaluate_poly-products p (listed_product products) (element_product t) (λ i j. vector_alike (g i j)) u f)
    (alike-equal _ _ (poly-equal (element_product t) u v f e))))

pub tuple_value : (p : ℕ) (t : Raw) (products : List Product) (f : Form) (ks : List ℕ) (rows : List Cells) (x : Comb ℕ) → GivesProducts p t products →
    rows ≡ map unit_row ks → AreSameVector p x (evaluate_poly (listed_product products) (vectors rows) f.terms) → AreSameVector p x (form_value t f ks)
tuple_value p t products f ks rows x g e h =
    rows_value p t products (vectors rows) (units ks) f.terms x g (λ i. ap (λ r. vectors r i) e ∙ unit_rows ks i) h

-- whether the row is zero tells whether the vector is
pub zero_tells : (b : Bool) (p : ℕ) (x w : Comb ℕ) → (IsTrue b ↔ AreSameVector p x []) → AreSameVector p x w → IsTrue b ↔ AreSameVector p w []
zero_tells b p x w e h = (
  (λ s. alike_vector {f = w} {g = []} (joined (turned (vector_alike h)) (vector_alike {f = x} {g = []} (e.0 s)))),
  (λ z. e.1 (alike_vector {f = x} {g = []} (joined (vector_alike h) (vector_alike {f = w} {g = []} z)))),
)

pub tells_zero : (b : Bool) (Z : Type 0) → (IsTrue b ↔ Z) → not b ≡ false → Z
tells_zero true Z h e = h.0 refl
tells_zero false Z h e = absurd (let q : true ≡ false = e in cc)

pub tells_fails : (b : Bool) (Z : Type 0) → (IsTrue b ↔ Z) → not b ≡ true → Z → ⊥
tells_fails true Z h e z = let q : false ≡ true = e in cc
tells_fails false Z h e z = let q : false ≡ true = h.1 z in cc

-- ---- lists of candidates

each_filter : {X : Type 0} (P : X → Type 0) (q : X → Bool) (xs : List X) → Each P xs → Each P (filter q xs)
each_filter P q [] h = tt
each_filter P q (x ∷ xs) h = elim (cases_Bool (q x)) [ inl e ↦ rw e (h.0, each_filter P q xs h.1) | inr e ↦ rw e (each_filter P q xs h.1) ]

pub each_get : {X : Type 0} (P : X → Type 0) (xs : List X) (i : ℕ) (d : X) → Each P xs → i < length xs → P (get_or xs i d)
each_get P [] i d h l = absurd (omega arith)
each_get P (x ∷ xs) zero d h l = h.0
each_get P (x ∷ xs) (suc i) d h l = each_get P xs i d h.1 (omega arith)

in_filter : {X : Type 0} (q : X → Bool) (x : X) (xs : List X) → IsIn x xs → q x ≡ true → IsIn x (filter q xs)
in_filter q x [] h e = elim h [ ]
in_filter q x (y ∷ xs) h e = elim (cases_Bool (q y)) [
  | inl f ↦ rw f (elim h [ inl s ↦ inl s | inr m ↦ inr (in_filter q x xs m e) ])
  | inr f ↦ rw f (elim h [ inl s ↦ absurd (differ (q x) (q y) (ap q s) e f) | inr m ↦ in_filter q x xs m e ])
]
  where
    differ : (a b : Bool) → a ≡ b → a ≡ true → b ≡ false → ⊥
    differ a b s h k = cc

pub index_of : (x : ℕ) (xs : List ℕ) → IsIn x xs → (i : ℕ) × (i < length xs) × (get_or xs i 0 ≡ x)
index_of x [] h = elim h [ ]
index_of x (y ∷ xs) h = elim h [
  | inl s ↦ (0, omega arith, sym s)
  | inr m ↦ let r = index_of x xs m in (suc r.0, omega (arith, r.1), r.2)
]

in_rising : (k n x : ℕ) → k ≤ x → x < k + n → IsIn x (rising k n)
in_rising k zero x a b = absurd (omega arith)
in_rising k (suc n) x a b = elim (first x k a) [ inl e ↦ inl e | inr l ↦ inr (in_rising (suc k) n x (omega arith) (omega arith)) ]
  where
    first : (x k : ℕ) → k ≤ x → (x ≡ k) ⊎ (k < x)
    first x k a = grind arith

rising_at : (k n i d : ℕ) → i < n → get_or (rising k n) i d ≡ k + i
rising_at k zero i d l = absurd (omega arith)
rising_at k (suc n) zero d l = omega arith
rising_at k (suc n) (suc i) d l = rising_at (suc k) n i d (omega arith) ∙ omega arith

rising_long : (k n : ℕ) → length (rising k n) ≡ n
rising_long k zero = refl
rising_long k (suc n) = ap suc (rising_long (suc k) n)

rising_elements : (t : Raw) (k n : ℕ) → 1 ≤ k → k + n ≤ length t.elements + 1 → Each (IsElement t) (rising k n)
rising_elements t k zero a b = tt
rising_elements t k (suc n) a b = (record { low = a; high = omega arith }, rising_elements t (suc k) n (omega arith) (omega arith))

-- the numbers of all elements
pub all_candidates : (t : Raw) (rest ks : List ℕ) (n : ℕ) → ks ≡ rising 1 n → n ≡ length t.elements → AreCandidates t rest ks
all_candidates t rest ks n e l = subst (AreCandidates t rest) (sym e) record {
  ascending = λ i j d a b.
      let m : j < n = omega (arith, rising_long 1 n) in
      let x : get_or (rising 1 n) i d ≡ 1 + i = rising_at 1 n i d (omega arith) in
      let y : get_or (rising 1 n) j d ≡ 1 + j = rising_at 1 n j d m in
      omega arith;
  elements = rising_elements t 1 n (omega arith) (omega arith);
  all = λ k h f. in_rising 1 n k h.low (omega (arith, h.high));
}

-- ---- what is left of the top

minus_at : (xs ys : List ℕ) (g : ℕ) → get_or (type_minus xs ys) g 0 ≡ get_or xs g 0 - get_or ys g 0
minus_at [] ys g = omega arith
minus_at (x ∷ xs) [] g = omega arith
minus_at (x ∷ xs) (y ∷ ys) zero = refl
minus_at (x ∷ xs) (y ∷ ys) (suc g) = minus_at xs ys g

minus_long : (xs ys : List ℕ) → length (type_minus xs ys) ≡ length xs
minus_long [] ys = refl
minus_long (x ∷ xs) [] = refl
minus_long (x ∷ xs) (y ∷ ys) = ap suc (minus_long xs ys)

-- what is at most a difference is at most the first
le_minus : (xs ys zs : List ℕ) → type_le xs (type_minus ys zs) ≡ true → type_le xs ys ≡ true
le_minus [] ys zs h = refl
le_minus (x ∷ xs) [] zs h = refl
le_minus (x ∷ xs) (y ∷ ys) [] h = h
le_minus (x ∷ xs) (y ∷ ys) (z ∷ zs) h =
    let a = and_left (nat_le x (y - z)) _ h in
    let e : nat_le x y ≡ true = lower x y z a in
    rw e (le_minus xs ys zs (and_right (nat_le x (y - z)) _ h))
  where
    lower : (x y z : ℕ) → nat_le x (y - z) ≡ true → nat_le x y ≡ true
    lower x y z h = grind (arith, nat_tests)

module _ (p : ℕ) (target : List ℕ) (t : Raw) (is : IsRaw p (length target) t) (right : IsShaped target p t) where
  pub leaves_more : (ks rest : List ℕ) (k : ℕ) → Leaves t ks rest → IsElement t k → fits_top t rest k ≡ true → Leaves t (ks ++ k ∷ []) (type_minus rest (element_type t k))
  leaves_more ks rest k l h f = record {
    long = minus_long rest (element_type t k) ∙ l.long;
    sums = λ g.
        let a = le_at (element_type t k) rest g (type_long p target t is right k h ∙ sym l.long) f in
        omega (arith, a, l.sums g, minus_at rest (element_type t k) g, total-append (count_at t g) ks (k ∷ []));
  }

  pub candidates_more : (rest cs : List ℕ) (k : ℕ) → AreCandidates t rest cs → AreCandidates t (type_minus rest (element_type t k)) (filter (fits_top t rest) cs)
  candidates_more rest cs k c = record {
    ascending = AllPairs-filter (λ a b. a < b) (fits_top t rest) cs c.ascending;
    elements = each_filter (IsElement t) (fits_top t rest) cs c.elements;
    all = λ j h f.
        let g : fits_top t rest j ≡ true = le_minus (element_type t j) rest (element_type t k) f in
        in_filter (fits_top t rest) j cs (c.all j h g) g;
  }

  -- an element among the candidates that fits
  pub record IsChosen (rest : List ℕ) (k : ℕ) : Type 0 where
    pub element : IsElement t k
    pub fitting : fits_top t rest k ≡ true
    pub long : length (element_type t k) ≡ length rest

  pub chosen_at : (ks rest cs xs : List ℕ) (i : ℕ) → Leaves t ks rest → AreCandidates t rest cs → xs ≡ filter (fits_top t rest) cs → i < length xs → IsChosen rest (get_or xs i 0)
  chosen_at ks rest cs xs i leaves c e l =
      let m : i < length (filter (fits_top t rest) cs) = omega (arith, ap length e) in
      let h = each_get (IsElement t) (filter (fits_top t rest) cs) i 0 (each_filter (IsElement t) (fits_top t rest) cs c.elements) m in
      subst (λ ys. IsChosen rest (get_or ys i 0)) (sym e) record {
        element = h;
        fitting = filter_passes (fits_top t rest) cs i 0 m;
        long = type_long p target t is right _ h ∙ sym leaves.long;
      }

  pub next_elements : (ks old new : List ℕ) (k : ℕ) → Each (IsElement t) ks → IsElement t k → old ≡ ks → new ≡ old ++ k ∷ [] → Each (IsElement t) new
  next_elements ks old new k h e a b = subst (Each (IsElement t)) (sym (b ∙ ap (λ xs. xs ++ k ∷ []) a)) (each-append (IsElement t) ks (k ∷ []) h (e, tt))

  pub next_leaves : (ks old new rest rest' : List ℕ) (k : ℕ) → Leaves t ks rest → IsChosen rest k → old ≡ ks → new ≡ old ++ k ∷ [] →
      rest' ≡ type_minus rest (element_type t k) → Leaves t new rest'
  next_leaves ks old new rest rest' k l h a b e =
      subst (λ xs. Leaves t xs rest') (sym (b ∙ ap (λ xs. xs ++ k ∷ []) a)) (subst (Leaves t (ks ++ k ∷ [])) (sym e) (leaves_more ks rest k l h.element h.fitting))

  pub next_candidates : (rest rest' cs xs : List ℕ) (k : ℕ) → AreCandidates t rest cs → xs ≡ filter (fits_top t rest) cs → rest' ≡ type_minus rest (element_type t k) → AreCandidates t rest' xs
  next_candidates rest rest' cs xs k c e f = subst (λ r. AreCandidates t r xs) (sym f) (subst (AreCandidates t (type_minus rest (element_type t k))) (sym e) (candidates_more rest cs k c))

  -- ---- tuples that begin alike

  module _ (f : Form) (multi : IsMultilinearForm f) (ks rest cs : List ℕ) (leaves : Leaves t ks rest) (candidates : AreCandidates t rest cs) (open_end : length ks < f.degree) where
    longer : IsTuple t f (ks ++ []) → ⊥
    longer h = absurd (omega (arith, h.long, length-append ks []))

    again : (j : ℕ) (js : List ℕ) → IsTuple t f (ks ++ j ∷ js) → IsTuple t f ((ks ++ j ∷ []) ++ js)
    again j js h = subst (IsTuple t f) (sym (append_assoc ks (j ∷ []) js)) h

    -- zero where the tuple goes on with an element that fits and where all tuples are zero, or with one that does not fit
    zero_or_heavy : (j : ℕ) (js : List ℕ) → IsTuple t f (ks ++ j ∷ js) → (fits_top t rest j ≡ true → IsZeroFrom p t f (ks ++ j ∷ [])) → IsZeroAtTuple p t f (ks ++ j ∷ js)
    zero_or_heavy j js h z = elim (cases_Bool (fits_top t rest j)) [
      | inl e ↦ subst (IsZeroAtTuple p t f) (append_assoc ks (j ∷ []) js) (z e js (again j js h))
      | inr e ↦ heavy p target t is right f multi ks js rest j leaves e h
    ]

    element_in : (hs js : List ℕ) (j : ℕ) → Each (IsElement t) (hs ++ j ∷ js) → IsElement t j
    element_in [] js j h = h.0
    element_in (a ∷ hs) js j h = element_in hs js j h.1

    pub zero_all : ((i : ℕ) → i < length (filter (fits_top t rest) cs) → IsZeroFrom p t f (ks ++ get_or (filter (fits_top t rest) cs) i 0 ∷ [])) → IsZeroFrom p t f ks
    zero_all z [] h = absurd (longer h)
    zero_all z (j ∷ js) h = zero_or_heavy j js h (λ e.
        let r = index_of j (filter (fits_top t rest) cs) (in_filter (fits_top t rest) j cs (candidates.all j (element_in ks js j h.elements) e) e) in
        subst (λ k. IsZeroFrom p t f (ks ++ k ∷ [])) r.2 (z r.0 r.1))

    pub first_found : (i : ℕ) (tuple : List ℕ) → i < length (filter (fits_top t rest) cs) →
        ((k : ℕ) → k < i → IsZeroFrom p t f (ks ++ get_or (filter (fits_top t rest) cs) k 0 ∷ [])) →
        IsFirstFrom p t f (ks ++ get_or (filter (fits_top t rest) cs) i 0 ∷ []) tuple → IsFirstFrom p t f ks tuple
    first_found i tuple l z r = record {
      rest = get_or (filter (fits_top t rest) cs) i 0 ∷ r.rest;
      is = r.is ∙ append_assoc ks (get_or (filter (fits_top t rest) cs) i 0 ∷ []) r.rest;
      is_tuple = r.is_tuple;
      fails = r.fails;
      first = earlier;
    }
      where
        smaller : (j : ℕ) (js : List ℕ) → IsTuple t f (ks ++ j ∷ js) → j < get_or (filter (fits_top t rest) cs) i 0 → IsZeroAtTuple p t f (ks ++ j ∷ js)
        smaller j js h less = zero_or_heavy j js h (λ e.
            let q = index_of j (filter (fits_top t rest) cs) (in_filter (fits_top t rest) j cs (candidates.all j (element_in ks js j h.elements) e) e) in
            subst (λ k. IsZeroFrom p t f (ks ++ k ∷ [])) q.2 (z q.0 (elim (place q.0 i) [
              | inl a ↦ a
              | inr a ↦ absurd (elim a [
                | inl s ↦ omega (arith, q.2, ap (λ n. get_or (filter (fits_top t rest) cs) n 0) s)
                | inr b ↦ omega (arith, q.2, AllPairs-filter (λ a b. a < b) (fits_top t rest) cs candidates.ascending i q.0 0 b q.1)
              ])
            ])))
          where
            place : (m n : ℕ) → (m < n) ⊎ ((m ≡ n) ⊎ (n < m))
            place m n = grind arith

        earlier : (js : List ℕ) → IsTuple t f (ks ++ js) → slice_cmp nat_cmp js (get_or (filter (fits_top t rest) cs) i 0 ∷ r.rest) ≡ Less → IsZeroAtTuple p t f (ks ++ js)
        earlier [] h less = absurd (longer h)
        earlier (j ∷ js) h less =
            let k : ℕ = get_or (filter (fits_top t rest) cs) i 0 in
            by_ranked (j < k) (j ≡ k) (k < j) (nat_cmp j k) (ranked j k _ refl)
            (λ e a. smaller j js h a)
            (λ e s. subst (λ x. IsZeroAtTuple p t f (ks ++ x ∷ js)) (sym s) (subst (IsZeroAtTuple p t f) (append_assoc ks (k ∷ []) js)
            (r.first js (again k js (subst (λ x. IsTuple t f (ks ++ x ∷ js)) s h)) (rw e at less))))
            (λ e a. absurd (let q : Greater ≡ Less = rw e at less in cc))

pub zero_more : (p : ℕ) (t : Raw) (f : Form) (ks old new xs : List ℕ) (n : ℕ) → ((i : ℕ) → i < n → IsZeroFrom p t f (ks ++ get_or xs i 0 ∷ [])) →
    old ≡ ks → new ≡ old ++ get_or xs n 0 ∷ [] → IsZeroFrom p t f new → (i : ℕ) → i < n + 1 → IsZeroFrom p t f (ks ++ get_or xs i 0 ∷ [])
zero_more p t f ks old new xs n h a b z = below_more (λ i. IsZeroFrom p t f (ks ++ get_or xs i 0 ∷ [])) n h
    (subst (IsZeroFrom p t f) (b ∙ ap (λ ys. ys ++ get_or xs n 0 ∷ []) a) z)

-- what was pushed is popped
pub popped : (old pushed all new : List ℕ) (k n : ℕ) → all ≡ pushed → pushed ≡ old ++ k ∷ [] → n ≡ length all → new ≡ take (n - 1) all → new ≡ old
popped old pushed all new k n a b c d =
    let e : n - 1 ≡ length old = omega (arith, ap length (a ∙ b), length-append old (k ∷ [])) in
    d ∙ ap (λ m. take m all) e ∙ ap (take (length old)) (a ∙ b) ∙ take-append_seam old (k ∷ [])

-- ---- the ends of the walk

pub zero_end : (p : ℕ) (t : Raw) (f : Form) (ks : List ℕ) → length ks ≡ f.degree → IsZeroAtTuple p t f ks → IsZeroFrom p t f ks
zero_end p t f ks e z [] h = subst (IsZeroAtTuple p t f) (sym (append-nil ks)) z
zero_end p t f ks e z (j ∷ js) h = absurd (omega (arith, h.long, length-append ks (j ∷ js)))

pub first_end : (p : ℕ) (t : Raw) (f : Form) (ks : List ℕ) → IsTuple t f ks → (IsZeroAtTuple p t f ks → ⊥) → IsFirstFrom p t f ks ks
first_end p t f ks h n = record { rest = []; is = sym (append-nil ks); is_tuple = h; fails = n; first = none }
  where
    none : (js : List ℕ) → IsTuple t f (ks ++ js) → slice_cmp nat_cmp js [] ≡ Less → IsZeroAtTuple p t f (ks ++ js)
    none [] h less = absurd (let q : Equal ≡ Less = less in cc)
    none (j ∷ js) h less = absurd (let q : Greater ≡ Less = less in cc)

-- from the empty tuple on
pub first_tuple : (p : ℕ) (t : Raw) (f : Form) (ks tuple : List ℕ) → ks ≡ [] → IsFirstFrom p t f ks tuple → IsFirstTuple p t f tuple
first_tuple p t f ks tuple e r =
    let q : IsFirstFrom p t f [] tuple = subst (λ x. IsFirstFrom p t f x tuple) e r in
    record { tuple = q.is_tuple; fails = q.fails; first = λ js h less. q.first js h (subst (λ x. slice_cmp nat_cmp js x ≡ Less) q.is less) }

pub zero_tuples : (p : ℕ) (t : Raw) (f : Form) (ks : List ℕ) → ks ≡ [] → IsZeroFrom p t f ks → IsZeroAtTuples p t f
zero_tuples p t f ks e z js h = subst (λ x. IsZeroFrom p t f x) e z js h

pub top_leaves : (t : Raw) (ks : List ℕ) → ks ≡ [] → Leaves t ks t.top
top_leaves t ks e = subst (λ x. Leaves t x t.top) (sym e) record { long = refl; sums = λ g. omega arith }
