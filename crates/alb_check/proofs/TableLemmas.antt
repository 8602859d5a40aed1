-- What the shape of a table gives: types add up, so products of too many factors are zero.
use Rattle.std.proofs.Common.{◌≡◌, ℕ, zero, suc, ◌+◌, ◌-◌, ◌*◌, ◌<◌, ◌≤◌, ◌==◌, Bool, true, false, ◌&&◌, List, [], ◌∷◌, ◌++◌, length, get_or, sum, nat_le, nat_lt, sym, refl, ap, ◌∙◌, arith, inl, inr}
use Rattle.std.specs.Prelude.{not, Option, None, Some, if◌then◌else◌}
use Rattle.std.specs.List.{list_all, filter}
use Rattle.std.proofs.lemmas.Bool.{cases_Bool}
use Rattle.std.proofs.lemmas.Bool.Decides.{nat_tests}
use Rattle.std.proofs.Math.Nat.{mul-add, mul-le-mul_left}
use Rattle.gf_sums.specs.Sums.{total}
use Rattle.gf_sums.proofs.Totals.{total-append, total-plus, total-times}
use Rattle.alb_mono.proofs.Both.{and_left, and_right}
use Rattle.alb_mono.specs.Listing.{Each}
use Rattle.alb_mono.specs.Tree.{type_le, type_plus}
use Rattle.alb_poly.specs.Instance.{Form, IsMultilinearForm}
use Rattle.alb_poly.proofs.Multilinear.{sum_cons, each-from}
use Rattle.alb_linear.proofs.IdentityLemmas.{list_eq-sound}
use Rattle.alb_problem.proofs.Satisfied as general
use Rattle.alb_problem.proofs.Satisfied.{IsGraded, IsNilpotent-graded, zero-high}
use Rattle.alb_problem.proofs.Substitution.{IsClosedUnder}
use Rattle.alb_check.specs.declared.raw.RawEntry.{RawEntry}
use Rattle.alb_check.specs.Raw.{Raw, IsRaw, is_element, element_type, is_top_right, are_elements_right, is_generator_right, are_generators_right, is_entry_right, are_entries_right, are_ascending, are_nonzero, shape_fault}
use Rattle.alb_check.specs.TableAlgebra.{vector_of, element_product, generator_value, at_element, IsElement, IsTuple, IsZeroAtTuple, IsVector, IsNilpotent}
use Rattle.alb_check.specs.Walk.{count_at, Leaves, fits_top}
use Rattle.alb_check.proofs.VectorLemmas.{alike_vector}

-- ---- the six rules

pub record IsShaped (target : List ℕ) (p : ℕ) (t : Raw) : Type 0 where
  pub top : is_top_right target t ≡ true
  pub elements : are_elements_right t ≡ true
  pub generators : are_generators_right t 0 t.generators ≡ true
  pub entries : are_entries_right t ≡ true
  pub ascending : are_ascending t.entries ≡ true
  pub nonzero : are_nonzero p t.entries ≡ true

passed : (b : Bool) (n : ℕ) (x : Option ℕ) → (if not b then Some n else x) ≡ None → (b ≡ true) × (x ≡ None)
passed true n x h = (refl, h)
passed false n x h = absurd (cc)

pub shaped : (target : List ℕ) (p : ℕ) (t : Raw) → shape_fault target p t ≡ None → IsShaped target p t
shaped target p t h =
    let a = passed (is_top_right target t) 1 _ h in
    let b = passed (are_elements_right t) 2 _ a.1 in
    let c = passed (are_generators_right t 0 t.generators) 3 _ b.1 in
    let d = passed (are_entries_right t) 4 _ c.1 in
    let e = passed (are_ascending t.entries) 5 _ d.1 in
    let f = passed (are_nonzero p t.entries) 6 _ e.1 in
    record { top = a.0; elements = b.0; generators = c.0; entries = d.0; ascending = e.0; nonzero = f.0 }

all_at : {X : Type 0} (test : X → Bool) (xs : List X) (i : ℕ) (d : X) → list_all test xs ≡ true → i < length xs → test (get_or xs i d) ≡ true
all_at test [] i d h l = absurd (omega arith)
all_at test (x ∷ xs) zero d h l = and_left _ _ h
all_at test (x ∷ xs) (suc i) d h l = all_at test xs i d (and_right _ _ h) (omega arith)

-- ---- types by their counts

pub le_at : (xs ys : List ℕ) (g : ℕ) → length xs ≡ length ys → type_le xs ys ≡ true → get_or xs g 0 ≤ get_or ys g 0
le_at [] [] g n h = omega arith
le_at [] (y ∷ ys) g n h = absurd (omega arith)
le_at (x ∷ xs) [] g n h = absurd (omega arith)
le_at (x ∷ xs) (y ∷ ys) zero n h = let e = and_left (nat_le x y) _ h in grind (arith, nat_tests)
le_at (x ∷ xs) (y ∷ ys) (suc g) n h = le_at xs ys g (omega arith) (and_right (nat_le x y) _ h)

pub le_sum : (xs ys : List ℕ) → length xs ≡ length ys → type_le xs ys ≡ true → sum xs ≤ sum ys
le_sum [] [] n h = omega arith
le_sum [] (y ∷ ys) n h = absurd (omega arith)
le_sum (x ∷ xs) [] n h = absurd (omega arith)
le_sum (x ∷ xs) (y ∷ ys) n h =
    let e = and_left (nat_le x y) _ h in
    let f : x ≤ y = grind (arith, nat_tests) in
    omega (arith, sum_cons x xs, sum_cons y ys, le_sum xs ys (omega arith) (and_right (nat_le x y) _ h))

-- a count that is too large
pub above_at : (xs ys : List ℕ) → length xs ≡ length ys → type_le xs ys ≡ false → (g : ℕ) × (get_or ys g 0 < get_or xs g 0)
above_at [] [] n h = absurd (cc)
above_at [] (y ∷ ys) n h = absurd (omega arith)
above_at (x ∷ xs) [] n h = absurd (omega arith)
above_at (x ∷ xs) (y ∷ ys) n h = elim (cases_Bool (nat_le x y)) [
  | inl e ↦ let r = above_at xs ys (omega arith) (rw e at h) in (suc r.0, r.1)
  | inr e ↦ (0, not_le x y e)
]
  where
    not_le : (x y : ℕ) → nat_le x y ≡ false → y < x
    not_le x y e = grind (arith, nat_tests)

pub plus_at : (xs ys : List ℕ) (g : ℕ) → get_or (type_plus xs ys) g 0 ≡ get_or xs g 0 + get_or ys g 0
plus_at [] ys g = omega arith
plus_at (x ∷ xs) [] g = omega arith
plus_at (x ∷ xs) (y ∷ ys) zero = refl
plus_at (x ∷ xs) (y ∷ ys) (suc g) = plus_at xs ys g

pub plus_sum : (xs ys : List ℕ) → sum (type_plus xs ys) ≡ sum xs + sum ys
plus_sum [] ys = omega arith
plus_sum (x ∷ xs) [] = omega arith
plus_sum (x ∷ xs) (y ∷ ys) = omega (arith, sum_cons (x + y) (type_plus xs ys), sum_cons x xs, sum_cons y ys, plus_sum xs ys)

-- ---- elements

pub element_from : (t : Raw) (k : ℕ) → is_element t k ≡ true → IsElement t k
element_from t k h = record { low = low k (length t.elements) h; high = high k (length t.elements) h }
  where
    low : (k n : ℕ) → (nat_le 1 k && nat_le k n) ≡ true → 1 ≤ k
    low k n h = grind (arith, nat_tests)

    high : (k n : ℕ) → (nat_le 1 k && nat_le k n) ≡ true → k ≤ n
    high k n h = grind (arith, nat_tests)

module _ (p : ℕ) (target : List ℕ) (t : Raw) (is : IsRaw p (length target) t) (right : IsShaped target p t) where
  pub type_long : (k : ℕ) → IsElement t k → length (element_type t k) ≡ length t.top
  type_long k h = is.elements (k - 1) [] (omega (arith, h.low, h.high)) ∙ sym is.top

  element_right : (k : ℕ) → IsElement t k → (nat_lt 0 (sum (element_type t k)) && type_le (element_type t k) t.top) ≡ true
  element_right k h = all_at (λ e. nat_lt 0 (sum e) && type_le e t.top) t.elements (k - 1) [] right.elements (omega (arith, h.low, h.high))

  pub type_positive : (k : ℕ) → IsElement t k → 1 ≤ sum (element_type t k)
  type_positive k h = positive (sum (element_type t k)) (and_left _ _ (element_right k h))
    where
      positive : (n : ℕ) → nat_lt 0 n ≡ true → 1 ≤ n
      positive n h = grind (arith, nat_tests)

  pub type_within : (k : ℕ) → IsElement t k → type_le (element_type t k) t.top ≡ true
  type_within k h = and_right (nat_lt 0 (sum (element_type t k))) _ (element_right k h)

  -- the elements of a product have the sum of the types
  pub record IsSum (i j k : ℕ) : Type 0 where
    pub element : IsElement t k
    pub type : element_type t k ≡ type_plus (element_type t i) (element_type t j)

  entry_sum : (i j : ℕ) (e : RawEntry) → is_entry_right t e ≡ true → (e.left == i && e.right == j) ≡ true → IsSum i j e.to
  entry_sum i j e h q =
      let a = and_right (is_element t e.left) _ h in
      let b = and_right (is_element t e.right) _ a in
      let l : e.left ≡ i = one e.left e.right i j q in
      let r : e.right ≡ j = two e.left e.right i j q in
      record {
        element = element_from t e.to (and_left _ _ b);
        type = list_eq-sound _ _ (and_right (is_element t e.to) _ b) ∙ ap (λ n. type_plus (element_type t n) (element_type t e.right)) l ∙ ap (λ n. type_plus (element_type t i) (element_type t n)) r;
      }
    where
      one : (a b i j : ℕ) → (a == i && b == j) ≡ true → a ≡ i
      one a b i j h = grind (arith, nat_tests)

      two : (a b i j : ℕ) → (a == i && b == j) ≡ true → b ≡ j
      two a b i j h = grind (arith, nat_tests)

  entries_sum : (i j : ℕ) (es : List RawEntry) → list_all (is_entry_right t) es ≡ true →
      Each (λ c. IsSum i j c.1) (vector_of (filter (λ e. e.left == i && e.right == j) es))
  entries_sum i j [] h = tt
  entries_sum i j (e ∷ es) h = elim (cases_Bool (e.left == i && e.right == j)) [
    | inl q ↦ rw q (entry_sum i j e (and_left _ _ h) q, entries_sum i j es (and_right (is_entry_right t e) _ h))
    | inr q ↦ rw q (entries_sum i j es (and_right (is_entry_right t e) _ h))
  ]

  pub product_sum : (i j : ℕ) → Each (λ c. IsSum i j c.1) (element_product t i j)
  product_sum i j = entries_sum i j t.entries right.entries

  pub product_closed : IsClosedUnder (element_product t) (IsElement t)
  product_closed i j a b = each-from (λ c. IsSum i j c.1) (λ c. IsElement t c.1) (element_product t i j) (λ c s. s.element) (product_sum i j)

  -- ---- products of too many factors

  by_degree : IsGraded (element_product t) (IsElement t) (λ k. sum (element_type t k)) (sum t.top)
  by_degree = record {
    positive = type_positive;
    bounded = λ k h. le_sum (element_type t k) t.top (type_long k h) (type_within k h);
    products = λ i j a b. each-from (λ c. IsSum i j c.1) (λ c. IsElement t c.1 × (sum (element_type t i) + sum (element_type t j) ≤ sum (element_type t c.1))) (element_product t i j)
        (λ c s. (s.element, omega (arith, ap sum s.type, plus_sum (element_type t i) (element_type t j)))) (product_sum i j);
  }

  pub nilpotent_from : (n : ℕ) → sum t.top < n → general.IsNilpotent (element_product t) (IsElement t) p n
  nilpotent_from n h = IsNilpotent-graded (element_product t) (IsElement t) (λ k. sum (element_type t k)) (sum t.top) by_degree p n h

  pub nilpotent : IsNilpotent p t
  nilpotent m h u o = alike_vector (nilpotent_from (suc (sum t.top)) (omega arith) m (omega arith) u o)

  -- ---- tuples with one count that is too large

  module _ (g : ℕ) where
    weight : ℕ
    weight = suc (sum t.top)

    by_count : IsGraded (element_product t) (IsElement t) (λ k. suc (sum t.top) * count_at t g k + sum (element_type t k)) (suc (sum t.top) * get_or t.top g 0 + sum t.top)
    by_count = record {
      positive = λ k h. omega (arith, type_positive k h);
      bounded = λ k h. omega (arith, by_degree.bounded k h, mul-le-mul_left (suc (sum t.top)) (le_at (element_type t k) t.top g (type_long k h) (type_within k h)));
      products = λ i j a b. each-from (λ c. IsSum i j c.1)
          (λ c. IsElement t c.1 × ((suc (sum t.top) * count_at t g i + sum (element_type t i)) + (suc (sum t.top) * count_at t g j + sum (element_type t j)) ≤ suc (sum t.top) * count_at t g c.1 + sum (element_type t c.1)))
          (element_product t i j)
          (λ c s. (
            s.element,
            omega (
              arith,
              ap sum s.type,
              plus_sum (element_type t i) (element_type t j),
              ap (λ e. suc (sum t.top) * get_or e g 0) s.type ∙ ap (λ n. suc (sum t.top) * n) (plus_at (element_type t i) (element_type t j) g) ∙ mul-add (suc (sum t.top)) (count_at t g i) (count_at t g j),
            ),
          ))
          (product_sum i j);
    }

    pub heavy_at : (f : Form) → IsMultilinearForm f → (ks : List ℕ) → IsTuple t f ks → get_or t.top g 0 < total (count_at t g) ks → IsZeroAtTuple p t f ks
    heavy_at f multi ks tuple h = alike_vector (zero-high (element_product t) (IsElement t) (λ k. suc (sum t.top) * count_at t g k + sum (element_type t k))
        (suc (sum t.top) * get_or t.top g 0 + sum t.top) by_count p f multi ks tuple.elements tuple.long
        (omega (
          arith,
          total-plus (λ k. suc (sum t.top) * count_at t g k) (λ k. sum (element_type t k)) ks,
          total-times (suc (sum t.top)) (count_at t g) ks,
          mul-le-mul_left (suc (sum t.top)) h,
          mul-add (suc (sum t.top)) (get_or t.top g 0) 1,
        )))

  -- a tuple where an element does not fit into what those before it leave of the top
  pub heavy : (f : Form) → IsMultilinearForm f → (ks js rest : List ℕ) (k : ℕ) → Leaves t ks rest → fits_top t rest k ≡ false → IsTuple t f (ks ++ k ∷ js) →
      IsZeroAtTuple p t f (ks ++ k ∷ js)
  heavy f multi ks js rest k leaves n tuple =
      let a = above_at (element_type t k) rest (type_long k (element_in ks js k tuple.elements) ∙ sym leaves.long) n in
      heavy_at a.0 f multi (ks ++ k ∷ js) tuple
      (omega (arith, a.1, leaves.sums a.0, total-append (count_at t a.0) ks (k ∷ js)))
    where
      element_in : (ks js : List ℕ) (k : ℕ) → Each (IsElement t) (ks ++ k ∷ js) → IsElement t k
      element_in [] js k h = h.0
      element_in (i ∷ ks) js k h = element_in ks js k h.1

  -- ---- generators

  generators_over : (os : List (Option ℕ)) (i g : ℕ) → are_generators_right t i os ≡ true → IsVector t (at_element (get_or os g None))
  generators_over [] i g h = tt
  generators_over (None ∷ os) i zero h = tt
  generators_over (Some k ∷ os) i zero h = (element_from t k (and_left (is_element t k) _ (and_left (is_generator_right t i (Some k)) _ h)), tt)
  generators_over (o ∷ os) i (suc g) h = generators_over os (suc i) g (and_right (is_generator_right t i o) _ h)

  pub generator_over : (g : ℕ) → IsVector t (generator_value t g)
  generator_over g = generators_over t.generators 0 g right.generators
