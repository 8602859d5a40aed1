-- The value in the sub-table up to the first type of the normal form.
use Rattle.std.proofs.Common.{◌&&◌, ◌≡◌, ℕ, ◌%◌, ◌<◌, ◌≤◌, ◌⊎◌, Bool, true, false, not, List, [], ◌∷◌, length, sum, sym, refl, ap, ◌∙◌, subst, arith, inl, inr}
use Rattle.std.specs.Bool.{◌==◌}
use Rattle.std.specs.Prelude.{nat_le}
use Rattle.std.specs.Ordering.{nat_cmp, on, flip_args}
use Rattle.std.specs.Cmp.{nat_cmp_is, IsTotalOrder}
use Rattle.std.specs.declared.cmp.Ordering.{Ordering}
use Rattle.std.specs.declared.cmp.Ordering.TheVariants.{Less, Greater}
use Rattle.std.proofs.lemmas.Cmp.{on_total, back_total}
use Rattle.std.proofs.Math.Nat.{mod-eq_of_lt}
use Rattle.std.proofs.lemmas.Bool.{cases_Bool, false≢true, eqb-true, eq-eqb}
use Rattle.std.proofs.lemmas.Bool.Decides.{nat_tests}
use Rattle.gf_field.proofs.Mod.{same, back, ◌⊙◌}
use Rattle.gf_sums.specs.Sums.{coefficient}
use Rattle.gf_sums.proofs.Alike.{Alike, joined}
use Rattle.alb_mono.specs.Listing.{Each}
use Rattle.alb_mono.specs.Tree.{Tree, type_of, type_le, are_below, cmp_types, same_tree}
use Rattle.alb_mono.proofs.Both.{and_left, and_right}
use Rattle.alb_mono.proofs.Leaves.{length-type_of}
use Rattle.alb_mono.proofs.Order.{cmp_types_total}
use Rattle.alb_poly.specs.Poly.{Poly, list_eq, has_type, part}
use Rattle.alb_poly.specs.Instance.{Form}
use Rattle.alb_poly.specs.Consequence.{AreMultilinear}
use Rattle.alb_poly.proofs.Multilinear.{each-from, sum_cons}
use Rattle.alb_poly.proofs.Types.{has_type-is}
use Rattle.alb_poly.proofs.Consequence.{itself', tree_tells, alike_poly}
use Rattle.alb_table.specs.Right.{IsZeroAt, poly_value, IsTypeTo, IsWithinDegree, IsBasisTo}
use Rattle.alb_table.proofs.Bases.{IsTable}
use Rattle.alb_table.proofs.Coefficients.{zero_or, keep, filter-each, each-coefficient, coefficient-kept, top-found, greater-turned}
use Rattle.alb_table.proofs.Right.{within-type}
use Rattle.alb_table.proofs.Values.{poly-value-basis}
use Rattle.alb_check.specs.SubTable.{IsFirstType}
use Rattle.alb_check.proofs.TableLemmas.{le_sum}
use Rattle.alb_check.proofs.Cut.{cut_value, cut-part, cut-nonzero, passes_type, types-cut}

pub type_le-itself : (xs : List ℕ) → type_le xs xs ≡ true
type_le-itself [] = refl
type_le-itself (x ∷ xs) = let e : nat_le x x ≡ true = grind (arith, nat_tests) in rw e (type_le-itself xs)

-- a type that is at most another and not the same has a smaller sum
sum_less : (xs ys : List ℕ) → length xs ≡ length ys → type_le xs ys ≡ true → list_eq xs ys ≡ false → sum xs < sum ys
sum_less [] [] e h n = absurd (false≢true (sym n))
sum_less [] (y ∷ ys) e h n = absurd (omega arith)
sum_less (x ∷ xs) [] e h n = absurd (omega arith)
sum_less (x ∷ xs) (y ∷ ys) e h n =
    let a : nat_le x y ≡ true = and_left (nat_le x y) (type_le xs ys) h in
    let b : type_le xs ys ≡ true = and_right (nat_le x y) (type_le xs ys) h in
    let l : x ≤ y = grind (arith, nat_tests) in
    let k : length xs ≡ length ys = omega arith in
    elim (cases_Bool (x == y)) [
      | inl q ↦ (let r : x ≡ y = eqb-true x y q in let m : list_eq xs ys ≡ false = rw q at n in
          omega (arith, sum_cons x xs, sum_cons y ys, sum_less xs ys k b m))
      | inr q ↦ (let r : x < y = less x y l q in
          omega (arith, sum_cons x xs, sum_cons y ys, le_sum xs ys k b))
    ]
  where
    less : (x y : ℕ) → x ≤ y → (x == y) ≡ false → x < y
    less x y l q = grind (arith, nat_tests)

-- and comes before it
pub earlier-type : (xs ys : List ℕ) → length xs ≡ length ys → type_le xs ys ≡ true → list_eq xs ys ≡ false → cmp_types xs ys ≡ Less
earlier-type xs ys e h n =
    let s : sum xs < sum ys = sum_less xs ys e h n in
    let q : nat_cmp (sum xs) (sum ys) ≡ Less = sym (nat_cmp_is (sum xs) (sum ys) Less s) in
    rw q

-- the part of what passes is the part of the type, where this is the first
pub first-part : (p : ℕ) (top : List ℕ) (f : Poly) → IsFirstType p top f → Each (λ t. are_below (length top) t.1 ≡ true) f → Alike p (keep (passes_type top) f) (part top f)
first-part p top f h below = alike_poly (λ x. elim (cases_Bool (has_type top x)) [
  | inl y ↦ same (coefficient-kept same_tree tree_tells (passes_type top) f x (of_type-passes x y) ∙ sym (coefficient-kept same_tree tree_tells (has_type top) f x y))
  | inr n ↦ (elim (cases_Bool (passes_type top x)) [
    | inr m ↦ gone (passes_type top) x m ⊙ back (gone (has_type top) x n)
    | inl y ↦ (elim (zero_or p (coefficient same_tree f x)) [
      | inl z ↦ kept_zero (passes_type top) x z ⊙ back (kept_zero (has_type top) x z)
      | inr k ↦ absurd (h.first x k (earlier-type (type_of (length top) x) top (length-type_of (length top) x) (and_right (are_below (length top) x) (type_le (type_of (length top) x) top) y)
          (second_fails (are_below (length top) x) (list_eq (type_of (length top) x) top) (and_left (are_below (length top) x) (type_le (type_of (length top) x) top) y) n)))
    ])
  ])
])
  where
    second_fails : (a b : Bool) → a ≡ true → (a && b) ≡ false → b ≡ false
    second_fails true b h n = n
    second_fails false b h n = absurd (false≢true h)

    of_type-passes : (x : Tree) → has_type top x ≡ true → passes_type top x ≡ true
    of_type-passes x y =
        let e : type_of (length top) x ≡ top = has_type-is (length top) top x refl y in
        rw (and_left (are_below (length top) x) (list_eq (type_of (length top) x) top) y) (ap (λ t. type_le t top) e ∙ type_le-itself top)

    gone : (q : Tree → Bool) (x : Tree) → q x ≡ false → IsZeroAt p (keep q f) x
    gone q x n = elim (each-coefficient same_tree tree_tells (λ y. q y ≡ true) (keep q f) x (filter-each (λ t. q t.1) f)) [
      | inl y ↦ absurd (false≢true (sym n ∙ y))
      | inr z ↦ same z
    ]

    kept_zero : (q : Tree → Bool) (x : Tree) → IsZeroAt p f x → IsZeroAt p (keep q f) x
    kept_zero q x z = elim (cases_Bool (q x)) [
      | inl y ↦ same (coefficient-kept same_tree tree_tells q f x y) ⊙ z
      | inr n ↦ gone q x n
    ]

-- the types, descending
abbrev by_types : ℕ → Tree → Tree → Ordering
by_types n = flip_args (on (type_of n) cmp_types)

-- A polynomial is zero, or its monomials have a first type.
pub first-found : (p n : ℕ) → 0 < p → (f : Poly) → Each (λ t. are_below n t.1 ≡ true) f → Alike p f [] ⊎ ((top : List ℕ) × (length top ≡ n) × IsFirstType p top f)
first-found p n pos f below = elim (top-found (by_types n) laws has f) [
  | inl a ↦ inl (alike_poly (λ x. elim (each-coefficient same_tree tree_tells (λ y. has y ≡ false) f x a) [
    | inl e ↦ zero_when x e
    | inr z ↦ same z
  ]))
  | inr m ↦ (elim (each-coefficient same_tree tree_tells (λ y. are_below n y ≡ true) f m.top below) [
    | inr z ↦ absurd (has_nonzero m.top m.passes (same z))
    | inl b ↦ (
        let e : length (type_of n m.top) ≡ n = length-type_of n m.top in
        inr (
          type_of n m.top,
          e,
          record {
            monomial = m.top;
            type = record { below = subst (λ k. are_below k m.top ≡ true) (sym e) b; counts = ap (λ k. type_of k m.top) e };
            nonzero = has_nonzero m.top m.passes;
            first = λ x k l. elim (each-coefficient same_tree tree_tells (λ y. has y ≡ true → by_types n y m.top ≡ Greater → ⊥) f x m.greatest) [
              | inl h ↦ h (nonzero_has x k) (greater-turned cmp_types_total (type_of n x) (type_of n m.top) (subst (λ j. cmp_types (type_of j x) (type_of n m.top) ≡ Less) e l))
              | inr z ↦ k (same z)
            ];
          },
        ))
  ])
]
  where
    laws : IsTotalOrder (by_types n)
    laws = back_total (on_total (type_of n) cmp_types_total)

    has : Tree → Bool
    has x = not (coefficient same_tree f x % p == 0)

    zero_when : (x : Tree) → has x ≡ false → IsZeroAt p f x
    zero_when x e = elim (cases_Bool (coefficient same_tree f x % p == 0)) [
      | inl y ↦ record { same = eqb-true _ 0 y ∙ sym (mod-eq_of_lt pos) }
      | inr n ↦ absurd (false≢true (sym e ∙ ap not n))
    ]

    has_nonzero : (x : Tree) → has x ≡ true → IsZeroAt p f x → ⊥
    has_nonzero x e z = let q : (coefficient same_tree f x % p == 0) ≡ true = eq-eqb _ 0 (z.same ∙ mod-eq_of_lt pos) in false≢true (sym (ap not q) ∙ e)

    nonzero_has : (x : Tree) → (IsZeroAt p f x → ⊥) → has x ≡ true
    nonzero_has x k = elim (cases_Bool (coefficient same_tree f x % p == 0)) [
      | inl y ↦ absurd (k (record { same = eqb-true _ 0 y ∙ sym (mod-eq_of_lt pos) }))
      | inr n ↦ rw n
    ]

module _ (p : ℕ) (pos : 0 < p) (fs : List Form) (multi : AreMultilinear fs) (target : List ℕ) (d : ℕ) (entry : Tree → Tree → Poly)
    (table : IsTable p fs (IsWithinDegree target d) (IsBasisTo p fs target d) entry) (top : List ℕ) (ty : IsTypeTo target d top)
    (g : Poly) (inside : Each (λ t. IsWithinDegree target d t.1) g) (first : IsFirstType p top (poly_value entry g)) where
  value-below : Each (λ t. are_below (length top) t.1 ≡ true) (poly_value entry g)
  value-below = each-from _ _ (poly_value entry g) (λ t k. subst (λ n. are_below n t.1 ≡ true) (sym ty.counts) k.within.below)
      (poly-value-basis p pos fs (IsWithinDegree target d) (IsBasisTo p fs target d) entry table g inside)

  -- The value in the sub-table of the types at most `top` is the part of the normal form of the type `top`,
  pub sub-part : Alike p (cut_value (passes_type top) entry g) (part top (poly_value entry g))
  sub-part = joined (itself' _ _ (cut-part p pos fs multi (IsWithinDegree target d) entry table (passes_type top) (types-cut target d top ty) g inside))
      (first-part p top (poly_value entry g) first value-below)

  -- so it is not zero.
  pub sub-nonzero : Alike p (cut_value (passes_type top) entry g) [] → ⊥
  sub-nonzero z = cut-nonzero p pos fs multi (IsWithinDegree target d) entry table (passes_type top) (types-cut target d top ty) g inside first.monomial
      (let b : are_below (length top) first.monomial ≡ true = first.type.below in rw (b, first.type.counts) (type_le-itself top)) first.nonzero z

-- A polynomial of the table whose value is not zero has a type `top` of the table for the two statements above.
pub sub-found : (p : ℕ) → 0 < p → (fs : List Form) (target : List ℕ) (d : ℕ) (entry : Tree → Tree → Poly) → IsTable p fs (IsWithinDegree target d) (IsBasisTo p fs target d) entry →
    (g : Poly) → Each (λ t. IsWithinDegree target d t.1) g → Alike p (poly_value entry g) [] ⊎ ((top : List ℕ) × IsTypeTo target d top × IsFirstType p top (poly_value entry g))
sub-found p pos fs target d entry table g inside =
    let basis = poly-value-basis p pos fs (IsWithinDegree target d) (IsBasisTo p fs target d) entry table g inside in
    elim (first-found p (length target) pos (poly_value entry g) (each-from _ _ (poly_value entry g) (λ t k. k.within.below) basis)) [
      | inl z ↦ inl z
      | inr m ↦ (elim (each-coefficient same_tree tree_tells (IsBasisTo p fs target d) (poly_value entry g) m.2.monomial basis) [
        | inr z ↦ absurd (m.2.nonzero (same z))
        | inl k ↦ (
            let e : type_of (length target) m.2.monomial ≡ m.0 = subst (λ n. type_of n m.2.monomial ≡ m.0) m.1 m.2.type.counts in
            inr (m.0, subst (IsTypeTo target d) e (within-type target d m.2.monomial k.within), m.2))
      ])
    ]
