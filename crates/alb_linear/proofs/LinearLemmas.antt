-- The terms of a linearization.
use Rattle.std.proofs.Common.{◌≡◌, ℕ, zero, suc, ◌+◌, ◌*◌, ◌<◌, ◌≤◌, true, false, List, [], ◌∷◌, ◌++◌, map, take, drop, length, get_or, sum, Option, Some, None, sym, refl, ap, ◌∙◌, subst, arith, add-one, eqb, ltb, ◌==◌, inl, inr, ◌-◌, take-append-drop, get_or-set_same, get_or-set_other}
use Rattle.std.specs.List.{All, flat_map, range_with_len, sum_by}
use Rattle.std.proofs.Math.ListN.{set, get_or-map as get_map}
use Rattle.std.proofs.lemmas.Bool.{cases_Bool, cases_eq, false≢true, eq-eqb}
use Rattle.std.proofs.lemmas.Bool.Decides.{nat_tests}
use Rattle.std.proofs.lemmas.List.{length-map, get_or-map, map-append, take_more}
use Rattle.std.proofs.lemmas.List.FromFn.{length-range_with_len}
use Rattle.std.proofs.lemmas.List.Sums.{sum_by_more, sum_by-append}
use Rattle.std.proofs.Math.Nat.{mul-le-mul_left, mul-le-mul_right}
use Rattle.gf_sums.specs.Sums.{total, reindex}
use Rattle.gf_sums.proofs.Totals.{total-equal, total-map}
use Rattle.alb_mono.specs.Listing.{Each}
use Rattle.alb_mono.proofs.ListingLemmas.{each-always}
use Rattle.alb_mono.specs.Tree.{Tree, leaf, node, degree, count, type_of, AreBelow, are_below, tree}
use Rattle.alb_mono.specs.declared.mono.Mono.{Mono}
use Rattle.alb_mono.proofs.Leaves.{below_from_test, length-type_of}
use Rattle.alb_poly.specs.Poly.{Poly, list_eq, AreResidues, normal}
use Rattle.alb_poly.specs.Terms.{term, terms}
use Rattle.alb_poly.specs.declared.term.Term.{Term}
use Rattle.alb_poly.specs.Instance.{fill, leaves, numbered, first_number, arrangements, positions, linearization, IsMultilinear, HasType, IsHomogeneous}
use Rattle.alb_poly.proofs.Orders.{map-map, arrangements-map}
use Rattle.alb_poly.proofs.Multilinear.{sum_cons, flat-each, each-flat, each-map, each-from, leaves-multilinear, multilinear-below, linearization-multilinear}
use Rattle.alb_poly.proofs.Extra.{total-sum_by}
use Rattle.alb_poly.proofs.NormalLemmas.{normal-each}
use Rattle.alb_poly.proofs.Types.{has_type-sound, has_type-of}
pub use Rattle.alb_poly.proofs.Types.{test_from_below}
pub use Rattle.alb_poly.proofs.Multilinear.{each_from_all, all_from_each}
use Rattle.alb_linear.specs.Identity.{leading_type, other_term, type_fault, degree_fault, identity_fault, DegreeOne, DegreeOver8, factorial, factorials}
use Rattle.alb_linear.proofs.OrderLemmas.{length-arrangement_at}
use Rattle.alb_linear.proofs.IdentityLemmas.{list_eq-sound, other-leading}

-- ---- factorials

pub factorial-step : (n : ℕ) → 0 < n → factorial n ≡ n * factorial (n - 1)
factorial-step zero h = absurd (omega arith)
factorial-step (suc n) h = let e : n ≡ suc n - 1 = omega arith in ap (λ k. suc n * factorial k) e

factorial-pos : (n : ℕ) → 1 ≤ factorial n
factorial-pos zero = omega arith
factorial-pos (suc n) = omega (arith, factorial-pos n, mul-le-mul_left (suc n) (factorial-pos n))

factorial-plus : (m n : ℕ) → factorial m * factorial n ≤ factorial (m + n)
factorial-plus zero n = let e : 0 + n ≡ n = omega arith in rw e (omega arith)
factorial-plus (suc m) n =
    let e : suc m + n ≡ suc (m + n) = omega arith in
    rw e (omega (arith, mul-le-mul_left (suc m) (factorial-plus m n), mul-le-mul_right (factorial (m + n)) (le_more m n)))
  where
    le_more : (m n : ℕ) → suc m ≤ suc (m + n)
    le_more m n = omega arith

factorial-more : (n k : ℕ) → factorial n ≤ factorial (n + k)
factorial-more n k = omega (arith, factorial-plus n k, mul-le-mul_left (factorial n) (factorial-pos k))

pub factorial-small : (n : ℕ) → n ≤ 8 → factorial n ≤ 40320
factorial-small n h =
    let e : n + (8 - n) ≡ 8 = omega arith in
    let l : factorial n ≤ factorial 8 = subst (λ z. factorial n ≤ factorial z) e (factorial-more n (8 - n)) in l

pub factorials-sum : (e : List ℕ) → factorials e ≤ factorial (sum e)
factorials-sum [] = omega arith
factorials-sum (n ∷ e) =
    rw (sum_cons n e) (omega (arith, mul-le-mul_left (factorial n) (factorials-sum e), factorial-plus n (sum e)))

pub factorials-small : (e : List ℕ) → sum e ≤ 8 → factorials e ≤ 40320
factorials-small e h = omega (arith, factorials-sum e, factorial-small (sum e) h)

-- ---- the first positions

sum_parts : (k : ℕ) (e : List ℕ) → sum (take k e) + sum (drop k e) ≡ sum e
sum_parts k e = sym (sum_by-append (λ x. x) (take k e) (drop k e)) ∙ ap sum (take-append-drop k e)

pub sum_take : (k : ℕ) (e : List ℕ) → sum (take k e) ≤ sum e
sum_take k e = omega (arith, sum_parts k e)

pub first_more : (e : List ℕ) (v d : ℕ) → v < length e → sum (take (v + 1) e) ≡ sum (take v e) + get_or e v d
first_more e v d h = sum_by_more (λ x. x) e v d h

-- each occurrence has a position
pub first_within : (e : List ℕ) (v : ℕ) → v < length e → first_number e v + get_or e v 0 ≤ sum e
first_within e v h = omega (arith, first_more e v 0 h, sum_take (v + 1) e)

-- ---- numbering and filling

pub numbered-equal : (f g : ℕ → ℕ) (n : ℕ) (m : Tree) → AreBelow n m → ((v : ℕ) → v < n → f v ≡ g v) → numbered f m ≡ numbered g m
numbered-equal f g n (leaf v) b h = ap leaf (h v b)
numbered-equal f g n (node l r) b h =
    let p : numbered f l ≡ numbered g l = numbered-equal f g n l b.0 h in
    let q : numbered (λ v. f v + count v l) r ≡ numbered (λ v. g v + count v l) r =
    numbered-equal (λ v. f v + count v l) (λ v. g v + count v l) n r b.1 (λ v k. ap (λ z. z + count v l) (h v k)) in cc

-- the positions as monomials
positions-range : (k n : ℕ) → positions k n ≡ map leaf (range_with_len k n)
positions-range k zero = refl
positions-range k (suc n) = rw add-one (ap (λ xs. leaf k ∷ xs) (positions-range (suc k) n))

-- ---- the types of the terms

pub same_type : (e : List ℕ) (f : Poly) → other_term e f ≡ None → Each (λ t. type_of 26 t.1 ≡ e) f
same_type e [] h = tt
same_type e (t ∷ f) h = elim (cases_Bool (list_eq (type_of 26 t.1) e)) [
  | inl q ↦ (list_eq-sound _ _ q, same_type e f (rw q at h))
  | inr q ↦ absurd (let k : Some t.1 ≡ None = rw q at h in cc)
]

pub each-below : (ts : List Term) → Each (λ t. AreBelow 26 t.1) (terms ts)
each-below [] = tt
each-below (t ∷ ts) = (below_from_test 26 (tree t.mono) t.letters, each-below ts)

pub type-has : (e : List ℕ) (m : Tree) → AreBelow 26 m → type_of 26 m ≡ e → HasType e m
type-has e m b h = has_type-sound e m (has_type-of 26 e m (sym (ap length h) ∙ length-type_of 26 m) (test_from_below 26 m b) h)

-- every term has the type of the leading one
pub homogeneous : (e : List ℕ) (f : Poly) → Each (λ t. AreBelow 26 t.1) f → Each (λ t. type_of 26 t.1 ≡ e) f → IsHomogeneous e f
homogeneous e [] b h = tt
homogeneous e (t ∷ f) b h = (type-has e t.1 b.0 h.0, homogeneous e f b.1 h.1)

-- ---- what an identity has

pub record IsFit (f : Poly) : Type 0 where
  pub nonzero : 0 < length f
  pub one_type : other_term (leading_type f) f ≡ None
  pub small : sum (leading_type f) ≤ 8

degree-fits : (n : ℕ) → degree_fault n ≡ None → n ≤ 8
degree-fits n h = elim (cases_Bool (n == 1)) [
  | inl q ↦ absurd (let k : Some DegreeOne ≡ None = rw q at h in cc)
  | inr q ↦ elim (cases_Bool (ltb 8 n)) [
    | inl r ↦ absurd (let k : Some DegreeOver8 ≡ None = rw (q, r) at h in cc)
    | inr r ↦ grind (arith, nat_tests)
  ]
]

type-fits : (e : List ℕ) (o : Option Tree) → type_fault e o ≡ None → (o ≡ None) × (sum e ≤ 8)
type-fits e None h = (refl, degree-fits (sum e) h)
type-fits e (Some m) h = absurd (cc)

pub identity-fits : (f : Poly) → identity_fault f ≡ None → IsFit f
identity-fits [] h = absurd (cc)
identity-fits (t ∷ f) h =
    let k = type-fits (type_of 26 t.1) (other_term (type_of 26 t.1) f) h in
    record { nonzero = omega arith; one_type = other-leading t f ∙ k.0; small = k.1 }

-- ---- one leaf of a numbered monomial

pub leaf_room : (next : List ℕ) (v n : ℕ) → v < length next → ((u : ℕ) → u < length next → get_or next u 0 + count u (leaf v) ≤ n) → get_or next v 0 + 1 ≤ n
leaf_room next v n h k = let e : eqb v v ≡ true = eq-eqb v v refl in let r : get_or next v 0 + count v (leaf v) ≤ n = k v h in rw e at r

pub leaf_counted : (next : List ℕ) (v u : ℕ) → v < length next → get_or (set next v (get_or next v 0 + 1)) u 0 ≡ get_or next u 0 + count u (leaf v)
leaf_counted next v u h = elim (cases_eq u v) [
  | inl e ↦ let q : eqb v u ≡ true = eq-eqb v u (sym e) in rw q (subst (λ z. get_or (set next v (get_or next v 0 + 1)) z 0 ≡ get_or next z 0 + 1) (sym e) (rw get_or-set_same refl))
  | inr ne ↦ let q : eqb v u ≡ false = grind (arith, nat_tests) in rw q (rw get_or-set_other (omega arith))
]

pub leaf_value : (places : List ℕ) (k x d : ℕ) → k < length places → x ≡ get_or places k d → leaf x ≡ fill (map leaf places) (leaf k)
leaf_value places k x d h e = sym (get_or-map leaf places k d (leaf k) h ∙ ap leaf (sym e))

-- ---- the list of the terms

pub positions-arranged : (e : List ℕ) (n : ℕ) → arrangements e (positions 0 n) ≡ map (map leaf) (arrangements e (range_with_len 0 n))
positions-arranged e n = ap (arrangements e) (positions-range 0 n) ∙ arrangements-map leaf e (range_with_len 0 n)

-- the terms of the linearization, from places and first numbers
pub linear_terms : (e : List ℕ) (f : Poly) (next : ℕ → ℕ) (all : List (List ℕ)) → length e ≡ 26 → all ≡ arrangements e (range_with_len 0 (sum e)) →
    ((v : ℕ) → v < 26 → next v ≡ first_number e v) → Each (λ t. AreBelow 26 t.1) f →
    flat_map (λ t. map (λ a. (t.0, fill (map leaf a) (numbered next t.1))) all) f ≡ (linearization e f).terms
linear_terms e f next all n q h b =
    flat-each (λ t. AreBelow 26 t.1) _ _ f (λ t k.
    ap (λ m. map (λ a. (t.0, fill (map leaf a) m)) all) (numbered-equal next (first_number e) 26 t.1 k h)
    ∙ ap (map (λ a. (t.0, fill (map leaf a) (numbered (first_number e) t.1)))) q
    ∙ sym (map-map (λ a. (t.0, fill a (numbered (first_number e) t.1))) (map leaf) (arrangements e (range_with_len 0 (sum e))))
    ∙ ap (map (λ a. (t.0, fill a (numbered (first_number e) t.1)))) (sym (positions-arranged e (sum e)))) b

-- both factors of a product, placed in turn
pub placed_both : (ms : List Tree) (next new : List ℕ) (l r x y : Tree) → are_below (length next) r ≡ true →
    ((v : ℕ) → v < length next → get_or new v 0 ≡ get_or next v 0 + count v l) →
    x ≡ fill ms (numbered (λ v. get_or next v 0) l) → y ≡ fill ms (numbered (λ v. get_or new v 0) r) → node x y ≡ fill ms (numbered (λ v. get_or next v 0) (node l r))
placed_both ms next new l r x y b h p q =
    ap (λ z. node z y) p
    ∙ ap (λ z. node (fill ms (numbered (λ v. get_or next v 0) l)) z)
    (q ∙ ap (fill ms) (numbered-equal (λ v. get_or new v 0) (λ v. get_or next v 0 + count v l) (length next) r (below_from_test (length next) r b) h))

pub both_below : (n : ℕ) (l r : Tree) → are_below n (node l r) ≡ true → (are_below n l ≡ true) × (are_below n r ≡ true)
both_below n l r h = elim (cases_Bool (are_below n l)) [
  | inl q ↦ (q, rw q at h)
  | inr q ↦ absurd (false≢true (rw q at h))
]

pub degree-pos : (m : Tree) → 1 ≤ degree m
degree-pos (leaf k) = omega arith
degree-pos (node l r) = omega (arith, degree-pos l, degree-pos r)

-- ---- lists of terms

pub term-at : (ts : List Term) (i : ℕ) (t : Term) → t ≡ get_or ts i t → term t ≡ get_or (terms ts) i (term t)
term-at ts i t h = ap term h ∙ sym (get_map term ts i t)

pub terms-push : (ts : List Term) (t : Term) → terms (ts ++ t ∷ []) ≡ terms ts ++ term t ∷ []
terms-push ts t = map-append term ts (t ∷ [])

-- one more term with another monomial
pub reindex_next : (h : Tree → Tree) (f : Poly) (i : ℕ) (t : ℕ × Tree) (m : Tree) (now next : Poly) → i < length f → t ≡ get_or f i t → m ≡ h t.1 →
    now ≡ reindex h (take i f) → next ≡ now ++ (t.0, m) ∷ [] → next ≡ reindex h (take (i + 1) f)
reindex_next h f i t m now next lt e q k g =
    g ∙ ap (λ z. z ++ (t.0, m) ∷ []) k ∙ ap (λ z. reindex h (take i f) ++ (t.0, z) ∷ []) q
    ∙ ap (λ (u : ℕ × Tree). reindex h (take i f) ++ (u.0, h u.1) ∷ []) e
    ∙ sym (ap (reindex h) (take_more f i t lt) ∙ map-append (λ t. (t.0, h t.1)) (take i f) (get_or f i t ∷ []))

each-terms : (P : Tree → Type 0) (ts : List Term) → Each (λ t. P t.1) (terms ts) → Each (λ (t : Term). P (tree t.mono)) ts
each-terms P [] h = tt
each-terms P (t ∷ ts) h = (h.0, each-terms P ts h.1)

-- what holds of each monomial holds at each term
pub all_terms : (P : Tree → Type 0) (ts : List Term) (f : Poly) → terms ts ≡ f → Each (λ t. P t.1) f → All (λ (t : Term). P (tree t.mono)) ts
all_terms P ts f e h = all_from_each (λ (t : Term). P (tree t.mono)) ts (each-terms P ts (subst (λ g. Each (λ t. P t.1) g) (sym e) h))

-- coefficients that are residues
pub coefficients : (p : ℕ) (ts : List Term) (f : Poly) → terms ts ≡ f → AreResidues p f → All (λ (t : Term). t.coef < p) ts
coefficients p ts f e h k d l =
    let r : (get_or (terms ts) k (term d)).0 < p = subst (AreResidues p) (sym e) h k (term d) (omega (arith, length-map ts term)) in
    subst (λ (u : ℕ × Tree). u.0 < p) (get_map term ts k d) r

pub residues-reindex : (p : ℕ) (h : Tree → Tree) (f : Poly) → AreResidues p f → AreResidues p (reindex h f)
residues-reindex p h f r =
    all_from_each (λ t. t.0 < p) (reindex h f) (each-map (λ t. t.0 < p) (λ t. t.0 < p) (λ t. (t.0, h t.1)) f (λ t k. k) (each_from_all (λ t. t.0 < p) f r))

pub residues-linearization : (p : ℕ) (e : List ℕ) (f : Poly) → AreResidues p f → AreResidues p (linearization e f).terms
residues-linearization p e f r =
    all_from_each (λ t. t.0 < p) (linearization e f).terms
    (each-flat (λ t. t.0 < p) (λ t. t.0 < p) _ f
    (λ t k. each-map (λ a. Unit {0}) (λ t. t.0 < p) (λ a. (t.0, fill a (numbered (first_number e) t.1))) (arrangements e (positions 0 (sum e))) (λ a u. k)
    (each-always (λ a. Unit {0}) (arrangements e (positions 0 (sum e))) (λ a. tt)))
    (each_from_all (λ t. t.0 < p) f r))

-- ---- the places of a term are within each arrangement

pub IsSpread : List ℕ → List ℕ → Tree → Type 0
IsSpread numbers a m = (v : ℕ) → v < 26 → get_or numbers v 0 + count v m ≤ length a

pub all_within : (e : List ℕ) (ts : List Term) (f : Poly) (numbers : List ℕ) (all : List (List ℕ)) → terms ts ≡ f → IsHomogeneous e f → length e ≡ 26 →
    ((v : ℕ) → v < length e → get_or numbers v 0 ≡ first_number e v) → all ≡ arrangements e (range_with_len 0 (sum e)) →
    All (λ (t : Term). All (λ a. (v : ℕ) → v < 26 → get_or numbers v 0 + count v (tree t.mono) ≤ length a) all) ts
all_within e ts f numbers all q h n first s k d l i a j v w =
    let has : HasType e (tree (get_or ts k d).mono) = all_terms (HasType e) ts f q h k d l in
    let u : v < length e = omega (arith, n, w) in
    omega (
      arith,
      first v u,
      has.counts v u,
      first_within e v u,
      length-arrangement_at e (range_with_len 0 (sum e)) all i a (length-range_with_len 0 (sum e)) s j,
      length-range_with_len 0 (sum e),
    )

-- an identity's terms are of its type
pub identity-homogeneous : (ts : List Term) (f : Poly) → terms ts ≡ f → IsFit f → IsHomogeneous (leading_type f) f
identity-homogeneous ts f q h =
    homogeneous (leading_type f) f (subst (λ g. Each (λ t. AreBelow 26 t.1) g) q (each-below ts)) (same_type (leading_type f) f h.one_type)

pub below-terms : (ts : List Term) (f : Poly) → terms ts ≡ f → Each (λ t. AreBelow 26 t.1) f
below-terms ts f q = subst (λ g. Each (λ t. AreBelow 26 t.1) g) q (each-below ts)

pub length-leading : (f : Poly) → 0 < length f → length (leading_type f) ≡ 26
length-leading [] h = absurd (omega arith)
length-leading (t ∷ f) h = length-type_of 26 t.1

-- ---- filling positions of a multilinear monomial

degree-leaves : (m : Tree) → degree m ≡ leaves (λ k. 1) m
degree-leaves (leaf k) = refl
degree-leaves (node l r) = rw (degree-leaves l, degree-leaves r)

pub degree-filled : (ms : List Tree) (m : Tree) → IsMultilinear (length ms) m → degree (fill ms m) ≡ total degree ms
degree-filled ms m h = degree-leaves (fill ms m) ∙ leaves-multilinear (λ k. 1) ms m h ∙ total-equal (leaves (λ k. 1)) degree ms (λ x. sym (degree-leaves x))

pub below-filled : (ms : List Tree) (m : Tree) → AreBelow (length ms) m → All (λ x. are_below 26 x ≡ true) ms → are_below 26 (fill ms m) ≡ true
below-filled ms (leaf k) b h = h k (leaf k) b
below-filled ms (node l r) b h = rw (below-filled ms l b.0 h) (below-filled ms r b.1 h)

-- the same over a list of terms
pub linear_list : (ts : List Term) (f : Poly) (numbers : List ℕ) (all : List (List ℕ)) → terms ts ≡ f → IsFit f →
    ((v : ℕ) → v < length (leading_type f) → get_or numbers v 0 ≡ first_number (leading_type f) v) →
    all ≡ arrangements (leading_type f) (range_with_len 0 (sum (leading_type f))) →
    flat_map (λ t. map (λ a. (t.0, fill (map leaf a) (numbered (λ v. get_or numbers v 0) t.1))) all) (terms ts) ≡ (linearization (leading_type f) f).terms
linear_list ts f numbers all q fit first s =
    let n : length (leading_type f) ≡ 26 = length-leading f fit.nonzero in
    ap (flat_map (λ t. map (λ a. (t.0, fill (map leaf a) (numbered (λ v. get_or numbers v 0) t.1))) all)) q
    ∙ linear_terms (leading_type f) f (λ v. get_or numbers v 0) all n s (λ v h. first v (omega (arith, n, h))) (below-terms ts f q)

-- the form that is made of a fit polynomial
pub linearized : (p n : ℕ) (ts : List Term) (f g : Poly) → terms ts ≡ f → IsFit f → n ≡ sum (leading_type f) → g ≡ normal p (linearization (leading_type f) f).terms →
    Each (λ t. IsMultilinear n t.1) g
linearized p n ts f g q fit d e =
    let m : Each (λ t. IsMultilinear (sum (leading_type f)) t.1) (normal p (linearization (leading_type f) f).terms) =
    normal-each (IsMultilinear (sum (leading_type f))) p (linearization (leading_type f) f).terms
    (linearization-multilinear (leading_type f) f (identity-homogeneous ts f q fit)) in
    rw (d, e) m

-- ---- instances

pub position-terms : (n : ℕ) (ts : List Term) (f : Poly) → terms ts ≡ f → Each (λ t. IsMultilinear n t.1) f → All (λ (t : Term). are_below n (tree t.mono) ≡ true) ts
position-terms n ts f q h =
    all_terms (λ m. are_below n m ≡ true) ts f q
    (each-from (λ t. IsMultilinear n t.1) (λ t. are_below n t.1 ≡ true) f (λ t k. test_from_below n t.1 (multilinear-below n t.1 k)) h)

pub small-terms : (ms : List Tree) (ts : List Term) (f : Poly) → terms ts ≡ f → Each (λ t. IsMultilinear (length ms) t.1) f → total degree ms ≤ 64 →
    All (λ (t : Term). degree (fill ms (tree t.mono)) ≤ 64) ts
small-terms ms ts f q h s =
    all_terms (λ m. degree (fill ms m) ≤ 64) ts f q
    (each-from (λ t. IsMultilinear (length ms) t.1) (λ t. degree (fill ms t.1) ≤ 64) f (λ t k. rw (degree-filled ms t.1 k) s) h)

pub known-terms : (ms : List Tree) (ts : List Term) (f : Poly) → terms ts ≡ f → Each (λ t. IsMultilinear (length ms) t.1) f → All (λ x. are_below 26 x ≡ true) ms →
    All (λ (t : Term). are_below 26 (fill ms (tree t.mono)) ≡ true) ts
known-terms ms ts f q h s =
    all_terms (λ m. are_below 26 (fill ms m) ≡ true) ts f q
    (each-from (λ t. IsMultilinear (length ms) t.1) (λ t. are_below 26 (fill ms t.1) ≡ true) f
    (λ t k. below-filled ms t.1 (multilinear-below (length ms) t.1 k) s) h)

pub all-trees : (ms : List Mono) → All (λ m. are_below 26 (tree m) ≡ true) ms → All (λ x. are_below 26 x ≡ true) (map tree ms)
all-trees ms h = all_from_each (λ x. are_below 26 x ≡ true) (map tree ms)
    (each-map (λ m. are_below 26 (tree m) ≡ true) (λ x. are_below 26 x ≡ true) tree ms (λ m k. k) (each_from_all (λ m. are_below 26 (tree m) ≡ true) ms h))

pub total-degrees : (ms : List Mono) → total degree (map tree ms) ≡ sum_by (λ m. degree (tree m)) ms
total-degrees ms = total-map degree tree ms ∙ total-sum_by (λ m. degree (tree m)) ms
