-- `tuples` lists all tuples, each once, in lexicographic order.
use Rattle.std.proofs.Common.{◌≡◌, ℕ, zero, suc, ◌+◌, ◌<◌, ◌≤◌, ◌==◌, true, List, [], ◌∷◌, map, length, sym, refl, ap, arith, subst, sum, Ordering, inl, inr, ◌⊎◌}
use Rattle.std.specs.List.{flat_map}
use Rattle.std.specs.Ordering.{nat_cmp}
use Rattle.std.specs.Cmp.Lexicographic.{slice_cmp}
use Rattle.std.specs.declared.cmp.Ordering.TheVariants.{Less, Equal}
use Rattle.std.proofs.lemmas.Bool.{cases_Bool}
use Rattle.std.proofs.lemmas.Bool.Decides.{nat_tests}
use Rattle.alb_mono.specs.Tree.{type_le, type_minus}
use Rattle.alb_mono.specs.Listing.{Each, IsIn, Ascends, IsListing}
use Rattle.alb_mono.proofs.ListingLemmas.{each-weaker, each-append, each-map, each-always, in-map, in-flat, in-left, in-right, ascends-append, ascends-map}
use Rattle.alb_subst.specs.declared.range.Range.{Range}
use Rattle.alb_subst.specs.Ranges.{begins, tuples, piece, RisesFrom, AddsUp}

pub record IsTuple (rs : List Range) (n : ℕ) (r x : List ℕ) : Type 0 where
  pub long : length x ≡ n
  pub adds_up : AddsUp rs x r

abbrev pub lex : List ℕ → List ℕ → Ordering
lex = slice_cmp nat_cmp

nat_less : (a b : ℕ) → a < b → nat_cmp a b ≡ Less
nat_less a b h = grind (arith, nat_tests)

nat_same : (a : ℕ) → nat_cmp a a ≡ Equal
nat_same a = grind (arith, nat_tests)

abbrev HeadFrom : ℕ → List ℕ → Type 0
HeadFrom n [] = ⊥
HeadFrom n (b ∷ bs) = n ≤ b

abbrev HeadBelow : ℕ → List ℕ → Type 0
HeadBelow n [] = ⊥
HeadBelow n (b ∷ bs) = b < n

before : (n : ℕ) (x y : List ℕ) → HeadBelow n x → HeadFrom n y → lex x y ≡ Less
before n [] y h k = absurd h
before n (b ∷ x) [] h k = absurd k
before n (b ∷ x) (c ∷ y) h k = rw (nat_less b c (omega arith))

from_less : (n m : ℕ) (x : List ℕ) → m ≤ n → HeadFrom n x → HeadFrom m x
from_less n m [] h k = k
from_less n m (b ∷ x) h k = omega arith

-- ---- the tuples that begin with a number of one range

from-begins : (f c n : ℕ) (ts : List (List ℕ)) → n ≤ f → Each (HeadFrom n) (begins f c ts)
from-begins f zero n ts h = tt
from-begins f (suc c) n ts h =
    each-append (HeadFrom n) (map (λ bs. f ∷ bs) ts) (begins (suc f) c ts) (each-map (HeadFrom n) (λ bs. f ∷ bs) ts (each-always _ ts (λ t. h))) (from-begins (suc f) c n ts (omega arith))

below-begins : (f c n : ℕ) (ts : List (List ℕ)) → f + c ≤ n → Each (HeadBelow n) (begins f c ts)
below-begins f zero n ts h = tt
below-begins f (suc c) n ts h =
    each-append (HeadBelow n) (map (λ bs. f ∷ bs) ts) (begins (suc f) c ts) (each-map (HeadBelow n) (λ bs. f ∷ bs) ts (each-always _ ts (λ t. omega arith))) (below-begins (suc f) c n ts (omega arith))

ascends-row : (b : ℕ) (ts : List (List ℕ)) → Ascends lex ts → Ascends lex (map (λ bs. b ∷ bs) ts)
ascends-row b ts a = ascends-map lex lex (λ bs. b ∷ bs) ts (λ x y h. rw (nat_same b) h) a

ascends-begins : (f c : ℕ) (ts : List (List ℕ)) → Ascends lex ts → Ascends lex (begins f c ts)
ascends-begins f zero ts a = tt
ascends-begins f (suc c) ts a =
    ascends-append lex (map (λ bs. f ∷ bs) ts) (begins (suc f) c ts) (ascends-row f ts a) (ascends-begins (suc f) c ts a)
    (each-map _ (λ bs. f ∷ bs) ts (each-always _ ts (λ t. each-weaker (HeadFrom (suc f)) _ (begins (suc f) c ts)
    (λ y k. before (suc f) (f ∷ t) y (omega arith) k) (from-begins (suc f) c (suc f) ts (omega arith)))))

-- ---- the pieces

from-piece : (rs : List Range) (n : ℕ) (r : List ℕ) (q : Range) (m : ℕ) → m ≤ q.first → Each (HeadFrom m) (piece rs n r q)
from-piece rs n r q m h = elim (cases_Bool (type_le q.at r)) [ inl e ↦ rw e (from-begins q.first q.count m (tuples rs n (type_minus r q.at)) h) | inr e ↦ rw e tt ]

below-piece : (rs : List Range) (n : ℕ) (r : List ℕ) (q : Range) → Each (HeadBelow (q.first + q.count)) (piece rs n r q)
below-piece rs n r q = elim (cases_Bool (type_le q.at r)) [ inl e ↦ rw e (below-begins q.first q.count (q.first + q.count) (tuples rs n (type_minus r q.at)) (omega arith)) | inr e ↦ rw e tt ]

ascends-piece : (rs : List Range) (n : ℕ) (r : List ℕ) (q : Range) → ((u : List ℕ) → Ascends lex (tuples rs n u)) → Ascends lex (piece rs n r q)
ascends-piece rs n r q h = elim (cases_Bool (type_le q.at r)) [ inl e ↦ rw e (ascends-begins q.first q.count _ (h (type_minus r q.at))) | inr e ↦ rw e tt ]

from-pieces : (rs : List Range) (n : ℕ) (r : List ℕ) (m : ℕ) (qs : List Range) → RisesFrom m qs → Each (HeadFrom m) (flat_map (piece rs n r) qs)
from-pieces rs n r m [] h = tt
from-pieces rs n r m (q ∷ qs) h =
    each-append (HeadFrom m) (piece rs n r q) (flat_map (piece rs n r) qs) (from-piece rs n r q m h.0)
    (each-weaker (HeadFrom (q.first + q.count)) _ (flat_map (piece rs n r) qs) (λ x k. from_less (q.first + q.count) m x (let z = h.0 in omega arith) k) (from-pieces rs n r (q.first + q.count) qs h.1))

ascends-pieces : (rs : List Range) (n : ℕ) (r : List ℕ) (m : ℕ) (qs : List Range) → RisesFrom m qs → ((u : List ℕ) → Ascends lex (tuples rs n u)) → Ascends lex (flat_map (piece rs n r) qs)
ascends-pieces rs n r m [] h a = tt
ascends-pieces rs n r m (q ∷ qs) h a =
    ascends-append lex (piece rs n r q) (flat_map (piece rs n r) qs) (ascends-piece rs n r q a) (ascends-pieces rs n r (q.first + q.count) qs h.1 a)
    (each-weaker (HeadBelow (q.first + q.count)) _ (piece rs n r q)
    (λ x k. each-weaker (HeadFrom (q.first + q.count)) _ (flat_map (piece rs n r) qs) (λ y l. before (q.first + q.count) x y k l) (from-pieces rs n r (q.first + q.count) qs h.1))
    (below-piece rs n r q))

ascends-tuples : (rs : List Range) (n : ℕ) (r : List ℕ) (m : ℕ) → RisesFrom m rs → Ascends lex (tuples rs n r)
ascends-tuples rs zero r m h = elim (cases_Bool (sum r == 0)) [ inl e ↦ rw e (tt, tt) | inr e ↦ rw e tt ]
ascends-tuples rs (suc n) r m h = ascends-pieces rs n r m rs h (λ u. ascends-tuples rs n u m h)

-- ---- each, and all

each-begins : (P : List ℕ → Type 0) (f c : ℕ) (ts : List (List ℕ)) → ((b : ℕ) → f ≤ b → b < f + c → Each (λ bs. P (b ∷ bs)) ts) → Each P (begins f c ts)
each-begins P f zero ts h = tt
each-begins P f (suc c) ts h =
    each-append P (map (λ bs. f ∷ bs) ts) (begins (suc f) c ts) (each-map P (λ bs. f ∷ bs) ts (h f (omega arith) (omega arith)))
    (each-begins P (suc f) c ts (λ b l k. h b (omega arith) (omega arith)))

each-pieces : (rs : List Range) (n : ℕ) (r : List ℕ) (qs : List Range) → ((q : Range) → IsIn q qs → IsIn q rs) → ((u : List ℕ) → Each (IsTuple rs n u) (tuples rs n u)) →
    Each (IsTuple rs (suc n) r) (flat_map (piece rs n r) qs)
each-pieces rs n r [] i h = tt
each-pieces rs n r (q ∷ qs) i h =
    each-append (IsTuple rs (suc n) r) (piece rs n r q) (flat_map (piece rs n r) qs)
    (elim (cases_Bool (type_le q.at r)) [
      | inr e ↦ rw e tt
      | inl e ↦ rw e (each-begins (IsTuple rs (suc n) r) q.first q.count _
          (λ b l k. each-weaker (IsTuple rs n (type_minus r q.at)) _ _ (λ bs t. record { long = ap suc t.long; adds_up = (q, i q (inl refl), l, k, e, t.adds_up) }) (h (type_minus r q.at))))
    ])
    (each-pieces rs n r qs (λ p k. i p (inr k)) h)

each-tuples : (rs : List Range) (n : ℕ) (r : List ℕ) → Each (IsTuple rs n r) (tuples rs n r)
each-tuples rs zero r = elim (cases_Bool (sum r == 0)) [
  | inl e ↦ rw e (record { long = refl; adds_up = (grind (arith, nat_tests)) }, tt)
  | inr e ↦ rw e tt
]
each-tuples rs (suc n) r = each-pieces rs n r rs (λ q k. k) (λ u. each-tuples rs n u)

in-begins : (f c b : ℕ) (bs : List ℕ) (ts : List (List ℕ)) → f ≤ b → b < f + c → IsIn bs ts → IsIn (b ∷ bs) (begins f c ts)
in-begins f zero b bs ts l k h = absurd (omega arith)
in-begins f (suc c) b bs ts l k h = elim (here f b l) [
  | inl e ↦ in-left (b ∷ bs) (map (λ x. f ∷ x) ts) (begins (suc f) c ts) (subst (λ a. IsIn (b ∷ bs) (map (λ x. a ∷ x) ts)) (sym e) (in-map (λ x. b ∷ x) bs ts h))
  | inr e ↦ in-right (b ∷ bs) (map (λ x. f ∷ x) ts) (begins (suc f) c ts) (in-begins (suc f) c b bs ts e (omega arith) h)
]
  where
    here : (f b : ℕ) → f ≤ b → (f ≡ b) ⊎ (suc f ≤ b)
    here f b h = grind arith

all-tuples : (rs : List Range) (n : ℕ) (r x : List ℕ) → length x ≡ n → AddsUp rs x r → IsIn x (tuples rs n r)
all-tuples rs zero r [] l a = let e : (sum r == 0) ≡ true = grind (arith, nat_tests) in rw e (inl refl)
all-tuples rs (suc n) r [] l a = absurd (omega arith)
all-tuples rs zero r (b ∷ bs) l a = absurd (omega arith)
all-tuples rs (suc n) r (b ∷ bs) l a =
    in-flat (piece rs n r) a.0 (b ∷ bs) rs a.1
    (rw a.4 (in-begins a.0.first a.0.count b bs (tuples rs n (type_minus r a.0.at)) a.2 a.3 (all-tuples rs n (type_minus r a.0.at) bs (omega arith) a.5)))

-- THE LAW
pub tuples-listing : (rs : List Range) (n : ℕ) (r : List ℕ) → RisesFrom 0 rs → IsListing lex (IsTuple rs n r) (tuples rs n r)
tuples-listing rs n r h = record {
  ascends = ascends-tuples rs n r 0 h;
  each = each-tuples rs n r;
  all = λ x t. all-tuples rs n r x t.long t.adds_up;
}
