-- The homogeneous parts of a descending list are its runs of one type.
use Rattle.std.proofs.Common.{◌≡◌, ◌≢◌, ℕ, zero, suc, ◌+◌, ◌-◌, ◌<◌, ◌≤◌, true, List, [], ◌∷◌, ◌++◌, take, drop, length, get_or, sum, sym, refl, ap, subst, ◌∙◌, arith, inl, inr, ◌⊎◌, All, append-nil, drop_of_length-le}
use Rattle.std.specs.Ordering.{nat_cmp, ordering_then}
use Rattle.std.specs.Cmp.Lexicographic.{slice_cmp}
use Rattle.std.specs.declared.cmp.Ordering.{Ordering}
use Rattle.std.specs.declared.cmp.Ordering.TheVariants.{Less, Equal, Greater}
use Rattle.std.proofs.lemmas.Bool.{cases_Bool, false≢true}
use Rattle.std.proofs.lemmas.Bool.Decides.{nat_tests}
use Rattle.std.proofs.lemmas.Cmp.{tied_itself, nat_cmp_total, lists_total}
use Rattle.std.proofs.lemmas.List.{map-append, take-append-drop, drop-drop}
use Rattle.alb_poly.proofs.Items.{term_at}
use Rattle.std.proofs.lemmas.List.Elements.{filter-append}
use Rattle.std.proofs.lemmas.List.Sums.{sum_by-cons}
use Rattle.gf_sums.specs.Sums.{AllBefore}
use Rattle.alb_mono.specs.Listing.{Each, IsListing}
use Rattle.alb_mono.specs.Tree.{tree, Tree, count, listed, type_of, cmp_types, cmp_trees, cmp_monos, are_below, AreBelow}
use Rattle.alb_mono.proofs.Leaves.{length-type_of, below_from_test}
use Rattle.alb_mono.proofs.ListingLemmas.{each-weaker, each-append, in-left, in-right, ascends-append}
use Rattle.alb_mono.proofs.Order.{cmp_types_total}
use Rattle.alb_poly.specs.Poly.{Poly, IsDescending, list_eq, has_type, part}
use Rattle.alb_poly.specs.Components.{IsComponent, by_type}
use Rattle.alb_poly.specs.Runs.{IsTypeRun}
use Rattle.alb_poly.specs.Terms.{term, terms}
use Rattle.alb_poly.specs.declared.term.Term.{Term}
use Rattle.alb_poly.proofs.Falling.{types_equal}
use Rattle.alb_poly.proofs.Types.{list_eq-itself, list_eq-sound, none_past, has_type-of, has_type-is, has_type-not}

-- ---- types over fewer generators

listed-append : (f : ℕ → ℕ) (k n j : ℕ) → listed f k (n + j) ≡ listed f k n ++ listed f (k + n) j
listed-append f k zero j = let a : 0 + j ≡ j = omega arith in let b : k + 0 ≡ k = omega arith in rw (a, b) refl
listed-append f k (suc n) j =
    let a : suc n + j ≡ suc (n + j) = omega arith in
    let b : k + suc n ≡ suc k + n = omega arith in
    rw (a, b) (ap (λ xs. f k ∷ xs) (listed-append f (suc k) n j))

zeros_past : (m : Tree) (n k j : ℕ) → AreBelow n m → n ≤ k → listed (λ g. count g m) k j ≡ listed (λ _. 0) k j
zeros_past m n k zero h l = refl
zeros_past m n k (suc j) h l = rw (none_past k n m h l, zeros_past m n (suc k) j h (omega arith)) refl

sum-append : (xs ys : List ℕ) → sum (xs ++ ys) ≡ sum xs + sum ys
sum-append [] ys = omega arith
sum-append (x ∷ xs) ys = omega (arith, sum_by-cons (λ z. z) x (xs ++ ys), sum_by-cons (λ z. z) x xs, sum-append xs ys)

cmp-append : (xs ys zs : List ℕ) → length xs ≡ length ys → slice_cmp nat_cmp (xs ++ zs) (ys ++ zs) ≡ slice_cmp nat_cmp xs ys
cmp-append [] [] zs h = tied_itself (lists_total nat_cmp_total) zs
cmp-append [] (y ∷ ys) zs h = absurd (omega arith)
cmp-append (x ∷ xs) [] zs h = absurd (omega arith)
cmp-append (x ∷ xs) (y ∷ ys) zs h = ap (ordering_then (nat_cmp x y)) (cmp-append xs ys zs (omega arith))

nat_shift : (x y z : ℕ) → nat_cmp (x + z) (y + z) ≡ nat_cmp x y
nat_shift x y z = grind (arith, nat_tests)

types-append : (xs ys zs : List ℕ) → length xs ≡ length ys → cmp_types (xs ++ zs) (ys ++ zs) ≡ cmp_types xs ys
types-append xs ys zs h = rw (sum-append xs zs, sum-append ys zs, nat_shift (sum xs) (sum ys) (sum zs), cmp-append ys xs zs (sym h)) refl

type_of-more : (n j : ℕ) (m : Tree) → AreBelow n m → type_of (n + j) m ≡ type_of n m ++ listed (λ _. 0) n j
unfolding type_of
type_of-more n j m h =
    let e : 0 + n ≡ n = omega arith in
    listed-append (λ g. count g m) 0 n j ∙ ap (λ k. listed (λ g. count g m) 0 n ++ listed (λ g. count g m) k j) e
    ∙ ap (λ xs. listed (λ g. count g m) 0 n ++ xs) (zeros_past m n n j h (omega arith))

pub fewer_types : (n : ℕ) (x y : Tree) → n ≤ 26 → are_below n x ≡ true → are_below n y ≡ true →
    cmp_types (type_of 26 x) (type_of 26 y) ≡ cmp_types (type_of n x) (type_of n y)
fewer_types n x y h k l =
    let e : 26 ≡ n + (26 - n) = omega arith in
    ap (λ i. cmp_types (type_of i x) (type_of i y)) e
    ∙ (λ i. cmp_types (type_of-more n (26 - n) x (below_from_test n x k) i) (type_of-more n (26 - n) y (below_from_test n y l) i))
    ∙ types-append (type_of n x) (type_of n y) (listed (λ _. 0) n (26 - n)) (length-type_of n x ∙ sym (length-type_of n y))

first_decides : (a b : Ordering) → ordering_then a b ≡ Less → (a ≡ Less) ⊎ (a ≡ Equal)
first_decides Less b h = inl refl
first_decides Equal b h = inr refl
first_decides Greater b h = absurd (cc)

-- a monomial that comes first has another type that comes first, or the same
pub earlier_type : (n : ℕ) (x y : Tree) → n ≤ 26 → are_below n x ≡ true → are_below n y ≡ true → cmp_monos x y ≡ Less →
    (type_of n x ≢ type_of n y) → cmp_types (type_of n x) (type_of n y) ≡ Less
earlier_type n x y h k l e ne = elim (first_decides (cmp_types (type_of 26 x) (type_of 26 y)) (cmp_trees x y) e) [
  | inl a ↦ sym (fewer_types n x y h k l) ∙ a
  | inr a ↦ absurd (ne (types_equal (type_of n x) (type_of n y) (sym (fewer_types n x y h k l) ∙ a)))
]

-- ---- parts

module _ (n : ℕ) where
  -- all terms have the type `e`
  abbrev pub HaveType : List ℕ → Poly → Type 0
  HaveType e f = Each (λ t. has_type e t.1 ≡ true) f

  -- all terms have types before `e`
  abbrev pub AreEarlier : List ℕ → Poly → Type 0
  AreEarlier e f = Each (λ t. cmp_types (type_of n t.1) e ≡ Less) f

  part-whole : (e : List ℕ) (f : Poly) → HaveType e f → part e f ≡ f
  part-whole e [] a = refl
  part-whole e (t ∷ f) a = rw a.0 (ap (λ g. t ∷ g) (part-whole e f a.1))

  part-none : (e : List ℕ) (f : Poly) → length e ≡ n → Each (λ t. type_of n t.1 ≢ e) f → part e f ≡ []
  part-none e [] h a = refl
  part-none e (t ∷ f) h a = rw (has_type-not n e t.1 h a.0) (part-none e f h a.1)

  -- a type whose part is not zero is that of a term
  part-some : (P : List ℕ → Type 0) (e : List ℕ) (f : Poly) → length e ≡ n → part e f ≢ [] → Each (λ t. P (type_of n t.1)) f → P e
  part-some P e [] h k a = absurd (k refl)
  part-some P e (t ∷ f) h k a = elim (cases_Bool (has_type e t.1)) [
    | inl q ↦ subst P (has_type-is n e t.1 h q) a.0
    | inr q ↦ part-some P e f h (rw q at k) a.1
  ]

  part-append : (e : List ℕ) (f g : Poly) → part e (f ++ g) ≡ part e f ++ part e g
  part-append e f g = filter-append (λ t. has_type e t.1) f g

  less_differs : (d e : List ℕ) → cmp_types d e ≡ Less → d ≢ e
  less_differs d e h q = let k : cmp_types d e ≡ Equal = ap (λ x. cmp_types x e) q ∙ tied_itself cmp_types_total e in absurd (cc)

  module _ (e : List ℕ) (run rest : Poly) (long : length e ≡ n) (have : HaveType e run) (earlier : AreEarlier e rest) where
    part-run : part e (run ++ rest) ≡ run
    part-run =
        part-append e run rest ∙ ap (λ g. g ++ part e rest) (part-whole e run have)
        ∙ ap (λ g. run ++ g) (part-none e rest long (each-weaker (λ t. cmp_types (type_of n t.1) e ≡ Less) _ rest (λ t h. less_differs (type_of n t.1) e h) earlier))
        ∙ append-nil run

    part-other : (d : List ℕ) → length d ≡ n → d ≢ e → part d (run ++ rest) ≡ part d rest
    part-other d h ne =
        part-append d run rest
        ∙ ap (λ g. g ++ part d rest) (part-none d run h (each-weaker (λ t. has_type e t.1 ≡ true) _ run (λ t q z. ne (sym z ∙ has_type-is n e t.1 long q)) have))

    earlier_component : (c : List ℕ × Poly) → IsComponent n rest c → cmp_types c.0 e ≡ Less
    earlier_component c h = part-some (λ d. cmp_types d e ≡ Less) c.0 rest h.long (λ z. h.not_zero (h.same ∙ z)) earlier

    more_component : (c : List ℕ × Poly) → IsComponent n rest c → IsComponent n (run ++ rest) c
    more_component c h = record {
      long = h.long;
      same = h.same ∙ sym (part-other c.0 h.long (less_differs c.0 e (earlier_component c h)));
      not_zero = h.not_zero;
    }

    types_differ : (d : List ℕ) → (d ≡ e) ⊎ (d ≢ e)
    types_differ d = elim (cases_Bool (list_eq d e)) [
      | inl q ↦ inl (list_eq-sound d e q)
      | inr q ↦ inr (λ z. false≢true (sym q ∙ ap (λ x. list_eq x e) z ∙ list_eq-itself e))
    ]

    -- one more run of a type that comes after all others
    pub listing-run : (out : List (List ℕ × Poly)) → run ≢ [] → IsListing by_type (IsComponent n rest) out →
        IsListing by_type (IsComponent n (run ++ rest)) (out ++ (e, run) ∷ [])
    listing-run out some h = record {
      ascends = ascends-append by_type out ((e, run) ∷ []) h.ascends (tt, tt)
          (each-weaker (IsComponent n rest) (λ c. Each (λ d. by_type c d ≡ Less) ((e, run) ∷ [])) out (λ c k. (earlier_component c k, tt)) h.each);
      each = each-append (IsComponent n (run ++ rest)) out ((e, run) ∷ []) (each-weaker (IsComponent n rest) (IsComponent n (run ++ rest)) out more_component h.each)
          (record { long = long; same = sym part-run; not_zero = some }, tt);
      all = λ c k. elim (types_differ c.0) [
        | inl q ↦ in-right c out ((e, run) ∷ []) (inl (pair c (e, run) q (k.same ∙ ap (λ d. part d (run ++ rest)) q ∙ part-run)))
        | inr ne ↦ in-left c out ((e, run) ∷ []) (h.all c (record {
          long = k.long;
          same = k.same ∙ part-other c.0 k.long ne;
          not_zero = k.not_zero;
        }))
      ];
    }
      where
        pair : (c d : List ℕ × Poly) → c.0 ≡ d.0 → c.1 ≡ d.1 → c ≡ d
        pair (a, x) (b, y) h k = cc

-- ---- the loop over the runs, from the end

falls_far : (ts : List Term) → IsDescending (terms ts) → (i j : ℕ) (d : Term) → i < j → j < length ts → cmp_monos (tree (get_or ts j d).mono) (tree (get_or ts i d).mono) ≡ Less
falls_far [] f i j d h l = absurd (omega arith)
falls_far (t ∷ ts) f i zero d h l = absurd (omega arith)
falls_far (t ∷ ts) f zero (suc j) d h l = before_at (tree t.mono) ts f.1 j d (omega arith)
  where
    before_at : (m : Tree) (ts : List Term) → AllBefore cmp_monos m (terms ts) → (k : ℕ) (d : Term) → k < length ts → cmp_monos (tree (get_or ts k d).mono) m ≡ Less
    before_at m [] f k d h = absurd (omega arith)
    before_at m (t ∷ ts) f zero d h = f.0
    before_at m (t ∷ ts) f (suc k) d h = before_at m ts f.1 k d (omega arith)
falls_far (t ∷ ts) f (suc i) (suc j) d h l = falls_far ts f.2 i j d (omega arith) (omega arith)

have_take : (n : ℕ) (e : List ℕ) (ts : List Term) (len : ℕ) → ((k : ℕ) (d : Term) → k < len → k < length ts → has_type e (tree (get_or ts k d).mono) ≡ true) →
    HaveType n e (terms (take len ts))
have_take n e ts zero h = tt
have_take n e [] (suc len) h = tt
have_take n e (t ∷ ts) (suc len) h = (h 0 t (omega arith) (omega arith), have_take n e ts len (λ k d l m. h (suc k) d (omega arith) (omega arith)))

have_slice : (n : ℕ) (e : List ℕ) (ts : List Term) (start len : ℕ) →
    ((k : ℕ) (d : Term) → start ≤ k → k < start + len → k < length ts → has_type e (tree (get_or ts k d).mono) ≡ true) →
    HaveType n e (terms (take len (drop start ts)))
have_slice n e ts zero len h = have_take n e ts len (λ k d l m. h k d (omega arith) (omega arith) m)
have_slice n e [] (suc start) zero h = tt
have_slice n e [] (suc start) (suc len) h = tt
have_slice n e (t ∷ ts) (suc start) len h = have_slice n e ts start len (λ k d a b m. h (suc k) d (omega arith) (omega arith) (omega arith))

before-take : (m : Tree) (ts : List Term) (len : ℕ) → AllBefore cmp_monos m (terms ts) → AllBefore cmp_monos m (terms (take len ts))
before-take m ts zero h = tt
before-take m [] (suc len) h = tt
before-take m (t ∷ ts) (suc len) h = (h.0, before-take m ts len h.1)

descending-take : (ts : List Term) (len : ℕ) → IsDescending (terms ts) → IsDescending (terms (take len ts))
descending-take ts zero h = tt
descending-take [] (suc len) h = tt
descending-take (t ∷ ts) (suc len) h = (h.0, before-take (tree t.mono) ts len h.1, descending-take ts len h.2)

-- a part of a descending list descends
pub descending-slice : (ts : List Term) (start len : ℕ) → IsDescending (terms ts) → IsDescending (terms (take len (drop start ts)))
descending-slice ts zero len h = descending-take ts len h
descending-slice [] (suc start) zero h = tt
descending-slice [] (suc start) (suc len) h = tt
descending-slice (t ∷ ts) (suc start) len h = descending-slice ts start len h.2

-- `out` has the parts of the terms from `end` on, whose types come before that of the term before `end`
pub record Parted (n : ℕ) (ts : List Term) (end : ℕ) (out : List (List ℕ × Poly)) : Type 0 where
  pub within : end ≤ length ts
  pub listing : IsListing by_type (IsComponent n (terms (drop end ts))) out
  pub cut : (d : Term) → 0 < end → AreEarlier n (type_of n (tree (get_or ts (end - 1) d).mono)) (terms (drop end ts))

listing-none : (n : ℕ) → IsListing by_type (IsComponent n []) []
listing-none n = record { ascends = tt; each = tt; all = λ c h. absurd (h.not_zero h.same) }

pub parted-none : (n : ℕ) (ts : List Term) (end : ℕ) → end ≡ length ts → Parted n ts end []
parted-none n ts end h =
    let e : drop end ts ≡ [] = drop_of_length-le ts (omega arith) in
    record {
      within = omega arith;
      listing = rw e (listing-none n);
      cut = λ d l. rw e tt;
    }

slice_some : (ts : List Term) (start len : ℕ) → 0 < len → start < length ts → terms (take len (drop start ts)) ≢ []
slice_some [] start len h l e = absurd (omega arith)
slice_some ts start zero h l e = absurd (omega arith)
slice_some (t ∷ ts) zero (suc len) h l e = absurd (cc)
slice_some (t ∷ ts) (suc start) (suc len) h l e = slice_some ts start (suc len) h (omega arith) e

pub run_some : (n : ℕ) (ts : List Term) (end start : ℕ) (e : List ℕ) (t : Term) → 0 < end → e ≡ type_of n (tree t.mono) → t ≡ get_or ts (end - 1) t → IsTypeRun n ts end e start → start < end
run_some n ts end start e t pos h i r = less start end r.within (λ q.
    r.cut t (omega arith) (ap (λ k. type_of n (tree (get_or ts (k - 1) t).mono)) q ∙ ap (λ u. type_of n (tree u.mono)) (sym i) ∙ sym h))
  where
    less : (a b : ℕ) → a ≤ b → a ≢ b → a < b
    less a b h k = omega arith

-- the letters of a term, at its place
pub letters_at : (n : ℕ) (ts : List Term) → All (λ t. are_below n t.1 ≡ true) (terms ts) → (k : ℕ) (d : Term) → k < length ts → are_below n (tree (get_or ts k d).mono) ≡ true
letters_at n ts a k d h = term_at (λ t. are_below n t.1 ≡ true) ts k (get_or ts k d) a h (same_default ts k d h)
  where
    same_default : (ts : List Term) (k : ℕ) (d : Term) → k < length ts → get_or ts k d ≡ get_or ts k (get_or ts k d)
    same_default [] k d h = absurd (omega arith)
    same_default (t ∷ ts) zero d h = refl
    same_default (t ∷ ts) (suc k) d h = same_default ts k d (omega arith)

module _ (n : ℕ) (ts : List Term) (few : n ≤ 26) (letters : All (λ t. are_below n t.1 ≡ true) (terms ts)) (falls : IsDescending (terms ts)) where
  pub parted-more : (end start : ℕ) (e : List ℕ) (t : Term) (out : List (List ℕ × Poly)) → Parted n ts end out → 0 < end → e ≡ type_of n (tree t.mono) → t ≡ get_or ts (end - 1) t →
      IsTypeRun n ts end e start → Parted n ts start (out ++ (e, terms (take (end - start) (drop start ts))) ∷ [])
  parted-more end start e t out c pos h i r =
      let s : start < end = run_some n ts end start e t pos h i r in
      let within : end ≤ length ts = c.within in
      let run : Poly = terms (take (end - start) (drop start ts)) in
      let rest : Poly = terms (drop end ts) in
      let q : start + (end - start) ≡ end = omega arith in
      let split : terms (drop start ts) ≡ run ++ rest =
      ap terms (sym (take-append-drop (end - start) (drop start ts)) ∙ ap (λ x. take (end - start) (drop start ts) ++ x) (drop-drop (end - start) start ts ∙ ap (λ k. drop k ts) q))
      ∙ map-append term (take (end - start) (drop start ts)) (drop end ts) in
      let long : length e ≡ n = ap length h ∙ length-type_of n (tree t.mono) in
      let have : HaveType n e run = have_slice n e ts start (end - start)
      (λ k d a b m. has_type-of n e (tree (get_or ts k d).mono) long (letters_at n ts letters k d m) (r.run k d a (omega arith))) in
      let last : e ≡ type_of n (tree (get_or ts (end - 1) t).mono) = h ∙ ap (λ u. type_of n (tree u.mono)) i in
      let earlier : AreEarlier n e rest = subst (λ x. AreEarlier n x rest) (sym last) (c.cut t pos) in
      record {
        within = omega arith;
        listing = subst (λ f. IsListing by_type (IsComponent n f) (out ++ (e, run) ∷ [])) (sym split)
            (listing-run n e run rest long have earlier out (slice_some ts start (end - start) (omega arith) (omega arith)) c.listing);
        cut = λ d l. subst (λ f. AreEarlier n (type_of n (tree (get_or ts (start - 1) d).mono)) f) (sym split)
            (let less : cmp_types e (type_of n (tree (get_or ts (start - 1) d).mono)) ≡ Less = before_cut end start e d (omega arith) l s within (λ z. r.cut d l (sym z)) (sym (r.run (end - 1) d (omega arith) (omega arith))) in
            each-append (λ t. cmp_types (type_of n t.1) (type_of n (tree (get_or ts (start - 1) d).mono)) ≡ Less) run rest
            (each-weaker (λ t. has_type e t.1 ≡ true) _ run (λ t z. ap (λ x. cmp_types x (type_of n (tree (get_or ts (start - 1) d).mono))) (has_type-is n e t.1 long z) ∙ less) have)
            (each-weaker (λ t. cmp_types (type_of n t.1) e ≡ Less) _ rest (λ t z. cmp_types_total.trans (type_of n t.1) e (type_of n (tree (get_or ts (start - 1) d).mono)) z less) earlier));
      }
    where
      before_cut : (end start : ℕ) (e : List ℕ) (d : Term) → 0 < end → 0 < start → start < end → end ≤ length ts →
          (e ≢ type_of n (tree (get_or ts (start - 1) d).mono)) → e ≡ type_of n (tree (get_or ts (end - 1) d).mono) → cmp_types e (type_of n (tree (get_or ts (start - 1) d).mono)) ≡ Less
      before_cut end start e d a b s w ne q =
          ap (λ x. cmp_types x (type_of n (tree (get_or ts (start - 1) d).mono))) q
          ∙ earlier_type n (tree (get_or ts (end - 1) d).mono) (tree (get_or ts (start - 1) d).mono) few (letters_at n ts letters (end - 1) d (omega arith)) (letters_at n ts letters (start - 1) d (omega arith))
          (falls_far ts falls (start - 1) (end - 1) d (omega arith) (omega arith)) (λ z. ne (q ∙ z))

pub parted-all : (n : ℕ) (ts : List Term) (out : List (List ℕ × Poly)) (end : ℕ) → end ≡ 0 → Parted n ts end out → IsListing by_type (IsComponent n (terms ts)) out
parted-all n ts out end h c = subst (λ k. IsListing by_type (IsComponent n (terms (drop k ts))) out) h c.listing
