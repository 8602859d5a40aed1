-- The span of a family of vectors.
use Rattle.std.proofs.Common.{◌≡◌, ℕ, zero, suc, ◌+◌, ◌*◌, ◌-◌, ◌%◌, ◌<◌, ◌≤◌, ◌⊎◌, inl, inr, List, [], ◌∷◌, ◌++◌, refl, arith, sym, subst, ap, ◌∙◌, length, get_or}
use Rattle.std.proofs.lemmas.Nat.{mul-mod}
use Rattle.std.proofs.Math.Nat.{add-mod-mod, mod-add-mod, add-mul-mod_self_left, mul-mod_right}
use Rattle.std.proofs.lemmas.Bool.{cases_eq, cases_lt}
use Rattle.std.proofs.lemmas.List.{get_or_past}
use Rattle.alb_rows.specs.Row.{Cells, entry}
use Rattle.gf_sums.specs.Sums.{Comb, scale}
use Rattle.gf_sums.proofs.Totals.{weigh-append, weigh-scale}
use Rattle.alb_rows.specs.Span.{combination, Same, InSpan, SpanWithin, SameSpan, IsLead, IsPivot, Ascending, IsReducedRow, ArePivots, IsReducedForm, rows_of}

-- residues of sums and products
pub mod_add : (p a a' b b' : ℕ) → a % p ≡ a' % p → b % p ≡ b' % p → (a + b) % p ≡ (a' + b') % p
mod_add p a a' b b' e h =
    sym (add-mod-mod a b p) ∙ sym (mod-add-mod a p (b % p)) ∙ rw (e, h) (mod-add-mod a' p (b' % p) ∙ add-mod-mod a' b' p)

pub mod_mul : (p a a' b b' : ℕ) → a % p ≡ a' % p → b % p ≡ b' % p → (a * b) % p ≡ (a' * b') % p
mod_mul p a a' b b' e h = rw (mul-mod a b p, mul-mod a' b' p, e, h) refl

-- the span is closed under these
pub span_zero : {K : Type 0} (p : ℕ) (f : K → ℕ → ℕ) → InSpan p f (λ _. 0)
span_zero p f = record { items = []; gives = λ j. refl }

pub span_one : {K : Type 0} (p : ℕ) (f : K → ℕ → ℕ) (k : K) → InSpan p f (f k)
span_one p f k = record { items = (1, k) ∷ []; gives = λ j. ap (λ x. x % p) (omega arith) }

pub span_same : {K : Type 0} (p : ℕ) (f : K → ℕ → ℕ) (v w : ℕ → ℕ) → Same p v w → InSpan p f v → InSpan p f w
span_same p f v w e s = record { items = s.items; gives = λ j. s.gives j ∙ e j }

pub span_add : {K : Type 0} (p : ℕ) (f : K → ℕ → ℕ) (v w : ℕ → ℕ) → InSpan p f v → InSpan p f w → InSpan p f (λ j. v j + w j)
span_add p f v w s t =
    record {
      items = s.items ++ t.items;
      gives = λ j. rw (weigh-append (λ k. f k j) s.items t.items) (mod_add p _ _ _ _ (s.gives j) (t.gives j));
    }

pub span_times : {K : Type 0} (p : ℕ) (f : K → ℕ → ℕ) (c : ℕ) (v : ℕ → ℕ) → InSpan p f v → InSpan p f (λ j. c * v j)
span_times p f c v s =
    record {
      items = scale c s.items;
      gives = λ j. rw (weigh-scale (λ k. f k j) c s.items) (mod_mul p c c _ _ refl (s.gives j));
    }

-- a combination of elements of a span is in it
pub span_combination : {K L : Type 0} (p : ℕ) (f : K → ℕ → ℕ) (g : L → ℕ → ℕ) → SpanWithin p f g → (xs : Comb K) → InSpan p g (combination f xs)
span_combination p f g h [] = span_zero p g
span_combination p f g h (x ∷ xs) =
    span_add p g (λ j. x.0 * f x.1 j) (combination f xs) (span_times p g x.0 (f x.1) (h x.1)) (span_combination p f g h xs)

pub span_through : {K L : Type 0} (p : ℕ) (f : K → ℕ → ℕ) (g : L → ℕ → ℕ) (v : ℕ → ℕ) → SpanWithin p f g → InSpan p f v → InSpan p g v
span_through p f g v h s = span_same p g (combination f s.items) v s.gives (span_combination p f g h s.items)

-- either v is zero at each column below n, or it has a lead
first_nonzero : (p : ℕ) (v : ℕ → ℕ) (n : ℕ) → ((j : ℕ) → j < n → v j % p ≡ 0) ⊎ ((c : ℕ) × IsLead p v c)
first_nonzero p v zero = inl (λ j l. absurd (omega arith))
first_nonzero p v (suc n) =
    elim (first_nonzero p v n) [
      | inl none ↦ elim (cases_eq (v n % p) 0) [
        | inl e ↦ inl (λ j l. elim (cases_eq j n) [ inl h ↦ rw h e | inr ne ↦ none j (omega arith) ])
        | inr ne ↦ inr (n, record { nonzero = ne; before = none })
      ]
      | inr found ↦ inr found
    ]

-- a vector with no lead is zero
pub zero_without_lead : (p : ℕ) (v : ℕ → ℕ) → ((c : ℕ) → IsLead p v c → ⊥) → (j : ℕ) → v j % p ≡ 0
zero_without_lead p v none j =
    elim (first_nonzero p v (suc j)) [ inl h ↦ h j (omega arith) | inr found ↦ absurd (none found.0 found.1) ]

-- an element of the span that is 0 at each pivot is zero
pub zero_at_pivots : {K : Type 0} (p : ℕ) (f : K → ℕ → ℕ) (v : ℕ → ℕ) → InSpan p f v → ((c : ℕ) → IsPivot p f c → v c % p ≡ 0) → (j : ℕ) → v j % p ≡ 0
zero_at_pivots p f v s h =
    zero_without_lead p v (λ c l. l.nonzero (h c (record { element = v; in_span = s; lead = l })))

-- where a - b is 0, the two are the same
pub same_from_difference : (p m a b : ℕ) → m + 1 ≡ p → (a + m * b) % p ≡ 0 → a % p ≡ b % p
same_from_difference p m a b e h =
    let back : (a + m * b + b) % p ≡ a % p = rw (← e) (ap (λ x. x % (m + 1)) regroup ∙ add-mul-mod_self_left a (m + 1) b) in
    let there : (a + m * b + b) % p ≡ (0 + b) % p = mod_add p (a + m * b) 0 b b (h ∙ sym (zero_mod p)) refl in
    sym back ∙ there ∙ ap (λ x. x % p) (omega arith)
  where
    regroup : a + m * b + b ≡ a + (m + 1) * b
    regroup = omega arith

    zero_mod : (q : ℕ) → 0 % q ≡ 0
    zero_mod q = grind arith

-- where the two are the same, a - b is 0
pub difference_zero : (p m a b : ℕ) → m + 1 ≡ p → a % p ≡ b % p → (a + m * b) % p ≡ 0
difference_zero p m a b e h =
    let there : (a + m * b) % p ≡ (b + m * b) % p = mod_add p a b (m * b) (m * b) h refl in
    let whole : (b + m * b) % p ≡ 0 = rw (← e) (ap (λ x. x % (m + 1)) regroup ∙ mul-mod_right (m + 1) b) in
    there ∙ whole
  where
    regroup : b + m * b ≡ (m + 1) * b
    regroup = omega arith

head_le : (y : ℕ) (ys : List ℕ) (k : ℕ) → Ascending (y ∷ ys) → k < length (y ∷ ys) → y ≤ get_or (y ∷ ys) k 0
head_le y ys zero b l = omega arith
head_le y ys (suc k) b l = omega (arith, b 0 (suc k) (omega arith) l)

-- a member of xs, which stands in y ∷ ys, stands in ys
in_tail : (x y : ℕ) (xs ys : List ℕ) (i k : ℕ) → x ≡ y → Ascending (x ∷ xs) → i < length xs → k < length (y ∷ ys) → get_or (y ∷ ys) k 0 ≡ get_or xs i 0
    → (m : ℕ) × (m < length ys) × (get_or ys m 0 ≡ get_or xs i 0)
in_tail x y xs ys i zero e a l m h = absurd (omega (arith, a 0 (suc i) (omega arith) (omega arith)))
in_tail x y xs ys i (suc k) e a l m h = (k, omega arith, h)

-- two ascending lists with the same members are one list
pub same_ascending : (ps qs : List ℕ) → Ascending ps → Ascending qs
    → ((i : ℕ) → i < length ps → (k : ℕ) × (k < length qs) × (get_or qs k 0 ≡ get_or ps i 0))
    → ((i : ℕ) → i < length qs → (k : ℕ) × (k < length ps) × (get_or ps k 0 ≡ get_or qs i 0))
    → ps ≡ qs
same_ascending [] [] a b f g = refl
same_ascending [] (y ∷ ys) a b f g = let w = g 0 (omega arith) in absurd (omega (arith, w.1))
same_ascending (x ∷ xs) [] a b f g = let w = f 0 (omega arith) in absurd (omega (arith, w.1))
same_ascending (x ∷ xs) (y ∷ ys) a b f g =
    let v = f 0 (omega arith) in
    let w = g 0 (omega arith) in
    let heads : x ≡ y = omega (arith, head_le y ys v.0 b v.1, v.2, head_le x xs w.0 a w.1, w.2) in
    let tails : xs ≡ ys =
    same_ascending xs ys
    (λ i j l m. a (suc i) (suc j) (omega arith) (omega arith))
    (λ i j l m. b (suc i) (suc j) (omega arith) (omega arith))
    (λ i l. let u = f (suc i) (omega arith) in in_tail x y xs ys i u.0 heads a l u.1 u.2)
    (λ i l. let u = g (suc i) (omega arith) in in_tail y x ys xs i u.0 (sym heads) b l u.1 u.2) in
    cc

pub pivot_through : {K L : Type 0} (p : ℕ) (f : K → ℕ → ℕ) (g : L → ℕ → ℕ) (c : ℕ) → SpanWithin p f g → IsPivot p f c → IsPivot p g c
pivot_through p f g c within is =
    record { element = is.element; in_span = span_through p f g is.element within is.in_span; lead = is.lead }

-- the reduced rows of one pivot are the same
pub rows_unique : {K L : Type 0} (p : ℕ) (f : K → ℕ → ℕ) (g : L → ℕ → ℕ) (c : ℕ) (v w : ℕ → ℕ) → 1 < p → SameSpan p f g
    → IsReducedRow p f c v → IsReducedRow p g c w → Same p v w
rows_unique p f g c v w above same a b =
    let m : ℕ = p - 1 in
    let d : ℕ → ℕ = λ j. v j + m * w j in
    let in_f : InSpan p f d =
    span_add p f v (λ j. m * w j) a.in_span (span_times p f m w (span_through p g f w same.back b.in_span)) in
    let zero_at : (e : ℕ) → IsPivot p f e → d e % p ≡ 0 = λ e is.
    elim (cases_eq e c) [
      | inl h ↦ difference_zero p m _ _ (omega arith) (rw h (a.one ∙ sym b.one))
      | inr ne ↦ difference_zero p m _ _ (omega arith) (a.others e is ne ∙ sym (b.others e (pivot_through p f g e same.into is) ne))
    ] in
    λ j. same_from_difference p m (v j) (w j) (omega arith) (zero_at_pivots p f d in_f zero_at j)

pub pivots_unique : {K L : Type 0} (p : ℕ) (f : K → ℕ → ℕ) (g : L → ℕ → ℕ) (ps qs : List ℕ) → SameSpan p f g → ArePivots p f ps → ArePivots p g qs → ps ≡ qs
pivots_unique p f g ps qs same a b =
    same_ascending ps qs a.ascending b.ascending
    (λ i l. b.all (get_or ps i 0) (pivot_through p f g (get_or ps i 0) same.into (a.each i l)))
    (λ i l. a.all (get_or qs i 0) (pivot_through p g f (get_or qs i 0) same.back (b.each i l)))

pub forms_unique : {K L : Type 0} (p : ℕ) (f : K → ℕ → ℕ) (g : L → ℕ → ℕ) (ps qs : List ℕ) (r s : ℕ → ℕ → ℕ) → 1 < p → SameSpan p f g
    → IsReducedForm p f ps r → IsReducedForm p g qs s → (ps ≡ qs) × ((c : ℕ) → IsPivot p f c → Same p (r c) (s c))
forms_unique p f g ps qs r s above same a b = (
  pivots_unique p f g ps qs same a.are_pivots b.are_pivots,
  λ c is. rows_unique p f g c (r c) (s c) above same (a.each c is) (b.each c (pivot_through p f g c same.into is)),
)

-- ---- equal spans

pub spans_turned : {K L : Type 0} (p : ℕ) (f : K → ℕ → ℕ) (g : L → ℕ → ℕ) → SameSpan p f g → SameSpan p g f
spans_turned p f g a = record { into = a.back; back = a.into }

pub spans_joined : {K L M : Type 0} (p : ℕ) (f : K → ℕ → ℕ) (g : L → ℕ → ℕ) (h : M → ℕ → ℕ) → SameSpan p f g → SameSpan p g h → SameSpan p f h
spans_joined p f g h a b = record {
  into = λ k. span_through p g h (f k) b.into (a.into k);
  back = λ m. span_through p g f (h m) a.back (b.back m);
}

within_more : (p : ℕ) (xs ys : List Cells) (row : Cells) → SpanWithin p (rows_of xs) (rows_of ys) → SpanWithin p (rows_of (row ∷ xs)) (rows_of (row ∷ ys))
within_more p xs ys row h zero = span_one p (rows_of (row ∷ ys)) 0
within_more p xs ys row h (suc k) =
    span_through p (rows_of ys) (rows_of (row ∷ ys)) (rows_of xs k) (λ m. span_one p (rows_of (row ∷ ys)) (suc m)) (h k)

-- one more row in both
pub spans_more : (p : ℕ) (xs ys : List Cells) (row : Cells) → SameSpan p (rows_of xs) (rows_of ys) → SameSpan p (rows_of (row ∷ xs)) (rows_of (row ∷ ys))
spans_more p xs ys row a = record { into = within_more p xs ys row a.into; back = within_more p ys xs row a.back }

-- each row of the one list stands in the other
pub within_members : (p : ℕ) (xs ys : List Cells) → ((k : ℕ) → k < length xs → (m : ℕ) × (get_or ys m [] ≡ get_or xs k [])) → SpanWithin p (rows_of xs) (rows_of ys)
within_members p xs ys h k = elim (cases_lt k (length xs)) [
  | inl l ↦ (let w = h k l in subst (λ (r : Cells). InSpan p (rows_of ys) (entry r)) w.1 (span_one p (rows_of ys) w.0))
  | inr g ↦ rw (get_or_past xs k [] g) (span_zero p (rows_of ys))
]
