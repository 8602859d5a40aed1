-- One more instance in the span.
use Rattle.std.proofs.Common.{◌≡◌, ℕ, zero, suc, ◌+◌, ◌*◌, ◌%◌, ◌<◌, ◌≤◌, false, List, [], ◌∷◌, ◌++◌, map, length, get_or, sym, refl, ap, ◌∙◌, subst, arith, inl, inr, ◌⊎◌, length-append}
use Rattle.std.specs.Prelude.{Result, Ok, Err, IfOk}
use Rattle.std.proofs.lemmas.Bool.{cases_eq, cases_lt, false≢true}
use Rattle.gf_field.specs.Modular.{IsSameMod}
use Rattle.gf_field.proofs.Mod.{same}
use Rattle.gf_sums.specs.Sums.{Comb, coefficient, AreSame}
use Rattle.gf_sums.proofs.Alike.{same-alike}
use Rattle.alb_mono.specs.Listing.{Each, IsIn}
use Rattle.alb_mono.proofs.ListingLemmas.{each-weaker, each-append, each-member, in-left, in-right}
use Rattle.alb_poly.specs.Consequence.{form_at, form}
use Rattle.alb_poly.specs.Instance.{Form}
use Rattle.alb_poly.specs.declared.rules.Linear.{Linear}
use Rattle.alb_linear.specs.Runs.{AreRuns}
use Rattle.alb_rows.specs.Row.{Cells, ColumnsBelow, entry}
use Rattle.alb_rows.proofs.RowLemmas.{entry_past}
use Rattle.alb_table.specs.Table.{same_pair, origin_view}
use Rattle.alb_table.specs.declared.part.Origin.{Origin}
use Rattle.std.proofs.lemmas.List.{map-append, length-map}
use Rattle.alb_rows.specs.Span.{combination, InSpan, SpanWithin, SameSpan, IsPivot, ArePivots, Ascending, rows_of}
use Rattle.alb_rows.proofs.SpanLemmas.{mod_add, mod_mul, span_zero, span_one, span_same, span_through, pivot_through, spans_turned, spans_joined}
use Rattle.alb_reduce.specs.Reduction.{Reduction, kept, AddsPivot}
use Rattle.alb_subst.specs.Laws.{MayBeExchanged}
use Rattle.alb_subst.specs.Sums.{HasEntries, instance_row}
use Rattle.alb_subst.specs.Tuples.{IsTupleOf, IsLeastTuple, AreLeastTuples}
use Rattle.alb_subst.proofs.SumLemmas.{pairs_tell}
use Rattle.alb_subst.proofs.RowLaw.{LeastOf, least-of, may-exchange}
use Rattle.alb_block.specs.Instances.{columns_of, BlockSetting, IsInstance, vector_over, instance_vector, all_instances, listed_instances, SpansInstances, AreOrigins}
use Rattle.alb_block.specs.Offers.{AreDifferent, HasPivots, IsRowOf, AreKept, HasBefore, HasMore}
use Rattle.alb_block.proofs.ListLemmas.{in_place, place_in}

-- what is still to come of the form k: the span has its instances at tuples that never fall within a run, but for some of them
pub record Lacks (s : BlockSetting) (r : Reduction) (k : ℕ) (tuples : List (List ℕ)) : Type 0 where
  pub runs : List ℕ
  pub exchanged : MayBeExchanged s.p (form_at s.forms k) runs
  pub each : Each (IsTupleOf s.parts (form_at s.forms k).degree s.at) tuples
  pub others : (x : List ℕ) → IsLeastTuple s.parts (form_at s.forms k).degree s.at runs x → IsIn x tuples ⊎ InSpan s.p (kept r) (instance_vector s (k, x))

-- ---- counting

record Without (x : ℕ) (ys : List ℕ) : Type 0 where
  rest : List ℕ
  long : length ys ≡ suc (length rest)
  others : (z : ℕ) → IsIn z ys → (z ≡ x) ⊎ IsIn z rest

without : (x : ℕ) (ys : List ℕ) → IsIn x ys → Without x ys
without x [] h = absurd h
without x (y ∷ ys) (inl e) = record { rest = ys; long = refl; others = λ z h. elim h [ inl q ↦ inl (q ∙ sym e) | inr q ↦ inr q ] }
without x (y ∷ ys) (inr h) =
    let w = without x ys h in
    record {
      rest = y ∷ w.rest;
      long = omega (arith, w.long);
      others = λ z m. elim m [ inl q ↦ inr (inl q) | inr q ↦ (elim (w.others z q) [ inl e ↦ inl e | inr k ↦ inr (inr k) ]) ];
    }

-- different numbers that all stand in a list are at most as many
at_most : (xs ys : List ℕ) → AreDifferent xs → ((z : ℕ) → IsIn z xs → IsIn z ys) → length xs ≤ length ys
at_most [] ys d h = omega arith
at_most (x ∷ xs) ys d h =
    let w = without x ys (h x (inl refl)) in
    omega (
      arith,
      w.long,
      at_most xs w.rest d.1 (λ z m. elim (w.others z (h z (inr m))) [
        | inl e ↦ absurd (d.0 (subst (λ u. IsIn u xs) e m))
        | inr k ↦ k
      ]),
    )

ascending_different : (xs : List ℕ) → Ascending xs → AreDifferent xs
ascending_different [] a = tt
ascending_different (x ∷ xs) a = (
  λ h. (let w = in_place x xs h in absurd (omega (arith, a 0 (suc w.0) (omega arith) (omega (arith, w.1)), w.2 0))),
  ascending_different xs (λ i j l m. a (suc i) (suc j) (omega arith) (omega arith)),
)

-- a list of all pivots is as long as any other one
pub pivots-counted : {K : Type 0} (p : ℕ) (f : K → ℕ → ℕ) (n : ℕ) (pivots : List ℕ) → HasPivots p f n → ArePivots p f pivots → n ≡ length pivots
pivots-counted p f n pivots h a =
    let less : length h.pivots ≤ length pivots = at_most h.pivots pivots h.different (λ z m.
    let w = a.all z (each-member (IsPivot p f) h.pivots z h.each m) in subst (λ u. IsIn u pivots) w.2 (place_in pivots w.0 w.1)) in
    let more : length pivots ≤ length h.pivots = at_most pivots h.pivots (ascending_different pivots a.ascending) (λ z m.
    let w = in_place z pivots m in h.all z (subst (IsPivot p f) (w.2 0) (a.each w.0 w.1))) in
    omega (arith, less, more, h.count)

-- ---- pivots of equal spans

pub pivots-same : {K L : Type 0} (p : ℕ) (f : K → ℕ → ℕ) (g : L → ℕ → ℕ) (n : ℕ) → SameSpan p f g → HasPivots p f n → HasPivots p g n
pivots-same p f g n s h = record {
  pivots = h.pivots;
  different = h.different;
  each = each-weaker (IsPivot p f) (IsPivot p g) h.pivots (λ c k. pivot_through p f g c s.into k) h.each;
  all = λ c k. h.all c (pivot_through p g f c s.back k);
  count = h.count;
}

pub pivots-none : {K : Type 0} (p : ℕ) (f : K → ℕ → ℕ) → ((c : ℕ) → IsPivot p f c → ⊥) → HasPivots p f 0
pivots-none p f none = record { pivots = []; different = tt; each = tt; all = λ c k. absurd (none c k); count = refl }

-- one more pivot
pub pivots-more : (old new : Reduction) (c n : ℕ) → AddsPivot old new c → HasPivots old.p (kept old) n → HasPivots old.p (kept new) (n + 1)
pivots-more old new c n a h = record {
  pivots = c ∷ h.pivots;
  different = ((λ m. a.before (each-member (IsPivot old.p (kept old)) h.pivots c h.each m)), h.different);
  each = (a.now, still h.pivots h.different h.each (λ m. a.before (each-member (IsPivot old.p (kept old)) h.pivots c h.each m)));
  all = λ d k. elim (cases_eq d c) [ inl e ↦ inl e | inr ne ↦ inr (h.all d ((a.others d ne).0 k)) ];
  count = omega (arith, h.count);
}
  where
    still : (xs : List ℕ) → AreDifferent xs → Each (IsPivot old.p (kept old)) xs → (IsIn c xs → ⊥) → Each (IsPivot old.p (kept new)) xs
    still [] d k n = tt
    still (x ∷ xs) d k n = ((a.others x (λ e. n (inl (sym e)))).1 k.0, still xs d.1 k.1 (λ m. n (inr m)))

-- ---- spans of listed instances

-- more names, more span
names_within : (s : BlockSetting) (xs ys : List (ℕ × List ℕ)) → ((n : ℕ × List ℕ) → IsIn n xs → IsIn n ys) → SpanWithin s.p (listed_instances s xs) (listed_instances s ys)
names_within s xs ys h k = span_one s.p (listed_instances s ys) (k.0, h k.0 k.1)

-- the row of an instance as an element of a span
row-instance : (s : BlockSetting) {K : Type 0} (f : K → ℕ → ℕ) (name : ℕ × List ℕ) (row : Cells) → IsRowOf s name row → InSpan s.p f (entry row) → InSpan s.p f (instance_vector s name)
row-instance s f name row r h = span_same s.p f (entry row) (instance_vector s name) (λ j. (r j).same) h

instance-row : (s : BlockSetting) {K : Type 0} (f : K → ℕ → ℕ) (name : ℕ × List ℕ) (row : Cells) → IsRowOf s name row → InSpan s.p f (instance_vector s name) → InSpan s.p f (entry row)
instance-row s f name row r h = span_same s.p f (instance_vector s name) (entry row) (λ j. sym (r j).same) h

-- the row that was offered is in the new span
offered-in : (s : BlockSetting) (old new : Reduction) (row : Cells) → SameSpan s.p (kept new) (rows_of (row ∷ old.rows)) → InSpan s.p (kept new) (entry row)
offered-in s old new row g = g.back 0

old-within : (s : BlockSetting) (old new : Reduction) (row : Cells) → SameSpan s.p (kept new) (rows_of (row ∷ old.rows)) → SpanWithin s.p (kept old) (kept new)
old-within s old new row g k = g.back (suc k)

pub has-more : (s : BlockSetting) (old new : Reduction) (name : ℕ × List ℕ) (row : Cells) → IsRowOf s name row → SameSpan s.p (kept new) (rows_of (row ∷ old.rows)) →
    HasMore s old new name
has-more s old new name row r g = record {
  within = old-within s old new row g;
  has = row-instance s (kept new) name row r (offered-in s old new row g);
}

-- a zero row changes nothing
pub has-zero : (s : BlockSetting) (r : Reduction) (name : ℕ × List ℕ) (row : Cells) → IsRowOf s name row → row ≡ [] → HasMore s r r name
has-zero s r name row is e = record {
  within = λ k. span_one s.p (kept r) k;
  has = row-instance s (kept r) name row is (subst (λ (x : Cells). InSpan s.p (kept r) (entry x)) (sym e) (span_zero s.p (kept r)));
}

span-of-old : (s : BlockSetting) (old : Reduction) (row : Cells) → InSpan s.p (kept old) (entry row) → SameSpan s.p (kept old) (rows_of (row ∷ old.rows))
span-of-old s old row d = record {
  into = λ k. span_one s.p (rows_of (row ∷ old.rows)) (suc k);
  back = from_row;
}
  where
    from_row : (k : ℕ) → InSpan s.p (kept old) (rows_of (row ∷ old.rows) k)
    from_row zero = d
    from_row (suc k) = span_one s.p (kept old) k

-- a dependent row: the same instances, and the same span
pub kept-dependent : (s : BlockSetting) (old new : Reduction) (names : List (ℕ × List ℕ)) (row : Cells) → AreKept s old names →
    SameSpan s.p (kept new) (rows_of (row ∷ old.rows)) → InSpan s.p (kept old) (entry row) →
    (new.p ≡ old.p) × (new.columns ≡ old.columns) × (new.keeps_recipes ≡ old.keeps_recipes) → AreKept s new names
kept-dependent s old new names row a g d e =
    let both : SameSpan s.p (kept old) (kept new) =
    spans_joined s.p (kept old) (rows_of (row ∷ old.rows)) (kept new) (span-of-old s old row d) (spans_turned s.p (kept new) (rows_of (row ∷ old.rows)) g) in
    record {
      field = e.0 ∙ a.field;
      width = e.1 ∙ a.width;
      no_recipes = e.2 ∙ a.no_recipes;
      are = a.are;
      spans = spans_joined s.p (kept new) (kept old) (listed_instances s names) (spans_turned s.p (kept old) (kept new) both) a.spans;
      pivots = pivots-same s.p (kept old) (kept new) (length names) both a.pivots;
    }

in_last : (n : ℕ × List ℕ) (names : List (ℕ × List ℕ)) (m : ℕ × List ℕ) → IsIn m (names ++ n ∷ []) → IsIn m names ⊎ (m ≡ n)
in_last n [] m (inl e) = inr e
in_last n [] m (inr h) = absurd h
in_last n (x ∷ names) m (inl e) = inl (inl e)
in_last n (x ∷ names) m (inr h) = elim (in_last n names m h) [ inl k ↦ inl (inr k) | inr e ↦ inr e ]

-- a row that gives a pivot: one more instance
pub kept-pivot : (s : BlockSetting) (old new : Reduction) (names : List (ℕ × List ℕ)) (name : ℕ × List ℕ) (row : Cells) (c : ℕ) → AreKept s old names →
    IsInstance s name → IsRowOf s name row → SameSpan s.p (kept new) (rows_of (row ∷ old.rows)) → AddsPivot old new c →
    (new.p ≡ old.p) × (new.columns ≡ old.columns) × (new.keeps_recipes ≡ old.keeps_recipes) → AreKept s new (names ++ name ∷ [])
kept-pivot s old new names name row c a is r g ap_ e =
    let more : List (ℕ × List ℕ) = names ++ name ∷ [] in
    let count : length (names ++ name ∷ []) ≡ length names + 1 = length-append names (name ∷ []) in
    let p_old : HasPivots old.p (kept old) (length names) = subst (λ q. HasPivots q (kept old) (length names)) (sym a.field) a.pivots in
    let p_new : HasPivots old.p (kept new) (length names + 1) = pivots-more old new c (length names) ap_ p_old in
    let p_more : HasPivots s.p (kept new) (length names + 1) = subst (λ q. HasPivots q (kept new) (length names + 1)) a.field p_new in
    record {
      field = e.0 ∙ a.field;
      width = e.1 ∙ a.width;
      no_recipes = e.2 ∙ a.no_recipes;
      are = each-append (IsInstance s) names (name ∷ []) a.are (is, tt);
      spans = record {
        into = λ k. span_through s.p (rows_of (row ∷ old.rows)) (listed_instances s more) (kept new k) from_rows (g.into k);
        back = λ k. in_new k.0 (in_last name names k.0 k.1);
      };
      pivots = subst (HasPivots s.p (kept new)) (sym count) p_more;
    }
  where
    from_rows : SpanWithin s.p (rows_of (row ∷ old.rows)) (listed_instances s (names ++ name ∷ []))
    from_rows zero = instance-row s (listed_instances s (names ++ name ∷ [])) name row r
        (span_one s.p (listed_instances s (names ++ name ∷ [])) (name, in-right name names (name ∷ []) (inl refl)))
    from_rows (suc k) = span_through s.p (listed_instances s names) (listed_instances s (names ++ name ∷ [])) (kept old k)
        (names_within s names (names ++ name ∷ []) (λ n h. in-left n names (name ∷ []) h)) (a.spans.into k)

    in_new : (n : ℕ × List ℕ) → IsIn n names ⊎ (n ≡ name) → InSpan s.p (kept new) (instance_vector s n)
    in_new n (inl h) = span_through s.p (kept old) (kept new) (instance_vector s n) (old-within s old new row g) (a.spans.back (n, h))
    in_new n (inr q) = subst (λ m. InSpan s.p (kept new) (instance_vector s m)) (sym q) (row-instance s (kept new) name row r (offered-in s old new row g))

none : (p : ℕ) → 0 % p ≡ 0
none p = grind arith

zero-combination : {K : Type 0} (p : ℕ) (f : K → ℕ → ℕ) → ((k : K) (j : ℕ) → f k j % p ≡ 0 % p) → (items : Comb K) (j : ℕ) → combination f items j % p ≡ 0 % p
zero-combination p f h [] j = refl
zero-combination p f h (x ∷ xs) j =
    mod_add p (x.0 * f x.1 j) (x.0 * 0) (combination f xs j) 0 (mod_mul p x.0 x.0 (f x.1 j) 0 refl (h x.1 j)) (zero-combination p f h xs j)
    ∙ ap (λ n. n % p) (omega arith)

-- nothing was offered
pub kept-nothing : (s : BlockSetting) (r : Reduction) → r.p ≡ s.p → r.columns ≡ length (columns_of s.parts s.at) → r.keeps_recipes ≡ false → r.rows ≡ [] → AreKept s r []
kept-nothing s r e w n z = record {
  field = e;
  width = w;
  no_recipes = n;
  are = tt;
  spans = record {
    into = λ k. span_same s.p (listed_instances s []) (λ _. 0) (kept r k) (λ j. sym (zero_at k j)) (span_zero s.p (listed_instances s []));
    back = λ k. absurd (k.1);
  };
  pivots = pivots-none s.p (kept r) no_pivot;
}
  where
    zero_at : (k j : ℕ) → kept r k j % s.p ≡ 0 % s.p
    zero_at k j = ap (λ (rows : List Cells). rows_of rows k j % s.p) z

    no_pivot : (c : ℕ) → IsPivot s.p (kept r) c → ⊥
    no_pivot c h = h.lead.nonzero (sym (h.in_span.gives c) ∙ zero-combination s.p (kept r) zero_at h.in_span.items c ∙ none s.p)

-- ---- the loops

-- one more tuple of a form
pub lacks-less : (s : BlockSetting) (old new : Reduction) (k : ℕ) (x : List ℕ) (tuples : List (List ℕ)) → Lacks s old k (x ∷ tuples) → HasMore s old new (k, x) → Lacks s new k tuples
lacks-less s old new k x tuples l m = record {
  runs = l.runs;
  exchanged = l.exchanged;
  each = l.each.1;
  others = λ y h. elim (l.others y h) [
    | inl (inl e) ↦ inr (subst (λ z. InSpan s.p (kept new) (instance_vector s (k, z))) (sym e) m.has)
    | inl (inr i) ↦ inl i
    | inr d ↦ inr (span_through s.p (kept old) (kept new) (instance_vector s (k, y)) m.within d)
  ];
}

pub before-more : (s : BlockSetting) (old new : Reduction) (k : ℕ) (name : ℕ × List ℕ) → HasBefore s old k → HasMore s old new name → HasBefore s new k
before-more s old new k name b m n h l = span_through s.p (kept old) (kept new) (instance_vector s n) m.within (b n h l)

-- without runs nothing is exchanged
pub no-exchange : (p : ℕ) (f : Form) → MayBeExchanged p f []
no-exchange p f j l g = absurd (false≢true g)

-- the runs of a form
pub exchanges : {A E : Type 0} (q p : ℕ) (f : Form) (lengths : A → List ℕ) (r : Result A E) → q ≡ p → IfOk r (λ a. AreRuns q f (lengths a)) → IfOk r (λ a. MayBeExchanged p f (lengths a))
exchanges q p f lengths (Ok a) e h = may-exchange p f (lengths a) (subst (λ n. AreRuns n f (lengths a)) e h)
exchanges q p f lengths (Err x) e h = tt

-- equal combinations have one vector
vector-same : (p : ℕ) (cols : List (ℕ × ℕ)) (f g : Comb (ℕ × ℕ)) → AreSame same_pair p f g → (j : ℕ) → vector_over cols f j % p ≡ vector_over cols g j % p
vector-same p [] f g h j = refl
vector-same p (q ∷ cols) f g h zero = (h q).same
vector-same p (q ∷ cols) f g h (suc j) = vector-same p cols f g h j

-- where the tuples that never fall within a run are done, all are
all-done : (s : BlockSetting) (r : Reduction) (k : ℕ) (x : List ℕ) → Lacks s r k [] → IsTupleOf s.parts (form_at s.forms k).degree s.at x → InSpan s.p (kept r) (instance_vector s (k, x))
all-done s r k x l h =
    let w : LeastOf s.p s.parts (form_at s.forms k) s.at l.runs x = least-of s.p s.parts (form_at s.forms k) s.at l.runs x l.exchanged h in
    elim (l.others w.least w.is) [
      | inl i ↦ absurd i
      | inr d ↦ span_same s.p (kept r) (instance_vector s (k, w.least)) (instance_vector s (k, x))
          (vector-same s.p (columns_of s.parts s.at) (instance_row s.parts (form_at s.forms k) w.least) (instance_row s.parts (form_at s.forms k) x)
          (same-alike same_pair pairs_tell w.same)) d
    ]

-- a form is done
pub before-next : (s : BlockSetting) (r : Reduction) (k : ℕ) → HasBefore s r k → Lacks s r k [] → HasBefore s r (k + 1)
before-next s r k b l n h m = elim (cases_eq n.0 k) [
  | inl e ↦ subst (λ i. InSpan s.p (kept r) (instance_vector s (i, n.1))) (sym e)
      (all-done s r k n.1 l (subst (λ i. IsTupleOf s.parts (form_at s.forms i).degree s.at n.1) e h.tuple))
  | inr ne ↦ b n h (omega arith)
]

-- all forms are done
pub spans-all : (s : BlockSetting) (r : Reduction) (names : List (ℕ × List ℕ)) → AreKept s r names → HasBefore s r (length s.forms) → SpansInstances s r
spans-all s r names a b = record {
  into = λ k. span_through s.p (listed_instances s names) (all_instances s) (kept r k)
      (λ n. span_one s.p (all_instances s) (n.0, each-member (IsInstance s) names n.0 a.are n.1)) (a.spans.into k);
  back = λ k. b k.0 k.1 k.1.form;
}

pub origins-kept : (s : BlockSetting) (r : Reduction) (names : List (ℕ × List ℕ)) → AreKept s r names → AreOrigins s r names
origins-kept s r names a = record {
  are = a.are;
  count = λ pivots h. pivots-counted s.p (kept r) (length names) pivots a.pivots h;
  spans = a.spans;
}

-- ---- the row of an instance

vector-at : (cols : List (ℕ × ℕ)) (f : Comb (ℕ × ℕ)) (j : ℕ) → j < length cols → vector_over cols f j ≡ coefficient same_pair f (get_or cols j (0, 0))
vector-at [] f j l = absurd (omega arith)
vector-at (q ∷ cols) f zero l = refl
vector-at (q ∷ cols) f (suc j) l = vector-at cols f j (omega arith)

pub vector-past : (cols : List (ℕ × ℕ)) (f : Comb (ℕ × ℕ)) (j : ℕ) → length cols ≤ j → vector_over cols f j ≡ 0
vector-past [] f j l = refl
vector-past (q ∷ cols) f zero l = absurd (omega arith)
vector-past (q ∷ cols) f (suc j) l = vector-past cols f j (omega arith)

-- a row with the entries of an instance is its vector
pub row-of : (s : BlockSetting) (name : ℕ × List ℕ) (columns : List (ℕ × ℕ)) (row : Cells) (f : Form) → columns ≡ columns_of s.parts s.at → f ≡ form_at s.forms name.0 →
    HasEntries s.p columns row (instance_row s.parts f name.1) → ColumnsBelow (length columns) row → IsRowOf s name row
row-of s name columns row f e g h b =
    subst (λ cols. (j : ℕ) → IsSameMod s.p (entry row j) (vector_over cols (instance_row s.parts (form_at s.forms name.0) name.1) j)) e
    (subst (λ k. (j : ℕ) → IsSameMod s.p (entry row j) (vector_over columns (instance_row s.parts k name.1) j)) g (λ j. at j))
  where
    at : (j : ℕ) → IsSameMod s.p (entry row j) (vector_over columns (instance_row s.parts f name.1) j)
    at j = elim (cases_lt j (length columns)) [
      | inl l ↦ subst (λ n. IsSameMod s.p (entry row j) n) (sym (vector-at columns (instance_row s.parts f name.1) j l)) (h j l)
      | inr l ↦ same (entry_past row (length columns) j b l ∙ sym (vector-past columns (instance_row s.parts f name.1) j l))
    ]

-- ---- the forms of the rules

pub form_item : (ls : List Linear) (k : ℕ) (l : Linear) → k < length ls → l ≡ get_or ls k l → form l ≡ form_at (map form ls) k
form_item [] k l h e = absurd (omega arith)
form_item (x ∷ xs) zero l h e = ap form e
form_item (x ∷ xs) (suc k) l h e = form_item xs k l (omega arith) e

pub each_at_place : (P : Form → Type 0) (fs : List Form) (k : ℕ) → Each P fs → k < length fs → P (form_at fs k)
each_at_place P [] k a h = absurd (omega arith)
each_at_place P (f ∷ fs) zero a h = a.0
each_at_place P (f ∷ fs) (suc k) a h = each_at_place P fs k a.1 (omega arith)

-- what holds of each form holds of one of the list
pub item-form : (P : Form → Type 0) (ls : List Linear) (k : ℕ) (l : Linear) → Each P (map form ls) → k < length ls → l ≡ get_or ls k l → P (form l)
item-form P ls k l a h e = subst P (sym (form_item ls k l h e)) (each_at_place P (map form ls) k a (omega (arith, length-map ls form)))

-- the instances of a form, before one is offered
pub lacks-all : (s : BlockSetting) (r : Reduction) (k : ℕ) (f : Form) (runs : List ℕ) (tuples : List (List ℕ)) → f ≡ form_at s.forms k → MayBeExchanged s.p f runs →
    AreLeastTuples s.parts f.degree s.at runs tuples → Lacks s r k tuples
lacks-all s r k f runs tuples e q a = record {
  runs = runs;
  exchanged = subst (λ g. MayBeExchanged s.p g runs) e q;
  each = subst (λ g. Each (IsTupleOf s.parts g.degree s.at) tuples) e
      (each-weaker (IsLeastTuple s.parts f.degree s.at runs) (IsTupleOf s.parts f.degree s.at) tuples (λ x h. h.tuple) a.each);
  others = λ x h. inl (a.all x (subst (λ g. IsLeastTuple s.parts g.degree s.at runs x) (sym e) h));
}

-- one more origin
pub views-more : (old new : List Origin) (o : Origin) (name : ℕ × List ℕ) → new ≡ old ++ o ∷ [] → origin_view o ≡ name → map origin_view new ≡ map origin_view old ++ name ∷ []
views-more old new o name e n =
    ap (map origin_view) e ∙ map-append origin_view old (o ∷ []) ∙ ap (λ x. map origin_view old ++ x ∷ []) n
