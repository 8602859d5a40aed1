-- The rows of kept instances, offered with their numbers.
use Rattle.std.proofs.Common.{◌≡◌, ℕ, zero, suc, ◌+◌, ◌%◌, ◌<◌, ◌≤◌, Bool, true, List, [], ◌∷◌, ◌++◌, length, get_or, sym, refl, ap, ◌∙◌, subst, arith, inl, inr}
use Rattle.std.specs.Prelude.{◌≢◌, All, if◌then◌else◌}
use Rattle.std.proofs.lemmas.Bool.{cases_eq, eq-eqb, ne_eqb}
use Rattle.std.proofs.lemmas.List.Elements.{All-append, All-cons}
use Rattle.alb_rows.specs.Row.{Cells, entry}
use Rattle.alb_rows.specs.Span.{SpanWithin, SameSpan, IsReducedRow, rows_of}
use Rattle.alb_rows.proofs.SpanLemmas.{span_zero, span_one, span_same, span_through, pivot_through}
use Rattle.alb_reduce.specs.Reduction.{Reduction, kept, IsNewTag, IsTag, row_with, offered}
use Rattle.alb_block.specs.Instances.{BlockSetting, columns_of}
use Rattle.alb_block.specs.Offers.{IsRowOf}
use Rattle.alb_trace.specs.Origins.{origin_at, HasOffered}

-- ---- the offered rows by number

with_other : (offers : List (ℕ × Cells)) (k i : ℕ) (row : Cells) → k ≢ i → row_with (offers ++ (k, row) ∷ []) i ≡ row_with offers i
with_other [] k i row ne = rw (ne_eqb k i ne) refl
with_other (o ∷ offers) k i row ne = rw (with_other offers k i row ne) refl

with_new : (offers : List (ℕ × Cells)) (k : ℕ) (row : Cells) → All (λ o. o.0 < k) offers → row_with (offers ++ (k, row) ∷ []) k ≡ row
with_new [] k row h = rw (eq-eqb k k refl) refl
with_new (o ∷ offers) k row h =
    let n : o.0 < k = h 0 o (omega arith) in
    rw (ne_eqb o.0 k (λ e. absurd (omega arith))) (with_new offers k row (λ j d l. h (suc j) d (omega arith)))

-- no row has a later number
pub with_past : (offers : List (ℕ × Cells)) (k i : ℕ) → All (λ o. o.0 < k) offers → k ≤ i → row_with offers i ≡ []
with_past [] k i h l = refl
with_past (o ∷ offers) k i h l =
    let n : o.0 < k = h 0 o (omega arith) in
    rw (ne_eqb o.0 i (λ e. absurd (omega arith))) (with_past offers k i (λ j d m. h (suc j) d (omega arith)) l)

pub new_number : (offers : List (ℕ × Cells)) (k : ℕ) → All (λ o. o.0 < k) offers → IsNewTag offers k
new_number offers k h = λ j d l e. let n : (get_or offers j d).0 < k = h j d l in absurd (omega arith)

pub number_below : (offers : List (ℕ × Cells)) (k i : ℕ) → All (λ o. o.0 < k) offers → IsTag offers i → i < k
number_below offers k i h m = let n : (get_or offers m.0 (0, [])).0 < k = h m.0 (0, []) m.1 in omega (arith, m.2)

-- ---- spans

-- the rows that were offered before are among those that are offered now
offered_within : (p : ℕ) (offers : List (ℕ × Cells)) (k : ℕ) (row : Cells) → All (λ o. o.0 < k) offers → SpanWithin p (offered offers) (offered (offers ++ (k, row) ∷ []))
offered_within p offers k row h i = elim (cases_eq k i) [
  | inl e ↦ span_same p (offered (offers ++ (k, row) ∷ [])) (λ _. 0) (offered offers i)
      (λ j. ap (λ (x : Cells). entry x j % p) (sym (with_past offers k i h (omega arith)))) (span_zero p (offered (offers ++ (k, row) ∷ [])))
  | inr ne ↦ span_same p (offered (offers ++ (k, row) ∷ [])) (offered (offers ++ (k, row) ∷ []) i) (offered offers i)
      (λ j. ap (λ (x : Cells). entry x j % p) (with_other offers k i row ne)) (span_one p (offered (offers ++ (k, row) ∷ [])) i)
]

-- one more row in both spans
offered_spans : (p : ℕ) (old new : List Cells) (offers : List (ℕ × Cells)) (k : ℕ) (row : Cells) → All (λ o. o.0 < k) offers → SameSpan p (rows_of old) (offered offers) →
    SameSpan p (rows_of new) (rows_of (row ∷ old)) → SameSpan p (rows_of new) (offered (offers ++ (k, row) ∷ []))
offered_spans p old new offers k row h s g = record {
  into = λ i. span_through p (rows_of (row ∷ old)) (offered (offers ++ (k, row) ∷ [])) (rows_of new i) from_rows (g.into i);
  back = λ i. span_through p (rows_of (row ∷ old)) (rows_of new) (offered (offers ++ (k, row) ∷ []) i) g.back (to_rows i);
}
  where
    from_rows : SpanWithin p (rows_of (row ∷ old)) (offered (offers ++ (k, row) ∷ []))
    from_rows zero = span_same p (offered (offers ++ (k, row) ∷ [])) (offered (offers ++ (k, row) ∷ []) k) (entry row)
        (λ j. ap (λ (x : Cells). entry x j % p) (with_new offers k row h)) (span_one p (offered (offers ++ (k, row) ∷ [])) k)
    from_rows (suc i) = span_through p (offered offers) (offered (offers ++ (k, row) ∷ [])) (rows_of old i) (offered_within p offers k row h) (s.into i)

    old_within : SpanWithin p (rows_of old) (rows_of (row ∷ old))
    old_within i = span_same p (rows_of (row ∷ old)) (rows_of (row ∷ old) (suc i)) (rows_of old i) (λ j. refl) (span_one p (rows_of (row ∷ old)) (suc i))

    to_rows : SpanWithin p (offered (offers ++ (k, row) ∷ [])) (rows_of (row ∷ old))
    to_rows i = elim (cases_eq k i) [
      | inl e ↦ span_same p (rows_of (row ∷ old)) (rows_of (row ∷ old) zero) (offered (offers ++ (k, row) ∷ []) i)
          (λ j. ap (λ (x : Cells). entry x j % p) (sym (with_new offers k row h) ∙ ap (row_with (offers ++ (k, row) ∷ [])) e)) (span_one p (rows_of (row ∷ old)) zero)
      | inr ne ↦ span_same p (rows_of (row ∷ old)) (offered offers i) (offered (offers ++ (k, row) ∷ []) i)
          (λ j. ap (λ (x : Cells). entry x j % p) (sym (with_other offers k i row ne))) (span_through p (rows_of old) (rows_of (row ∷ old)) (offered offers i) old_within (s.back i))
    ]

-- ---- the loop

pub offered-none : (s : BlockSetting) (r : Reduction) (names : List (ℕ × List ℕ)) → r.p ≡ s.p → r.columns ≡ length (columns_of s.parts s.at) → r.keeps_recipes ≡ true → r.rows ≡ [] → r.offers ≡ [] →
    HasOffered s r names 0
offered-none s r names e w n rows none = record {
  field = e;
  width = w;
  recipes = n;
  rows = λ i l. absurd (omega arith);
  below = subst (All (λ o. o.0 < 0)) (sym none) (λ j d l. absurd (omega arith));
  spans = record {
    into = λ i. span_same s.p (offered r.offers) (λ _. 0) (kept r i) (λ j. ap (λ (x : List Cells). rows_of x i j % s.p) (sym rows)) (span_zero s.p (offered r.offers));
    back = λ i. span_same s.p (kept r) (λ _. 0) (offered r.offers i) (λ j. ap (λ (x : List (ℕ × Cells)). offered x i j % s.p) (sym none)) (span_zero s.p (kept r));
  };
}

pub offered-more : (s : BlockSetting) (old new : Reduction) (names : List (ℕ × List ℕ)) (k : ℕ) (row : Cells) → HasOffered s old names k → IsRowOf s (origin_at names k) row →
    SameSpan old.p (kept new) (rows_of (row ∷ old.rows)) → new.offers ≡ (if old.keeps_recipes then old.offers ++ (k, row) ∷ [] else old.offers) →
    (new.p ≡ old.p) × (new.columns ≡ old.columns) × (new.keeps_recipes ≡ old.keeps_recipes) → HasOffered s new names (k + 1)
offered-more s old new names k row h is g o e =
    let q : new.offers ≡ old.offers ++ (k, row) ∷ [] = o ∙ ap (λ (b : Bool). if b then old.offers ++ (k, row) ∷ [] else old.offers) h.recipes in
    record {
      field = e.0 ∙ h.field;
      width = e.1 ∙ h.width;
      recipes = e.2 ∙ h.recipes;
      rows = λ i l. subst (λ (x : List (ℕ × Cells)). IsRowOf s (origin_at names i) (row_with x i)) (sym q) (elim (cases_eq k i) [
        | inl z ↦ subst (λ j. IsRowOf s (origin_at names j) (row_with (old.offers ++ (k, row) ∷ []) j)) z
            (subst (λ (x : Cells). IsRowOf s (origin_at names k) x) (sym (with_new old.offers k row h.below)) is)
        | inr ne ↦ subst (λ (x : Cells). IsRowOf s (origin_at names i) x) (sym (with_other old.offers k i row ne)) (h.rows i (omega arith))
      ]);
      below = subst (All (λ o. o.0 < k + 1)) (sym q) (All-append (λ o. o.0 < k + 1) old.offers ((k, row) ∷ [])
          (λ j d l. (let n : (get_or old.offers j d).0 < k = h.below j d l in omega arith)) (All-cons (λ o. o.0 < k + 1) (k, row) [] (omega arith) (λ j d l. absurd (omega arith))));
      spans = subst (λ (x : List (ℕ × Cells)). SameSpan s.p (kept new) (offered x)) (sym q)
          (offered_spans s.p old.rows new.rows old.offers k row h.below h.spans (subst (λ p. SameSpan p (kept new) (rows_of (row ∷ old.rows))) h.field g));
    }

-- ---- the reduced row over the offered rows

-- a reduced row of the one family is one of another with the same span
pub reduced_through : {K L : Type 0} (p : ℕ) (f : K → ℕ → ℕ) (g : L → ℕ → ℕ) (c : ℕ) (v : ℕ → ℕ) → SameSpan p f g → IsReducedRow p f c v → IsReducedRow p g c v
reduced_through p f g c v s r = record {
  in_span = span_through p f g v s.into r.in_span;
  one = r.one;
  others = λ d h ne. r.others d (pivot_through p g f d s.back h) ne;
}
