-- Where the pivots stand, and the rows that are taken off.
use Rattle.std.proofs.Common.{◌≡◌, ◌≢◌, ℕ, ◌+◌, ◌*◌, ◌%◌, ◌<◌, ◌≤◌, inl, inr, List, [], ◌∷◌, ◌++◌, refl, arith, subst, sym, ap, ◌∙◌, length, get_or, true, false}
use Rattle.std.proofs.Math.Nat.{mod-eq_of_lt}
use Rattle.std.proofs.lemmas.Bool.{cases_eq}
use Rattle.std.specs.Prelude.{Option, Some, None, MatchOption, is_some, slice_index}
use Rattle.std.specs.List.{Contains}
use Rattle.std.proofs.lemmas.List.{length_push, get_or_push, get_or_append_left, get_or_past, get_or_default}
use Rattle.alb_rows.specs.Row.{Cells, entry, RowLeadsWith}
use Rattle.alb_rows.specs.Span.{rows_of, DiffersBySpan}
use Rattle.alb_rows.proofs.SpanLemmas.{mod_add}
use Rattle.alb_reduce.specs.Echelon.{IsEchelon, IsCleared, IsClearedAt}
use Rattle.alb_reduce.specs.Index.{IsIndex, PutsAt}
use Rattle.alb_reduce.proofs.DiagonalLemmas.{add_zeros, mul_zero_right, mul_one_right}
use Rattle.alb_reduce.proofs.EchelonLemmas.{differs_none, differs_more}

-- the row where the kept rows at some places have been taken off
pub record AreTakenOff (p : ℕ) (pivots : List ℕ) (rows : List Cells) (hits : List ℕ) (row new : ℕ → ℕ) : Type 0 where
  pub differs : DiffersBySpan p (rows_of rows) row new
  pub zero_at : (m : ℕ) → m < length hits → new (slice_index pivots (slice_index hits m)) % p ≡ 0
  pub zero_stays : (k : ℕ) → k < length pivots → row (slice_index pivots k) % p ≡ 0 → new (slice_index pivots k) % p ≡ 0

-- ---- places

pub index_none : IsIndex [] []
index_none = record { found = λ k l. absurd (omega arith); from = λ c k e. absurd (omega arith) }

-- a column with no place is no pivot
pub index_missing : (pivots places : List ℕ) (c : ℕ) → IsIndex pivots places → get_or places c 0 ≡ 0 → (i : ℕ) → i < length pivots → get_or pivots i 0 ≢ c
index_missing pivots places c x z i l e =
    let f : get_or places c 0 ≡ i + 1 = ap (λ n. get_or places n 0) (sym e) ∙ x.found i l in
    absurd (omega arith)

pub index_past : (pivots places : List ℕ) (c : ℕ) → IsIndex pivots places → length places ≤ c → (i : ℕ) → i < length pivots → get_or pivots i 0 ≢ c
index_past pivots places c x l = index_missing pivots places c x (get_or_past places c 0 l)

pub index_found : (pivots places : List ℕ) (c n k : ℕ) → IsIndex pivots places → n ≡ get_or places c 0 → n ≡ k + 1 → (k < length pivots) × (get_or pivots k 0 ≡ c)
index_found pivots places c n k x e h = x.from c k (sym e ∙ h)

-- pivots of one column are one
index_once : (pivots places : List ℕ) (k l : ℕ) → IsIndex pivots places → k < length pivots → l < length pivots → get_or pivots k 0 ≡ get_or pivots l 0 → k ≡ l
index_once pivots places k l x hk hl e =
    let f : k + 1 ≡ l + 1 = sym (x.found k hk) ∙ ap (λ n. get_or places n 0) e ∙ x.found l hl in
    omega arith

pub index_push : (pivots places places' : List ℕ) (c : ℕ) → IsIndex pivots places → ((k : ℕ) → k < length pivots → get_or pivots k 0 ≢ c) → PutsAt places places' c (length pivots + 1) →
    IsIndex (pivots ++ c ∷ []) places'
index_push pivots places places' c x fresh puts = record {
  found = λ k l. elim (cases_eq k (length pivots)) [
    | inl e ↦ rw (e, last) puts.here
    | inr ne ↦
        let lk : k < length pivots = omega (arith, long, l) in
        rw (old k lk) (puts.others (get_or pivots k 0) (fresh k lk) ∙ x.found k lk)
  ];
  from = λ d k e. elim (cases_eq d c) [
    | inl is ↦
        let n : k ≡ length pivots = omega (arith, sym e ∙ ap (λ i. get_or places' i 0) is ∙ puts.here) in
        (omega (arith, long), ap (λ i. get_or (pivots ++ c ∷ []) i 0) n ∙ last ∙ sym is)
    | inr ne ↦
        let f = x.from d k (sym (puts.others d ne) ∙ e) in
        (omega (arith, long, f.0), old k f.0 ∙ f.1)
  ];
}
  where
    long : length (pivots ++ c ∷ []) ≡ length pivots + 1
    long = length_push pivots c

    last : get_or (pivots ++ c ∷ []) (length pivots) 0 ≡ c
    last = get_or_push pivots c 0 (length pivots) refl

    old : (k : ℕ) → k < length pivots → get_or (pivots ++ c ∷ []) k 0 ≡ get_or pivots k 0
    old k l = get_or_append_left pivots (c ∷ []) 0 k l

-- the lead of a cleared row is no pivot
pub lead_fresh : (p : ℕ) (pivots : List ℕ) (rows : List Cells) (row w : Cells) (lead : ℕ × ℕ) → IsCleared p pivots rows row w → RowLeadsWith w lead → lead.1 < p →
    (k : ℕ) → k < length pivots → get_or pivots k 0 ≢ lead.0
lead_fresh p pivots rows row w lead d h small k l e =
    h.nonzero
    (sym (mod-eq_of_lt small) ∙ ap (λ n. n % p) (sym h.entry_is) ∙ subst (λ c. entry w c % p ≡ 0) e (d.zero_at k l))

-- ---- taking kept rows off

pub taken_none : (p : ℕ) (pivots : List ℕ) (rows : List Cells) (v : ℕ → ℕ) → AreTakenOff p pivots rows [] v v
taken_none p pivots rows v = record { differs = differs_none p (rows_of rows) v; zero_at = λ m l. absurd (omega arith); zero_stays = λ k l z. z }

pub taken_more : (p : ℕ) (pivots : List ℕ) (rows : List Cells) (hits : List ℕ) (n : ℕ) (v w w' : ℕ → ℕ) → IsEchelon p pivots rows →
    ((m : ℕ) → m < length hits → get_or hits m 0 < length pivots) → n < length pivots → AreTakenOff p pivots rows hits v w → IsClearedAt p (get_or pivots n 0) (rows_of rows n) w w' →
    AreTakenOff p pivots rows (hits ++ n ∷ []) v w'
taken_more p pivots rows hits n v w w' h within ln d at = record {
  differs = differs_more p (rows_of rows) v w w' n at.factor (w (get_or pivots n 0)) d.differs at.cancels at.entries;
  zero_at = λ m l. elim (cases_eq m (length hits)) [
    | inl e ↦ rw (e, last) here
    | inr ne ↦ let lm : m < length hits = omega (arith, long, l) in rw (old m lm) (stays (get_or hits m 0) (within m lm) (d.zero_at m lm))
  ];
  zero_stays = λ k l z. stays k l (d.zero_stays k l z);
}
  where
    long : length (hits ++ n ∷ []) ≡ length hits + 1
    long = length_push hits n

    last : get_or (hits ++ n ∷ []) (length hits) 0 ≡ n
    last = get_or_push hits n 0 (length hits) refl

    old : (k : ℕ) → k < length hits → get_or (hits ++ n ∷ []) k 0 ≡ get_or hits k 0
    old k l = get_or_append_left hits (n ∷ []) 0 k l

    here : w' (get_or pivots n 0) % p ≡ 0
    here =
        at.entries (get_or pivots n 0)
        ∙ mod_add p _ _ (at.factor * rows_of rows n (get_or pivots n 0)) at.factor refl (mul_one_right p at.factor _ (h.diagonal.one n ln)) ∙ at.cancels

    stays : (k : ℕ) → k < length pivots → w (get_or pivots k 0) % p ≡ 0 → w' (get_or pivots k 0) % p ≡ 0
    stays k l z =
        elim (cases_eq k n) [
          | inl e ↦ rw e here
          | inr ne ↦ at.entries (get_or pivots k 0) ∙ add_zeros p _ _ z (mul_zero_right p at.factor _ (h.diagonal.others n k ln l (λ q. ne (sym q))))
        ]

-- ---- the pivots in order

pub place_contains : (order : List ℕ) (c : ℕ) (o : Option ℕ) → MatchOption o ((i : ℕ) → i < length order → get_or order i 0 ≢ c) (λ k. (k < length order) × (get_or order k 0 ≡ c)) →
    is_some o ≡ true → Contains order c
place_contains order c None h e = absurd (cc)
place_contains order c (Some k) h e = (k, h.0, get_or_default order k c 0 h.0 ∙ h.1)

pub place_misses : (order : List ℕ) (c : ℕ) (o : Option ℕ) → MatchOption o ((i : ℕ) → i < length order → get_or order i 0 ≢ c) (λ k. (k < length order) × (get_or order k 0 ≡ c)) →
    is_some o ≡ false → Contains order c → ⊥
place_misses order c None h e w = h w.0 w.1 (get_or_default order w.0 0 c w.1 ∙ w.2)
place_misses order c (Some k) h e w = absurd (cc)
