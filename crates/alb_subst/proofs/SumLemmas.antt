-- Sums of pairs, kept as one residue for each column.
use Rattle.std.proofs.Common.{◌≡◌, ℕ, zero, suc, ◌+◌, ◌*◌, ◌%◌, ◌<◌, ◌≤◌, ◌==◌, Bool, true, false, List, [], ◌∷◌, ◌++◌, length, take, get_or, set, sym, refl, ap, ◌∙◌, arith, inl, inr, ◌⊎◌, subst, append-nil, add_assoc, get_or-set_other, get_or-set_same}
use Rattle.alb_mono.proofs.Both.{both_tests}
use Rattle.std.specs.Prelude.{not, nat_lt, Some, None, slice_index, position}
use Rattle.std.specs.List.{flat_map, prefix_len, position_or_len}
use Rattle.std.proofs.Math.Nat.{mul-add, mul_assoc}
use Rattle.std.proofs.lemmas.Bool.{cases_Bool}
use Rattle.std.proofs.lemmas.Bool.Decides.{nat_tests}
use Rattle.std.proofs.lemmas.List.{take_more, take_all, map-append}
use Rattle.std.proofs.lemmas.List.Concat.{flat_map-append}
use Rattle.std.proofs.lemmas.List.Quantifiers.{position-Some}
use Rattle.gf_field.specs.Modular.{IsSameMod}
use Rattle.gf_field.proofs.Mod.{same, ◌⊙◌, plus, times, of_mod}
use Rattle.gf_sums.specs.Sums.{Comb, weigh, coefficient, scale, TellsApart}
use Rattle.gf_sums.proofs.Totals.{total-append, weigh-append, weigh-scale, weigh-multiply, weigh-equal}
use Rattle.gf_sums.proofs.Alike.{Alike, same-alike, equal, scales-alike}
use Rattle.alb_mono.proofs.ListingLemmas.{each-at}
use Rattle.alb_rows.specs.Row.{Cells, comb}
use Rattle.alb_table.specs.Table.{same_pair}
use Rattle.alb_table.specs.Right.{outer}
use Rattle.alb_subst.specs.Columns.{IsDistinct, pair_at}
use Rattle.alb_subst.specs.Sums.{AddsAtColumns, pairs_with}

-- ---- pairs

pub pair-sound : (x y : ℕ × ℕ) → same_pair x y ≡ true → x ≡ y
pair-sound (a, b) (c, d) h =
    let k = both_tests _ _ h in
    let e : (a == c) ≡ true = k.0 in let f : (b == d) ≡ true = k.1 in
    let p : a ≡ c = grind (arith, nat_tests) in let q : b ≡ d = grind (arith, nat_tests) in cc

pair-itself : (x : ℕ × ℕ) → same_pair x x ≡ true
pair-itself x = let e : (x.0 == x.0) ≡ true = grind (arith, nat_tests) in let f : (x.1 == x.1) ≡ true = grind (arith, nat_tests) in rw (e, f) refl

pub pairs_tell : TellsApart same_pair
pairs_tell = record { sound = pair-sound; whole = pair-itself }

pub pair-turned : (x y : ℕ × ℕ) → same_pair x y ≡ false → same_pair y x ≡ false
pair-turned x y h = elim (cases_Bool (same_pair y x)) [
  | inr e ↦ e
  | inl e ↦ absurd (let q : y ≡ x = pair-sound y x e in let k : same_pair x y ≡ true = ap (same_pair x) q ∙ pair-itself x in cc)
]

-- no other column has the pair of a column
distinct-at : (columns : List (ℕ × ℕ)) (j k : ℕ) → IsDistinct columns → j < length columns → k < length columns → (j ≡ k → ⊥) →
    same_pair (pair_at columns j) (pair_at columns k) ≡ false
distinct-at [] j k d h l n = absurd (omega arith)
distinct-at (x ∷ xs) zero zero d h l n = absurd (n refl)
distinct-at (x ∷ xs) zero (suc k) d h l n = pair-turned (pair_at xs k) x (each-at (λ y. same_pair y x ≡ false) xs k (0, 0) d.0 (omega arith))
distinct-at (x ∷ xs) (suc j) zero d h l n = each-at (λ y. same_pair y x ≡ false) xs j (0, 0) d.0 (omega arith)
distinct-at (x ∷ xs) (suc j) (suc k) d h l n = distinct-at xs j k d.1 (omega arith) (omega arith) (λ e. n (ap suc e))

-- where a pair is a column
at-column : (columns : List (ℕ × ℕ)) (q : ℕ × ℕ) (k j : ℕ) → IsDistinct columns → position (λ z. same_pair q z) columns ≡ Some k → j < length columns →
    (k < length columns) × (same_pair q (pair_at columns j) ≡ (j == k))
at-column columns q k j d h l =
    let s = position-Some (λ z. same_pair q z) columns k (0, 0) h in
    let e : q ≡ pair_at columns k = pair-sound q (pair_at columns k) s.1 in (
      s.0,
      elim (side j k) [
        | inl i ↦ let b : (j == k) ≡ true = grind (arith, nat_tests) in rw b (ap (λ n. same_pair q (pair_at columns n)) i ∙ s.1)
        | inr i ↦
            let b : (j == k) ≡ false = other j k i in
            rw b (ap (λ z. same_pair z (pair_at columns j)) e ∙ distinct-at columns k j d s.0 l (λ n. i (sym n)))
      ],
    )
  where
    side : (j k : ℕ) → (j ≡ k) ⊎ (j ≡ k → ⊥)
    side j k = elim (cases_Bool (j == k)) [ inl e ↦ inl (let f : (j == k) ≡ true = e in grind (arith, nat_tests)) | inr e ↦ inr (λ g. let f : (j == k) ≡ false = e in grind (arith, nat_tests)) ]

    other : (j k : ℕ) → (j ≡ k → ⊥) → (j == k) ≡ false
    other j k h = elim (cases_Bool (j == k)) [ inr e ↦ e | inl e ↦ absurd (h (let f : (j == k) ≡ true = e in grind (arith, nat_tests))) ]

prefix-all : {X : Type 0} (p : X → Bool) (xs : List X) (j : ℕ) (d : X) → length xs ≤ prefix_len p xs → j < length xs → p (get_or xs j d) ≡ true
prefix-all p [] j d h l = absurd (omega arith)
prefix-all p (x ∷ xs) zero d h l = elim (cases_Bool (p x)) [ inl e ↦ e | inr e ↦ absurd (let k = rw e at h in omega (arith, k)) ]
prefix-all p (x ∷ xs) (suc j) d h l = elim (cases_Bool (p x)) [
  | inl e ↦ let k = rw e at h in prefix-all p xs j d (omega (arith, k)) (omega arith)
  | inr e ↦ absurd (let k = rw e at h in omega (arith, k))
]

denied : (b : Bool) → not b ≡ true → b ≡ false
denied true h = absurd (cc)
denied false h = refl

-- where it is none
no-column : (columns : List (ℕ × ℕ)) (q : ℕ × ℕ) (j : ℕ) → position (λ z. same_pair q z) columns ≡ None → j < length columns → same_pair q (pair_at columns j) ≡ false
no-column columns q j h l = elim (cases_Bool (nat_lt (position_or_len (λ z. same_pair q z) columns) (length columns))) [
  | inl e ↦ absurd (let f : Some (position_or_len (λ z. same_pair q z) columns) ≡ None = rw e at h in cc)
  | inr e ↦ denied _ (prefix-all (λ z. not (same_pair q z)) columns j (0, 0) (least _ _ e) l)
]
  where
    least : (m n : ℕ) → nat_lt m n ≡ false → n ≤ m
    least m n h = grind (arith, nat_tests)

-- ---- what is added

module _ (p : ℕ) (columns : List (ℕ × ℕ)) where
  pub adds_none : (xs : List ℕ) → AddsAtColumns p columns xs xs []
  adds_none xs = record { at = λ j l. same (omega arith) }

  pub adds_then : (xs ys zs : List ℕ) (f g : Comb (ℕ × ℕ)) → AddsAtColumns p columns xs ys f → AddsAtColumns p columns ys zs g → AddsAtColumns p columns xs zs (f ++ g)
  adds_then xs ys zs f g a b = record {
    at = λ j l.
        b.at j l ⊙ plus (a.at j l) (same refl)
        ⊙ same (add_assoc (slice_index xs j) (coefficient same_pair f (pair_at columns j)) (coefficient same_pair g (pair_at columns j))
        ∙ ap (λ n. slice_index xs j + n) (sym (total-append _ f g)));
  }

  pub adds_alike : (xs ys : List ℕ) (f g : Comb (ℕ × ℕ)) → Alike p f g → AddsAtColumns p columns xs ys f → AddsAtColumns p columns xs ys g
  adds_alike xs ys f g h a = record { at = λ j l. a.at j l ⊙ plus (same {a = slice_index xs j} refl) (same-alike same_pair pairs_tell h (pair_at columns j)) }

  pub adds_equal : (xs ys : List ℕ) (f g : Comb (ℕ × ℕ)) → f ≡ g → AddsAtColumns p columns xs ys f → AddsAtColumns p columns xs ys g
  adds_equal xs ys f g e a = subst (AddsAtColumns p columns xs ys) e a

  -- a pair that is no column
  pub adds_left_out : (xs : List ℕ) (x : ℕ) (q : ℕ × ℕ) → position (λ z. same_pair q z) columns ≡ None → AddsAtColumns p columns xs xs ((x, q) ∷ [])
  adds_left_out xs x q h = record { at = λ j l. rw (no-column columns q j h l) (same (omega arith)) }

  -- a pair that is one
  pub adds_at : (xs : List ℕ) (x k y : ℕ) (q : ℕ × ℕ) → IsDistinct columns → length xs ≡ length columns → position (λ z. same_pair q z) columns ≡ Some k →
      y ≡ (slice_index xs k + x) % p → AddsAtColumns p columns xs (set xs k y) ((x, q) ∷ [])
  adds_at xs x k y q d n h e = record {
    at = λ j l.
        let c = at-column columns q k j d h l in
        rw c.1 (elim (cases_Bool (j == k)) [
          | inl b ↦
              let i : j ≡ k = (let f : (j == k) ≡ true = b in grind (arith, nat_tests)) in
              let kl : k < length xs = omega (arith, c.0) in
              let g : get_or (set xs k y) j 0 ≡ y = ap (λ m. get_or (set xs k y) m 0) i ∙ get_or-set_same xs k y 0 kl in
              rw (b, g) (same e ⊙ of_mod (slice_index xs k + x) ⊙ same (ap (λ m. slice_index xs m + x) (sym i) ∙ omega arith))
          | inr b ↦
              let i : j ≡ k → ⊥ = (λ s. let f : (j == k) ≡ false = b in grind (arith, nat_tests)) in
              rw b (same (get_or-set_other xs k j y 0 i ∙ omega arith))
        ]);
  }

-- ---- lines and products of rows

pub line_more : (x b : ℕ) (cells : Cells) (k : ℕ) (d : ℕ × ℕ) → k < length cells →
    scale x (pairs_with b (take (k + 1) cells)) ≡ scale x (pairs_with b (take k cells)) ++ (x * (get_or cells k d).1, (b, (get_or cells k d).0)) ∷ []
line_more x b cells k d l =
    ap (λ cs. scale x (pairs_with b cs)) (take_more cells k d l)
    ∙ ap (scale x) (map-append (λ cell. (cell.1, (b, cell.0))) (take k cells) (get_or cells k d ∷ []))
    ∙ map-append _ (pairs_with b (take k cells)) _

-- the lines of the cells of a row
abbrev pub lines : ℕ → Cells → Cells → Comb (ℕ × ℕ)
lines x right left = flat_map (λ cell. scale (x * cell.1) (pairs_with cell.0 right)) left

pub lines_more : (x : ℕ) (right left : Cells) (k : ℕ) (d : ℕ × ℕ) → k < length left →
    lines x right (take (k + 1) left) ≡ lines x right (take k left) ++ scale (x * (get_or left k d).1) (pairs_with (get_or left k d).0 right)
lines_more x right left k d l =
    ap (lines x right) (take_more left k d l) ∙ flat_map-append (λ cell. scale (x * cell.1) (pairs_with cell.0 right)) (take k left) (get_or left k d ∷ [])
    ∙ ap (λ f. lines x right (take k left) ++ f) (append-nil _)

weigh-pairs_with : (w : ℕ × ℕ → ℕ) (b : ℕ) (cells : Cells) → weigh w (pairs_with b cells) ≡ weigh (λ c. w (b, c)) (comb cells)
weigh-pairs_with w b [] = refl
weigh-pairs_with w b (cell ∷ cells) = ap (λ n. cell.1 * w (b, cell.0) + n) (weigh-pairs_with w b cells)

weigh-lines : (w : ℕ × ℕ → ℕ) (x : ℕ) (right left : Cells) → weigh w (lines x right left) ≡ x * weigh (λ b. weigh (λ c. w (b, c)) (comb right)) (comb left)
weigh-lines w x right [] = omega arith
weigh-lines w x right (cell ∷ left) =
    let v : ℕ = weigh (λ c. w (cell.0, c)) (comb right) in
    let u : ℕ = weigh (λ b. weigh (λ c. w (b, c)) (comb right)) (comb left) in
    weigh-append w (scale (x * cell.1) (pairs_with cell.0 right)) (lines x right left)
    ∙ rw (weigh-scale w (x * cell.1) (pairs_with cell.0 right), weigh-pairs_with w cell.0 right, weigh-lines w x right left)
    (ap (λ n. n + x * u) (mul_assoc x cell.1 v) ∙ sym (mul-add x (cell.1 * v) u))

weigh-one : (w : ℕ × ℕ → ℕ) (q : ℕ × ℕ) → weigh w ((1, q) ∷ []) ≡ w q
weigh-one w q = omega arith

pub lines-outer : {p : ℕ} (x : ℕ) (left right : Cells) → Alike p (lines x right left) (scale x (outer (λ b c. (b, c)) (comb left) (comb right)))
lines-outer x left right = equal _ _ (λ w.
    weigh-lines w x right left
    ∙ sym (weigh-scale w x (outer (λ b c. (b, c)) (comb left) (comb right))
    ∙ ap (λ n. x * n) (weigh-multiply (λ b c. (1, (b, c)) ∷ []) w (comb left) (comb right)
    ∙ weigh-equal _ _ (comb left) (λ b. weigh-equal _ _ (comb right) (λ c. weigh-one w (b, c))))))

-- ---- loops

one_alike : {p m n : ℕ} (q : ℕ × ℕ) → IsSameMod p m n → Alike p ((m, q) ∷ []) ((n, q) ∷ [])
one_alike q h = record { at = λ w. plus (times h (same {a = w q} refl)) (same {a = 0} refl) }

pub adds_line : (p : ℕ) (columns : List (ℕ × ℕ)) (start old new : List ℕ) (x b : ℕ) (cells : Cells) (k m : ℕ) → k < length cells → m ≡ (x * (get_or cells k (0, 0)).1) % p →
    AddsAtColumns p columns start old (scale x (pairs_with b (take k cells))) → AddsAtColumns p columns old new ((m, (b, (get_or cells k (0, 0)).0)) ∷ []) →
    AddsAtColumns p columns start new (scale x (pairs_with b (take (k + 1) cells)))
adds_line p columns start old new x b cells k m l e a n =
    let q : ℕ × ℕ = (b, (get_or cells k (0, 0)).0) in
    let y : ℕ = x * (get_or cells k (0, 0)).1 in
    adds_equal p columns start new (scale x (pairs_with b (take k cells)) ++ (y, q) ∷ []) _ (sym (line_more x b cells k (0, 0) l))
    (adds_then p columns start old new (scale x (pairs_with b (take k cells))) ((y, q) ∷ []) a
    (adds_alike p columns old new ((m, q) ∷ []) ((y, q) ∷ []) (one_alike q (same e ⊙ of_mod y)) n))

pub adds_lines : (p : ℕ) (columns : List (ℕ × ℕ)) (start old new : List ℕ) (x : ℕ) (right left : Cells) (k m : ℕ) → k < length left → m ≡ (x * (get_or left k (0, 0)).1) % p →
    AddsAtColumns p columns start old (lines x right (take k left)) → AddsAtColumns p columns old new (scale m (pairs_with (get_or left k (0, 0)).0 right)) →
    AddsAtColumns p columns start new (lines x right (take (k + 1) left))
adds_lines p columns start old new x right left k m l e a n =
    let f : Comb (ℕ × ℕ) = pairs_with (get_or left k (0, 0)).0 right in
    let y : ℕ = x * (get_or left k (0, 0)).1 in
    adds_equal p columns start new (lines x right (take k left) ++ scale y f) _ (sym (lines_more x right left k (0, 0) l))
    (adds_then p columns start old new (lines x right (take k left)) (scale y f) a (adds_alike p columns old new (scale m f) (scale y f) (scales-alike f (same e ⊙ of_mod y)) n))

pub adds_outer : (p : ℕ) (columns : List (ℕ × ℕ)) (start new : List ℕ) (x : ℕ) (left right items : Cells) (k : ℕ) → length items ≤ k → items ≡ left →
    AddsAtColumns p columns start new (lines x right (take k items)) → AddsAtColumns p columns start new (scale x (outer (λ b c. (b, c)) (comb left) (comb right)))
adds_outer p columns start new x left right items k l e a =
    adds_alike p columns start new (lines x right left) _ (lines-outer x left right)
    (adds_equal p columns start new _ _ (ap (lines x right) (take_all k items l ∙ e)) a)
