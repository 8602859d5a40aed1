-- Rows that are diagonal at their pivots: their span, its pivots and its reduced rows.
use Rattle.std.proofs.Common.{◌≡◌, ◌≢◌, ℕ, zero, suc, ◌+◌, ◌*◌, ◌%◌, ◌<◌, ◌⊎◌, inl, inr, [], ◌∷◌, refl, arith, sym, ap, ◌∙◌}
use Rattle.std.proofs.Math.Nat.{mod-eq_of_lt}
use Rattle.std.proofs.lemmas.Bool.{cases_eq, cases_lt, cases_order}
use Rattle.gf_sums.specs.Sums.{Comb}
use Rattle.alb_rows.specs.Span.{combination, InSpan, IsPivot, IsReducedRow}
use Rattle.alb_reduce.specs.Echelon.{IsDiagonal}
use Rattle.alb_rows.proofs.SpanLemmas.{mod_add, mod_mul, span_one}

pub zero_mod : (q : ℕ) → 0 % q ≡ 0
zero_mod q = grind arith

-- sums and products with a part that is 0 or 1 modulo p
pub add_zeros : (p a b : ℕ) → a % p ≡ 0 → b % p ≡ 0 → (a + b) % p ≡ 0
add_zeros p a b e h = mod_add p a 0 b 0 (e ∙ sym (zero_mod p)) (h ∙ sym (zero_mod p)) ∙ zero_mod p

pub add_zero_left : (p a b : ℕ) → a % p ≡ 0 → (a + b) % p ≡ b % p
add_zero_left p a b e = mod_add p a 0 b b (e ∙ sym (zero_mod p)) refl ∙ ap (λ x. x % p) (omega arith)

pub add_zero_right : (p a b : ℕ) → b % p ≡ 0 → (a + b) % p ≡ a % p
add_zero_right p a b e = mod_add p a a b 0 refl (e ∙ sym (zero_mod p)) ∙ ap (λ x. x % p) (omega arith)

pub mul_zero_left : (p a b : ℕ) → a % p ≡ 0 → (a * b) % p ≡ 0
mul_zero_left p a b e = mod_mul p a 0 b b (e ∙ sym (zero_mod p)) refl ∙ ap (λ x. x % p) (omega arith) ∙ zero_mod p

pub mul_zero_right : (p a b : ℕ) → b % p ≡ 0 → (a * b) % p ≡ 0
mul_zero_right p a b e = mod_mul p a a b 0 refl (e ∙ sym (zero_mod p)) ∙ ap (λ x. x % p) (omega arith) ∙ zero_mod p

pub mul_one_left : (p a b : ℕ) → a % p ≡ 1 % p → (a * b) % p ≡ b % p
mul_one_left p a b e = mod_mul p a 1 b b e refl ∙ ap (λ x. x % p) (omega arith)

pub mul_one_right : (p a b : ℕ) → b % p ≡ 1 % p → (a * b) % p ≡ a % p
mul_one_right p a b e = mod_mul p a a b 1 refl e ∙ ap (λ x. x % p) (omega arith)

-- the sum of the first n values
abbrev pub sum_to : ℕ → (ℕ → ℕ) → ℕ
sum_to zero f = 0
sum_to (suc n) f = sum_to n f + f n

pub sum_to-zero : (p n : ℕ) (f : ℕ → ℕ) → ((k : ℕ) → k < n → f k % p ≡ 0) → sum_to n f % p ≡ 0
sum_to-zero p zero f h = zero_mod p
sum_to-zero p (suc n) f h = add_zeros p (sum_to n f) (f n) (sum_to-zero p n f (λ k l. h k (omega arith))) (h n (omega arith))

-- one value, where the others are 0
pub sum_to-one : (p n k : ℕ) (f : ℕ → ℕ) → k < n → ((l : ℕ) → l < n → l ≢ k → f l % p ≡ 0) → sum_to n f % p ≡ f k % p
sum_to-one p zero k f l h = absurd (omega arith)
sum_to-one p (suc n) k f l h =
    elim (cases_eq k n) [
      | inl e ↦ rw e (add_zero_left p (sum_to n f) (f n) (sum_to-zero p n f (λ i m. h i (omega arith) (omega arith))))
      | inr ne ↦
          add_zero_right p (sum_to n f) (f n) (h n (omega arith) (λ e. ne (sym e)))
          ∙ sum_to-one p n k f (omega arith) (λ i m nk. h i (omega arith) nk)
    ]

pub sum_to-same : (p n : ℕ) (f g : ℕ → ℕ) → ((k : ℕ) → f k % p ≡ g k % p) → sum_to n f % p ≡ sum_to n g % p
sum_to-same p zero f g h = refl
sum_to-same p (suc n) f g h = mod_add p _ _ _ _ (sum_to-same p n f g h) (h n)

pub sum_to-line : (n a : ℕ) (f g h : ℕ → ℕ) → sum_to n (λ k. (a * f k + g k) * h k) ≡ a * sum_to n (λ k. f k * h k) + sum_to n (λ k. g k * h k)
sum_to-line zero a f g h = omega arith
sum_to-line (suc n) a f g h = omega (arith, sum_to-line n a f g h)

-- a vector by its values at the pivots
abbrev pub expanded : ℕ → (ℕ → ℕ) → (ℕ → ℕ → ℕ) → (ℕ → ℕ) → ℕ → ℕ
expanded n pivot row v j = sum_to n (λ k. v (pivot k) * row k j)

expanded-row : (p n : ℕ) (pivot : ℕ → ℕ) (row : ℕ → ℕ → ℕ) (k j : ℕ) → IsDiagonal p n pivot row → expanded n pivot row (row k) j % p ≡ row k j % p
expanded-row p n pivot row k j d =
    elim (cases_lt k n) [
      | inl l ↦
          sum_to-one p n k (λ i. row k (pivot i) * row i j) l (λ i m ne. mul_zero_left p _ _ (d.others k i l m (λ e. ne (sym e))))
          ∙ mul_one_left p _ _ (d.one k l)
      | inr le ↦
          sum_to-zero p n (λ i. row k (pivot i) * row i j) (λ i m. mul_zero_left p _ _ (d.past k (pivot i) le)) ∙ sym (d.past k j le)
    ]

expanded-combination : (p n : ℕ) (pivot : ℕ → ℕ) (row : ℕ → ℕ → ℕ) (xs : Comb ℕ) (j : ℕ) → IsDiagonal p n pivot row
    → expanded n pivot row (combination row xs) j % p ≡ combination row xs j % p
expanded-combination p n pivot row [] j d = sum_to-zero p n (λ k. 0 * row k j) (λ k l. mul_zero_left p 0 (row k j) (zero_mod p)) ∙ sym (zero_mod p)
expanded-combination p n pivot row (x ∷ xs) j d =
    ap (λ m. m % p) (sum_to-line n x.0 (λ k. row x.1 (pivot k)) (λ k. combination row xs (pivot k)) (λ k. row k j))
    ∙ mod_add p _ _ _ _ (mod_mul p x.0 x.0 _ _ refl (expanded-row p n pivot row x.1 j d)) (expanded-combination p n pivot row xs j d)

-- an element of the span is its expansion
pub expanded-in_span : (p n : ℕ) (pivot : ℕ → ℕ) (row : ℕ → ℕ → ℕ) (v : ℕ → ℕ) (j : ℕ) → IsDiagonal p n pivot row → InSpan p row v
    → expanded n pivot row v j % p ≡ v j % p
expanded-in_span p n pivot row v j d s =
    sum_to-same p n (λ k. v (pivot k) * row k j) (λ k. combination row s.items (pivot k) * row k j)
    (λ k. mod_mul p _ _ _ _ (sym (s.gives (pivot k))) refl)
    ∙ expanded-combination p n pivot row s.items j d ∙ s.gives j

-- an element of the span that is 0 at each pivot is zero
pub diagonal_zero : (p n : ℕ) (pivot : ℕ → ℕ) (row : ℕ → ℕ → ℕ) (v : ℕ → ℕ) → IsDiagonal p n pivot row → InSpan p row v
    → ((k : ℕ) → k < n → v (pivot k) % p ≡ 0) → (j : ℕ) → v j % p ≡ 0
diagonal_zero p n pivot row v d s h j =
    sym (expanded-in_span p n pivot row v j d s)
    ∙ sum_to-zero p n (λ k. v (pivot k) * row k j) (λ k l. mul_zero_left p _ _ (h k l))

-- the place of a column among the pivots, or none
place_or_none : (n : ℕ) (pivot : ℕ → ℕ) (c : ℕ) → ((k : ℕ) × (k < n) × (pivot k ≡ c)) ⊎ ((k : ℕ) → k < n → pivot k ≡ c → ⊥)
place_or_none zero pivot c = inr (λ k l. absurd (omega arith))
place_or_none (suc n) pivot c =
    elim (place_or_none n pivot c) [
      | inl w ↦ inl (w.0, omega (arith, w.1), w.2)
      | inr none ↦ elim (cases_eq (pivot n) c) [
        | inl e ↦ inl (n, omega arith, e)
        | inr ne ↦ inr (λ k l h. elim (cases_eq k n) [ inl e ↦ ne (rw (← e) h) | inr nk ↦ none k (omega arith) h ])
      ]
    ]

-- each pivot of the span is one of the pivots
pub diagonal_all : (p n : ℕ) (pivot : ℕ → ℕ) (row : ℕ → ℕ → ℕ) (c : ℕ) → IsDiagonal p n pivot row → IsPivot p row c → (k : ℕ) × (k < n) × (pivot k ≡ c)
diagonal_all p n pivot row c d is =
    elim (place_or_none n pivot c) [ inl w ↦ w | inr none ↦ absurd (is.lead.nonzero (sym (expanded-in_span p n pivot row is.element c d is.in_span) ∙ sum_to-zero p n (λ k. is.element (pivot k) * row k c) (λ k l. term k l (none k l)))) ]
  where
    term : (k : ℕ) → k < n → (pivot k ≡ c → ⊥) → (is.element (pivot k) * row k c) % p ≡ 0
    term k l ne =
        elim (cases_order (pivot k) c) [
          | inl e ↦ absurd (ne e)
          | inr (inl lt) ↦ mul_zero_left p _ _ (is.lead.before (pivot k) lt)
          | inr (inr gt) ↦ mul_zero_right p _ _ (d.before k c l gt)
        ]

-- and each of them is one, with its row
pub diagonal_each : (p n : ℕ) (pivot : ℕ → ℕ) (row : ℕ → ℕ → ℕ) (k : ℕ) → 1 < p → IsDiagonal p n pivot row → k < n → IsPivot p row (pivot k)
diagonal_each p n pivot row k above d l =
    record {
      element = row k;
      in_span = span_one p row k;
      lead = record {
        nonzero = λ z. one_not_zero p above (sym (d.one k l) ∙ z);
        before = λ j h. d.before k j l h;
      };
    }
  where
    one_not_zero : (q : ℕ) → 1 < q → 1 % q ≡ 0 → ⊥
    one_not_zero q h z = absurd (omega (arith, sym (mod-eq_of_lt h) ∙ z))

pub diagonal_row : (p n : ℕ) (pivot : ℕ → ℕ) (row : ℕ → ℕ → ℕ) (k : ℕ) → IsDiagonal p n pivot row → k < n → IsReducedRow p row (pivot k) (row k)
diagonal_row p n pivot row k d l =
    record {
      in_span = span_one p row k;
      one = d.one k l;
      others = λ c is ne.
          let w = diagonal_all p n pivot row c d is in
          rw (← w.2) (d.others k w.0 l w.1 (λ e. ne (sym w.2 ∙ sym (ap pivot e))));
    }
