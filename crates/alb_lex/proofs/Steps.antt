-- The steps of reading tokens, over plain texts.
use Rattle.std.proofs.Common.{◌≡◌, ℕ, suc, ◌+◌, ◌-◌, ◌*◌, ◌<◌, ◌≤◌, ◌^◌, Bool, true, false, List, [], ◌∷◌, ◌++◌, length, get_or, drop, Some, None, Result, Ok, Err, refl, sym, ap, subst, ◌∙◌, append_assoc, inl, inr, arith, drop-cons, add-one}
use Rattle.std.proofs.lemmas.Grind.{pow_more}
use Rattle.std.proofs.Math.Nat.{pow-le-pow_right}
use Rattle.std.specs.Prelude.{nat_lt}
use Rattle.std.specs.Char.{is_ascii_digit}
use Rattle.std.proofs.lemmas.Bool.{cases_Bool, le-ltb, lt-ltb}
use Rattle.std.proofs.lemmas.Bool.Decides.{nat_tests}
use Rattle.std.proofs.lemmas.List.{append-nil, nil_from_length, length-drop, drop-drop}
use Rattle.alb_lex.specs.declared.token.Token.{Token}
use Rattle.alb_lex.specs.declared.token.TokenKind.{TokenKind}
use Rattle.alb_lex.specs.declared.token.TokenKind.TheVariants as kinds
use Rattle.alb_lex.specs.declared.error.LexError.{LexError}
use Rattle.alb_lex.specs.declared.error.LexError.TheVariants as errors
use Rattle.alb_lex.specs.Lexing.{is_blank, single, digit_run, value_after, single_at, begins, tokens_from}
use Rattle.alb_lex.specs.Results.{◌>>=◌}

abbrev pub onto : List Token → Result (List Token) LexError → Result (List Token) LexError
onto front read = read >>= λ ts. Ok (front ++ ts)

pub onto-onto : (front more : List Token) (read : Result (List Token) LexError) → onto front (onto more read) ≡ onto (front ++ more) read
onto-onto front more (Ok ts) = ap (λ (x : List Token). Ok x) (sym (append_assoc front more ts))
onto-onto front more (Err e) = refl

pub onto-nil : (read : Result (List Token) LexError) → onto [] read ≡ read
onto-nil (Ok ts) = refl
onto-nil (Err e) = refl

blank_no_digit : (b : ℕ) → is_blank b ≡ true → is_ascii_digit b ≡ false
blank_no_digit b e = grind (arith, nat_tests)

digit_no_blank : (b : ℕ) → is_ascii_digit b ≡ true → is_blank b ≡ false
digit_no_blank b e = grind (arith, nat_tests)

pub run-bound : (bs : List ℕ) → digit_run bs ≤ length bs
unfolding digit_run
run-bound [] = omega arith
run-bound (b ∷ bs) = elim (cases_Bool (is_ascii_digit b)) [
  | inl e ↦ rw e (let h = run-bound bs in omega arith)
  | inr e ↦ rw e (omega arith)
]

pub run-digit : (b : ℕ) (bs : List ℕ) → is_ascii_digit b ≡ true → digit_run (b ∷ bs) ≡ suc (digit_run bs)
unfolding digit_run
run-digit b bs e = rw e refl

pub run-other : (b : ℕ) (bs : List ℕ) → is_ascii_digit b ≡ false → digit_run (b ∷ bs) ≡ 0
unfolding digit_run
run-other b bs e = rw e refl

pub value-digit : (n b : ℕ) (bs : List ℕ) → is_ascii_digit b ≡ true → value_after n (b ∷ bs) ≡ value_after (n * 10 + (b - 48)) bs
unfolding value_after
value-digit n b bs e = rw e refl

pub value-other : (n b : ℕ) (bs : List ℕ) → is_ascii_digit b ≡ false → value_after n (b ∷ bs) ≡ n
unfolding value_after
value-other n b bs e = rw e refl

pub value-end : (n : ℕ) (bs : List ℕ) → digit_run bs ≡ 0 → value_after n bs ≡ n
unfolding value_after digit_run
value-end n [] h = refl
value-end n (b ∷ bs) h = elim (cases_Bool (is_ascii_digit b)) [
  | inl e ↦ absurd (let k : suc (digit_run bs) ≡ 0 = sym (run-digit b bs e) ∙ h in omega arith)
  | inr e ↦ value-other n b bs e
]

first_step : (flag : Bool) (k b : ℕ) (bs : List ℕ) (ts : List Token) → begins flag k b bs ≡ Ok ts →
    tokens_from flag k (b ∷ bs) ≡ onto ts (tokens_from (is_ascii_digit b) (k + 1) bs)
unfolding tokens_from
first_step flag k b bs ts e = rw e refl

first_fault : (flag : Bool) (k b : ℕ) (bs : List ℕ) (d : LexError) → begins flag k b bs ≡ Err d → tokens_from flag k (b ∷ bs) ≡ Err d
unfolding tokens_from
first_fault flag k b bs d e = rw e refl

-- a text that begins with no digit has the same tokens after a digit
same_start : (k b : ℕ) (bs : List ℕ) → is_ascii_digit b ≡ false → tokens_from true k (b ∷ bs) ≡ tokens_from false k (b ∷ bs)
unfolding tokens_from
same_start k b bs e = rw e refl

-- after a digit, the rest of its run gives no token
skip : (k : ℕ) (bs : List ℕ) → tokens_from true k bs ≡ tokens_from false (k + digit_run bs) (drop (digit_run bs) bs)
unfolding tokens_from digit_run
skip k [] = refl
skip k (b ∷ bs) = elim (cases_Bool (is_ascii_digit b)) [
  | inl e ↦ (let q : (k + 1) + digit_run bs ≡ k + suc (digit_run bs) = omega arith in
      let n : begins true k b bs ≡ Ok [] = rw (digit_no_blank b e, e) refl in
      first_step true k b bs [] n ∙ onto-nil (tokens_from (is_ascii_digit b) (k + 1) bs) ∙ ap (λ x. tokens_from x (k + 1) bs) e ∙ skip (k + 1) bs
      ∙ ap (λ j. tokens_from false j (drop (digit_run bs) bs)) q ∙ ap (λ n. tokens_from false (k + n) (drop n (b ∷ bs))) (sym (run-digit b bs e)))
  | inr e ↦ (let q : k ≡ k + 0 = omega arith in
      same_start k b bs e ∙ ap (λ j. tokens_from false j (b ∷ bs)) q ∙ ap (λ n. tokens_from false (k + n) (drop n (b ∷ bs))) (sym (run-other b bs e)))
]

abbrev pub number_token : ℕ → List ℕ → Token
number_token k bs = record { kind = kinds.Number (value_after 0 bs); from = k; to = k + digit_run bs }

abbrev pub single_token : ℕ → TokenKind → Token
single_token k kind = record { kind = kind; from = k; to = k + 1 }

-- a text that begins with the byte `b` at `at`
pub cut : (line : List ℕ) (at : ℕ) → at < length line → drop at line ≡ get_or line at 0 ∷ drop (at + 1) line
cut line at h = rw (add-one, drop-cons line at 0)

-- what was read before, and what the rest gives
pub record Goes (total : Result (List Token) LexError) (front : List Token) (k : ℕ) (text : List ℕ) : Type 0 where
  pub same : onto front (tokens_from false k text) ≡ total

module _ (total : Result (List Token) LexError) (front : List Token) (k b : ℕ) (bs : List ℕ) (so_far : Goes total front k (b ∷ bs)) where
  pub after_blank : is_blank b ≡ true → Goes total front (k + 1) bs
  after_blank e =
      let n : begins false k b bs ≡ Ok [] = rw e refl in
      record { same = ap (onto front) (sym (first_step false k b bs [] n ∙ onto-nil (tokens_from (is_ascii_digit b) (k + 1) bs) ∙ ap (λ x. tokens_from x (k + 1) bs) (blank_no_digit b e))) ∙ so_far.same }

  pub after_number : is_ascii_digit b ≡ true → digit_run (b ∷ bs) ≤ 18 → Goes total (front ++ number_token k (b ∷ bs) ∷ []) (k + digit_run (b ∷ bs)) (drop (digit_run (b ∷ bs)) (b ∷ bs))
  after_number e few =
      let f : nat_lt 18 (digit_run (b ∷ bs)) ≡ false = le-ltb 18 (digit_run (b ∷ bs)) few in
      let n : begins false k b bs ≡ Ok (number_token k (b ∷ bs) ∷ []) = rw (digit_no_blank b e, e, f) refl in
      let q : (k + 1) + digit_run bs ≡ k + suc (digit_run bs) = omega arith in
      let rest = skip (k + 1) bs ∙ ap (λ j. tokens_from false j (drop (digit_run bs) bs)) q ∙ ap (λ n. tokens_from false (k + n) (drop n (b ∷ bs))) (sym (run-digit b bs e)) in
      let one = first_step false k b bs _ n ∙ ap (onto (number_token k (b ∷ bs) ∷ [])) (ap (λ x. tokens_from x (k + 1) bs) e ∙ rest) in
      record { same = sym (ap (onto front) one ∙ onto-onto front (number_token k (b ∷ bs) ∷ []) _) ∙ so_far.same }

  pub at_long : is_ascii_digit b ≡ true → 18 < digit_run (b ∷ bs) → total ≡ Err (errors.NumberTooLong k)
  at_long e many =
      let f : nat_lt 18 (digit_run (b ∷ bs)) ≡ true = lt-ltb 18 (digit_run (b ∷ bs)) many in
      let n : begins false k b bs ≡ Err (errors.NumberTooLong k) = rw (digit_no_blank b e, e, f) refl in
      sym so_far.same ∙ ap (onto front) (first_fault false k b bs _ n)

  pub after_single : is_blank b ≡ false → is_ascii_digit b ≡ false → (kind : TokenKind) → single b ≡ Some kind → Goes total (front ++ single_token k kind ∷ []) (k + 1) bs
  after_single blank digit kind e =
      let n : begins false k b bs ≡ Ok (single_token k kind ∷ []) = rw (blank, digit) (ap (single_at k) e) in
      let one = first_step false k b bs _ n ∙ ap (λ x. onto (single_token k kind ∷ []) (tokens_from x (k + 1) bs)) digit in
      record { same = sym (ap (onto front) one ∙ onto-onto front (single_token k kind ∷ []) _) ∙ so_far.same }

  pub at_bad : is_blank b ≡ false → is_ascii_digit b ≡ false → single b ≡ None → total ≡ Err (errors.BadByte k)
  at_bad blank digit e =
      let n : begins false k b bs ≡ Err (errors.BadByte k) = rw (blank, digit) (ap (single_at k) e) in
      sym so_far.same ∙ ap (onto front) (first_fault false k b bs _ n)

pub at_end : (total : Result (List Token) LexError) (front : List Token) (k : ℕ) (text : List ℕ) → Goes total front k text → length text ≡ 0 → total ≡ Ok front
unfolding tokens_from
at_end total front k [] h e = sym h.same ∙ ap (λ (x : List Token). Ok x) (append-nil front)
at_end total front k (b ∷ bs) h e = absurd (omega arith)

-- the loops over digits
module _ (text : List ℕ) (i : ℕ) (h : i < length text) where
  split_digit : drop i text ≡ get_or text i 0 ∷ drop (i + 1) text
  split_digit = rw (add-one, drop-cons text i 0)

  pub run-more : is_ascii_digit (get_or text i 0) ≡ true → digit_run (drop i text) ≡ suc (digit_run (drop (i + 1) text))
  run-more e = ap digit_run split_digit ∙ run-digit _ _ e

  pub run-stops : is_ascii_digit (get_or text i 0) ≡ false → digit_run (drop i text) ≡ 0
  run-stops e = ap digit_run split_digit ∙ run-other _ _ e

  pub is_digit : 0 < digit_run (drop i text) → is_ascii_digit (get_or text i 0) ≡ true
  is_digit pos = elim (cases_Bool (is_ascii_digit (get_or text i 0))) [
    | inl e ↦ e
    | inr e ↦ absurd (let k = run-stops e in omega arith)
  ]

  pub value-more : (n : ℕ) → is_ascii_digit (get_or text i 0) ≡ true → value_after n (drop i text) ≡ value_after (n * 10 + (get_or text i 0 - 48)) (drop (i + 1) text)
  value-more n e = ap (value_after n) split_digit ∙ value-digit n _ _ e

pub run-past : (text : List ℕ) (i : ℕ) → length text ≤ i → digit_run (drop i text) ≡ 0
unfolding digit_run
run-past text i h = ap digit_run (nil_from_length (drop i text) (omega (arith, length-drop i text)))

pub digit_range : (b : ℕ) → is_ascii_digit b ≡ true → (48 ≤ b) × (b ≤ 57)
digit_range b e = (grind (arith, nat_tests), grind (arith, nat_tests))

pub small_next : (value i d : ℕ) → value < 10 ^ i → d ≤ 9 → value * 10 + d < 10 ^ (i + 1)
small_next value i d h k = omega (arith, pow_more 10 i)

pub small_fits : (value i : ℕ) → value < 10 ^ i → i < 18 → value * 10 + 9 < 2 ^ 64
small_fits value i h k = let ten : 0 < 10 = omega arith in let less : i ≤ 17 = omega arith in let e : 10 ^ i ≤ 10 ^ 17 = pow-le-pow_right ten {i = i} {j = 17} less in omega arith

pub after_number_at : (total : Result (List Token) LexError) (front : List Token) (line : List ℕ) (at : ℕ) (now : List Token) (digits value : ℕ) → at < length line →
    Goes total front (at + 1) (drop at line) → is_ascii_digit (get_or line at 0) ≡ true → digits ≡ digit_run (drop at line) → value ≡ value_after 0 (drop at line) → digits ≤ 18 →
    now ≡ front ++ record { kind = kinds.Number value; from = at + 1; to = (at + 1) + digits } ∷ [] → Goes total now ((at + digits) + 1) (drop (at + digits) line)
after_number_at total front line at now digits value h so_far e d v few n =
    let here = cut line at h in
    let far = subst (Goes total front (at + 1)) here so_far in
    let d2 : digits ≡ digit_run (get_or line at 0 ∷ drop (at + 1) line) = d ∙ ap digit_run here in
    let v2 : value ≡ value_after 0 (get_or line at 0 ∷ drop (at + 1) line) = v ∙ ap (value_after 0) here in
    let all = after_number total front (at + 1) (get_or line at 0) (drop (at + 1) line) far e (omega arith) in
    let t : now ≡ front ++ number_token (at + 1) (get_or line at 0 ∷ drop (at + 1) line) ∷ [] = rw (← d2, ← v2) n in
    let r : drop digits (get_or line at 0 ∷ drop (at + 1) line) ≡ drop (at + digits) line = ap (drop digits) (sym here) ∙ drop-drop digits at line in
    let k : (at + 1) + digits ≡ (at + digits) + 1 = omega arith in
    rw (t, ← r, ← k) (rw d2 all)

-- the number begins with this digit, so it is not empty
pub run_positive : (line : List ℕ) (at : ℕ) → at < length line → is_ascii_digit (get_or line at 0) ≡ true → 0 < digit_run (drop at line)
run_positive line at h e = omega (arith, run-more line at h e)

-- where digits are left, the place is within the text
pub run_within : (text : List ℕ) (i : ℕ) → 0 < digit_run (drop i text) → i < length text
run_within text i pos = omega (arith, run-bound (drop i text), length-drop i text)

-- a token of one byte, and the tokens after it
pub one_byte : (k b : ℕ) (bs : List ℕ) (kind : TokenKind) → is_blank b ≡ false → is_ascii_digit b ≡ false → single b ≡ Some kind →
    tokens_from false k (b ∷ bs) ≡ onto (single_token k kind ∷ []) (tokens_from false (k + 1) bs)
one_byte k b bs kind blank digit e =
    let n : begins false k b bs ≡ Ok (single_token k kind ∷ []) = rw (blank, digit) (ap (single_at k) e) in
    first_step false k b bs _ n ∙ ap (λ x. onto (single_token k kind ∷ []) (tokens_from x (k + 1) bs)) digit

pub one_blank : (k b : ℕ) (bs : List ℕ) → is_blank b ≡ true → tokens_from false k (b ∷ bs) ≡ tokens_from false (k + 1) bs
one_blank k b bs e =
    let n : begins false k b bs ≡ Ok [] = rw e refl in
    first_step false k b bs [] n ∙ onto-nil (tokens_from (is_ascii_digit b) (k + 1) bs) ∙ ap (λ x. tokens_from x (k + 1) bs) (blank_no_digit b e)
