-- The words of a written line, and how each is read.
use Rattle.std.proofs.Common.{◌≡◌, ℕ, zero, suc, ◌+◌, ◌-◌, ◌*◌, ◌%◌, ◌^◌, ◌<◌, ◌≤◌, Bool, true, false, not, List, [], ◌∷◌, ◌++◌, length, take, drop, get_or, codes, Some, Ok, refl, sym, ap, ◌∙◌, arith, length-append, rules}
use Rattle.std.specs.Prelude.{◌&&◌, ◌==◌, if◌then◌else◌, nat_lt, position}
use Rattle.std.specs.List.{list_all, position_or_len}
use Rattle.std.specs.Char.{is_ascii_digit}
use Rattle.std.specs.Fmt.{decimal}
use Rattle.std.proofs.lemmas.Bool.{false≢true}
use Rattle.std.proofs.lemmas.Bool.Decides.{nat_tests}
use Rattle.std.proofs.lemmas.List.{append-nil}
use Rattle.std.proofs.lemmas.List.Sums.{position_or_len_is}
use Rattle.std.proofs.Math.Nat.{mod-eq_of_lt}
use Rattle.std.proofs.lemmas.Str.Parse.{IsNumeralModel, numerals_by_fold}
use Rattle.std.proofs.lemmas.Fmt.{digits_decimal, digits_value-decimal, length-decimal-le, decimal_nonempty}
use Rattle.alb_lex.specs.Lexing.{is_blank, value_after}
use Rattle.alb_lex.proofs.Steps.{value-digit}
use Rattle.alb_evidence.specs.Block.{words, digits, number, signed_number, item, is_comment}
use Rattle.alb_evidence.specs.Texts.{signed_text}
use Rattle.alb_evidence.proofs.WordLemmas.{word_one, word_more, word_blank, no_word}
use Rattle.alb_mono.proofs.Both.{both_tests, both_true}

-- ---- texts without blanks

abbrev pub is_plain : ℕ → Bool
is_plain b = not (is_blank b) && not (b == 10)

abbrev pub are_plain : List ℕ → Bool
are_plain [] = true
are_plain (b ∷ bs) = is_plain b && are_plain bs

-- a word: not empty, and without blanks and line feeds
pub record IsWord (w : List ℕ) : Type 0 where
  pub some : 0 < length w
  pub plain : are_plain w ≡ true

not_true : (a : Bool) → not a ≡ true → a ≡ false
not_true true h = absurd (false≢true h)
not_true false h = refl

pub plain-no_blank : (b : ℕ) → is_plain b ≡ true → is_blank b ≡ false
plain-no_blank b h = not_true (is_blank b) (both_tests _ _ h).0

pub plain-append : (xs ys : List ℕ) → are_plain xs ≡ true → are_plain ys ≡ true → are_plain (xs ++ ys) ≡ true
plain-append [] ys h k = k
plain-append (x ∷ xs) ys h k = both_true (is_plain x) (are_plain (xs ++ ys)) (both_tests _ _ h).0 (plain-append xs ys (both_tests _ _ h).1 k)

-- words with a space before each
abbrev pub spaced : List (List ℕ) → List ℕ
spaced [] = []
spaced (w ∷ ws) = 32 ∷ (w ++ spaced ws)

abbrev pub AreWords : List (List ℕ) → Type 0
AreWords [] = Unit {0}
AreWords (w ∷ ws) = IsWord w × AreWords ws

words_alone : (b : ℕ) (w : List ℕ) → are_plain (b ∷ w) ≡ true → words (b ∷ w) ≡ (b ∷ w) ∷ []
words_alone b [] h = word_one b [] (plain-no_blank b (both_tests _ _ h).0) refl ∙ ap (λ ws. (b ∷ []) ∷ ws) no_word
words_alone b (c ∷ w) h =
    let rest = (both_tests _ _ h).1 in
    word_more b (c ∷ w) (c ∷ w) [] (plain-no_blank b (both_tests _ _ h).0) (plain-no_blank c (both_tests _ _ rest).0) (words_alone c w rest)

words_before : (b : ℕ) (w more : List ℕ) → are_plain (b ∷ w) ≡ true → words ((b ∷ w) ++ 32 ∷ more) ≡ (b ∷ w) ∷ words more
words_before b [] more h = word_one b (32 ∷ more) (plain-no_blank b (both_tests _ _ h).0) refl ∙ ap (λ ws. (b ∷ []) ∷ ws) (word_blank 32 more refl)
words_before b (c ∷ w) more h =
    let rest = (both_tests _ _ h).1 in
    word_more b ((c ∷ w) ++ 32 ∷ more) (c ∷ w) (words more) (plain-no_blank b (both_tests _ _ h).0) (plain-no_blank c (both_tests _ _ rest).0) (words_before c w more rest)

pub words-spaced : (w : List ℕ) (ws : List (List ℕ)) → IsWord w → AreWords ws → words (w ++ spaced ws) ≡ w ∷ ws
words-spaced [] ws h k = absurd (omega (arith, h.some))
words-spaced (b ∷ w) [] h k = ap words (append-nil (b ∷ w)) ∙ words_alone b w h.plain
words-spaced (b ∷ w) (v ∷ ws) h k = words_before b w (v ++ spaced ws) h.plain ∙ ap (λ vs. (b ∷ w) ∷ vs) (words-spaced v ws k.0 k.1)

-- ---- numbers

abbrev all_digits : List ℕ → Bool
all_digits [] = true
all_digits (c ∷ cs) = is_ascii_digit c && all_digits cs

abbrev read_on : ℕ → List ℕ → ℕ
read_on n [] = n
read_on n (c ∷ cs) = read_on (n * 10 + (c - 48)) cs

own : IsNumeralModel (λ ds. all_digits ds ≡ true) (read_on 0)
own = numerals_by_fold _ (search rules) read_on (search rules)

list_all-digits : (ds : List ℕ) → all_digits ds ≡ true → list_all is_ascii_digit ds ≡ true
list_all-digits [] h = refl
list_all-digits (c ∷ cs) h = both_true (is_ascii_digit c) (list_all is_ascii_digit cs) (both_tests _ _ h).0 (list_all-digits cs (both_tests _ _ h).1)

value-nothing : (n : ℕ) → value_after n [] ≡ n
unfolding value_after
value-nothing n = refl

value-digits : (n : ℕ) (ds : List ℕ) → all_digits ds ≡ true → value_after n ds ≡ read_on n ds
value-digits n [] h = value-nothing n
value-digits n (c ∷ cs) h = value-digit n c cs (both_tests _ _ h).0 ∙ value-digits (n * 10 + (c - 48)) cs (both_tests _ _ h).1

digit-plain : (b : ℕ) → is_ascii_digit b ≡ true → is_plain b ≡ true
digit-plain b h = grind (arith, nat_tests)

digits-plain : (ds : List ℕ) → all_digits ds ≡ true → are_plain ds ≡ true
digits-plain [] h = refl
digits-plain (c ∷ cs) h = both_true (is_plain c) (are_plain cs) (digit-plain c (both_tests _ _ h).0) (digits-plain cs (both_tests _ _ h).1)

not_negative : (b : ℕ) → is_ascii_digit b ≡ true → (b == 45) ≡ false
not_negative b h = grind (arith, nat_tests)

some_length : (n : ℕ) → 0 < n → (n == 0) ≡ false
some_length n h = grind (arith, nat_tests)

few_digits : (n : ℕ) → n ≤ 18 → nat_lt 18 n ≡ false
few_digits n h = grind (arith, nat_tests)

-- digits of a number
pub record IsNumeral (ds : List ℕ) (n : ℕ) : Type 0 where
  pub digits : all_digits ds ≡ true
  pub some : 0 < length ds
  pub few : length ds ≤ 18
  pub value : read_on 0 ds ≡ n

pub decimal-numeral : (n : ℕ) → n < 10 ^ 18 → IsNumeral (decimal n) n
decimal-numeral n small =
    let wide : n < 2 ^ 64 = omega arith in
    record { digits = digits_decimal own n wide; some = decimal_nonempty n wide; few = length-decimal-le 18 n (omega arith) small wide; value = digits_value-decimal own n wide }

pub numeral-word : (ds : List ℕ) (n : ℕ) → IsNumeral ds n → IsWord ds
numeral-word ds n h = record { some = h.some; plain = digits-plain ds h.digits }

digit_no_sign : (b : ℕ) → is_ascii_digit b ≡ true → (b == 35) ≡ false
digit_no_sign b h = grind (arith, nat_tests)

pub numeral-no_comment : (ds : List ℕ) (n : ℕ) → IsNumeral ds n → is_comment ds ≡ false
numeral-no_comment [] n h = absurd (omega (arith, h.some))
numeral-no_comment (c ∷ cs) n h = digit_no_sign c (both_tests _ _ h.digits).0

pub digits-read : (ds : List ℕ) (n : ℕ) → IsNumeral ds n → digits ds ≡ Ok n
unfolding digits
digits-read ds n h = rw (list_all-digits ds h.digits, some_length (length ds) h.some, few_digits (length ds) h.few) (ap (λ (x : ℕ). Ok x) (value-digits 0 ds h.digits ∙ h.value))

pub number-read : (ds : List ℕ) (n : ℕ) → IsNumeral ds n → number ds ≡ Ok n
unfolding number
number-read [] n h = absurd (omega (arith, h.some))
number-read (c ∷ cs) n h = rw (not_negative c (both_tests _ _ h.digits).0) (digits-read (c ∷ cs) n h)

-- ---- coefficients

residue-back : (p c : ℕ) → c < p → p < 2 * c → (p - (p - c) % p) % p ≡ c
residue-back p c h k =
    let less : p - c < p = omega arith in
    let one : (p - c) % p ≡ p - c = mod-eq_of_lt less in
    let two : p - (p - c) ≡ c = omega arith in
    ap (λ x. (p - x) % p) one ∙ ap (λ x. x % p) two ∙ mod-eq_of_lt h

negative-read : (p c : ℕ) (ds : List ℕ) → c < p → p < 2 * c → IsNumeral ds (p - c) → signed_number p (45 ∷ ds) ≡ Ok c
unfolding signed_number
negative-read p c ds h k n = rw (digits-read ds (p - c) n) (ap (λ (x : ℕ). Ok x) (residue-back p c h k))

positive-read : (p c : ℕ) (ds : List ℕ) → c < p → IsNumeral ds c → signed_number p ds ≡ Ok c
unfolding signed_number
positive-read p c [] h n = absurd (omega (arith, n.some))
positive-read p c (d ∷ ds) h n = rw (not_negative d (both_tests _ _ n.digits).0, digits-read (d ∷ ds) c n) (ap (λ (x : ℕ). Ok x) (mod-eq_of_lt h))

above : (p n : ℕ) → nat_lt p n ≡ true → p < n
above p n h = grind (arith, nat_tests)

-- no star
abbrev pub has_no_star : List ℕ → Bool
has_no_star [] = true
has_no_star (b ∷ bs) = not (b == 42) && has_no_star bs

digit-no_star : (b : ℕ) → is_ascii_digit b ≡ true → not (b == 42) ≡ true
digit-no_star b h = grind (arith, nat_tests)

digits-no_star : (ds : List ℕ) → all_digits ds ≡ true → has_no_star ds ≡ true
digits-no_star [] h = refl
digits-no_star (c ∷ cs) h = both_true (not (c == 42)) (has_no_star cs) (digit-no_star c (both_tests _ _ h).0) (digits-no_star cs (both_tests _ _ h).1)

-- a written coefficient
pub record IsSigned (p c : ℕ) (text : List ℕ) : Type 0 where
  pub read : signed_number p text ≡ Ok c
  pub word : IsWord text
  pub no_star : has_no_star text ≡ true
  pub short : length text ≤ 19

signed_of : (t : Bool) (p c : ℕ) → t ≡ nat_lt p (2 * c) → c < p → p < 2 ^ 16 → IsSigned p c ((if t then codes "-" else []) ++ decimal (if t then p - c else c))
signed_of true p c e h small =
    let n = decimal-numeral (p - c) (omega arith) in
    let big : p < 2 * c = above p (2 * c) (sym e) in
    let w = numeral-word (decimal (p - c)) (p - c) n in
    record { read = negative-read p c (decimal (p - c)) h big n; word = record { some = omega arith; plain = w.plain }; no_star = digits-no_star (decimal (p - c)) n.digits; short = omega (arith, n.few) }
signed_of false p c e h small =
    let n = decimal-numeral c (omega arith) in
    record { read = positive-read p c (decimal c) h n; word = numeral-word (decimal c) c n; no_star = digits-no_star (decimal c) n.digits; short = omega (arith, n.few) }

pub signed-is : (p c : ℕ) → c < p → p < 2 ^ 16 → IsSigned p c (signed_text p c)
signed-is p c h small = signed_of (nat_lt p (2 * c)) p c refl h small

-- ---- items

no_star-before : (xs ys : List ℕ) (k : ℕ) → has_no_star xs ≡ true → k < length xs → (get_or (xs ++ ys) k 0 == 42) ≡ false
no_star-before [] ys k h l = absurd (omega arith)
no_star-before (x ∷ xs) ys zero h l = not_true (x == 42) (both_tests _ _ h).0
no_star-before (x ∷ xs) ys (suc k) h l = no_star-before xs ys k (both_tests _ _ h).1 (omega arith)

star-at : (xs ys : List ℕ) → get_or (xs ++ 42 ∷ ys) (length xs) 0 ≡ 42
star-at [] ys = refl
star-at (x ∷ xs) ys = star-at xs ys

less_is : (i n : ℕ) → i < n → nat_lt i n ≡ true
less_is i n h = grind (arith, nat_tests)

first_star : (xs ys : List ℕ) → has_no_star xs ≡ true → position (λ b. b == 42) (xs ++ 42 ∷ ys) ≡ Some (length xs)
first_star xs ys h =
    let long : length xs < length (xs ++ 42 ∷ ys) = omega (arith, length-append xs (42 ∷ ys)) in
    let at : position_or_len (λ b. b == 42) (xs ++ 42 ∷ ys) ≡ length xs =
    position_or_len_is (λ b. b == 42) (xs ++ 42 ∷ ys) (length xs) 0 (omega arith) (λ k l. no_star-before xs (42 ∷ ys) k h l) (λ l. ap (λ b. b == 42) (star-at xs ys)) in
    rw (at, less_is (length xs) (length (xs ++ 42 ∷ ys)) long) refl

take-front : (xs ys : List ℕ) → take (length xs) (xs ++ ys) ≡ xs
take-front [] ys = refl
take-front (x ∷ xs) ys = ap (λ zs. x ∷ zs) (take-front xs ys)

drop-behind : (xs ys : List ℕ) (b : ℕ) → drop (length xs + 1) (xs ++ b ∷ ys) ≡ ys
drop-behind [] ys b = refl
drop-behind (x ∷ xs) ys b =
    let one : suc (length xs) + 1 ≡ suc (length xs + 1) = omega arith in
    ap (λ n. drop n (x ∷ (xs ++ b ∷ ys))) one ∙ drop-behind xs ys b

-- the word of an item
abbrev pub item_word : ℕ → ℕ × ℕ → List ℕ
item_word p c = signed_text p c.0 ++ 42 ∷ decimal c.1

pub item-read : (p : ℕ) (c : ℕ × ℕ) → c.0 < p → c.1 < 10 ^ 18 → p < 2 ^ 16 → item p (item_word p c) ≡ Ok c
unfolding item
item-read p c h k small =
    let s = signed-is p c.0 h small in
    let n = number-read (decimal c.1) c.1 (decimal-numeral c.1 k) in
    rw (first_star (signed_text p c.0) (decimal c.1) s.no_star, take-front (signed_text p c.0) (42 ∷ decimal c.1), drop-behind (signed_text p c.0) (decimal c.1) 42, s.read, n) refl

pub item-is_word : (p : ℕ) (c : ℕ × ℕ) → c.0 < p → c.1 < 10 ^ 18 → p < 2 ^ 16 → IsWord (item_word p c)
item-is_word p c h k small =
    let s = signed-is p c.0 h small in
    let n = numeral-word (decimal c.1) c.1 (decimal-numeral c.1 k) in
    record { some = omega (arith, length-append (signed_text p c.0) (42 ∷ decimal c.1), s.word.some); plain = plain-append (signed_text p c.0) (42 ∷ decimal c.1) s.word.plain n.plain }
