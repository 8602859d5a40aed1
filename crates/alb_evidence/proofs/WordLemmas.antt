-- How a text is cut into words.
use Rattle.std.proofs.Common.{◌≡◌, ℕ, zero, suc, ◌+◌, ◌<◌, ◌≤◌, Bool, true, false, List, [], ◌∷◌, length, take, drop, get_or, Some, None, refl, sym, ap, ◌∙◌, subst, arith, inl, inr}
use Rattle.std.specs.List.{list_all}
use Rattle.std.proofs.Math.ListN.{drop_of_length-le}
use Rattle.std.proofs.lemmas.List.{drop_more}
use Rattle.std.proofs.lemmas.Bool.{cases_lt, false≢true}
use Rattle.alb_lex.specs.Lexing.{is_blank, value_after}
use Rattle.alb_evidence.specs.Block.{words, ends_word, cut}
use Rattle.alb_mono.proofs.Both.{both_tests}

pub word_one : (b : ℕ) (bs : List ℕ) → is_blank b ≡ false → ends_word bs ≡ true → words (b ∷ bs) ≡ (b ∷ []) ∷ words bs
unfolding words
word_one b bs e h = rw (e, h) refl

pub word_more : (b : ℕ) (bs w : List ℕ) (ws : List (List ℕ)) → is_blank b ≡ false → ends_word bs ≡ false → words bs ≡ w ∷ ws → words (b ∷ bs) ≡ (b ∷ w) ∷ ws
unfolding words
word_more b bs w ws e h g = rw (e, h, g) refl

pub no_word : words [] ≡ []
unfolding words
no_word = refl

pub word_blank : (b : ℕ) (bs : List ℕ) → is_blank b ≡ true → words (b ∷ bs) ≡ words bs
unfolding words
word_blank b bs e = rw e refl

-- blanks at the front
pub words-skip : (text : List ℕ) (n : ℕ) → n ≤ length text → ((k : ℕ) → k < n → is_blank (get_or text k 0) ≡ true) → words text ≡ words (drop n text)
words-skip text zero l h = refl
words-skip [] (suc n) l h = absurd (omega arith)
words-skip (b ∷ bs) (suc n) l h = word_blank b bs (h 0 (omega arith)) ∙ words-skip bs n (omega arith) (λ k q. h (suc k) (omega arith))

-- blanks alone
pub words-none : (text : List ℕ) → ((k : ℕ) → k < length text → is_blank (get_or text k 0) ≡ true) → words text ≡ []
words-none [] h = no_word
words-none (b ∷ bs) h = word_blank b bs (h 0 (omega arith)) ∙ words-none bs (λ k q. h (suc k) (omega arith))

-- a word at the front
pub words-cut : (text : List ℕ) (n : ℕ) → 0 < n → n ≤ length text → ((k : ℕ) → k < n → is_blank (get_or text k 0) ≡ false) → (n < length text → is_blank (get_or text n 0) ≡ true)
    → words text ≡ take n text ∷ words (drop n text)
words-cut text zero s l h e = absurd (omega arith)
words-cut [] (suc n) s l h e = absurd (omega arith)
words-cut (b ∷ []) (suc zero) s l h e = word_one b [] (h 0 (omega arith)) refl
words-cut (b ∷ c ∷ bs) (suc zero) s l h e = word_one b (c ∷ bs) (h 0 (omega arith)) (e (omega arith))
words-cut (b ∷ []) (suc (suc n)) s l h e = absurd (omega arith)
words-cut (b ∷ c ∷ bs) (suc (suc n)) s l h e =
    let more = words-cut (c ∷ bs) (suc n) (omega arith) (omega arith) (λ k q. h (suc k) (omega arith)) (λ q. e (omega arith)) in
    word_more b (c ∷ bs) (take (suc n) (c ∷ bs)) (words (drop (suc n) (c ∷ bs))) (h 0 (omega arith)) (h 1 (omega arith)) more

-- ---- the first word of a text: blanks, then bytes that are no blanks

pub next-none : (text rest : List ℕ) (n m : ℕ) → n ≤ length text → ((k : ℕ) → k < n → is_blank (get_or text k 0) ≡ true) → (n < length text → is_blank (get_or text n 0) ≡ false)
    → rest ≡ drop n text → m ≡ 0 → (m < length rest → is_blank (get_or rest m 0) ≡ true) → None ≡ cut (words text)
next-none text rest n m l h e r z f = elim (cases_lt n (length text)) [
  | inl less ↦ absurd (
      let more : rest ≡ get_or text n 0 ∷ drop (n + 1) text = r ∙ drop_more text n 0 less in
      let long : 0 < length rest = omega (arith, ap length more) in
      let blank : is_blank (get_or rest 0 0) ≡ true = subst (λ j. is_blank (get_or rest j 0) ≡ true) z (f (omega arith)) in
      let here : is_blank (get_or text n 0) ≡ true = subst (λ xs. is_blank (get_or xs 0 0) ≡ true) more blank in
      false≢true (sym (e less) ∙ here))
  | inr all ↦ sym (ap cut (words-none text (λ k q. h k (omega arith))))
]

pub next-some : (text rest word behind : List ℕ) (n m : ℕ) → n ≤ length text → ((k : ℕ) → k < n → is_blank (get_or text k 0) ≡ true)
    → rest ≡ drop n text → 0 < m → m ≤ length rest → ((k : ℕ) → k < m → is_blank (get_or rest k 0) ≡ false) → (m < length rest → is_blank (get_or rest m 0) ≡ true)
    → word ≡ take m rest → behind ≡ drop m rest → Some (word, words behind) ≡ cut (words text)
next-some text rest word behind n m l h r s b f e w d =
    let split : words text ≡ take m rest ∷ words (drop m rest) = words-skip text n l h ∙ ap words (sym r) ∙ words-cut rest m s b f e in
    (λ i. Some (w i, words (d i))) ∙ sym (ap cut split)

-- ---- digits

pub all-at : (p : ℕ → Bool) (xs : List ℕ) (i : ℕ) → list_all p xs ≡ true → i < length xs → p (get_or xs i 0) ≡ true
all-at p [] i h l = absurd (omega arith)
all-at p (x ∷ xs) zero h l = (both_tests _ _ h).0
all-at p (x ∷ xs) (suc i) h l = all-at p xs i (both_tests _ _ h).1 (omega arith)

value-nothing : (n : ℕ) → value_after n [] ≡ n
unfolding value_after
value-nothing n = refl

pub value-whole : (n i : ℕ) (word : List ℕ) → length word ≤ i → value_after n (drop i word) ≡ n
value-whole n i word l = ap (value_after n) (drop_of_length-le word l) ∙ value-nothing n
