-- A written type is read as that type.
use Rattle.std.proofs.Common.{◌≡◌, ℕ, ◌+◌, ◌*◌, ◌^◌, ◌<◌, ◌≤◌, true, false, List, [], ◌∷◌, ◌++◌, length, Some, None, Ok, refl, sym, ap, ◌∙◌, subst, append_assoc, arith, length-append}
use Rattle.std.specs.Prelude.{◌==◌, if◌then◌else◌, nat_le}
use Rattle.alb_syntax.specs.Reading.{is_open, is_close}
use Rattle.std.specs.List.{flat_map}
use Rattle.std.specs.Fmt.{decimal}
use Rattle.std.proofs.lemmas.Bool.Decides.{nat_tests}
use Rattle.std.proofs.lemmas.Fmt.{length-decimal-le}
use Rattle.std.proofs.lemmas.List.Concat.{flat_map-cons}
use Rattle.alb_lex.specs.declared.token.Token.{Token}
use Rattle.alb_lex.specs.declared.token.TokenKind.TheVariants as kinds
use Rattle.alb_lex.specs.Lexing.{tokens_from}
use Rattle.alb_print.specs.Text.{type_text}
use Rattle.alb_print.proofs.Counts.{later_count, counts-cons}
use Rattle.alb_print.proofs.Numbers.{spelled-number}
use Rattle.alb_print.proofs.Spelled.{Spelled, spelled-one, spelled-both, spelled-all}
use Rattle.alb_evidence.specs.Block as value
use Rattle.alb_evidence.specs.Block.{later_counts, counts_in, counts_of_tokens, onto_counts, count_in, type_from, or_bad_line}
use Rattle.alb_check.specs.Raw.{AreCounts}
use Rattle.alb_evidence.proofs.Written.{IsWord, are_plain, plain-append, decimal-numeral, numeral-word}

-- what stands after the first count
abbrev closing : List ℕ → List ℕ
closing [] = 41 ∷ []
closing (c ∷ cs) = 44 ∷ (decimal c ++ closing cs)

closing-is : (cs : List ℕ) → flat_map later_count cs ++ 41 ∷ [] ≡ closing cs
closing-is [] = refl
closing-is (c ∷ cs) = ap (λ xs. xs ++ 41 ∷ []) (flat_map-cons later_count c cs) ∙ append_assoc (44 ∷ decimal c) (flat_map later_count cs) (41 ∷ []) ∙ ap (λ xs. 44 ∷ (decimal c ++ xs)) (closing-is cs)

type-is : (c : ℕ) (cs : List ℕ) → type_text (c ∷ cs) ≡ 40 ∷ (decimal c ++ closing cs)
type-is c cs =
    ap (λ xs. 40 ∷ (xs ++ 41 ∷ [])) (sym (counts-cons (c ∷ cs) (omega arith)))
    ∙ ap (λ xs. 40 ∷ xs) (append_assoc (decimal c) (flat_map later_count cs) (41 ∷ []) ∙ ap (λ xs. decimal c ++ xs) (closing-is cs))

-- ---- tokens

close-ends : (t : Token) → t.kind ≡ kinds.Close → later_counts (t ∷ []) ≡ Some []
unfolding later_counts
close-ends t e = ap (λ k. if is_close (Some k) then Some [] else None) e

low_count : (c : ℕ) → c ≤ 255 → nat_le c 255 ≡ true
low_count c h = grind (arith, nat_tests)

count-is : (c : ℕ) → c ≤ 255 → count_in (kinds.Number c) ≡ Some c
count-is c h = rw (low_count c h) refl

later-step : (a t : Token) (us : List Token) (c : ℕ) (cs : List ℕ) → a.kind ≡ kinds.Comma → t.kind ≡ kinds.Number c → c ≤ 255 → later_counts us ≡ Some cs → later_counts (a ∷ t ∷ us) ≡ Some (c ∷ cs)
unfolding later_counts
later-step a t us c cs ea et h eu = (λ i. onto_counts (value.later_count (ea i) (et i)) (eu i)) ∙ ap (λ o. onto_counts o (Some cs)) (count-is c h)

counts-step : (a t : Token) (us : List Token) (c : ℕ) (cs : List ℕ) → a.kind ≡ kinds.Open → t.kind ≡ kinds.Number c → c ≤ 255 → later_counts us ≡ Some cs → counts_in (a ∷ t ∷ us) ≡ Some (c ∷ cs)
unfolding counts_in
counts-step a t us c cs ea et h eu = (λ i. if is_open (Some (ea i)) then onto_counts (count_in (et i)) (eu i) else None) ∙ ap (λ o. onto_counts o (Some cs)) (count-is c h)

-- a count, and counts after it
abbrev Counts : ℕ → List ℕ → List Token → Type 0
Counts c cs ts = (t : Token) × (us : List Token) × (ts ≡ t ∷ us) × (t.kind ≡ kinds.Number c) × (later_counts us ≡ Some cs)

abbrev Sign : kinds.the_data → List Token → Type 0
Sign kind ts = (t : Token) × (ts ≡ t ∷ []) × (t.kind ≡ kind)

small_count : (c : ℕ) → c ≤ 255 → c < 10 ^ 18
small_count c h = omega arith

count-spelled : (c : ℕ) (cs : List ℕ) → c ≤ 255 → Spelled (closing cs) (λ ts. later_counts ts ≡ Some cs) → Spelled (decimal c ++ closing cs) (Counts c cs)
count-spelled c [] h x = spelled-number c (small_count c h) 41 [] refl (λ ts. later_counts ts ≡ Some []) (Counts c []) x (λ t us e q. (t, us, refl, e, q))
count-spelled c (d ∷ cs) h x = spelled-number c (small_count c h) 44 (decimal d ++ closing cs) refl (λ ts. later_counts ts ≡ Some (d ∷ cs)) (Counts c (d ∷ cs)) x (λ t us e q. (t, us, refl, e, q))

closing-spelled : (cs : List ℕ) → AreCounts cs → Spelled (closing cs) (λ ts. later_counts ts ≡ Some cs)
closing-spelled [] h = spelled-one 41 kinds.Close (λ ts. later_counts ts ≡ Some []) refl refl refl close-ends
closing-spelled (c ∷ cs) h =
    spelled-both (44 ∷ []) (decimal c ++ closing cs) (Sign kinds.Comma) (Counts c cs) (λ ts. later_counts ts ≡ Some (c ∷ cs))
    (spelled-one 44 kinds.Comma (Sign kinds.Comma) refl refl refl (λ t e. (t, refl, e))) (count-spelled c cs h.0 (closing-spelled cs h.1))
    (λ us vs a b. (λ i. later_counts (a.1 i ++ b.2 i)) ∙ later-step a.0 b.0 b.1 c cs a.2 b.3 h.0 b.4)

type-spelled : (c : ℕ) (cs : List ℕ) → c ≤ 255 → AreCounts cs → Spelled (40 ∷ (decimal c ++ closing cs)) (λ ts. counts_in ts ≡ Some (c ∷ cs))
type-spelled c cs h k =
    spelled-both (40 ∷ []) (decimal c ++ closing cs) (Sign kinds.Open) (Counts c cs) (λ ts. counts_in ts ≡ Some (c ∷ cs))
    (spelled-one 40 kinds.Open (Sign kinds.Open) refl refl refl (λ t e. (t, refl, e))) (count-spelled c cs h (closing-spelled cs k))
    (λ us vs a b. (λ i. counts_in (a.1 i ++ b.2 i)) ∙ counts-step a.0 b.0 b.1 c cs a.2 b.3 h b.4)

same : (n m : ℕ) → n ≡ m → (n == m) ≡ true
same n m e = grind (arith, nat_tests)

read_tokens : (n : ℕ) (w t : List ℕ) (ts : List Token) → tokens_from false 1 w ≡ Ok ts → counts_in ts ≡ Some t → length t ≡ n → type_from n w ≡ Ok t
unfolding type_from
read_tokens n w t ts e f l = rw (e, f, same (length t) n l) refl

pub type-read : (n : ℕ) (t : List ℕ) → 0 < n → length t ≡ n → AreCounts t → type_from n (type_text t) ≡ Ok t
type-read n [] pos l h = absurd (omega arith)
type-read n (c ∷ cs) pos l h =
    let s = spelled-all (40 ∷ (decimal c ++ closing cs)) (λ ts. counts_in ts ≡ Some (c ∷ cs)) (type-spelled c cs h.0 h.1) 1 in
    read_tokens n (type_text (c ∷ cs)) (c ∷ cs) s.0 (ap (tokens_from false 1) (type-is c cs) ∙ s.2) s.1 l

-- ---- the word

closing-plain : (cs : List ℕ) → AreCounts cs → are_plain (closing cs) ≡ true
closing-plain [] h = refl
closing-plain (c ∷ cs) h = plain-append (44 ∷ decimal c) (closing cs) (numeral-word (decimal c) c (decimal-numeral c (small_count c h.0))).plain (closing-plain cs h.1)

three_digits : (c : ℕ) → c ≤ 255 → length (decimal c) ≤ 3
three_digits c h = length-decimal-le 3 c (omega arith) (omega arith) (omega arith)

closing-short : (cs : List ℕ) → AreCounts cs → length (closing cs) ≤ 4 * length cs + 1
closing-short [] h = omega arith
closing-short (c ∷ cs) h = omega (arith, length-append (decimal c) (closing cs), three_digits c h.0, closing-short cs h.1)

-- a written type is a word, and short
pub record IsTypeWord (n : ℕ) (w : List ℕ) : Type 0 where
  pub word : IsWord w
  pub short : length w ≤ 4 * n + 1

first_word : (n c : ℕ) (cs : List ℕ) → length cs + 1 ≡ n → AreCounts (c ∷ cs) → IsTypeWord n (40 ∷ (decimal c ++ closing cs))
first_word n c cs l h = record {
  word = record { some = omega arith; plain = plain-append (40 ∷ decimal c) (closing cs) (numeral-word (decimal c) c (decimal-numeral c (small_count c h.0))).plain (closing-plain cs h.1) };
  short = omega (arith, l, length-append (decimal c) (closing cs), three_digits c h.0, closing-short cs h.1);
}

pub type-is_word : (n : ℕ) (t : List ℕ) → 0 < n → length t ≡ n → AreCounts t → IsTypeWord n (type_text t)
type-is_word n [] pos l h = absurd (omega arith)
type-is_word n (c ∷ cs) pos l h = subst (IsTypeWord n) (sym (type-is c cs)) (first_word n c cs (omega arith) h)
