-- The words of a written line say that line.
use Rattle.std.proofs.Common.{◌≡◌, ℕ, ◌+◌, ◌^◌, ◌<◌, ◌≤◌, Bool, true, false, List, [], ◌∷◌, ◌++◌, length, map, codes, Ok, refl, sym, ap, ◌∙◌, arith, length-append}
use Rattle.std.specs.Prelude.{◌==◌, slice_index}
use Rattle.std.specs.List.{flat_map}
use Rattle.std.specs.Fmt.{decimal}
use Rattle.std.proofs.lemmas.Bool.Decides.{nat_tests}
use Rattle.std.proofs.lemmas.List.{append-nil}
use Rattle.std.proofs.lemmas.List.Concat.{flat_map-cons}
use Rattle.alb_mono.proofs.Both.{both_tests, both_true}
use Rattle.alb_mono.specs.Tree.{AreLetters, Tree, leaf, node, degree, are_below}
use Rattle.alb_mono.specs.declared.side.Side.{Side}
use Rattle.alb_mono.specs.declared.side.Side.TheVariants.{Left, Right}
use Rattle.alb_print.specs.Text.{mono_text, named}
use Rattle.alb_print.proofs.Monomials.{below_from}
use Rattle.alb_print.proofs.Spellings.{monomials-spell_themselves}
use Rattle.alb_deriv.specs.Derivation.{Line, Instance, Times, Sum, AreMonos, AreSumItems}
use Rattle.alb_evidence.specs.Block.{words, mono_from, monos_from, mono_of_tokens, spelled, items, instance_of, times_of, sum_from, kind_of, after_number, line_from}
use Rattle.alb_evidence.specs.Limits.{IsLineFit}
use Rattle.alb_evidence.specs.Texts.{spaced_mono, side_text, item_text, kind_text}
use Rattle.alb_evidence.proofs.Written.{IsWord, AreWords, spaced, are_plain, is_plain, plain-append, decimal-numeral, numeral-word, number-read, item_word, item-read, item-is_word, words-spaced}

-- ---- monomials

pub mono-read : (letters : List ℕ) (m : Tree) → AreLetters letters → are_below (length letters) m ≡ true → degree m ≤ 64 → mono_from letters (mono_text letters false m) ≡ Ok m
mono-read letters m are below small =
    let t = monomials-spell_themselves letters m are below small 1 in
    ap (mono_of_tokens letters (length (mono_text letters false m) + 1)) t.1 ∙ ap spelled (t.2 (length (mono_text letters false m) + 1))

pub letter-plain : (b : ℕ) → 97 ≤ b → b ≤ 122 → is_plain b ≡ true
letter-plain b low high = grind (arith, nat_tests)

mono-plain : (letters : List ℕ) (inner : Bool) (m : Tree) → AreLetters letters → are_below (length letters) m ≡ true → are_plain (mono_text letters inner m) ≡ true
mono-plain letters inner (leaf k) are below =
    let l = below_from k (length letters) below in
    both_true (is_plain (slice_index letters k)) true (letter-plain (slice_index letters k) (are.low k l) (are.high k l)) refl
mono-plain letters true (node l r) are below =
    let b = both_tests (are_below (length letters) l) (are_below (length letters) r) below in
    plain-append (mono_text letters true l ++ mono_text letters true r) (41 ∷ [])
    (plain-append (mono_text letters true l) (mono_text letters true r) (mono-plain letters true l are b.0) (mono-plain letters true r are b.1)) refl
mono-plain letters false (node l r) are below =
    let b = both_tests (are_below (length letters) l) (are_below (length letters) r) below in
    plain-append (mono_text letters true l) (mono_text letters true r) (mono-plain letters true l are b.0) (mono-plain letters true r are b.1)

mono-some : (letters : List ℕ) (inner : Bool) (m : Tree) → 0 < length (mono_text letters inner m)
mono-some letters inner (leaf k) = omega arith
mono-some letters true (node l r) = omega arith
mono-some letters false (node l r) = omega (arith, length-append (mono_text letters true l) (mono_text letters true r), mono-some letters true l)

pub mono-is_word : (letters : List ℕ) (m : Tree) → AreLetters letters → are_below (length letters) m ≡ true → IsWord (mono_text letters false m)
mono-is_word letters m are below = record { some = mono-some letters false m; plain = mono-plain letters false m are below }

monos-read : (letters : List ℕ) (ms : List Tree) → AreLetters letters → AreMonos (length letters) ms → monos_from letters (map (mono_text letters false) ms) ≡ Ok ms
monos-read letters [] are h = refl
monos-read letters (m ∷ ms) are h = rw (mono-read letters m are h.0 h.1, monos-read letters ms are h.2) refl

monos-words : (letters : List ℕ) (ms : List Tree) → AreLetters letters → AreMonos (length letters) ms → AreWords (map (mono_text letters false) ms)
monos-words letters [] are h = tt
monos-words letters (m ∷ ms) are h = (mono-is_word letters m are h.0, monos-words letters ms are h.2)

monos-spaced : (letters : List ℕ) (ms : List Tree) → flat_map (spaced_mono letters) ms ≡ spaced (map (mono_text letters false) ms)
monos-spaced letters [] = refl
monos-spaced letters (m ∷ ms) = flat_map-cons (spaced_mono letters) m ms ∙ ap (λ xs. 32 ∷ (mono_text letters false m ++ xs)) (monos-spaced letters ms)

-- ---- items

items-read : (p : ℕ) (cs : List (ℕ × ℕ)) → p < 2 ^ 16 → AreSumItems p cs → items p (map (item_word p) cs) ≡ Ok cs
items-read p [] small h = refl
items-read p (c ∷ cs) small h = rw (item-read p c h.0 h.1 small, items-read p cs small h.2) refl

items-words : (p : ℕ) (cs : List (ℕ × ℕ)) → p < 2 ^ 16 → AreSumItems p cs → AreWords (map (item_word p) cs)
items-words p [] small h = tt
items-words p (c ∷ cs) small h = (item-is_word p c h.0 h.1 small, items-words p cs small h.2)

items-spaced : (p : ℕ) (cs : List (ℕ × ℕ)) → flat_map (item_text p) cs ≡ spaced (map (item_word p) cs)
items-spaced p [] = refl
items-spaced p (c ∷ cs) = flat_map-cons (item_text p) c cs ∙ ap (λ xs. 32 ∷ (item_word p c ++ xs)) (items-spaced p cs)

-- ---- what a line is

abbrev pub side_word : Side → List ℕ
side_word Left = codes "left"
side_word Right = codes "right"

abbrev pub head : Line → List ℕ
head (Instance i ms) = codes "instance"
head (Times k m) = codes "times"
head (Sum cs) = codes "sum"

abbrev pub tail : ℕ → List ℕ → Line → List (List ℕ)
tail p letters (Instance i ms) = decimal i ∷ map (mono_text letters false) ms
tail p letters (Times k m) = decimal k ∷ side_word m.0 ∷ mono_text letters false m.1 ∷ []
tail p letters (Sum cs) = map (item_word p) cs

side-spaced : (d : Side) (xs : List ℕ) → side_text d ++ xs ≡ 32 ∷ (side_word d ++ 32 ∷ (xs ++ []))
side-spaced Left xs = ap (λ ys. codes " left " ++ ys) (sym (append-nil xs))
side-spaced Right xs = ap (λ ys. codes " right " ++ ys) (sym (append-nil xs))

pub kind-spaced : (p : ℕ) (letters : List ℕ) (l : Line) → kind_text p letters l ≡ spaced (head l ∷ tail p letters l)
kind-spaced p letters (Instance i ms) = ap (λ xs. named (codes " instance ") i ++ xs) (monos-spaced letters ms)
kind-spaced p letters (Times k m) = ap (λ xs. named (codes " times ") k ++ xs) (side-spaced m.0 (mono_text letters false m.1))
kind-spaced p letters (Sum cs) = ap (λ xs. codes " sum" ++ xs) (items-spaced p cs)

side-word : (d : Side) → IsWord (side_word d)
side-word Left = record { some = omega arith; plain = refl }
side-word Right = record { some = omega arith; plain = refl }

pub kind-words : (p : ℕ) (letters : List ℕ) (l : Line) → p < 2 ^ 16 → AreLetters letters → IsLineFit p (length letters) l → AreWords (head l ∷ tail p letters l)
kind-words p letters (Instance i ms) small are h = (record { some = omega arith; plain = refl }, (numeral-word (decimal i) i (decimal-numeral i h.0), monos-words letters ms are h.1))
kind-words p letters (Times k m) small are h =
    (record { some = omega arith; plain = refl }, (numeral-word (decimal k) k (decimal-numeral k h.0), (side-word m.0, (mono-is_word letters m.1 are h.1, tt))))
kind-words p letters (Sum cs) small are h = (record { some = omega arith; plain = refl }, items-words p cs small h)

times-read : (letters : List ℕ) (k : ℕ) (d : Side) (m : Tree) → AreLetters letters → k < 10 ^ 18 → are_below (length letters) m ≡ true → degree m ≤ 64
    → times_of letters (decimal k ∷ side_word d ∷ mono_text letters false m ∷ []) ≡ Ok (Times k (d, m))
unfolding times_of
times-read letters k Left m are h below small = rw (number-read (decimal k) k (decimal-numeral k h), mono-read letters m are below small) refl
times-read letters k Right m are h below small = rw (number-read (decimal k) k (decimal-numeral k h), mono-read letters m are below small) refl

instance-read : (letters : List ℕ) (i : ℕ) (ms : List Tree) → AreLetters letters → i < 10 ^ 18 → AreMonos (length letters) ms
    → instance_of letters (decimal i ∷ map (mono_text letters false) ms) ≡ Ok (Instance i ms)
unfolding instance_of
instance-read letters i ms are h fit = rw (number-read (decimal i) i (decimal-numeral i h), monos-read letters ms are fit) refl

sum-read : (p : ℕ) (cs : List (ℕ × ℕ)) → p < 2 ^ 16 → AreSumItems p cs → sum_from p (map (item_word p) cs) ≡ Ok (Sum cs)
unfolding sum_from
sum-read p cs small fit = rw (items-read p cs small fit) refl

kind-read : (p : ℕ) (letters : List ℕ) (l : Line) → p < 2 ^ 16 → AreLetters letters → IsLineFit p (length letters) l → kind_of p letters (head l) (tail p letters l) ≡ Ok l
unfolding kind_of
kind-read p letters (Instance i ms) small are h = instance-read letters i ms are h.0 h.1
kind-read p letters (Times k m) small are h = times-read letters k m.0 m.1 are h.0 h.1 h.2
kind-read p letters (Sum cs) small are h = sum-read p cs small h

-- ---- a line

-- the bytes of a line
abbrev pub line_bytes : ℕ → List ℕ → ℕ → Line → List ℕ
line_bytes p letters k l = decimal k ++ kind_text p letters l

same : (k : ℕ) → (k == k) ≡ true
same k = grind (arith, nat_tests)

pub line-words : (p : ℕ) (letters : List ℕ) (k : ℕ) (l : Line) → p < 2 ^ 16 → AreLetters letters → k < 10 ^ 18 → IsLineFit p (length letters) l
    → words (line_bytes p letters k l) ≡ decimal k ∷ head l ∷ tail p letters l
line-words p letters k l small are h fit =
    ap (λ xs. words (decimal k ++ xs)) (kind-spaced p letters l)
    ∙ words-spaced (decimal k) (head l ∷ tail p letters l) (numeral-word (decimal k) k (decimal-numeral k h)) (kind-words p letters l small are fit)

pub numbered-read : (k : ℕ) (ws : List (List ℕ)) → k < 10 ^ 18 → after_number k (decimal k ∷ ws) ≡ Ok ws
unfolding after_number
numbered-read k ws h = rw (number-read (decimal k) k (decimal-numeral k h), same k) refl

pub line-read : (p : ℕ) (letters : List ℕ) (k : ℕ) (l : Line) → p < 2 ^ 16 → AreLetters letters → k < 10 ^ 18 → IsLineFit p (length letters) l
    → line_from p letters k (words (line_bytes p letters k l)) ≡ Ok l
unfolding line_from
line-read p letters k l small are h fit =
    rw (line-words p letters k l small are h fit, numbered-read k (head l ∷ tail p letters l) h) (kind-read p letters l small are fit)
