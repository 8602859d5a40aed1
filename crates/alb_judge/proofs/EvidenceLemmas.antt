-- The tables that blocks give have a count for each generator in each type, a place for each generator, and residues.
use Rattle.std.proofs.Common.{◌≡◌, ℕ, ◌+◌, ◌-◌, ◌%◌, ◌<◌, ◌≤◌, Bool, true, false, List, [], ◌∷◌, ◌++◌, length, drop, Option, Some, None, Result, Ok, Err, refl, subst, arith}
use Rattle.std.specs.Prelude.{All, if◌then◌else◌, ◌&&◌, ◌==◌, nat_le, nat_lt, replicate, position, slice_index, codes}
use Rattle.std.proofs.lemmas.Bool.Decides.{nat_tests}
use Rattle.std.proofs.lemmas.List.{length-append, length-replicate}
use Rattle.std.proofs.lemmas.List.Quantifiers.{position-Some}
use Rattle.std.proofs.lemmas.List.Elements.{All-nil, All-push}
use Rattle.alb_lex.specs.Lexing.{tokens_from}
use Rattle.alb_check.specs.Raw.{Raw, IsRaw}
use Rattle.alb_check.specs.declared.raw.RawEntry.{RawEntry}
use Rattle.alb_evidence.specs.Block.{words, is_word, Code, ABadLine, Evidence, NotZero, BlockFault, ◌>>=◌, must_hold, or_bad_line, first_word, no_more, digits, has_minus, number, signed_number, after_number, counts_of_tokens, type_from, is_empty, element_of, letter_number, with_generator, generator_of, entry_from, row_of, table_line, Said, Nothing, Derivation, Table, derivation_of, table_of, block_of, heading_of, pushed, line_from, say, say_line, is_skipped, whole, at_line, closed, go_on, evidence_from, evidence_of}

got : {A B : Type 0} (r : Result A Code) (f : A → Result B Code) (b : B) → (r >>= f) ≡ Ok b → (x : A) × (r ≡ Ok x) × (f x ≡ Ok b)
got (Ok x) f b h = (x, refl, h)
got (Err e) f b h = absurd (cc)

-- a result of a line's reader
abbrev Read : Type 0 → Type 0
Read A = Result A Code

ok-same : {A : Type 0} (x y : A) (r s : Read A) → r ≡ Ok x → s ≡ Ok y → r ≡ s → x ≡ y
ok-same x y r s p q h = cc

kept : (b : Bool) (u : Unit {0}) → must_hold b ≡ Ok u → b ≡ true
kept true u h = refl
kept false u h = absurd (cc)

-- ---- what was said so far

record IsSaidTable (p n : ℕ) (t : Raw) : Type 0 where
  top : length t.top ≡ n
  elements : All (λ e. length e ≡ n) t.elements
  generators : length t.generators ≤ n
  residues : All (λ (e : RawEntry). e.coef < p) t.entries

abbrev IsSaid : ℕ → ℕ → Said → Type 0
IsSaid p n (Table t) = IsSaidTable p n t
IsSaid p n other = Unit {0}

type-long : (n : ℕ) (w y : List ℕ) → type_from n w ≡ Ok y → length y ≡ n
unfolding type_from
type-long n w y h =
    let a = got (or_bad_line (counts_of_tokens (tokens_from false 1 w))) (λ ns. must_hold (length ns == n) >>= λ u. Ok ns) y h in
    let b = got (must_hold (length a.0 == n)) (λ u. Ok a.0) y a.2 in
    let e = ok-same a.0 y (Ok a.0) (Ok y) refl refl b.2 in
    subst (λ (l : List ℕ). length l ≡ n) e (grind (arith, nat_tests, kept (length a.0 == n) b.0 b.1))

residue : (p n : ℕ) → 0 < p → n % p < p
residue p n h = omega (arith, h)

coefficient-small : (p c : ℕ) (w : List ℕ) → 0 < p → signed_number p w ≡ Ok c → c < p
unfolding signed_number
coefficient-small p c w pos h = by (has_minus w) h
  where
    by : (b : Bool) → (if b then (digits (drop 1 w) >>= λ n. Ok ((p - n % p) % p)) else (digits w >>= λ n. Ok (n % p))) ≡ Ok c → c < p
    by true k = let a = got (digits (drop 1 w)) (λ n. Ok ((p - n % p) % p)) c k in let e = ok-same ((p - a.0 % p) % p) c (Ok ((p - a.0 % p) % p)) (Ok c) refl refl a.2 in subst (λ x. x < p) e (residue p (p - a.0 % p) pos)
    by false k = let a = got (digits w) (λ n. Ok (n % p)) c k in let e = ok-same (a.0 % p) c (Ok (a.0 % p)) (Ok c) refl refl a.2 in subst (λ x. x < p) e (residue p a.0 pos)

-- ---- lines

element-said : (p : ℕ) (letters : List ℕ) (t : Raw) (ws : List (List ℕ)) (u : Raw) → IsSaidTable p (length letters) t → element_of letters t ws ≡ Ok u → IsSaidTable p (length letters) u
unfolding element_of
element-said p letters t ws u h is =
    let next : List (List ℕ) → Result Raw Code = λ vs. first_word vs >>= λ y. type_from (length letters) y.0 >>= λ ty. no_more y.1 >>= λ w. Ok (record t { elements = t.elements ++ ty ∷ [] }) in
    let a = got (must_hold (is_empty t.generators && is_empty t.entries)) (λ v. after_number (length t.elements + 1) ws >>= next) u is in
    let b = got (after_number (length t.elements + 1) ws) next u a.2 in
    let c = got (first_word b.0) (λ y. type_from (length letters) y.0 >>= λ ty. no_more y.1 >>= λ w. Ok (record t { elements = t.elements ++ ty ∷ [] })) u b.2 in
    let d = got (type_from (length letters) c.0.0) (λ ty. no_more c.0.1 >>= λ w. Ok (record t { elements = t.elements ++ ty ∷ [] })) u c.2 in
    let e = got (no_more c.0.1) (λ w. Ok (record t { elements = t.elements ++ d.0 ∷ [] })) u d.2 in
    let same = ok-same (record t { elements = t.elements ++ d.0 ∷ [] }) u (Ok (record t { elements = t.elements ++ d.0 ∷ [] })) (Ok u) refl refl e.2 in
    subst (IsSaidTable p (length letters)) same (record {
      top = h.top;
      elements = All-push (λ x. length x ≡ length letters) t.elements d.0 h.elements (type-long (length letters) c.0.0 d.0 d.1);
      generators = h.generators;
      residues = h.residues;
    })

letter_below : (b : Bool) (letters : List ℕ) (x g : ℕ) → (if b then position (λ y. y == x) letters else None) ≡ Some g → g < length letters
letter_below true letters x g h = (position-Some (λ y. y == x) letters g 0 h).0
letter_below false letters x g h = absurd (cc)

or-bad : {A : Type 0} (o : Option A) (x : A) → or_bad_line o ≡ Ok x → o ≡ Some x
or-bad None x h = absurd (cc)
or-bad (Some y) x h = cc

generator-said : (p : ℕ) (letters : List ℕ) (t : Raw) (ws : List (List ℕ)) (u : Raw) → IsSaidTable p (length letters) t → generator_of letters t ws ≡ Ok u → IsSaidTable p (length letters) u
unfolding generator_of
generator-said p letters t ws u h is =
    let last : ℕ → List ℕ × List (List ℕ) → Result Raw Code = λ g y. number y.0 >>= λ k. no_more y.1 >>= λ w. Ok (record t { generators = with_generator t.generators g k }) in
    let next : List ℕ × List (List ℕ) → Result Raw Code = λ x. or_bad_line (letter_number letters x.0) >>= λ g. must_hold (nat_le (length t.generators) g) >>= λ v. first_word x.1 >>= last g in
    let a = got (must_hold (is_empty t.entries)) (λ v. first_word ws >>= next) u is in
    let b = got (first_word ws) next u a.2 in
    let c = got (or_bad_line (letter_number letters b.0.0)) (λ g. must_hold (nat_le (length t.generators) g) >>= λ v. first_word b.0.1 >>= last g) u b.2 in
    let d = got (must_hold (nat_le (length t.generators) c.0)) (λ v. first_word b.0.1 >>= last c.0) u c.2 in
    let e = got (first_word b.0.1) (last c.0) u d.2 in
    let f = got (number e.0.0) (λ k. no_more e.0.1 >>= λ w. Ok (record t { generators = with_generator t.generators c.0 k })) u e.2 in
    let g = got (no_more e.0.1) (λ w. Ok (record t { generators = with_generator t.generators c.0 f.0 })) u f.2 in
    let same = ok-same (record t { generators = with_generator t.generators c.0 f.0 }) u (Ok (record t { generators = with_generator t.generators c.0 f.0 })) (Ok u) refl refl g.2 in
    let low : length t.generators ≤ c.0 = grind (arith, nat_tests, kept (nat_le (length t.generators) c.0) d.0 d.1) in
    let high : c.0 < length letters = letter_below (length b.0.0 == 1) letters (slice_index b.0.0 0) c.0 (or-bad (letter_number letters b.0.0) c.0 c.1) in
    subst (IsSaidTable p (length letters)) same (record {
      top = h.top;
      elements = h.elements;
      generators = omega (
        arith,
        low,
        high,
        length-append t.generators (replicate (c.0 - length t.generators) None ++ Some f.0 ∷ []),
        length-append (replicate (c.0 - length t.generators) None) (Some f.0 ∷ []),
        length-replicate {A = Option ℕ} (c.0 - length t.generators) None,
      );
      residues = h.residues;
    })

entry-said : (p n : ℕ) (t : Raw) (ws : List (List ℕ)) (u : Raw) → 0 < p → IsSaidTable p n t → entry_from p t ws ≡ Ok u → IsSaidTable p n u
unfolding entry_from
entry-said p n t ws u pos h is =
    let made : ℕ → ℕ → ℕ → ℕ → Raw = λ i j k x. record t { entries = t.entries ++ record { left = i; right = j; to = k; coef = x } ∷ [] } in
    let at_d : ℕ → ℕ → ℕ → List ℕ × List (List ℕ) → Result Raw Code = λ i j k d. signed_number p d.0 >>= λ x. no_more d.1 >>= λ w. Ok (made i j k x) in
    let at_c : ℕ → ℕ → List ℕ × List (List ℕ) → Result Raw Code = λ i j c. number c.0 >>= λ k. first_word c.1 >>= at_d i j k in
    let at_b : ℕ → List ℕ × List (List ℕ) → Result Raw Code = λ i b. number b.0 >>= λ j. first_word b.1 >>= at_c i j in
    let at_a : List ℕ × List (List ℕ) → Result Raw Code = λ a. number a.0 >>= λ i. first_word a.1 >>= at_b i in
    let a = got (first_word ws) at_a u is in
    let i = got (number a.0.0) (λ i. first_word a.0.1 >>= at_b i) u a.2 in
    let b = got (first_word a.0.1) (at_b i.0) u i.2 in
    let j = got (number b.0.0) (λ j. first_word b.0.1 >>= at_c i.0 j) u b.2 in
    let c = got (first_word b.0.1) (at_c i.0 j.0) u j.2 in
    let k = got (number c.0.0) (λ k. first_word c.0.1 >>= at_d i.0 j.0 k) u c.2 in
    let d = got (first_word c.0.1) (at_d i.0 j.0 k.0) u k.2 in
    let x = got (signed_number p d.0.0) (λ x. no_more d.0.1 >>= λ w. Ok (made i.0 j.0 k.0 x)) u d.2 in
    let w = got (no_more d.0.1) (λ w. Ok (made i.0 j.0 k.0 x.0)) u x.2 in
    let same = ok-same (made i.0 j.0 k.0 x.0) u (Ok (made i.0 j.0 k.0 x.0)) (Ok u) refl refl w.2 in
    subst (IsSaidTable p n) same (record {
      top = h.top;
      elements = h.elements;
      generators = h.generators;
      residues = All-push (λ (e : RawEntry). e.coef < p) t.entries (record { left = i.0; right = j.0; to = k.0; coef = x.0 }) h.residues (coefficient-small p x.0 d.0.0 pos x.1);
    })

row-said : (p : ℕ) (letters : List ℕ) (t : Raw) (w : List ℕ) (ws : List (List ℕ)) (u : Raw) → 0 < p → IsSaidTable p (length letters) t → row_of p letters t w ws ≡ Ok u → IsSaidTable p (length letters) u
unfolding row_of
row-said p letters t w ws u pos h is = by (is_word (codes "element") w) (is_word (codes "generator") w) (is_word (codes "entry") w) is
  where
    by : (a b c : Bool) → (if a then element_of letters t ws else if b then generator_of letters t ws else if c then entry_from p t ws else Err ABadLine) ≡ Ok u → IsSaidTable p (length letters) u
    by true b c k = element-said p letters t ws u h k
    by false true c k = generator-said p letters t ws u h k
    by false false true k = entry-said p (length letters) t ws u pos h k
    by false false false k = absurd (cc)

table-said : (p : ℕ) (letters : List ℕ) (t : Raw) (ws : List (List ℕ)) (u : Raw) → 0 < p → IsSaidTable p (length letters) t → table_line p letters t ws ≡ Ok u → IsSaidTable p (length letters) u
unfolding table_line
table-said p letters t ws u pos h is =
    let a = got (first_word ws) (λ w. row_of p letters t w.0 w.1) u is in
    row-said p letters t a.0.0 a.0.1 u pos h a.2

top-said : (p : ℕ) (letters : List ℕ) (ws : List (List ℕ)) (s : Said) → table_of letters ws ≡ Ok s → IsSaid p (length letters) s
unfolding table_of
top-said p letters ws s is =
    let made : List ℕ → Raw = λ ty. record { top = ty; elements = []; generators = []; entries = [] } in
    let a = got (first_word ws) (λ y. type_from (length letters) y.0 >>= λ ty. no_more y.1 >>= λ u. Ok (Table (made ty))) s is in
    let b = got (type_from (length letters) a.0.0) (λ ty. no_more a.0.1 >>= λ u. Ok (Table (made ty))) s a.2 in
    let c = got (no_more a.0.1) (λ u. Ok (Table (made b.0))) s b.2 in
    let same = ok-same (Table (made b.0)) s (Ok (Table (made b.0))) (Ok s) refl refl c.2 in
    subst (IsSaid p (length letters)) same (record { top = type-long (length letters) a.0.0 b.0 b.1; elements = All-nil (λ e. length e ≡ length letters); generators = omega arith; residues = All-nil (λ (e : RawEntry). e.coef < p) })

block-said : (p : ℕ) (letters : List ℕ) (w : List ℕ) (ws : List (List ℕ)) (s : Said) → block_of letters w ws ≡ Ok s → IsSaid p (length letters) s
unfolding block_of
block-said p letters w ws s is = by (is_word (codes "derivation") w) (is_word (codes "table") w) is
  where
    by : (a b : Bool) → (if a then derivation_of ws else if b then table_of letters ws else Err ABadLine) ≡ Ok s → IsSaid p (length letters) s
    by true b k = let c = got (no_more ws) (λ u. Ok (Derivation [])) s k in let same = ok-same (Derivation []) s (Ok (Derivation [])) (Ok s) refl refl c.2 in subst (IsSaid p (length letters)) same tt
    by false true k = top-said p letters ws s k
    by false false k = absurd (cc)

heading-said : (p : ℕ) (letters : List ℕ) (ws : List (List ℕ)) (s : Said) → heading_of letters ws ≡ Ok s → IsSaid p (length letters) s
unfolding heading_of
heading-said p letters ws s is =
    let a = got (first_word ws) (λ w. block_of letters w.0 w.1) s is in
    block-said p letters a.0.0 a.0.1 s a.2

say-said : (p : ℕ) (letters : List ℕ) (said next : Said) (ws : List (List ℕ)) → 0 < p → IsSaid p (length letters) said → say p letters said ws ≡ Ok next → IsSaid p (length letters) next
unfolding say
say-said p letters Nothing next ws pos h is = heading-said p letters ws next is
say-said p letters (Derivation ls) next ws pos h is =
    let a = got (pushed ls (line_from p letters (length ls + 1) ws)) (λ ms. Ok (Derivation ms)) next is in
    let same = ok-same (Derivation a.0) next (Ok (Derivation a.0)) (Ok next) refl refl a.2 in
    subst (IsSaid p (length letters)) same tt
say-said p letters (Table t) next ws pos h is =
    let a = got (table_line p letters t ws) (λ u. Ok (Table u)) next is in
    let same = ok-same (Table a.0) next (Ok (Table a.0)) (Ok next) refl refl a.2 in
    subst (IsSaid p (length letters)) same (table-said p letters t ws a.0 pos h a.1)

line-said : (p : ℕ) (letters : List ℕ) (said next : Said) (line : List ℕ) → 0 < p → IsSaid p (length letters) said → say_line p letters said line ≡ Ok next → IsSaid p (length letters) next
line-said p letters said next line pos h is = by (nat_lt 65536 (length line)) is
  where
    by : (b : Bool) → (if b then Err ABadLine else say p letters said (words line)) ≡ Ok next → IsSaid p (length letters) next
    by true k = absurd (cc)
    by false k = say-said p letters said next (words line) pos h k

-- ---- blocks

-- the evidence has this, where it is a table
abbrev IsRawIf : ℕ → ℕ → Result Evidence BlockFault → Type 0
IsRawIf p n (Ok (NotZero t)) = IsRaw p n t
IsRawIf p n other = Unit {0}

whole-raw : (p n k : ℕ) (said : Said) → IsSaid p n said → IsRawIf p n (at_line k (whole n said))
whole-raw p n k Nothing h = tt
whole-raw p n k (Derivation ls) h = tt
whole-raw p n k (Table t) h = record {
  top = h.top;
  elements = h.elements;
  generators = omega (arith, h.generators, length-append t.generators (replicate (n - length t.generators) None), length-replicate {A = Option ℕ} (n - length t.generators) None);
  residues = h.residues;
}

closed-raw : (p n k : ℕ) (said : Said) (has_end : Bool) → IsSaid p n said → IsRawIf p n (closed n k said has_end)
closed-raw p n k said true h = whole-raw p n k said h
closed-raw p n k said false h = tt

goes-raw : (p n k : ℕ) (r : Result Said Code) (more : Said → Result Evidence BlockFault) → ((s : Said) → r ≡ Ok s → IsRawIf p n (more s)) → IsRawIf p n (go_on k r more)
goes-raw p n k (Ok s) more h = h s refl
goes-raw p n k (Err code) more h = tt

skipped-raw : (p n k : ℕ) (skipped : Bool) (r : Result Said Code) (rest : Result Evidence BlockFault) (more : Said → Result Evidence BlockFault) → IsRawIf p n rest → ((s : Said) → r ≡ Ok s → IsRawIf p n (more s))
    → IsRawIf p n (if skipped then rest else go_on k r more)
skipped-raw p n k true r rest more h g = h
skipped-raw p n k false r rest more h g = goes-raw p n k r more g

from-raw : (p : ℕ) (letters : List ℕ) (k : ℕ) (said : Said) (lines : List (List ℕ)) (has_end : Bool) → 0 < p → IsSaid p (length letters) said
    → IsRawIf p (length letters) (evidence_from p letters k said lines has_end)
unfolding evidence_from
from-raw p letters k said [] has_end pos h = closed-raw p (length letters) k said has_end h
from-raw p letters k said (line ∷ lines) has_end pos h =
    skipped-raw p (length letters) k (is_skipped line) (say_line p letters said line) (evidence_from p letters k said lines has_end) (λ next. evidence_from p letters (k + 1) next lines has_end)
    (from-raw p letters k said lines has_end pos h) (λ s is. from-raw p letters (k + 1) s lines has_end pos (line-said p letters said s line pos h is))

-- a table that a block gives is a raw table
pub evidence-raw : (p : ℕ) (letters : List ℕ) (lines : List (List ℕ)) (has_end : Bool) (t : Raw) → 0 < p → evidence_of p letters lines has_end ≡ Ok (NotZero t) → IsRaw p (length letters) t
evidence-raw p letters lines has_end t pos is = subst (IsRawIf p (length letters)) is (from-raw p letters 1 Nothing lines has_end pos tt)
