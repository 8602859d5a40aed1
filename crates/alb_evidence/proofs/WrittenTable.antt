-- A written table is read as that table.
use Rattle.std.proofs.Common.{◌≡◌, ℕ, ◌+◌, ◌-◌, ◌^◌, ◌<◌, ◌≤◌, true, false, List, [], ◌∷◌, ◌++◌, length, codes, Option, Some, None, Ok, refl, sym, ap, ◌∙◌, subst, append_assoc, arith, length-append}
use Rattle.std.specs.Prelude.{nat_le, slice_index, replicate}
use Rattle.std.specs.List.{flat_map}
use Rattle.std.specs.Fmt.{decimal}
use Rattle.std.proofs.lemmas.Bool.Decides.{nat_tests}
use Rattle.std.proofs.lemmas.Grind.{replicate_next}
use Rattle.std.proofs.lemmas.List.{append-nil, length-replicate}
use Rattle.std.proofs.lemmas.List.Concat.{flat_map-cons}
use Rattle.alb_io.specs.Reader.{HasNoFeed, lines_of}
use Rattle.alb_io.proofs.LineLemmas.{HasNoFeed-append}
use Rattle.alb_mono.proofs.Both.{both_true}
use Rattle.alb_mono.specs.Tree.{AreLetters}
use Rattle.alb_print.specs.Text.{type_text}
use Rattle.alb_check.specs.Raw.{Raw, AreTypes, ArePlaces, AreEntries, IsTableFit}
use Rattle.alb_check.specs.declared.raw.RawEntry.{RawEntry}
use Rattle.alb_evidence.specs.Block.{words, is_end, NotZero, Nothing, Table, evidence_from, say, heading_of, block_of, table_of, table_line, row_of, element_of, generator_of, entry_from, type_from, letter_number, padded, are_skipped, is_comment}
use Rattle.alb_evidence.specs.Reads.{HasNoEnd}
use Rattle.alb_evidence.specs.Accepted.{ReadsBack}
use Rattle.alb_evidence.specs.Laws.{TablesReadBack}
use Rattle.alb_evidence.specs.Texts.{counted, signed_text, typed, element_text, generator_text, entry_text, table_text}
use Rattle.alb_evidence.proofs.BlockLemmas.{says-next}
use Rattle.alb_evidence.proofs.Written.{IsWord, AreWords, spaced, is_plain, decimal-numeral, numeral-word, number-read, signed-is, words-spaced}
use Rattle.alb_evidence.proofs.WrittenLines.{numbered-read, letter-plain}
use Rattle.alb_evidence.proofs.WrittenBlock.{line-first, ends, plain-no_feed, spaced-no_feed}
use Rattle.alb_evidence.proofs.WrittenTypes.{type-read, type-is_word}

-- ---- rows

-- a line of a table
pub record IsRow (line : List ℕ) : Type 0 where
  pub short : length line ≤ 65536
  pub counted : are_skipped (words line) ≡ false
  pub no_end : is_end line ≡ false
  pub no_feed : HasNoFeed line

row-is : (w v : List ℕ) (ws : List (List ℕ)) → IsWord w → is_comment w ≡ false → AreWords (v ∷ ws) → length (w ++ spaced (v ∷ ws)) ≤ 65536 → IsRow (w ++ spaced (v ∷ ws))
row-is w v ws h c k l =
    let cut = words-spaced w (v ∷ ws) h k in
    record {
      short = l;
      counted = ap are_skipped cut ∙ c;
      no_end = ends (w ++ spaced (v ∷ ws)) w v ws cut;
      no_feed = HasNoFeed-append w (spaced (v ∷ ws)) (plain-no_feed w h.plain) (spaced-no_feed (v ∷ ws) k);
    }

-- words with a space before each, and then a line feed
abbrev spaced_feed : List (List ℕ) → List ℕ
spaced_feed [] = 10 ∷ []
spaced_feed (w ∷ ws) = 32 ∷ (w ++ spaced_feed ws)

spaced-feed : (ws : List (List ℕ)) → spaced_feed ws ≡ spaced ws ++ 10 ∷ []
spaced-feed [] = refl
spaced-feed (w ∷ ws) = ap (λ xs. 32 ∷ (w ++ xs)) (spaced-feed ws) ∙ ap (λ xs. 32 ∷ xs) (sym (append_assoc w (spaced ws) (10 ∷ [])))

row-feed : (w : List ℕ) (ws : List (List ℕ)) → w ++ spaced_feed ws ≡ (w ++ spaced ws) ++ 10 ∷ []
row-feed w ws = ap (λ xs. w ++ xs) (spaced-feed ws) ∙ sym (append_assoc w (spaced ws) (10 ∷ []))

counted-cons : {A : Type 0} (f : ℕ → A → List ℕ) (k : ℕ) (x : A) (xs : List A) → counted f k (x ∷ xs) ≡ f k x ++ counted f (k + 1) xs
unfolding counted
counted-cons f k x xs = refl

counted-nil : {A : Type 0} (f : ℕ → A → List ℕ) (k : ℕ) → counted f k [] ≡ []
unfolding counted
counted-nil f k = refl

low : (a b : ℕ) → a ≤ b → nat_le a b ≡ true
low a b h = grind (arith, nat_tests)

-- the generators up to the k-th are named, but for those after the last one with an element
pub record AreNamed (k : ℕ) (named all : List (Option ℕ)) : Type 0 where
  pub few : length named ≤ k
  pub is : named ++ replicate (k - length named) None ≡ all

named-none : (k : ℕ) (g xs : List (Option ℕ)) → AreNamed k g xs → AreNamed (k + 1) g (xs ++ None ∷ [])
named-none k g xs h =
    let more : k + 1 - length g ≡ (k - length g) + 1 = omega (arith, h.few) in
    record {
      few = omega (arith, h.few);
      is = ap (λ n. g ++ replicate n None) more ∙ ap (λ ys. g ++ ys) (replicate_next (k - length g) None) ∙ sym (append_assoc g (replicate (k - length g) None) (None ∷ [])) ∙ ap (λ ys. ys ++ None ∷ []) h.is;
    }

named-some : (k e : ℕ) (g xs : List (Option ℕ)) → AreNamed k g xs → AreNamed (k + 1) (g ++ (replicate (k - length g) None ++ Some e ∷ [])) (xs ++ Some e ∷ [])
named-some k e g xs h =
    let all : g ++ (replicate (k - length g) None ++ Some e ∷ []) ≡ xs ++ Some e ∷ [] = sym (append_assoc g (replicate (k - length g) None) (Some e ∷ [])) ∙ ap (λ ys. ys ++ Some e ∷ []) h.is in
    let nothing : Option ℕ = None in
    let pad = length-replicate (k - length g) nothing in
    let long : length (g ++ (replicate (k - length g) None ++ Some e ∷ [])) ≡ k + 1 =
    omega (arith, h.few, length-append g (replicate (k - length g) None ++ Some e ∷ []), length-append (replicate (k - length g) None) (Some e ∷ []), pad) in
    let none : k + 1 - length (g ++ (replicate (k - length g) None ++ Some e ∷ [])) ≡ 0 = omega (arith, long) in
    record {
      few = omega (arith, long);
      is = ap (λ n. (g ++ (replicate (k - length g) None ++ Some e ∷ [])) ++ replicate n None) none ∙ append-nil (g ++ (replicate (k - length g) None ++ Some e ∷ [])) ∙ all;
    }

entry-short : (a b c d : List ℕ) → length a ≤ 18 → length b ≤ 18 → length c ≤ 18 → length d ≤ 19 → length (codes "entry" ++ spaced (a ∷ b ∷ c ∷ d ∷ [])) ≤ 65536
entry-short a b c d i j k l =
    omega (arith, length-append a (32 ∷ (b ++ 32 ∷ (c ++ 32 ∷ (d ++ [])))), length-append b (32 ∷ (c ++ 32 ∷ (d ++ []))), length-append c (32 ∷ (d ++ [])), length-append d [])

-- the lines with their line feeds
abbrev pub fed : List (List ℕ) → List ℕ
fed [] = []
fed (line ∷ lines) = line ++ 10 ∷ fed lines

module _ (p : ℕ) (letters : List ℕ) where
  -- the lines make one table of another
  abbrev pub RowsRead : List (List ℕ) → Raw → Raw → Type 0
  RowsRead [] t u = t ≡ u
  RowsRead (line ∷ lines) t u = IsRow line × (next : Raw) × (table_line p letters t (words line) ≡ Ok next) × RowsRead lines next u

  -- the text has lines that do
  pub record Section (text : List ℕ) (t u : Raw) : Type 0 where
    pub lines : List (List ℕ)
    pub is : text ≡ fed lines
    pub rows : RowsRead lines t u

  fed-join : (xs ys : List (List ℕ)) → fed (xs ++ ys) ≡ fed xs ++ fed ys
  fed-join [] ys = refl
  fed-join (x ∷ xs) ys = ap (λ zs. x ++ 10 ∷ zs) (fed-join xs ys) ∙ sym (append_assoc x (10 ∷ fed xs) (fed ys))

  rows-join : (xs ys : List (List ℕ)) (t u v : Raw) → RowsRead xs t u → RowsRead ys u v → RowsRead (xs ++ ys) t v
  rows-join [] ys t u v h k = subst (λ (s : Raw). RowsRead ys s v) (sym h) k
  rows-join (x ∷ xs) ys t u v h k = (h.0, h.1, h.2, rows-join xs ys h.1 u v h.3 k)

  pub Section-nothing : (t : Raw) → Section [] t t
  Section-nothing t = record { lines = []; is = refl; rows = refl }

  pub Section-join : (x y : List ℕ) (t u v : Raw) → Section x t u → Section y u v → Section (x ++ y) t v
  Section-join x y t u v a b = record {
    lines = a.lines ++ b.lines;
    is = (λ i. a.is i ++ b.is i) ∙ sym (fed-join a.lines b.lines);
    rows = rows-join a.lines b.lines t u v a.rows b.rows;
  }

  pub Section-row : (text line : List ℕ) (ws : List (List ℕ)) (t u : Raw) → text ≡ line ++ 10 ∷ [] → IsRow line → words line ≡ ws → table_line p letters t ws ≡ Ok u → Section text t u
  Section-row text line ws t u e r w h = record { lines = line ∷ []; is = e; rows = (r, u, ap (table_line p letters t) w ∙ h, refl) }

  -- ---- what rows say

  says-row : (t u : Raw) (ws : List (List ℕ)) → table_line p letters t ws ≡ Ok u → say p letters (Table t) ws ≡ Ok (Table u)
  unfolding say
  says-row t u ws h = rw h refl

  says-end : (t : Raw) (j : ℕ) → evidence_from p letters j (Table t) [] true ≡ Ok (NotZero (padded (length letters) t))
  unfolding evidence_from
  says-end t j = refl

  pub says-rows : (lines : List (List ℕ)) (j : ℕ) (t u : Raw) → RowsRead lines t u → evidence_from p letters j (Table t) lines true ≡ Ok (NotZero (padded (length letters) u))
  says-rows [] j t u h = says-end t j ∙ ap (λ (s : Raw). Ok (NotZero (padded (length letters) s))) h
  says-rows (line ∷ lines) j t u h =
      says-next p letters j (Table t) line lines true (Ok (Table h.1)) h.0.short h.0.counted (says-row t h.1 (words line) h.2) ∙ says-rows lines (j + 1) h.1 u h.3

  pub rows-end : (lines : List (List ℕ)) (t u : Raw) → RowsRead lines t u → HasNoEnd lines
  rows-end [] t u h = tt
  rows-end (line ∷ lines) t u h = (h.0.no_end, rows-end lines h.1 u h.3)

  pub rows-cut : (lines : List (List ℕ)) (t u : Raw) (more : List ℕ) → RowsRead lines t u → lines_of (fed lines ++ more) ≡ lines ++ lines_of more
  rows-cut [] t u more h = refl
  rows-cut (line ∷ lines) t u more h = ap lines_of (append_assoc line (10 ∷ fed lines) more) ∙ line-first line (fed lines ++ more) h.0.no_feed ∙ ap (λ xs. line ∷ xs) (rows-cut lines h.1 u more h.3)

  module _ (small : p < 2 ^ 16) (are : AreLetters letters) (some : 0 < length letters) (few : length letters ≤ 26) where
    -- ---- elements

    abbrev with_elements : List ℕ → List (List ℕ) → Raw
    with_elements top es = record { top = top; elements = es; generators = []; entries = [] }

    element-row : (top : List ℕ) (done : List (List ℕ)) (k : ℕ) (ty : List ℕ) → k ≡ length done + 1 → k < 10 ^ 18 → length ty ≡ length letters → type_from (length letters) (type_text ty) ≡ Ok ty
        → table_line p letters (with_elements top done) (codes "element" ∷ decimal k ∷ type_text ty ∷ []) ≡ Ok (with_elements top (done ++ ty ∷ []))
    unfolding table_line row_of element_of
    element-row top done k ty e h l r = rw (← e, numbered-read k (type_text ty ∷ []) h, r) refl

    element-line : (k : ℕ) (ty : List ℕ) → element_text k ty ≡ (codes "element" ++ spaced (decimal k ∷ type_text ty ∷ [])) ++ 10 ∷ []
    element-line k ty = row-feed (codes "element") (decimal k ∷ type_text ty ∷ [])

    element-section : (top : List ℕ) (done : List (List ℕ)) (k : ℕ) (ty : List ℕ) → k ≡ length done + 1 → k < 10 ^ 18 → AreTypes (length letters) (ty ∷ [])
        → Section (element_text k ty) (with_elements top done) (with_elements top (done ++ ty ∷ []))
    element-section top done k ty e h fit =
        let n = decimal-numeral k h in
        let t = type-is_word (length letters) ty some fit.0 fit.1 in
        let w : IsWord (codes "element") = record { some = omega arith; plain = refl } in
        let ws : AreWords (decimal k ∷ type_text ty ∷ []) = (numeral-word (decimal k) k n, (t.word, tt)) in
        let short : length (codes "element" ++ spaced (decimal k ∷ type_text ty ∷ [])) ≤ 65536 =
        omega (arith, n.few, t.short, length-append (decimal k) (32 ∷ (type_text ty ++ [])), length-append (type_text ty) []) in
        Section-row (element_text k ty) (codes "element" ++ spaced (decimal k ∷ type_text ty ∷ [])) (codes "element" ∷ decimal k ∷ type_text ty ∷ []) (with_elements top done) (with_elements top (done ++ ty ∷ []))
        (element-line k ty) (row-is (codes "element") (decimal k) (type_text ty ∷ []) w refl ws short) (words-spaced (codes "element") (decimal k ∷ type_text ty ∷ []) w ws)
        (element-row top done k ty e h fit.0 (type-read (length letters) ty some fit.0 fit.1))

    elements-section : (top : List ℕ) (done : List (List ℕ)) (k : ℕ) (ts : List (List ℕ)) → k ≡ length done + 1 → k + length ts ≤ 10 ^ 18 → AreTypes (length letters) ts
        → Section (counted element_text k ts) (with_elements top done) (with_elements top (done ++ ts))
    elements-section top done k [] e h fit =
        subst (λ text. Section text (with_elements top done) (with_elements top (done ++ []))) (sym (counted-nil element_text k))
        (subst (λ es. Section [] (with_elements top done) (with_elements top es)) (sym (append-nil done)) (Section-nothing (with_elements top done)))
    elements-section top done k (ty ∷ ts) e h fit =
        let first = element-section top done k ty e (omega arith) (fit.0, fit.1, tt) in
        let later = elements-section top (done ++ ty ∷ []) (k + 1) ts (omega (arith, e, length-append done (ty ∷ []))) (omega arith) fit.2 in
        subst (λ text. Section text (with_elements top done) (with_elements top (done ++ ty ∷ ts))) (sym (counted-cons element_text k ty ts))
        (subst (λ es. Section (element_text k ty ++ counted element_text (k + 1) ts) (with_elements top done) (with_elements top es)) (append_assoc done (ty ∷ []) ts)
        (Section-join (element_text k ty) (counted element_text (k + 1) ts) (with_elements top done) (with_elements top (done ++ ty ∷ [])) (with_elements top ((done ++ ty ∷ []) ++ ts)) first later))

    -- ---- generators

    abbrev with_generators : List ℕ → List (List ℕ) → List (Option ℕ) → Raw
    with_generators top es gs = record { top = top; elements = es; generators = gs; entries = [] }

    letter-found : (g : ℕ) → g < length letters → letter_number letters (slice_index letters g ∷ []) ≡ Some g
    letter-found g l = are.place g l

    generator-row : (top : List ℕ) (es : List (List ℕ)) (gs : List (Option ℕ)) (g e : ℕ) → g < length letters → length gs ≤ g → e < 10 ^ 18
        → table_line p letters (with_generators top es gs) (codes "generator" ∷ (slice_index letters g ∷ []) ∷ decimal e ∷ []) ≡ Ok (with_generators top es (gs ++ (replicate (g - length gs) None ++ Some e ∷ [])))
    unfolding table_line row_of generator_of
    generator-row top es gs g e l h k = rw (letter-found g l, low (length gs) g h, number-read (decimal e) e (decimal-numeral e k)) refl

    generator-section : (top : List ℕ) (es : List (List ℕ)) (gs : List (Option ℕ)) (g e : ℕ) → g < length letters → length gs ≤ g → e < 10 ^ 18
        → Section (generator_text letters g (Some e)) (with_generators top es gs) (with_generators top es (gs ++ (replicate (g - length gs) None ++ Some e ∷ [])))
    generator-section top es gs g e l h k =
        let x = slice_index letters g in
        let n = decimal-numeral e k in
        let w : IsWord (codes "generator") = record { some = omega arith; plain = refl } in
        let letter : IsWord (slice_index letters g ∷ []) = record { some = omega arith; plain = both_true (is_plain (slice_index letters g)) true (letter-plain (slice_index letters g) (are.low g l) (are.high g l)) refl } in
        let ws : AreWords ((slice_index letters g ∷ []) ∷ decimal e ∷ []) = (letter, (numeral-word (decimal e) e n, tt)) in
        let short : length (codes "generator" ++ spaced ((slice_index letters g ∷ []) ∷ decimal e ∷ [])) ≤ 65536 = omega (arith, n.few, length-append (decimal e) []) in
        Section-row (generator_text letters g (Some e)) (codes "generator" ++ spaced ((slice_index letters g ∷ []) ∷ decimal e ∷ [])) (codes "generator" ∷ (slice_index letters g ∷ []) ∷ decimal e ∷ [])
        (with_generators top es gs) (with_generators top es (gs ++ (replicate (g - length gs) None ++ Some e ∷ [])))
        (row-feed (codes "generator") ((slice_index letters g ∷ []) ∷ decimal e ∷ [])) (row-is (codes "generator") (slice_index letters g ∷ []) (decimal e ∷ []) w refl ws short)
        (words-spaced (codes "generator") ((slice_index letters g ∷ []) ∷ decimal e ∷ []) w ws) (generator-row top es gs g e l h k)

    -- the lines of the generators from the k-th on, and what is named then
    pub record Generators (top : List ℕ) (es : List (List ℕ)) (before : List (Option ℕ)) (k n : ℕ) (later all : List (Option ℕ)) : Type 0 where
      pub gs : List (Option ℕ)
      pub named : AreNamed n gs all
      pub section : Section (counted (generator_text letters) k later) (with_generators top es before) (with_generators top es gs)

    generators-section : (top : List ℕ) (es : List (List ℕ)) (gs xs : List (Option ℕ)) (k n : ℕ) (later : List (Option ℕ)) → AreNamed k gs xs → n ≡ k + length later → n ≤ length letters → ArePlaces later
        → Generators top es gs k n later (xs ++ later)
    generators-section top es gs xs k n [] h e l fit = record {
      gs = gs;
      named = subst (λ m. AreNamed m gs (xs ++ [])) (let q : k ≡ n = omega (arith, e) in q) (subst (AreNamed k gs) (sym (append-nil xs)) h);
      section = subst (λ text. Section text (with_generators top es gs) (with_generators top es gs)) (sym (counted-nil (generator_text letters) k)) (Section-nothing (with_generators top es gs));
    }
    generators-section top es gs xs k n (None ∷ later) h e l fit =
        let r = generators-section top es gs (xs ++ None ∷ []) (k + 1) n later (named-none k gs xs h) (omega (arith, e)) l fit in
        record {
          gs = r.gs;
          named = subst (AreNamed n r.gs) (append_assoc xs (None ∷ []) later) r.named;
          section = subst (λ text. Section text (with_generators top es gs) (with_generators top es r.gs)) (sym (counted-cons (generator_text letters) k None later)) r.section;
        }
    generators-section top es gs xs k n (Some e ∷ later) h is l fit =
        let more = gs ++ (replicate (k - length gs) None ++ Some e ∷ []) in
        let r = generators-section top es (gs ++ (replicate (k - length gs) None ++ Some e ∷ [])) (xs ++ Some e ∷ []) (k + 1) n later (named-some k e gs xs h) (omega (arith, is)) l fit.1 in
        let first = generator-section top es gs k e (omega (arith, is, l)) h.few fit.0 in
        record {
          gs = r.gs;
          named = subst (AreNamed n r.gs) (append_assoc xs (Some e ∷ []) later) r.named;
          section = subst (λ text. Section text (with_generators top es gs) (with_generators top es r.gs)) (sym (counted-cons (generator_text letters) k (Some e) later))
              (Section-join (generator_text letters k (Some e)) (counted (generator_text letters) (k + 1) later) (with_generators top es gs) (with_generators top es (gs ++ (replicate (k - length gs) None ++ Some e ∷ []))) (with_generators top es r.gs) first r.section);
        }

    -- ---- entries

    abbrev with_entries : List ℕ → List (List ℕ) → List (Option ℕ) → List RawEntry → Raw
    with_entries top es gs xs = record { top = top; elements = es; generators = gs; entries = xs }

    entry-row : (top : List ℕ) (es : List (List ℕ)) (gs : List (Option ℕ)) (done : List RawEntry) (e : RawEntry) → e.left < 10 ^ 18 → e.right < 10 ^ 18 → e.to < 10 ^ 18 → e.coef < p
        → table_line p letters (with_entries top es gs done) (codes "entry" ∷ decimal e.left ∷ decimal e.right ∷ decimal e.to ∷ signed_text p e.coef ∷ []) ≡ Ok (with_entries top es gs (done ++ e ∷ []))
    unfolding table_line row_of entry_from
    entry-row top es gs done e a b c d =
        rw (number-read (decimal e.left) e.left (decimal-numeral e.left a), number-read (decimal e.right) e.right (decimal-numeral e.right b), number-read (decimal e.to) e.to (decimal-numeral e.to c), (signed-is p e.coef d small).read) refl

    entry-section : (top : List ℕ) (es : List (List ℕ)) (gs : List (Option ℕ)) (done : List RawEntry) (e : RawEntry) → e.left < 10 ^ 18 → e.right < 10 ^ 18 → e.to < 10 ^ 18 → e.coef < p
        → Section (entry_text p e) (with_entries top es gs done) (with_entries top es gs (done ++ e ∷ []))
    entry-section top es gs done e a b c d =
        let i = decimal-numeral e.left a in
        let j = decimal-numeral e.right b in
        let k = decimal-numeral e.to c in
        let s = signed-is p e.coef d small in
        let w : IsWord (codes "entry") = record { some = omega arith; plain = refl } in
        let ws : AreWords (decimal e.left ∷ decimal e.right ∷ decimal e.to ∷ signed_text p e.coef ∷ []) =
        (numeral-word (decimal e.left) e.left i, (numeral-word (decimal e.right) e.right j, (numeral-word (decimal e.to) e.to k, (s.word, tt)))) in
        let short = entry-short (decimal e.left) (decimal e.right) (decimal e.to) (signed_text p e.coef) i.few j.few k.few s.short in
        Section-row (entry_text p e) (codes "entry" ++ spaced (decimal e.left ∷ decimal e.right ∷ decimal e.to ∷ signed_text p e.coef ∷ [])) (codes "entry" ∷ decimal e.left ∷ decimal e.right ∷ decimal e.to ∷ signed_text p e.coef ∷ [])
        (with_entries top es gs done) (with_entries top es gs (done ++ e ∷ []))
        (row-feed (codes "entry") (decimal e.left ∷ decimal e.right ∷ decimal e.to ∷ signed_text p e.coef ∷ []))
        (row-is (codes "entry") (decimal e.left) (decimal e.right ∷ decimal e.to ∷ signed_text p e.coef ∷ []) w refl ws short)
        (words-spaced (codes "entry") (decimal e.left ∷ decimal e.right ∷ decimal e.to ∷ signed_text p e.coef ∷ []) w ws) (entry-row top es gs done e a b c d)

    entries-section : (top : List ℕ) (es : List (List ℕ)) (gs : List (Option ℕ)) (done xs : List RawEntry) → AreEntries p xs
        → Section (flat_map (entry_text p) xs) (with_entries top es gs done) (with_entries top es gs (done ++ xs))
    entries-section top es gs done [] fit = subst (λ ys. Section [] (with_entries top es gs done) (with_entries top es gs ys)) (sym (append-nil done)) (Section-nothing (with_entries top es gs done))
    entries-section top es gs done (e ∷ xs) fit =
        let first = entry-section top es gs done e fit.0 fit.1 fit.2 fit.3 in
        let later = entries-section top es gs (done ++ e ∷ []) xs fit.4 in
        subst (λ text. Section text (with_entries top es gs done) (with_entries top es gs (done ++ e ∷ xs))) (sym (flat_map-cons (entry_text p) e xs))
        (subst (λ ys. Section (entry_text p e ++ flat_map (entry_text p) xs) (with_entries top es gs done) (with_entries top es gs ys)) (append_assoc done (e ∷ []) xs)
        (Section-join (entry_text p e) (flat_map (entry_text p) xs) (with_entries top es gs done) (with_entries top es gs (done ++ e ∷ [])) (with_entries top es gs ((done ++ e ∷ []) ++ xs)) first later))

    -- ---- the block

    heading : (top : List ℕ) → type_from (length letters) (type_text top) ≡ Ok top → say p letters Nothing (codes "table" ∷ type_text top ∷ []) ≡ Ok (Table (with_elements top []))
    unfolding say heading_of block_of table_of
    heading top h = rw h refl

    -- the line of the top type, and the lines after it
    abbrev first_line : List ℕ → List ℕ
    first_line top = codes "table" ++ spaced (type_text top ∷ [])

    behind : (a b c d : List ℕ) → a ++ (b ++ (c ++ d)) ≡ ((a ++ b) ++ c) ++ d
    behind a b c d = sym (append_assoc a b (c ++ d)) ∙ sym (append_assoc (a ++ b) c d)

    first-text : (top more : List ℕ) → codes "table" ++ (typed top ++ more) ≡ first_line top ++ 10 ∷ more
    first-text top more =
        sym (append_assoc (codes "table") (typed top) more) ∙ ap (λ xs. xs ++ more) (row-feed (codes "table") (type_text top ∷ [])) ∙ append_assoc (first_line top) (10 ∷ []) more

    none-named : AreNamed 0 [] []
    none-named = record { few = omega arith; is = refl }

    pub table-reads : (t : Raw) → IsTableFit p (length letters) t → ReadsBack p letters (table_text p letters t) (NotZero t)
    table-reads t fit =
        let top = t.top in
        let es = t.elements in
        let named = generators-section t.top t.elements [] [] 0 (length letters) t.generators none-named (omega (arith, fit.places)) (omega arith) fit.generators in
        let elements = elements-section t.top [] 1 t.elements refl (omega (arith, fit.few)) fit.elements in
        let entries = entries-section t.top t.elements named.gs [] t.entries fit.entries in
        let texts = Section-join (counted element_text 1 t.elements) (counted (generator_text letters) 0 t.generators) (with_elements t.top []) (with_elements t.top t.elements) (with_generators t.top t.elements named.gs) elements named.section in
        let whole = Section-join (counted element_text 1 t.elements ++ counted (generator_text letters) 0 t.generators) (flat_map (entry_text p) t.entries) (with_elements t.top []) (with_generators t.top t.elements named.gs) (with_entries t.top t.elements named.gs t.entries) texts entries in
        let ty = type-is_word (length letters) t.top some fit.top.0 fit.top.1 in
        let w : IsWord (codes "table") = record { some = omega arith; plain = refl } in
        let ws : AreWords (type_text t.top ∷ []) = (ty.word, tt) in
        let short : length (codes "table" ++ spaced (type_text t.top ∷ [])) ≤ 65536 = omega (arith, ty.short, length-append (type_text t.top) []) in
        let row = row-is (codes "table") (type_text t.top) [] w refl ws short in
        let split = words-spaced (codes "table") (type_text t.top ∷ []) w ws in
        let rest : counted element_text 1 t.elements ++ (counted (generator_text letters) 0 t.generators ++ (flat_map (entry_text p) t.entries ++ codes "end\n")) ≡ fed whole.lines ++ codes "end\n" =
        behind (counted element_text 1 t.elements) (counted (generator_text letters) 0 t.generators) (flat_map (entry_text p) t.entries) (codes "end\n") ∙ ap (λ xs. xs ++ codes "end\n") whole.is in
        record {
          lines = first_line t.top ∷ whole.lines;
          cut = ap lines_of (first-text t.top (counted element_text 1 t.elements ++ (counted (generator_text letters) 0 t.generators ++ (flat_map (entry_text p) t.entries ++ codes "end\n"))) ∙ ap (λ xs. first_line t.top ++ 10 ∷ xs) rest)
              ∙ line-first (first_line t.top) (fed whole.lines ++ codes "end\n") row.no_feed
              ∙ ap (λ xs. first_line t.top ∷ xs) (rows-cut whole.lines (with_elements t.top []) (with_entries t.top t.elements named.gs t.entries) (codes "end\n") whole.rows);
          no_end = (row.no_end, rows-end whole.lines (with_elements t.top []) (with_entries t.top t.elements named.gs t.entries) whole.rows);
          says = says-next p letters 1 Nothing (first_line t.top) whole.lines true (Ok (Table (with_elements t.top []))) row.short row.counted
              (ap (say p letters Nothing) split ∙ heading t.top (type-read (length letters) t.top some fit.top.0 fit.top.1))
              ∙ says-rows whole.lines 2 (with_elements t.top []) (with_entries t.top t.elements named.gs t.entries) whole.rows
              ∙ ap (λ gs. Ok (NotZero (record { top = t.top; elements = t.elements; generators = gs; entries = t.entries }))) named.named.is;
        }

pub tables-read_back : TablesReadBack
tables-read_back p letters t one small are some few fit = table-reads p letters small are some few t fit
