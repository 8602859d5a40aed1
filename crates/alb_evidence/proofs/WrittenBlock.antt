-- A written derivation is read as that derivation.
use Rattle.std.proofs.Common.{◌≡◌, ◌≢◌, ℕ, ◌+◌, ◌^◌, ◌<◌, ◌≤◌, Bool, true, false, List, [], ◌∷◌, ◌++◌, length, codes, Ok, refl, sym, ap, ◌∙◌, subst, append_assoc, arith, length-append}
use Rattle.std.specs.Prelude.{◌&&◌, ◌==◌, nat_le}
use Rattle.std.specs.Fmt.{decimal}
use Rattle.std.proofs.lemmas.Bool.{false≢true}
use Rattle.std.proofs.lemmas.Bool.Decides.{nat_tests}
use Rattle.std.proofs.lemmas.List.{append-nil}
use Rattle.alb_io.specs.Reader.{HasNoFeed, lines_of, onto_first}
use Rattle.alb_io.proofs.LineLemmas.{HasNoFeed-append}
use Rattle.alb_mono.proofs.Both.{both_tests}
use Rattle.alb_mono.specs.Tree.{AreLetters}
use Rattle.alb_deriv.specs.Derivation.{Line}
use Rattle.alb_evidence.specs.Block.{words, is_end, are_end, Zero, Nothing, Derivation, evidence_from, line_from, say, heading_of, block_of, are_skipped}
use Rattle.alb_evidence.specs.Reads.{HasNoEnd}
use Rattle.alb_evidence.specs.Accepted.{ReadsBack}
use Rattle.alb_evidence.specs.Laws.{DerivationsReadBack}
use Rattle.alb_evidence.specs.Limits.{IsLineFit, AreLinesFit}
use Rattle.alb_evidence.specs.Texts.{counted, kind_text, line_text, lines_text}
use Rattle.alb_evidence.proofs.BlockLemmas.{says-next}
use Rattle.alb_evidence.proofs.Written.{AreWords, numeral-no_comment, spaced, are_plain, is_plain, decimal-numeral, numeral-word}
use Rattle.alb_evidence.proofs.WrittenLines.{line_bytes, line-words, line-read, head, tail, kind-spaced, kind-words}

-- ---- lines

plain_feed : (b : ℕ) → is_plain b ≡ true → b ≢ 10
plain_feed b h e = absurd (let q : is_plain 10 ≡ true = subst (λ x. is_plain x ≡ true) e h in false≢true q)

pub plain-no_feed : (w : List ℕ) → are_plain w ≡ true → HasNoFeed w
plain-no_feed [] h = tt
plain-no_feed (b ∷ w) h = (plain_feed b (both_tests _ _ h).0, plain-no_feed w (both_tests _ _ h).1)

pub spaced-no_feed : (ws : List (List ℕ)) → AreWords ws → HasNoFeed (spaced ws)
spaced-no_feed [] h = tt
spaced-no_feed (w ∷ ws) h = ((λ e. absurd (omega arith)), HasNoFeed-append w (spaced ws) (plain-no_feed w h.0.plain) (spaced-no_feed ws h.1))

bytes-no_feed : (p : ℕ) (letters : List ℕ) (k : ℕ) (l : Line) → p < 2 ^ 16 → AreLetters letters → k < 10 ^ 18 → IsLineFit p (length letters) l → HasNoFeed (line_bytes p letters k l)
bytes-no_feed p letters k l small are h fit =
    HasNoFeed-append (decimal k) (kind_text p letters l) (plain-no_feed (decimal k) (numeral-word (decimal k) k (decimal-numeral k h)).plain)
    (subst HasNoFeed (sym (kind-spaced p letters l)) (spaced-no_feed (head l ∷ tail p letters l) (kind-words p letters l small are fit)))

other_byte : (b : ℕ) → b ≢ 10 → (b == 10) ≡ false
other_byte b h = grind (arith, nat_tests)

pub line-first : (line more : List ℕ) → HasNoFeed line → lines_of (line ++ 10 ∷ more) ≡ line ∷ lines_of more
line-first [] more h = refl
line-first (b ∷ line) more h = rw (other_byte b h.0) (ap (onto_first b) (line-first line more h.1))

not_both : (b : Bool) → (b && false) ≡ false
not_both true = refl
not_both false = refl

pub ends : (line w v : List ℕ) (ws : List (List ℕ)) → words line ≡ w ∷ v ∷ ws → is_end line ≡ false
ends line w v ws e = ap (λ xs. nat_le (length line) 65536 && are_end xs) e ∙ not_both (nat_le (length line) 65536)

-- the lines of a derivation, counted on from k
abbrev pub written : ℕ → List ℕ → ℕ → List Line → List (List ℕ)
written p letters k [] = []
written p letters k (l ∷ ls) = line_bytes p letters k l ∷ written p letters (k + 1) ls

counted-cons : (f : ℕ → Line → List ℕ) (k : ℕ) (x : Line) (xs : List Line) → counted f k (x ∷ xs) ≡ f k x ++ counted f (k + 1) xs
unfolding counted
counted-cons f k x xs = refl

counted-nil : (f : ℕ → Line → List ℕ) (k : ℕ) → counted f k [] ≡ []
unfolding counted
counted-nil f k = refl

line-feed : (p : ℕ) (letters : List ℕ) (k : ℕ) (l : Line) → line_text p letters k l ≡ line_bytes p letters k l ++ 10 ∷ []
line-feed p letters k l = sym (append_assoc (decimal k) (kind_text p letters l) (10 ∷ []))

module _ (p : ℕ) (letters : List ℕ) (small : p < 2 ^ 16) (are : AreLetters letters) where
  cuts : (k : ℕ) (ls : List Line) → AreLinesFit p letters k ls → lines_of (counted (line_text p letters) k ls ++ codes "end\n") ≡ written p letters k ls ++ codes "end" ∷ []
  cuts k [] fit = ap (λ xs. lines_of (xs ++ codes "end\n")) (counted-nil (line_text p letters) k)
  cuts k (l ∷ ls) fit =
      let rest = counted (line_text p letters) (k + 1) ls in
      let line = line_bytes p letters k l in
      let first : counted (line_text p letters) k (l ∷ ls) ++ codes "end\n" ≡ line ++ 10 ∷ (rest ++ codes "end\n") =
      ap (λ xs. xs ++ codes "end\n") (counted-cons (line_text p letters) k l ls ∙ ap (λ xs. xs ++ rest) (line-feed p letters k l) ∙ append_assoc line (10 ∷ []) rest)
      ∙ append_assoc line (10 ∷ rest) (codes "end\n") in
      ap lines_of first ∙ line-first line (rest ++ codes "end\n") (bytes-no_feed p letters k l small are fit.0 fit.1) ∙ ap (λ xs. line ∷ xs) (cuts (k + 1) ls fit.3)

  no_end : (k : ℕ) (ls : List Line) → AreLinesFit p letters k ls → HasNoEnd (written p letters k ls)
  no_end k [] fit = tt
  no_end k (l ∷ ls) fit = (ends (line_bytes p letters k l) (decimal k) (head l) (tail p letters l) (line-words p letters k l small are fit.0 fit.1), no_end (k + 1) ls fit.3)

  -- ---- what they say

  says-derivation : (done : List Line) (k : ℕ) (l : Line) (ws : List (List ℕ)) → k ≡ length done + 1 → line_from p letters k ws ≡ Ok l → say p letters (Derivation done) ws ≡ Ok (Derivation (done ++ l ∷ []))
  unfolding say
  says-derivation done k l ws e h = rw (← e, h) refl

  says-end : (done : List Line) (j : ℕ) → evidence_from p letters j (Derivation done) [] true ≡ Ok (Zero done)
  unfolding evidence_from
  says-end done j = refl

  short_bytes : (k : ℕ) (l : Line) → length (line_text p letters k l) ≤ 65537 → length (line_bytes p letters k l) ≤ 65536
  short_bytes k l h = omega (arith, ap length (line-feed p letters k l), length-append (line_bytes p letters k l) (10 ∷ []), h)

  counted_line : (k : ℕ) (l : Line) → k < 10 ^ 18 → IsLineFit p (length letters) l → are_skipped (words (line_bytes p letters k l)) ≡ false
  counted_line k l h fit = ap are_skipped (line-words p letters k l small are h fit) ∙ numeral-no_comment (decimal k) k (decimal-numeral k h)

  says : (done : List Line) (j k : ℕ) (ls : List Line) → k ≡ length done + 1 → AreLinesFit p letters k ls → evidence_from p letters j (Derivation done) (written p letters k ls) true ≡ Ok (Zero (done ++ ls))
  says done j k [] e fit = says-end done j ∙ ap (λ (xs : List Line). Ok (Zero xs)) (sym (append-nil done))
  says done j k (l ∷ ls) e fit =
      let line = line_bytes p letters k l in
      let said = says-derivation done k l (words line) e (line-read p letters k l small are fit.0 fit.1) in
      let next : k + 1 ≡ length (done ++ l ∷ []) + 1 = omega (arith, e, length-append done (l ∷ [])) in
      says-next p letters j (Derivation done) line (written p letters (k + 1) ls) true (Ok (Derivation (done ++ l ∷ []))) (short_bytes k l fit.2) (counted_line k l fit.0 fit.1) said
      ∙ says (done ++ l ∷ []) (j + 1) (k + 1) ls next fit.3
      ∙ ap (λ (xs : List Line). Ok (Zero xs)) (append_assoc done (l ∷ []) ls)

  heading-words : words (codes "derivation") ≡ codes "derivation" ∷ []
  unfolding words
  heading-words = refl

  heading : say p letters Nothing (codes "derivation" ∷ []) ≡ Ok (Derivation [])
  unfolding say heading_of block_of
  heading = refl

  pub reads_back : (ls : List Line) → AreLinesFit p letters 1 ls → ReadsBack p letters (lines_text p letters ls) (Zero ls)
  reads_back ls fit = record {
    lines = codes "derivation" ∷ written p letters 1 ls;
    cut = line-first (codes "derivation") (counted (line_text p letters) 1 ls ++ codes "end\n") (plain-no_feed (codes "derivation") refl) ∙ ap (λ xs. codes "derivation" ∷ xs) (cuts 1 ls fit);
    no_end = (ap (λ xs. nat_le 10 65536 && are_end xs) heading-words, no_end 1 ls fit);
    says = says-next p letters 1 Nothing (codes "derivation") (written p letters 1 ls) true (Ok (Derivation [])) (omega arith) (ap are_skipped heading-words) (ap (say p letters Nothing) heading-words ∙ heading)
        ∙ says [] 2 1 ls refl fit;
  }

pub derivations-read_back : DerivationsReadBack
derivations-read_back p letters ls one small are fit = reads_back p letters small are ls fit
