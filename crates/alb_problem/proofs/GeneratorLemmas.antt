-- The steps of reading generators.
use Rattle.std.proofs.Common.{◌≡◌, ◌≢◌, ℕ, suc, ◌+◌, ◌<◌, ◌≤◌, true, false, List, [], ◌∷◌, ◌++◌, length, get_or, take, drop, All, AllPairs, Some, None, sum, refl, sym, ap, ◌∙◌, inl, inr, arith, drop-cons, add-one, take_all}
use Rattle.std.specs.Prelude.{if◌then◌else◌, ◌==◌}
use Rattle.std.specs.List.{flat_map, list_any}
use Rattle.std.proofs.lemmas.Bool.{eq-eqb, false≢true, cases_lt}
use Rattle.std.proofs.lemmas.Bool.Decides.{nat_tests}
use Rattle.std.proofs.lemmas.List.{take_more, append-nil, length-append, get_or_append_left, nil_from_length, length-drop}
use Rattle.std.proofs.lemmas.List.Concat.{flat_map-append}
use Rattle.std.proofs.lemmas.List.Elements.{All-append}
use Rattle.std.proofs.lemmas.List.Folds.{list_any_at}
use Rattle.std.proofs.Math.Seq.{get_or-append_seam}
use Rattle.alb_poly.proofs.Multilinear.{sum_cons}
use Rattle.alb_lex.specs.declared.token.Token.{Token}
use Rattle.alb_lex.specs.declared.token.TokenKind.TheVariants.{Letter, Number}
use Rattle.alb_problem.specs.Builder.{letter_of, count_of, letters, counts, may_follow, fault_from, are_whole, AreBegun}

-- what a count that fits says
pub record IsCount (ls ns : List ℕ) (n : ℕ) : Type 0 where
  pub whole : length ls ≡ length ns
  pub positive : 0 < n
  pub low : sum ns + n ≤ 12

pub fits-count : (ls ns : List ℕ) (n : ℕ) → may_follow ls ns (Number n) ≡ true → IsCount ls ns n
fits-count ls ns n h = record { whole = grind (arith, nat_tests); positive = grind (arith, nat_tests); low = grind (arith, nat_tests) }

-- what a letter that fits says
pub record IsNewLetter (ls ns : List ℕ) (c : ℕ) : Type 0 where
  pub missing : length ls < length ns
  pub above : 97 ≤ c
  pub below : c ≤ 122
  pub unnamed : list_any (λ l. l == c) ls ≡ false

pub fits-letter : (ls ns : List ℕ) (c : ℕ) → may_follow ls ns (Letter c) ≡ true → IsNewLetter ls ns c
fits-letter ls ns c h = record { missing = grind (arith, nat_tests); above = grind (arith, nat_tests); below = grind (arith, nat_tests); unnamed = grind (arith, nat_tests) }

-- no more counts than their sum
pub length-counts : (ns : List ℕ) → All (λ n. 0 < n) ns → length ns ≤ sum ns
length-counts [] h = omega arith
length-counts (n ∷ ns) h =
    let first : 0 < n = h 0 0 (omega arith) in omega (arith, first, sum_cons n ns, length-counts ns (λ k d l. h (suc k) d (omega arith)))

pub different-more : (ls : List ℕ) (c : ℕ) → AllPairs (λ k l. k ≢ l) ls → list_any (λ l. l == c) ls ≡ false → AllPairs (λ k l. k ≢ l) (ls ++ c ∷ [])
different-more ls c h none = λ i j d lt within e.
    let long : length (ls ++ c ∷ []) ≡ length ls + 1 = length-append ls (c ∷ []) in
    let at_i : get_or (ls ++ c ∷ []) i d ≡ get_or ls i d = get_or_append_left ls (c ∷ []) d i (omega (arith, long, within, lt)) in
    elim (cases_lt j (length ls)) [
      | inl early ↦
          let at_j : get_or (ls ++ c ∷ []) j d ≡ get_or ls j d = get_or_append_left ls (c ∷ []) d j early in
          h i j d lt early (sym at_i ∙ e ∙ at_j)
      | inr late ↦
          let last : j ≡ length ls = omega (arith, long, within, late) in
          let at_j : get_or (ls ++ c ∷ []) j d ≡ c = ap (λ k. get_or (ls ++ c ∷ []) k d) last ∙ get_or-append_seam ls c [] d in
          let same : get_or ls i d ≡ c = sym at_i ∙ e ∙ at_j in
          false≢true (sym none ∙ list_any_at (λ l. l == c) ls i d (omega (arith, lt, last)) (eq-eqb _ _ same))
    ]

-- one more letter
pub begun-letter : (ls ns : List ℕ) (c : ℕ) → AreBegun ls ns → may_follow ls ns (Letter c) ≡ true → AreBegun (ls ++ c ∷ []) ns
begun-letter ls ns c b h =
    let f = fits-letter ls ns c h in
    let long : length (ls ++ c ∷ []) ≡ length ls + 1 = length-append ls (c ∷ []) in
    record {
      known = All-append (λ l. (97 ≤ l) × (l ≤ 122)) ls (c ∷ []) b.known (λ k d l. let z : k ≡ 0 = omega arith in rw z (f.above, f.below));
      different = different-more ls c b.different f.unnamed;
      positive = b.positive;
      low = b.low;
      within = omega (arith, long, f.missing);
    }

-- the items of one more token
pub flat-more : {X Y : Type 0} (g : X → List Y) (xs : List X) (i : ℕ) (d : X) → i < length xs →
    flat_map g (take (i + 1) xs) ≡ flat_map g (take i xs) ++ g (get_or xs i d)
flat-more g xs i d h =
    ap (flat_map g) (take_more xs i d h) ∙ flat_map-append g (take i xs) (get_or xs i d ∷ []) ∙ ap (λ q. flat_map g (take i xs) ++ q) (append-nil (g (get_or xs i d)))

-- the fault at one more token
pub fault-next : (ts : List Token) (end i : ℕ) (d : Token) → i < length ts →
    fault_from (take i ts) (drop i ts) end
    ≡ (if may_follow (letters (take i ts)) (counts (take i ts)) (get_or ts i d).kind then fault_from (take (i + 1) ts) (drop (i + 1) ts) end else Some (get_or ts i d).from)
fault-next ts end i d h =
    let here : drop i ts ≡ get_or ts i d ∷ drop (i + 1) ts = rw add-one (drop-cons ts i d h) in
    ap (λ r. fault_from (take i ts) r end) here
    ∙ ap (λ b. if may_follow (letters (take i ts)) (counts (take i ts)) (get_or ts i d).kind then fault_from b (drop (i + 1) ts) end else Some (get_or ts i d).from) (sym (take_more ts i d h))

-- what the loop keeps after `i` tokens
pub record Goes (ts : List Token) (end i : ℕ) (ls ns : List ℕ) : Type 0 where
  pub begun : AreBegun ls ns
  pub letters : ls ≡ letters (take i ts)
  pub counts : ns ≡ counts (take i ts)
  pub so_far : fault_from [] ts end ≡ fault_from (take i ts) (drop i ts) end

pub goes-first : (ts : List Token) (end : ℕ) → Goes ts end 0 [] []
goes-first ts end = record {
  begun = record { known = λ k d l. absurd (omega arith); different = λ i j d k l. absurd (omega arith); positive = λ k d l. absurd (omega arith); low = omega arith; within = omega arith };
  letters = refl;
  counts = refl;
  so_far = refl;
}

-- a token that fits
pub goes-next : (ts : List Token) (end i : ℕ) (d : Token) (ls ns ls' ns' : List ℕ) → i < length ts → Goes ts end i ls ns → may_follow ls ns (get_or ts i d).kind ≡ true →
    ls' ≡ ls ++ letter_of (get_or ts i d).kind → ns' ≡ ns ++ count_of (get_or ts i d).kind → AreBegun ls' ns' → Goes ts end (i + 1) ls' ns'
goes-next ts end i d ls ns ls' ns' h g fit e f begun =
    let here : may_follow (letters (take i ts)) (counts (take i ts)) (get_or ts i d).kind ≡ true = rw (← g.letters, ← g.counts) fit in
    record {
      begun = begun;
      letters = e ∙ ap (λ q. q ++ letter_of (get_or ts i d).kind) g.letters ∙ sym (flat-more (λ t. letter_of t.kind) ts i d h);
      counts = f ∙ ap (λ q. q ++ count_of (get_or ts i d).kind) g.counts ∙ sym (flat-more (λ t. count_of t.kind) ts i d h);
      so_far = g.so_far ∙ fault-next ts end i d h ∙ rw here refl;
    }

-- a token that does not fit
pub goes-wrong : (ts : List Token) (end i : ℕ) (d : Token) (ls ns : List ℕ) → i < length ts → Goes ts end i ls ns → may_follow ls ns (get_or ts i d).kind ≡ false →
    fault_from [] ts end ≡ Some (get_or ts i d).from
goes-wrong ts end i d ls ns h g wrong =
    let here : may_follow (letters (take i ts)) (counts (take i ts)) (get_or ts i d).kind ≡ false = rw (← g.letters, ← g.counts) wrong in
    g.so_far ∙ fault-next ts end i d h ∙ rw here refl

-- after the last token
pub goes-last : (ts : List Token) (end i : ℕ) (ls ns : List ℕ) → length ts ≤ i → Goes ts end i ls ns →
    (ls ≡ letters ts) × ((ns ≡ counts ts) × (fault_from [] ts end ≡ (if are_whole ls ns then None else Some end)))
goes-last ts end i ls ns h g =
    let all : take i ts ≡ ts = take_all i ts h in
    let none : drop i ts ≡ [] = nil_from_length (drop i ts) (omega (arith, length-drop i ts)) in (
      g.letters ∙ ap letters all,
      (
        g.counts ∙ ap counts all,
        g.so_far ∙ ap (λ r. fault_from (take i ts) r end) none ∙ rw (← g.letters, ← g.counts) refl,
      ),
    )
