-- Lists of different letters.
use Rattle.std.proofs.Common.{◌≡◌, ◌≢◌, ◌==◌, ℕ, zero, suc, ◌+◌, ◌-◌, ◌<◌, ◌≤◌, true, false, List, [], ◌∷◌, ◌++◌, map, length, get_or, Some, refl, sym, ap, ◌∙◌, arith, add-one, eqb, ltb}
use Rattle.std.specs.List.{All, AllPairs, position, position_or_len, range_with_len, list_any, IsDistinct}
use Rattle.std.proofs.lemmas.Bool.{eqb-true, eq-eqb}
use Rattle.std.proofs.lemmas.Bool.Decides.{nat_tests, Decides-eqb}
use Rattle.std.proofs.lemmas.List.{length-map, get_or-map, get_or_default}
use Rattle.std.proofs.lemmas.List.Sums.{position_or_len_is}
use Rattle.std.proofs.lemmas.List.Folds.{Any-from_list_any}
use Rattle.std.proofs.lemmas.List.FromFn.{length-range_with_len, get_or-range_with_len}
use Rattle.std.proofs.lemmas.Map.Made.{IsDistinct-from_AllPairs}
use Rattle.std.proofs.lemmas.Map.Steps.{length-le_from_distinct_below}
use Rattle.alb_mono.specs.Tree.{AreLetters, alphabet}

not_equal : (a b : ℕ) → a ≢ b → eqb a b ≡ false
not_equal a b h = grind (arith, nat_tests)

position_at : (ls : List ℕ) (k : ℕ) → k < length ls → AllPairs (λ x y. x ≢ y) ls → position (λ x. x == get_or ls k 0) ls ≡ Some k
position_at ls k h pairs =
    let e : position_or_len (λ x. x == get_or ls k 0) ls ≡ k =
    position_or_len_is (λ x. x == get_or ls k 0) ls k 0 (omega arith) (λ j low. not_equal _ _ (pairs j k 0 low h)) (λ _. eq-eqb _ _ refl) in
    let t : ltb k (length ls) ≡ true = grind (arith, nat_tests) in
    rw (e, t)

pub AreLetters-from_different : (ls : List ℕ) → All (λ x. (97 ≤ x) × (x ≤ 122)) ls → AllPairs (λ x y. x ≢ y) ls → AreLetters ls
AreLetters-from_different ls all pairs = record {
  low = λ k h. (all k 0 h).0;
  high = λ k h. (all k 0 h).1;
  place = λ k h. position_at ls k h pairs;
}

offset_at : (ls : List ℕ) (i d : ℕ) → i < length ls → get_or (map (λ x. x - 97) ls) i d ≡ get_or ls i 0 - 97
offset_at ls i d h = get_or-map (λ x. x - 97) ls i 0 d h

found : (ls : List ℕ) (q : ℕ) → All (λ x. (97 ≤ x) × (x ≤ 122)) ls → list_any (eqb q) (map (λ x. x - 97) ls) ≡ true → q < 26
found ls q all h =
    let a = Any-from_list_any (eqb q) (map (λ x. x - 97) ls) h in
    let low : a.0 < length ls = omega (arith, length-map ls (λ x. x - 97), a.2) in
    omega (arith, add-one, eqb-true q a.1 a.4, offset_at ls a.0 a.1 low, a.3, (all a.0 0 low).1)

offsets_apart : (ls : List ℕ) → All (λ x. (97 ≤ x) × (x ≤ 122)) ls → AllPairs (λ x y. x ≢ y) ls → AllPairs (λ x y. x ≢ y) (map (λ x. x - 97) ls)
offsets_apart ls all pairs i j d before high e =
    let h : j < length ls = omega (arith, length-map ls (λ x. x - 97)) in
    let k : i < length ls = omega arith in
    pairs i j 0 before h (omega (arith, offset_at ls i d k, offset_at ls j d h, e, (all i 0 k).0, (all j 0 h).0))

-- at most as many as there are letters
pub length-letters : (ls : List ℕ) → All (λ x. (97 ≤ x) × (x ≤ 122)) ls → AllPairs (λ x y. x ≢ y) ls → length ls ≤ 26
length-letters ls all pairs =
    let d : IsDistinct eqb (map (λ x. x - 97) ls) = IsDistinct-from_AllPairs Decides-eqb (map (λ x. x - 97) ls) (offsets_apart ls all pairs) in
    omega (arith, length-le_from_distinct_below (map (λ x. x - 97) ls) 26 d (λ q h. found ls q all h), length-map ls (λ x. x - 97))

pub alphabet-range : alphabet ≡ range_with_len 97 26
unfolding alphabet
alphabet-range = refl

pub AreLetters-range : (n : ℕ) → n ≤ 26 → AreLetters (range_with_len 97 n)
AreLetters-range n h =
    AreLetters-from_different (range_with_len 97 n)
    (λ k d l. let e : get_or (range_with_len 97 n) k d ≡ 97 + k = get_or-range_with_len 97 n k d (omega (arith, length-range_with_len 97 n)) in
    (omega arith, omega (arith, length-range_with_len 97 n)))
    (λ i j d l m q. let b : j < n = omega (arith, length-range_with_len 97 n) in
    omega (arith, get_or-range_with_len 97 n i d (omega arith), get_or-range_with_len 97 n j d b, q))

-- letters that differ, from the places at which they are found
pub different-from_AreLetters : (ls : List ℕ) → AreLetters ls → AllPairs (λ x y. x ≢ y) ls
different-from_AreLetters ls are i j d before high e =
    let k : i < length ls = omega arith in
    let a : get_or ls i 0 ≡ get_or ls j 0 = get_or_default ls i 0 d k ∙ e ∙ get_or_default ls j d 0 high in
    let q : Some i ≡ Some j = sym (are.place i k) ∙ ap (λ y. position (λ x. x == y) ls) a ∙ are.place j high in
    let w : i ≡ j = cc in
    omega (arith, before, w)

range_suc : (a n : ℕ) → range_with_len a (suc n) ≡ range_with_len a n ++ (a + n) ∷ []
range_suc a zero = let e : a + 0 ≡ a = omega arith in rw e
range_suc a (suc n) = let e : a + suc n ≡ (a + 1) + n = omega arith in rw e (ap (λ xs. a ∷ xs) (range_suc (a + 1) n))

pub range_more : (a n : ℕ) → range_with_len a (n + 1) ≡ range_with_len a n ++ (a + n) ∷ []
range_more a n = rw add-one (range_suc a n)
