-- Steps of the loops over orders and arrangements.
use Rattle.std.proofs.Common.{◌≡◌, ℕ, zero, suc, ◌+◌, ◌<◌, ◌≤◌, List, [], ◌∷◌, ◌++◌, map, take, drop, length, get_or, sum, sym, refl, ap, ◌∙◌, arith, append_assoc, add-one}
use Rattle.std.specs.List.{flat_map, insert, All, take-map}
use Rattle.std.proofs.lemmas.List.{map-append, take_more, append-nil, length-map, length-drop, length-append, take-append-drop}
use Rattle.std.proofs.lemmas.List.Concat.{flat_map-append}
use Rattle.std.proofs.lemmas.List.Elements.{All-append, All-take, All-drop}
use Rattle.alb_mono.specs.Listing.{Each}
use Rattle.alb_mono.proofs.ListingLemmas.{each-at}
use Rattle.alb_poly.specs.Instance.{insertions, orders, arrangements}
use Rattle.alb_poly.proofs.Multilinear.{IsOrder, each-from, orders-order, arrangements-order, order-length, sum_cons}

insertions_suc : (x : ℕ) (ys : List ℕ) (i : ℕ) → i ≤ length ys → take (suc i) (insertions x ys) ≡ take i (insertions x ys) ++ insert ys i x ∷ []
insertions_suc x [] zero h = refl
insertions_suc x [] (suc i) h = absurd (omega arith)
insertions_suc x (y ∷ ys) zero h = refl
insertions_suc x (y ∷ ys) (suc i) h =
    ap (λ zs. (x ∷ y ∷ ys) ∷ zs)
    (take-map (λ zs. y ∷ zs) (suc i) (insertions x ys) ∙ ap (map (λ zs. y ∷ zs)) (insertions_suc x ys i (omega arith))
    ∙ map-append (λ zs. y ∷ zs) (take i (insertions x ys)) (insert ys i x ∷ [])
    ∙ ap (λ q. q ++ (y ∷ insert ys i x) ∷ []) (sym (take-map (λ zs. y ∷ zs) i (insertions x ys))))

pub length-insertions : (x : ℕ) (ys : List ℕ) → length (insertions x ys) ≡ length ys + 1
length-insertions x [] = refl
length-insertions x (y ∷ ys) = omega (arith, length-map (insertions x ys) (λ zs. y ∷ zs), length-insertions x ys)

-- one more place
pub insertions_more : (x : ℕ) (ys : List ℕ) (i : ℕ) (start now next : List (List ℕ)) → i ≤ length ys →
    now ≡ start ++ take i (insertions x ys) → next ≡ now ++ insert ys i x ∷ [] → next ≡ start ++ take (i + 1) (insertions x ys)
insertions_more x ys i start now next h e f =
    f ∙ ap (λ q. q ++ insert ys i x ∷ []) e ∙ append_assoc start (take i (insertions x ys)) (insert ys i x ∷ [])
    ∙ ap (λ q. start ++ q) (sym (rw add-one (insertions_suc x ys i h)))

-- one more piece
pub flat_more : {X Y : Type 0} (g : X → List Y) (xs : List X) (i : ℕ) (d : X) → i < length xs →
    flat_map g (take (i + 1) xs) ≡ flat_map g (take i xs) ++ g (get_or xs i d)
flat_more g xs i d h =
    ap (flat_map g) (take_more xs i d h) ∙ flat_map-append g (take i xs) (get_or xs i d ∷ []) ∙ ap (λ q. flat_map g (take i xs) ++ q) (append-nil (g (get_or xs i d)))

pub length-order : (xs : List ℕ) → Each (λ zs. length zs ≡ length xs) (orders xs)
length-order xs = each-from (IsOrder xs) (λ zs. length zs ≡ length xs) (orders xs) (λ zs k. order-length xs zs k) (orders-order xs)

pub length-arrangement : (e : List ℕ) (xs : List ℕ) → length xs ≡ sum e → Each (λ zs. length zs ≡ length xs) (arrangements e xs)
length-arrangement e xs h = each-from (IsOrder xs) (λ zs. length zs ≡ length xs) (arrangements e xs) (λ zs k. order-length xs zs k) (arrangements-order e xs h)

-- the length of the order at a place
pub length-order_at : (xs : List ℕ) (all : List (List ℕ)) (i : ℕ) (d : List ℕ) → all ≡ orders xs → i < length all → length (get_or all i d) ≡ length xs
length-order_at xs all i d e h = rw e (each-at (λ zs. length zs ≡ length xs) (orders xs) i d (length-order xs) (rw (← e) h))

pub length-arrangement_at : (e xs : List ℕ) (all : List (List ℕ)) (i : ℕ) (d : List ℕ) → length xs ≡ sum e → all ≡ arrangements e xs → i < length all → length (get_or all i d) ≡ length xs
length-arrangement_at e xs all i d s q h =
    rw q (each-at (λ zs. length zs ≡ length xs) (arrangements e xs) i d (length-arrangement e xs s) (rw (← q) h))

-- a list with one more element has what holds of all
pub All-insert : (P : ℕ → Type 0) (xs : List ℕ) (i x : ℕ) → All P xs → P x → All P (insert xs i x)
All-insert P xs i x a b = All-append P (take i xs) (x ∷ drop i xs) (All-take P i xs a) (All-append P (x ∷ []) (drop i xs) (one P x b) (All-drop P i xs a)) where
  one : (P : ℕ → Type 0) (x : ℕ) → P x → All P (x ∷ [])
  one P x h zero d k = h
  one P x h (suc j) d k = absurd (omega arith)

-- one more turn of a loop that appends pieces
pub flat_next : {X Y : Type 0} (g : X → List Y) (xs : List X) (i : ℕ) (x : X) (now next : List Y) → i < length xs → x ≡ get_or xs i x →
    now ≡ flat_map g (take i xs) → next ≡ now ++ g x → next ≡ flat_map g (take (i + 1) xs)
flat_next g xs i x now next h e f k =
    k ∙ ap (λ q. q ++ g x) f ∙ ap (λ a. flat_map g (take i xs) ++ g a) e ∙ sym (flat_more g xs i x h)

-- the second part of a list whose length is a sum
pub length-later : (n : ℕ) (e : List ℕ) (xs : List ℕ) → length xs ≡ sum (n ∷ e) → length (drop n xs) ≡ sum e
length-later n e xs h = omega (arith, length-drop n xs, sum_cons n e, h)

pub length-both : (n : ℕ) (xs : List ℕ) → length (take n xs) + length (drop n xs) ≡ length xs
length-both n xs = sym (length-append (take n xs) (drop n xs)) ∙ ap length (take-append-drop n xs)

-- two lists of a kind join to at most 8
pub room_for_both : (n : ℕ) (e xs : List ℕ) (firsts seconds : List (List ℕ)) → length xs ≡ sum (n ∷ e) → length xs ≤ 8 →
    firsts ≡ orders (take n xs) → seconds ≡ arrangements e (drop n xs) → All (λ a. All (λ b. length a + length b ≤ 8) seconds) firsts
room_for_both n e xs firsts seconds s small p q i d h j f k =
    omega (arith, length-order_at (take n xs) firsts i d p h, length-arrangement_at e (drop n xs) seconds j f (length-later n e xs s) q k, length-both n xs, small)

pub room_for_one : (xs : List ℕ) (all : List (List ℕ)) (n : ℕ) → all ≡ orders xs → length xs < n → All (λ ys. length ys < n) all
room_for_one xs all n e h i d k = omega (arith, length-order_at xs all i d e k)

pub joined_equal : (n : ℕ) (e xs : List ℕ) (firsts seconds : List (List ℕ)) → firsts ≡ orders (take n xs) → seconds ≡ arrangements e (drop n xs) →
    flat_map (λ a. map (λ b. a ++ b) seconds) firsts ≡ arrangements (n ∷ e) xs
joined_equal n e xs firsts seconds p q = rw (p, q)
