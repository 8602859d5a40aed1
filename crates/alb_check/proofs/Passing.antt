-- The numbers below a bound that pass a test, and lists in which each element stands in a relation to all later ones.
use Rattle.std.proofs.Common.{◌≡◌, ℕ, zero, suc, ◌+◌, ◌<◌, ◌≤◌, Bool, true, false, List, [], ◌∷◌, ◌++◌, map, length, get_or, sym, refl, ap, ◌∙◌, subst, arith, inl, inr, ◌⊎◌, append-nil}
use Rattle.std.specs.List.{filter, flat_map, AllPairs}
use Rattle.std.proofs.Math.Seq.{get_or-append_seam}
use Rattle.std.proofs.lemmas.Bool.{cases_Bool}
use Rattle.std.proofs.lemmas.List.{length-append, get_or_append_left}
use Rattle.std.proofs.lemmas.List.Elements.{filter-append}
use Rattle.alb_mono.specs.Listing.{Each}
use Rattle.alb_mono.specs.Tree.{rising}
use Rattle.alb_mono.proofs.ListingLemmas.{each-weaker, each-append, each-map, each-flat, each-both}
use Rattle.alb_mono.proofs.TypeLemmas.{rising_more}
use Rattle.alb_poly.proofs.Consequence.{flat-append}

-- ---- relations to all later elements

abbrev pub Rises : {X : Type 0} → (X → X → Type 0) → List X → Type 0
Rises R [] = Unit {0}
Rises R (x ∷ xs) = Each (R x) xs × Rises R xs

pub rises-append : {X : Type 0} (R : X → X → Type 0) (xs ys : List X) → Rises R xs → Rises R ys → Each (λ x. Each (R x) ys) xs → Rises R (xs ++ ys)
rises-append R [] ys h k a = k
rises-append R (x ∷ xs) ys h k a = (each-append (R x) xs ys h.0 a.0, rises-append R xs ys h.1 k a.1)

-- pieces one after the other
pub rises-flat : {X Y : Type 0} (R : X → X → Type 0) (S : Y → Y → Type 0) (P : X → Y → Type 0) (g : X → List Y) (xs : List X) →
    ((x y : X) (a b : Y) → R x y → P x a → P y b → S a b) → Rises R xs → Each (λ x. Each (P x) (g x)) xs → Each (λ x. Rises S (g x)) xs → Rises S (flat_map g xs)
rises-flat R S P g [] far h k l = tt
rises-flat R S P g (x ∷ xs) far h k l =
    rises-append S (g x) (flat_map g xs) l.0 (rises-flat R S P g xs far h.1 k.1 l.1)
    (each-weaker (P x) (λ a. Each (S a) (flat_map g xs)) (g x) (λ a p. each-flat (S a) g xs
    (each-weaker (λ y. R x y × Each (P y) (g y)) (λ y. Each (S a) (g y)) xs
    (λ y r. each-weaker (P y) (S a) (g y) (λ b q. far x y a b r.0 p q) r.1) (each-both (R x) (λ y. Each (P y) (g y)) xs h.0 k.1))) k.0)

pub rises-map : {X Y : Type 0} (R : X → X → Type 0) (S : Y → Y → Type 0) (f : X → Y) (xs : List X) → ((x y : X) → R x y → S (f x) (f y)) → Rises R xs → Rises S (map f xs)
rises-map R S f [] h r = tt
rises-map R S f (x ∷ xs) h r = (each-map (S (f x)) f xs (each-weaker (R x) (λ y. S (f x) (f y)) xs (λ y k. h x y k) r.0), rises-map R S f xs h r.1)

pub rises-where : {X : Type 0} (R S : X → X → Type 0) (P : X → Type 0) (xs : List X) → ((x y : X) → P x → R x y → S x y) → Each P xs → Rises R xs → Rises S xs
rises-where R S P [] h a r = tt
rises-where R S P (x ∷ xs) h a r = (each-weaker (R x) (S x) xs (λ y k. h x y a.0 k) r.0, rises-where R S P xs h a.1 r.1)

-- all pairs of places
pub rises-from : {X : Type 0} (R : X → X → Type 0) (xs : List X) → AllPairs R xs → Rises R xs
rises-from R [] h = tt
rises-from R (x ∷ xs) h = (later R x xs (λ j d l. h 0 (suc j) d (omega arith) (omega arith)), rises-from R xs (λ i j d l k. h (suc i) (suc j) d (omega arith) (omega arith)))
  where
    later : {X : Type 0} (R : X → X → Type 0) (x : X) (xs : List X) → ((j : ℕ) (d : X) → j < length xs → R x (get_or xs j d)) → Each (R x) xs
    later R x [] h = tt
    later R x (y ∷ xs) h = (h 0 y (omega arith), later R x xs (λ j d l. h (suc j) d (omega arith)))

pub filter-flat : {X Y : Type 0} (f : Y → Bool) (g : X → List Y) (xs : List X) → filter f (flat_map g xs) ≡ flat_map (λ x. filter f (g x)) xs
filter-flat f g [] = refl
filter-flat f g (x ∷ xs) = filter-append f (g x) (flat_map g xs) ∙ ap (λ ys. filter f (g x) ++ ys) (filter-flat f g xs)

-- ---- the numbers that pass

pub rising_next : (n : ℕ) → rising 0 (suc n) ≡ rising 0 n ++ n ∷ []
rising_next n = let e : 0 + n ≡ n = omega arith in rising_more 0 n ∙ ap (λ k. rising 0 n ++ k ∷ []) e

pub rising-get : (k n i d : ℕ) → i < n → get_or (rising k n) i d ≡ k + i
rising-get k zero i d l = absurd (omega arith)
rising-get k (suc n) zero d l = omega arith
rising-get k (suc n) (suc i) d l = rising-get (suc k) n i d (omega arith) ∙ omega arith

pub filter-none : {X : Type 0} (f : X → Bool) (xs : List X) → Each (λ x. f x ≡ false) xs → filter f xs ≡ []
filter-none f [] h = refl
filter-none f (x ∷ xs) h = rw h.0 (filter-none f xs h.1)

last_or_before : (b n : ℕ) → b < suc n → (b ≡ n) ⊎ (b < n)
last_or_before b n h = grind arith

module _ (q : ℕ → Bool) where
  -- those of the first n numbers
  abbrev pub passing : ℕ → List ℕ
  passing n = filter q (rising 0 n)

  passing_next : (n : ℕ) → passing (suc n) ≡ passing n ++ filter q (n ∷ [])
  passing_next n = ap (filter q) (rising_next n) ∙ filter-append q (rising 0 n) (n ∷ [])

  pub passing-more : (n : ℕ) → q n ≡ true → passing (suc n) ≡ passing n ++ n ∷ []
  passing-more n h = passing_next n ∙ rw h refl

  pub passing-skip : (n : ℕ) → q n ≡ false → passing (suc n) ≡ passing n
  passing-skip n h = passing_next n ∙ rw h (append-nil (passing n))

  -- what holds of each
  pub passing-each : (P : ℕ → Type 0) (n : ℕ) → ((b : ℕ) → b < n → q b ≡ true → P b) → Each P (passing n)
  passing-each P zero h = tt
  passing-each P (suc n) h =
      let r : Each P (passing n) = passing-each P n (λ b l k. h b (omega arith) k) in
      elim (cases_Bool (q n)) [
        | inl e ↦ subst (Each P) (sym (passing-more n e)) (each-append P (passing n) (n ∷ []) r (h n (omega arith) e, tt))
        | inr e ↦ subst (Each P) (sym (passing-skip n e)) r
      ]

  -- and of each and each later one
  pub passing-rises : (R : ℕ → ℕ → Type 0) (n : ℕ) → ((a b : ℕ) → a < b → b < n → q a ≡ true → q b ≡ true → R a b) → Rises R (passing n)
  passing-rises R zero h = tt
  passing-rises R (suc n) h =
      let r : Rises R (passing n) = passing-rises R n (λ a b l k s t. h a b l (omega arith) s t) in
      elim (cases_Bool (q n)) [
        | inl e ↦ subst (Rises R) (sym (passing-more n e)) (rises-append R (passing n) (n ∷ []) r (tt, tt)
            (passing-each (λ a. Each (R a) (n ∷ [])) n (λ b l k. (h b n l (omega arith) k e, tt))))
        | inr e ↦ subst (Rises R) (sym (passing-skip n e)) r
      ]

  -- ---- their places

  more-length : (n : ℕ) → q n ≡ true → length (passing (suc n)) ≡ length (passing n) + 1
  more-length n h = ap length (passing-more n h) ∙ length-append (passing n) (n ∷ [])

  one-more : (n : ℕ) → length (passing n) ≤ length (passing (suc n))
  one-more n = elim (cases_Bool (q n)) [
    | inl e ↦ omega (arith, more-length n e)
    | inr e ↦ omega (arith, ap length (passing-skip n e))
  ]

  pub places-rise : (b n : ℕ) → b ≤ n → length (passing b) ≤ length (passing n)
  places-rise b zero h = let e : b ≡ 0 = omega arith in rw e (omega arith)
  places-rise b (suc n) h = elim (last b n h) [
    | inl e ↦ rw e (omega arith)
    | inr l ↦ omega (arith, places-rise b n l, one-more n)
  ]
    where
      last : (b n : ℕ) → b ≤ suc n → (b ≡ suc n) ⊎ (b ≤ n)
      last b n h = grind arith

  pub places-few : (n : ℕ) → length (passing n) ≤ n
  places-few zero = omega arith
  places-few (suc n) = elim (cases_Bool (q n)) [
    | inl e ↦ omega (arith, more-length n e, places-few n)
    | inr e ↦ omega (arith, ap length (passing-skip n e), places-few n)
  ]

  pub place-less : (b n : ℕ) → b < n → q b ≡ true → length (passing b) < length (passing n)
  place-less b n h k = omega (arith, more-length b k, places-rise (suc b) n (omega arith))

  -- a number that passes stands at its place
  pub place-get : (n b d : ℕ) → b < n → q b ≡ true → get_or (passing n) (length (passing b)) d ≡ b
  place-get zero b d h k = absurd (omega arith)
  place-get (suc n) b d h k = elim (last_or_before b n h) [
    | inl e ↦
        let m : q n ≡ true = subst (λ x. q x ≡ true) e k in
        ap (λ x. get_or (passing (suc n)) (length (passing x)) d) e ∙ ap (λ xs. get_or xs (length (passing n)) d) (passing-more n m)
        ∙ get_or-append_seam (passing n) n [] d ∙ sym e
    | inr l ↦
        let s : length (passing b) < length (passing n) = place-less b n l k in
        elim (cases_Bool (q n)) [
          | inl m ↦ ap (λ xs. get_or xs (length (passing b)) d) (passing-more n m) ∙ get_or_append_left (passing n) (n ∷ []) d (length (passing b)) s ∙ place-get n b d l k
          | inr m ↦ ap (λ xs. get_or xs (length (passing b)) d) (passing-skip n m) ∙ place-get n b d l k
        ]
  ]

  -- each place has a number that passes
  pub record IsPlace (n k b : ℕ) : Type 0 where
    pub below : b < n
    pub passes : q b ≡ true
    pub place : length (passing b) ≡ k

  pub place-number : (n k : ℕ) → k < length (passing n) → (b : ℕ) × IsPlace n k b
  place-number zero k h = absurd (omega arith)
  place-number (suc n) k h = elim (cases_Bool (q n)) [
    | inr e ↦ longer (place-number n k (omega (arith, ap length (passing-skip n e))))
    | inl e ↦ elim (last_or_before k (length (passing n)) (omega (arith, more-length n e))) [
      | inl s ↦ (n, record { below = omega arith; passes = e; place = sym s })
      | inr l ↦ longer (place-number n k l)
    ]
  ]
    where
      longer : (b : ℕ) × IsPlace n k b → (b : ℕ) × IsPlace (suc n) k b
      longer r = (r.0, record { below = omega (arith, r.1.below); passes = r.1.passes; place = r.1.place })

  -- ---- pieces

  pub flat-none : {Y : Type 0} (g : ℕ → List Y) (n : ℕ) → ((x : ℕ) → x < n → q x ≡ true → g x ≡ []) → flat_map g (passing n) ≡ []
  flat-none g zero h = refl
  flat-none g (suc n) h = elim (cases_Bool (q n)) [
    | inl e ↦ ap (flat_map g) (passing-more n e) ∙ flat-append g (passing n) (n ∷ [])
        ∙ rw (flat-none g n (λ x l k. h x (omega arith) k), h n (omega arith) e) refl
    | inr e ↦ ap (flat_map g) (passing-skip n e) ∙ flat-none g n (λ x l k. h x (omega arith) k)
  ]

  -- where only one number has a piece
  pub flat-one : {Y : Type 0} (g : ℕ → List Y) (n b : ℕ) → b < n → q b ≡ true → ((x : ℕ) → x < n → q x ≡ true → (x ≡ b → ⊥) → g x ≡ []) → flat_map g (passing n) ≡ g b
  flat-one g zero b l k h = absurd (omega arith)
  flat-one g (suc n) b l k h = elim (last_or_before b n l) [
    | inl e ↦
        let m : q n ≡ true = subst (λ x. q x ≡ true) e k in
        ap (flat_map g) (passing-more n m) ∙ flat-append g (passing n) (n ∷ [])
        ∙ rw (flat-none g n (λ x o s. h x (omega arith) s (λ r. omega (arith, r, e)))) (append-nil (g n)) ∙ ap g (sym e)
    | inr s ↦ elim (cases_Bool (q n)) [
      | inl m ↦ ap (flat_map g) (passing-more n m) ∙ flat-append g (passing n) (n ∷ [])
          ∙ rw (h n (omega arith) m (λ r. omega (arith, r)), flat-one g n b s k (λ x o t u. h x (omega arith) t u)) (append-nil (g b))
      | inr m ↦ ap (flat_map g) (passing-skip n m) ∙ flat-one g n b s k (λ x o t u. h x (omega arith) t u)
    ]
  ]
