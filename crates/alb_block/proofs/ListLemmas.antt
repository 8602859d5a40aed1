-- Lists: what stands in them, turned round, and in order.
use Rattle.std.proofs.Common.{◌≡◌, ℕ, zero, suc, ◌<◌, List, [], ◌∷◌, ◌++◌, map, length, get_or, reverse, sym, refl, subst, arith, inl, inr, ◌⊎◌}
use Rattle.std.specs.List.{Contains, flat_map, AllByRecursion}
use Rattle.std.specs.List.Sorted.{IsStrictlySortedBy}
use Rattle.std.specs.Ordering.{flip_args}
use Rattle.std.specs.declared.cmp.Ordering.{Ordering}
use Rattle.std.specs.declared.cmp.Ordering.TheVariants.{Less}
use Rattle.std.proofs.lemmas.List.{reverse-append}
use Rattle.alb_mono.specs.Listing.{Each, IsIn, Ascends}
use Rattle.alb_mono.proofs.ListingLemmas.{each-append, each-weaker, each-map, ascends-append, in-left, in-right}

pub reverse-cons : {X : Type 0} (x : X) (xs : List X) → reverse (x ∷ xs) ≡ reverse xs ++ x ∷ []
reverse-cons x xs = reverse-append (x ∷ []) xs

pub in-reverse : {X : Type 0} (x : X) (xs : List X) → IsIn x xs → IsIn x (reverse xs)
in-reverse x [] h = absurd h
in-reverse x (y ∷ ys) (inl e) = subst (IsIn x) (sym (reverse-cons y ys)) (in-right x (reverse ys) (y ∷ []) (inl e))
in-reverse x (y ∷ ys) (inr h) = subst (IsIn x) (sym (reverse-cons y ys)) (in-left x (reverse ys) (y ∷ []) (in-reverse x ys h))

pub each-reverse : {X : Type 0} (P : X → Type 0) (xs : List X) → Each P xs → Each P (reverse xs)
each-reverse P [] h = tt
each-reverse P (x ∷ xs) h = subst (Each P) (sym (reverse-cons x xs)) (each-append P (reverse xs) (x ∷ []) (each-reverse P xs h.1) (h.0, tt))

-- a list that ascends, from its end
pub descends : {X : Type 0} (order : X → X → Ordering) (xs : List X) → Ascends order xs → Ascends (flip_args order) (reverse xs)
descends order [] h = tt
descends order (x ∷ xs) h =
    subst (Ascends (flip_args order)) (sym (reverse-cons x xs))
    (ascends-append (flip_args order) (reverse xs) (x ∷ []) (descends order xs h.1) (tt, tt)
    (each-weaker (λ y. order x y ≡ Less) (λ y. Each (λ z. flip_args order y z ≡ Less) (x ∷ [])) (reverse xs) (λ y e. (e, tt)) (each-reverse (λ y. order x y ≡ Less) xs h.0)))

pub all-from : {X : Type 0} (P : X → Type 0) (xs : List X) → Each P xs → AllByRecursion P xs
all-from P [] h = tt
all-from P (x ∷ xs) h = (h.0, all-from P xs h.1)

pub sorted-from : {X : Type 0} (order : X → X → Ordering) (xs : List X) → Ascends order xs → IsStrictlySortedBy order xs
unfolding IsStrictlySortedBy
sorted-from order [] h = tt
sorted-from order (x ∷ xs) h = (all-from (λ y. order x y ≡ Less) xs h.0, sorted-from order xs h.1)

pub contains-in : {X : Type 0} (x : X) (xs : List X) → IsIn x xs → Contains xs x
contains-in x [] h = absurd h
contains-in x (y ∷ ys) (inl e) = (0, omega arith, sym e)
contains-in x (y ∷ ys) (inr h) = let w = contains-in x ys h in (suc w.0, omega (arith, w.1), w.2)

pub ascends-mapped : {X Y : Type 0} (order : Y → Y → Ordering) (f : X → Y) (xs : List X) → Ascends (λ x y. order (f x) (f y)) xs → Ascends order (map f xs)
ascends-mapped order f [] h = tt
ascends-mapped order f (x ∷ xs) h = (each-map (λ y. order (f x) y ≡ Less) f xs h.0, ascends-mapped order f xs h.1)

-- what stands in a list of lists one after the other
pub in-parts : {X Y : Type 0} (g : X → List Y) (y : Y) (xs : List X) → IsIn y (flat_map g xs) → (x : X) × IsIn x xs × IsIn y (g x)
in-parts g y [] h = absurd h
in-parts {Y = Y} g y (x ∷ xs) h = elim (in-either y (g x) (flat_map g xs) h) [
  | inl a ↦ (x, inl refl, a)
  | inr b ↦ (let w = in-parts g y xs b in (w.0, inr w.1, w.2))
]
  where
    in-either : (z : Y) (us vs : List Y) → IsIn z (us ++ vs) → IsIn z us ⊎ IsIn z vs
    in-either z [] vs h = inr h
    in-either z (u ∷ us) vs (inl e) = inl (inl e)
    in-either z (u ∷ us) vs (inr h) = elim (in-either z us vs h) [ inl a ↦ inl (inr a) | inr b ↦ inr b ]

pub in-mapped : {X Y : Type 0} (f : X → Y) (y : Y) (xs : List X) → IsIn y (map f xs) → (x : X) × IsIn x xs × (y ≡ f x)
in-mapped f y [] h = absurd h
in-mapped f y (x ∷ xs) (inl e) = (x, inl refl, e)
in-mapped f y (x ∷ xs) (inr h) = let w = in-mapped f y xs h in (w.0, inr w.1, w.2)

-- places

pub in_place : {X : Type 0} (x : X) (xs : List X) → IsIn x xs → (k : ℕ) × (k < length xs) × ((d : X) → get_or xs k d ≡ x)
in_place x [] h = absurd h
in_place x (y ∷ ys) (inl e) = (0, omega arith, λ d. sym e)
in_place x (y ∷ ys) (inr h) = let w = in_place x ys h in (suc w.0, omega (arith, w.1), w.2)

pub place_in : (xs : List ℕ) (k : ℕ) → k < length xs → IsIn (get_or xs k 0) xs
place_in [] k l = absurd (omega arith)
place_in (x ∷ xs) zero l = inl refl
place_in (x ∷ xs) (suc k) l = inr (place_in xs k (omega arith))
