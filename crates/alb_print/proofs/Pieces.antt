-- The texts of the members of a list, one after the other.
use Rattle.std.proofs.Common.{◌≡◌, ℕ, ◌+◌, ◌<◌, List, ◌∷◌, ◌++◌, length, map, drop, get_or, sym, ap, ◌∙◌}
use Rattle.std.specs.List.{flat_map}
use Rattle.std.proofs.lemmas.List.{drop_more, at_drop_more}
use Rattle.std.proofs.lemmas.List.Concat.{flat_map-cons}

-- the members from a place on are the one there and those after it
pub drop-at : {A : Type 0} (xs : List A) (i : ℕ) (x : A) → i < length xs → x ≡ get_or xs i x → drop i xs ≡ x ∷ drop (i + 1) xs
drop-at xs i x h e = drop_more xs i x h ∙ ap (λ y. y ∷ drop (i + 1) xs) (sym e)

-- their texts are that of the one there and those of the ones after it
pub flat-at : {A B : Type 0} (f : A → List B) (xs : List A) (i : ℕ) (x : A) → i < length xs → x ≡ get_or xs i x → flat_map f (drop i xs) ≡ f x ++ flat_map f (drop (i + 1) xs)
flat-at f xs i x h e = ap (flat_map f) (drop-at xs i x h e) ∙ flat_map-cons f x (drop (i + 1) xs)

-- the same where the texts are those of a view of the members
pub flat-map-at : {A B C : Type 0} (v : A → B) (f : B → List C) (xs : List A) (i : ℕ) (x : A) → i < length xs → x ≡ get_or xs i x
    → flat_map f (map v (drop i xs)) ≡ f (v x) ++ flat_map f (map v (drop (i + 1) xs))
flat-map-at v f xs i x h e = ap (λ ys. flat_map f (map v ys)) (drop-at xs i x h e) ∙ flat_map-cons f (v x) (map v (drop (i + 1) xs))

-- the same for members that are read at a place
pub flat-get : {A B : Type 0} (f : A → List B) (xs : List A) (i : ℕ) (d : A) → i < length xs → flat_map f (drop i xs) ≡ f (get_or xs i d) ++ flat_map f (drop (i + 1) xs)
flat-get f xs i d h = at_drop_more (flat_map f) xs i d h ∙ flat_map-cons f (get_or xs i d) (drop (i + 1) xs)
