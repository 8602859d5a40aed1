-- The texts of the members of a list that are counted on, one after the other.
use Rattle.std.proofs.Common.{◌≡◌, ℕ, ◌+◌, ◌<◌, ◌≤◌, List, [], ◌∷◌, ◌++◌, length, map, drop, get_or, refl, ap, ◌∙◌}
use Rattle.std.proofs.Math.ListN.{drop_of_length-le}
use Rattle.std.proofs.lemmas.List.{drop_more}
use Rattle.alb_print.proofs.Pieces.{drop-at}
use Rattle.alb_evidence.specs.Texts.{counted}

counted-cons : {A : Type 0} (f : ℕ → A → List ℕ) (k : ℕ) (x : A) (xs : List A) → counted f k (x ∷ xs) ≡ f k x ++ counted f (k + 1) xs
unfolding counted
counted-cons f k x xs = refl

counted-nil : {A : Type 0} (f : ℕ → A → List ℕ) (k : ℕ) → counted f k [] ≡ []
unfolding counted
counted-nil f k = refl

pub counted-at : {A : Type 0} (f : ℕ → A → List ℕ) (k : ℕ) (xs : List A) (i : ℕ) (x : A) → i < length xs → x ≡ get_or xs i x → counted f k (drop i xs) ≡ f k x ++ counted f (k + 1) (drop (i + 1) xs)
counted-at f k xs i x h e = ap (counted f k) (drop-at xs i x h e) ∙ counted-cons f k x (drop (i + 1) xs)

pub counted-map-at : {A B : Type 0} (v : A → B) (f : ℕ → B → List ℕ) (k : ℕ) (xs : List A) (i : ℕ) (x : A) → i < length xs → x ≡ get_or xs i x
    → counted f k (map v (drop i xs)) ≡ f k (v x) ++ counted f (k + 1) (map v (drop (i + 1) xs))
counted-map-at v f k xs i x h e = ap (λ ys. counted f k (map v ys)) (drop-at xs i x h e) ∙ counted-cons f k (v x) (map v (drop (i + 1) xs))

-- the same for members that are read at a place
pub counted-get : {A : Type 0} (f : ℕ → A → List ℕ) (k : ℕ) (xs : List A) (i : ℕ) (d : A) → i < length xs → counted f k (drop i xs) ≡ f k (get_or xs i d) ++ counted f (k + 1) (drop (i + 1) xs)
counted-get f k xs i d h = ap (counted f k) (drop_more xs i d h) ∙ counted-cons f k (get_or xs i d) (drop (i + 1) xs)

-- after the last member
pub counted-end : {A : Type 0} (f : ℕ → A → List ℕ) (k : ℕ) (xs : List A) (i : ℕ) → length xs ≤ i → counted f k (drop i xs) ≡ []
counted-end f k xs i h = ap (counted f k) (drop_of_length-le xs h) ∙ counted-nil f k

pub counted-map-end : {A B : Type 0} (v : A → B) (f : ℕ → B → List ℕ) (k : ℕ) (xs : List A) (i : ℕ) → length xs ≤ i → counted f k (map v (drop i xs)) ≡ []
counted-map-end v f k xs i h = ap (λ ys. counted f k (map v ys)) (drop_of_length-le xs h) ∙ counted-nil f k
