-- A pair that is inserted is new.
use Rattle.std.proofs.Common.{◌≡◌, ℕ, false, List, [], ◌∷◌, ◌++◌, reverse, sym, refl, ap, ◌∙◌, append_assoc, subst}
use Rattle.std.specs.List.{list_any}
use Rattle.std.specs.Prelude.{if◌then◌else◌}
use Rattle.std.proofs.lemmas.List.{reverse-append}
use Rattle.alb_mono.specs.Listing.{Each}
use Rattle.alb_subst.specs.Columns.{IsDistinct}
use Rattle.alb_table.specs.Table.{same_pair}

each_there : (x y : ℕ × ℕ) (xs ys : List (ℕ × ℕ)) → Each (λ z. same_pair z y ≡ false) (xs ++ x ∷ ys) → same_pair x y ≡ false
each_there x y [] ys h = h.0
each_there x y (z ∷ xs) ys h = each_there x y xs ys h.1

fresh : (x : ℕ × ℕ) (xs ys : List (ℕ × ℕ)) → IsDistinct (xs ++ x ∷ ys) → list_any (same_pair x) xs ≡ false
fresh x [] ys h = refl
fresh x (z ∷ xs) ys h = rw (each_there x z xs ys h.0, fresh x xs ys h.1) refl

pub insert_more : (keys new rest left all : List (ℕ × ℕ)) (x : ℕ × ℕ) → IsDistinct (reverse all) → keys ++ reverse left ≡ reverse all → left ≡ rest ++ x ∷ [] →
    new ≡ (if list_any (same_pair x) keys then keys else keys ++ x ∷ []) → new ++ reverse rest ≡ reverse all
insert_more keys new rest left all x d h e n =
    let r : reverse left ≡ x ∷ reverse rest = ap reverse e ∙ reverse-append rest (x ∷ []) in
    let g : keys ++ x ∷ reverse rest ≡ reverse all = ap (λ xs. keys ++ xs) (sym r) ∙ h in
    let f : list_any (same_pair x) keys ≡ false = fresh x keys (reverse rest) (subst IsDistinct (sym g) d) in
    let m : new ≡ keys ++ x ∷ [] = n ∙ rw f refl in
    ap (λ xs. xs ++ reverse rest) m ∙ append_assoc keys (x ∷ []) (reverse rest) ∙ g
