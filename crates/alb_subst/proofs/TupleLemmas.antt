-- The first tuple.
use Rattle.std.proofs.Common.{◌≡◌, ℕ, zero, suc, ◌+◌, ◌<◌, ◌≤◌, true, List, [], ◌∷◌, ◌++◌, map, length, take, drop, sym, refl, ap, ◌∙◌, arith, subst, get_or}
use Rattle.std.specs.List.{flat_map}
use Rattle.std.proofs.lemmas.List.{drop_more, take_all, take-append-drop}
use Rattle.std.proofs.lemmas.List.Concat.{flat_map-append}
use Rattle.alb_mono.specs.Tree.{type_le, type_minus}
use Rattle.alb_subst.specs.declared.range.Range.{Range}
use Rattle.alb_subst.specs.Ranges.{begins, tuples, piece, Heads}

-- a nonempty range before a nonempty list
pub begins_heads : (f c : ℕ) (ts : List (List ℕ)) (x : List ℕ) → 0 < c → Heads ts x → Heads (begins f c ts) (f ∷ x)
begins_heads f zero ts x h k = absurd (omega arith)
begins_heads f (suc c) ts x h k = record {
  rest = map (λ bs. f ∷ bs) k.rest ++ begins (suc f) c ts;
  is = ap (λ us. map (λ bs. f ∷ bs) us ++ begins (suc f) c ts) k.is;
}

pub begins_none : (f c : ℕ) → begins f c [] ≡ []
begins_none f zero = refl
begins_none f (suc c) = begins_none (suc f) c

pub heads_append : (xs ys zs : List (List ℕ)) (x : List ℕ) → xs ≡ [] → Heads ys x → Heads (xs ++ (ys ++ zs)) x
heads_append xs ys zs x e h = record { rest = h.rest ++ zs; is = ap (λ us. us ++ (ys ++ zs)) e ∙ ap (λ us. us ++ zs) h.is }

pub first_found : (rs : List Range) (n m : ℕ) (r : List ℕ) (k : ℕ) (q : Range) (x : List ℕ) → k < length rs → q ≡ get_or rs k q → m ≡ suc n →
    flat_map (piece rs n r) (take k rs) ≡ [] → Heads (piece rs n r q) x → Heads (tuples rs m r) x
first_found rs n m r k q x l e f h g =
    let s : rs ≡ take k rs ++ q ∷ drop (k + 1) rs = sym (take-append-drop k rs) ∙ ap (λ xs. take k rs ++ xs) (drop_more rs k q l ∙ ap (λ y. y ∷ drop (k + 1) rs) (sym e)) in
    let t : flat_map (piece rs n r) rs ≡ flat_map (piece rs n r) (take k rs) ++ (piece rs n r q ++ flat_map (piece rs n r) (drop (k + 1) rs)) =
    ap (flat_map (piece rs n r)) s ∙ flat_map-append (piece rs n r) (take k rs) (q ∷ drop (k + 1) rs) in
    rw f (subst (λ ts. Heads ts x) (sym t) (heads_append _ _ _ x h g))

pub first_none : (rs : List Range) (n m : ℕ) (r : List ℕ) (k : ℕ) → length rs ≤ k → m ≡ suc n →
    flat_map (piece rs n r) (take k rs) ≡ [] → tuples rs m r ≡ []
first_none rs n m r k l f h = rw f (ap (flat_map (piece rs n r)) (sym (take_all k rs l)) ∙ h)

pub piece_none : (rs : List Range) (n : ℕ) (r : List ℕ) (q : Range) → type_le q.at r ≡ true → tuples rs n (type_minus r q.at) ≡ [] → piece rs n r q ≡ []
piece_none rs n r q h e = rw (h, e) (begins_none q.first q.count)
