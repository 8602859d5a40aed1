-- The next tuple.
use Rattle.std.proofs.Common.{◌≡◌, ℕ, zero, suc, ◌+◌, ◌-◌, ◌<◌, ◌≤◌, true, false, List, [], ◌∷◌, ◌++◌, map, length, take, drop, get_or, sym, refl, ap, ◌∙◌, arith, subst, append_assoc, add-one, inl, inr}
use Rattle.std.specs.List.{flat_map}
use Rattle.std.specs.Prelude.{nat_le, nat_lt}
use Rattle.std.proofs.lemmas.Bool.{cases_Bool}
use Rattle.std.proofs.lemmas.Bool.Decides.{nat_tests}
use Rattle.std.proofs.lemmas.List.{drop_more, append-nil, take-append-drop, map-append, get_or-take}
use Rattle.std.proofs.lemmas.List.Concat.{flat_map-append}
use Rattle.alb_mono.specs.Tree.{type_le, type_minus}
use Rattle.alb_mono.specs.Listing.{IsIn}
use Rattle.alb_subst.specs.declared.range.Range.{Range}
use Rattle.alb_subst.specs.Ranges.{begins, tuples, piece, Heads, Next, Last, RisesFrom, AddsUp, in_range, range_at}

-- ---- the range of a number

in_fact : (q : Range) (b : ℕ) → q.first ≤ b → b < q.first + q.count → in_range q b ≡ true
in_fact q b h k = let e : nat_le q.first b ≡ true = grind (arith, nat_tests) in let f : nat_lt b (q.first + q.count) ≡ true = grind (arith, nat_tests) in rw (e, f)

rises_in : (n : ℕ) (rs : List Range) (q : Range) → RisesFrom n rs → IsIn q rs → n ≤ q.first
rises_in n [] q h i = absurd i
rises_in n (p ∷ rs) q h (inl e) = subst (λ (z : Range). n ≤ z.first) (sym e) h.0
rises_in n (p ∷ rs) q h (inr i) = let z = rises_in (p.first + p.count) rs q h.1 i in let y = h.0 in omega arith

range_found : (n : ℕ) (rs : List Range) (q : Range) (b : ℕ) → RisesFrom n rs → IsIn q rs → q.first ≤ b → b < q.first + q.count →
    (range_at rs b < length rs) × ((d : Range) → get_or rs (range_at rs b) d ≡ q)
range_found n [] q b h i l k = absurd i
range_found n (p ∷ rs) q b h i l k = elim (cases_Bool (in_range p b)) [
  | inl e ↦ rw e (omega arith, λ d. same p q rs b h.1 i l e)
  | inr e ↦ rw e (let r = range_found (p.first + p.count) rs q b h.1 (later p q rs b i l k e) l k in let z = r.0 in (omega arith, λ d. r.1 d))
]
  where
    same : (p q : Range) (rs : List Range) (b : ℕ) → RisesFrom (p.first + p.count) rs → IsIn q (p ∷ rs) → q.first ≤ b → in_range p b ≡ true → p ≡ q
    same p q rs b h (inl e) l t = sym e
    same p q rs b h (inr i) l t =
        let z = rises_in (p.first + p.count) rs q h i in
        absurd (let y : b < p.first + p.count = grind (arith, nat_tests) in omega arith)

    later : (p q : Range) (rs : List Range) (b : ℕ) → IsIn q (p ∷ rs) → q.first ≤ b → b < q.first + q.count → in_range p b ≡ false → IsIn q rs
    later p q rs b (inl e) l k t = absurd (let y : in_range q b ≡ true = in_fact q b l k in let z : in_range q b ≡ false = ap (λ w. in_range w b) e ∙ t in cc)
    later p q rs b (inr i) l k t = i

pub record Here (rs : List Range) (r : List ℕ) (b : ℕ) (bs : List ℕ) (q : Range) : Type 0 where
  pub low : q.first ≤ b
  pub high : b < q.first + q.count
  pub within : type_le q.at r ≡ true
  pub rest : AddsUp rs bs (type_minus r q.at)

pub here : (rs : List Range) (r : List ℕ) (b k : ℕ) (bs x : List ℕ) → RisesFrom 0 rs → x ≡ b ∷ bs → AddsUp rs x r → k ≡ range_at rs b →
    (k < length rs) × ((q : Range) → q ≡ get_or rs k q → Here rs r b bs q)
here rs r b k bs x h xe a0 e =
    let a : AddsUp rs (b ∷ bs) r = subst (λ y. AddsUp rs y r) xe a0 in
    let f = range_found 0 rs a.0 b h a.1 a.2 a.3 in (
      subst (λ n. n < length rs) (sym e) f.0,
      λ q g.
          let s : a.0 ≡ q = sym (f.1 q) ∙ ap (λ n. get_or rs n q) (sym e) ∙ sym g in
          subst (Here rs r b bs) s (record { low = a.2; high = a.3; within = a.4; rest = a.5 }),
    )

-- ---- the tuples round one that begins with b

begins_split : (f c k : ℕ) (ts : List (List ℕ)) → k < c → begins f c ts ≡ begins f k ts ++ (map (λ bs. (f + k) ∷ bs) ts ++ begins (suc (f + k)) (c - suc k) ts)
begins_split f zero k ts h = absurd (omega arith)
begins_split f (suc c) zero ts h =
    let e : f + 0 ≡ f = omega arith in let g : suc c - 1 ≡ c = omega arith in rw (e, g) refl
begins_split f (suc c) (suc k) ts h =
    let e : f + suc k ≡ suc f + k = omega arith in let g : suc c - suc (suc k) ≡ c - suc k = omega arith in
    rw (e, g) (ap (λ us. map (λ bs. f ∷ bs) ts ++ us) (begins_split (suc f) c k ts (omega arith)) ∙ sym (append_assoc (map (λ bs. f ∷ bs) ts) _ _))

pub record Round (whole : List (List ℕ)) (b : ℕ) (ts later more : List (List ℕ)) : Type 0 where
  pub front : List (List ℕ)
  pub is : whole ≡ front ++ (map (λ bs. b ∷ bs) ts ++ (later ++ more))

pub round : (rs : List Range) (n m : ℕ) (r : List ℕ) (b k : ℕ) (bs : List ℕ) (q : Range) → k < length rs → q ≡ get_or rs k q → m ≡ suc n → Here rs r b bs q →
    Round (tuples rs m r) b (tuples rs n (type_minus r q.at)) (begins (b + 1) (q.first + q.count - (b + 1)) (tuples rs n (type_minus r q.at))) (flat_map (piece rs n r) (drop (k + 1) rs))
round rs n m r b k bs q l e f h =
    let ts : List (List ℕ) = tuples rs n (type_minus r q.at) in
    let lo = h.low in let hi = h.high in
    let s : rs ≡ take k rs ++ q ∷ drop (k + 1) rs = sym (take-append-drop k rs) ∙ ap (λ xs. take k rs ++ xs) (drop_more rs k q l ∙ ap (λ y. y ∷ drop (k + 1) rs) (sym e)) in
    let t : flat_map (piece rs n r) rs ≡ flat_map (piece rs n r) (take k rs) ++ (piece rs n r q ++ flat_map (piece rs n r) (drop (k + 1) rs)) =
    ap (flat_map (piece rs n r)) s ∙ flat_map-append (piece rs n r) (take k rs) (q ∷ drop (k + 1) rs) in
    let p : piece rs n r q ≡ begins q.first q.count ts = rw h.within refl in
    let o : q.first + (b - q.first) ≡ b = omega arith in
    let g : q.count - suc (b - q.first) ≡ q.first + q.count - (b + 1) = omega arith in
    let w : begins q.first q.count ts ≡ begins q.first (b - q.first) ts ++ (map (λ bs. b ∷ bs) ts ++ begins (b + 1) (q.first + q.count - (b + 1)) ts) =
    rw (o, g, ← add-one) at (begins_split q.first q.count (b - q.first) ts (omega arith)) in
    rw f (record {
      front = flat_map (piece rs n r) (take k rs) ++ begins q.first (b - q.first) ts;
      is = t ∙ ap (λ us. flat_map (piece rs n r) (take k rs) ++ (us ++ flat_map (piece rs n r) (drop (k + 1) rs))) (p ∙ w) ∙ simp append_assoc;
    })

-- ---- the four cases

pub next_inside : (whole ts later more : List (List ℕ)) (b : ℕ) (x y : List ℕ) → Round whole b ts later more → Next ts x y → Next whole (b ∷ x) (b ∷ y)
next_inside whole ts later more b x y h n = record {
  front = h.front ++ map (λ bs. b ∷ bs) n.front;
  back = map (λ bs. b ∷ bs) n.back ++ (later ++ more);
  is = h.is ∙ ap (λ us. h.front ++ (map (λ bs. b ∷ bs) us ++ (later ++ more))) n.is
      ∙ ap (λ us. h.front ++ (us ++ (later ++ more))) (map-append (λ bs. b ∷ bs) n.front (x ∷ y ∷ n.back)) ∙ simp append_assoc;
}

pub next_later : (whole ts later more : List (List ℕ)) (b : ℕ) (x y : List ℕ) → Round whole b ts later more → Last ts x → Heads later y → Next whole (b ∷ x) y
next_later whole ts later more b x y h n k = record {
  front = h.front ++ map (λ bs. b ∷ bs) n.front;
  back = k.rest ++ more;
  is = h.is ∙ ap (λ us. h.front ++ (map (λ bs. b ∷ bs) us ++ (later ++ more))) n.is
      ∙ ap (λ us. h.front ++ (us ++ (later ++ more))) (map-append (λ bs. b ∷ bs) n.front (x ∷ []))
      ∙ ap (λ us. h.front ++ ((map (λ bs. b ∷ bs) n.front ++ (b ∷ x) ∷ []) ++ (us ++ more))) k.is ∙ simp append_assoc;
}

pub next_more : (whole ts later more : List (List ℕ)) (b : ℕ) (x y : List ℕ) → Round whole b ts later more → Last ts x → later ≡ [] → Heads more y → Next whole (b ∷ x) y
next_more whole ts later more b x y h n e k = record {
  front = h.front ++ map (λ bs. b ∷ bs) n.front;
  back = k.rest;
  is = h.is ∙ ap (λ us. h.front ++ (map (λ bs. b ∷ bs) us ++ (later ++ more))) n.is
      ∙ ap (λ us. h.front ++ (us ++ (later ++ more))) (map-append (λ bs. b ∷ bs) n.front (x ∷ []))
      ∙ ap (λ us. h.front ++ ((map (λ bs. b ∷ bs) n.front ++ (b ∷ x) ∷ []) ++ (us ++ more))) e
      ∙ ap (λ us. h.front ++ ((map (λ bs. b ∷ bs) n.front ++ (b ∷ x) ∷ []) ++ us)) k.is ∙ simp append_assoc;
}

pub last_of : (whole ts later more : List (List ℕ)) (b : ℕ) (x : List ℕ) → Round whole b ts later more → Last ts x → later ≡ [] → more ≡ [] → Last whole (b ∷ x)
last_of whole ts later more b x h n e k = record {
  front = h.front ++ map (λ bs. b ∷ bs) n.front;
  is = h.is ∙ ap (λ us. h.front ++ (map (λ bs. b ∷ bs) us ++ (later ++ more))) n.is
      ∙ ap (λ us. h.front ++ (us ++ (later ++ more))) (map-append (λ bs. b ∷ bs) n.front (x ∷ []))
      ∙ ap (λ us. h.front ++ ((map (λ bs. b ∷ bs) n.front ++ (b ∷ x) ∷ []) ++ (us ++ more))) e
      ∙ ap (λ us. h.front ++ ((map (λ bs. b ∷ bs) n.front ++ (b ∷ x) ∷ []) ++ us)) k ∙ ap (λ us. h.front ++ us) (append-nil _) ∙ simp append_assoc;
}

-- ---- the list that is written

pub at_place : (xs : List ℕ) (i b : ℕ) → i < length xs → b ≡ get_or xs i b → drop i xs ≡ b ∷ drop (i + 1) xs
at_place xs i b h e = drop_more xs i b h ∙ ap (λ c. c ∷ drop (i + 1) xs) (sym e)

pub kept_place : (xs ys : List ℕ) (i b : ℕ) → i < length xs → length ys ≡ length xs → take (i + 1) ys ≡ take (i + 1) xs → b ≡ get_or xs i b → drop i ys ≡ b ∷ drop (i + 1) ys
kept_place xs ys i b h l e g =
    at_place ys i b (omega arith) (g ∙ sym (get_or-take (i + 1) xs i b (omega arith)) ∙ ap (λ zs. get_or zs i b) (sym e) ∙ get_or-take (i + 1) ys i b (omega arith))

pub here_at : (rs : List Range) (r cur : List ℕ) (i b k : ℕ) → RisesFrom 0 rs → AddsUp rs (drop i cur) r → i < length cur → b ≡ get_or cur i b → k ≡ range_at rs b →
    (k < length rs) × ((q : Range) → q ≡ get_or rs k q → Here rs r b (drop (i + 1) cur) q)
here_at rs r cur i b k h a l e f = here rs r b k (drop (i + 1) cur) (drop i cur) h (at_place cur i b l e) a f
