-- The place of a product among the products of its type.
use Rattle.std.proofs.Common.{◌≡◌, ℕ, zero, suc, ◌+◌, ◌-◌, ◌*◌, ◌<◌, ◌≤◌, ◌==◌, Bool, true, false, List, [], ◌∷◌, ◌++◌, map, length, drop, sym, refl, ap, ◌∙◌, arith, inl, inr, ◌⊎◌, length-append, length-drop, append_assoc, subst, get_or}
use Rattle.std.specs.Prelude.{nat_le, nat_lt, ◌&&◌, Some, None, slice_get}
use Rattle.std.specs.List.{flat_map}
use Rattle.std.proofs.lemmas.Bool.{cases_Bool}
use Rattle.std.proofs.lemmas.Bool.Decides.{nat_tests}
use Rattle.std.proofs.lemmas.List.{drop-drop}
use Rattle.std.proofs.lemmas.Nat.{mul-le}
use Rattle.alb_mono.specs.Tree.{rising}
use Rattle.alb_mono.proofs.Both.{both_tests}
use Rattle.alb_table.specs.declared.grid.Grid.{Grid}
use Rattle.alb_table.specs.Grid.{cells_of, OffsetsFrom, covers, first_cover, place_in}
use Rattle.alb_table.specs.Table.{same_pair, rectangle, find_entry}

-- no key of the list is (b, c)
abbrev Misses : ℕ → ℕ → List (ℕ × ℕ) → Type 0
Misses b c [] = Unit {0}
Misses b c (x ∷ xs) = (same_pair x (b, c) ≡ false) × Misses b c xs

misses-append : (b c : ℕ) (xs ys : List (ℕ × ℕ)) → Misses b c xs → Misses b c ys → Misses b c (xs ++ ys)
misses-append b c [] ys h k = k
misses-append b c (x ∷ xs) ys h k = (h.0, misses-append b c xs ys h.1 k)

module _ {E : Type 0} where
  -- what stands before is passed over
  find_past : (b c : ℕ) (xs ys : List (ℕ × ℕ)) (es : List E) → Misses b c xs → length xs ≤ length es →
      find_entry (b, c) (xs ++ ys) es ≡ find_entry (b, c) ys (drop (length xs) es)
  find_past b c [] ys es h l = refl
  find_past b c (x ∷ xs) ys [] h l = absurd (omega arith)
  find_past b c (x ∷ xs) ys (e ∷ es) h l = rw h.0 (find_past b c xs ys es h.1 (omega arith))

  find_none : (b c : ℕ) (xs : List (ℕ × ℕ)) (es : List E) → Misses b c xs → find_entry (b, c) xs es ≡ None
  find_none b c [] es h = refl
  find_none b c (x ∷ xs) [] h = refl
  find_none b c (x ∷ xs) (e ∷ es) h = rw h.0 (find_none b c xs es h.1)

  get-drop : (n k : ℕ) (es : List E) → slice_get (drop n es) k ≡ slice_get es (n + k)
  get-drop zero k es = let e : 0 + k ≡ k = omega arith in rw e
  get-drop (suc n) k [] = refl
  get-drop (suc n) k (e ∷ es) = let q : suc n + k ≡ suc (n + k) = omega arith in rw q (get-drop n k es)

-- a row of a rectangle
abbrev row : ℕ → ℕ → ℕ → List (ℕ × ℕ)
row i a m = map (λ j. (i, j)) (rising a m)

row_misses_left : (b c i a m : ℕ) → (i ≡ b → ⊥) → Misses b c (row i a m)
row_misses_left b c i a zero h = tt
row_misses_left b c i a (suc m) h = (let e : (i == b) ≡ false = grind (arith, nat_tests) in rw e, row_misses_left b c i (suc a) m h)

and_false : (a b : Bool) → b ≡ false → (a && b) ≡ false
and_false true b h = h
and_false false b h = refl

row_misses_right : (b c i a m : ℕ) → (c < a) ⊎ (a + m ≤ c) → Misses b c (row i a m)
row_misses_right b c i a zero h = tt
row_misses_right b c i a (suc m) h =
    (let e : (a == c) ≡ false = grind (arith, nat_tests) in and_false (i == b) (a == c) e, row_misses_right b c i (suc a) m (grind arith))

length-row : (i a m : ℕ) → length (row i a m) ≡ m
length-row i a zero = refl
length-row i a (suc m) = ap suc (length-row i (suc a) m)

pub length-rectangle : (a n b m : ℕ) → length (rectangle a n b m) ≡ n * m
length-rectangle a zero b m = let e : 0 ≡ 0 * m = omega arith in e
length-rectangle a (suc n) b m =
    length-append (row a b m) (rectangle (suc a) n b m)
    ∙ (let e : length (row a b m) ≡ m = length-row a b m in let f : length (rectangle (suc a) n b m) ≡ n * m = length-rectangle (suc a) n b m in
    let k : suc n * m ≡ m + n * m = grind arith in rw (e, f, k))

rectangle_misses : (b c a n d m : ℕ) → ((b < a) ⊎ (a + n ≤ b)) ⊎ ((c < d) ⊎ (d + m ≤ c)) → Misses b c (rectangle a n d m)
rectangle_misses b c a zero d m h = tt
rectangle_misses b c a (suc n) d m (inl h) =
    misses-append b c (row a d m) (rectangle (suc a) n d m) (row_misses_left b c a d m (λ e. absurd (grind arith))) (rectangle_misses b c (suc a) n d m (inl (grind arith)))
rectangle_misses b c a (suc n) d m (inr h) =
    misses-append b c (row a d m) (rectangle (suc a) n d m) (row_misses_right b c a d m h) (rectangle_misses b c (suc a) n d m (inr h))

covers_misses : (g : Grid) (b c : ℕ) → covers g b c ≡ false → Misses b c (cells_of g)
covers_misses g b c h = rectangle_misses b c g.left g.lefts g.right g.rights (grind (arith, nat_tests))

pub record Covers (g : Grid) (b c : ℕ) : Type 0 where
  pub low : g.left ≤ b
  pub high : b < g.left + g.lefts
  pub low_right : g.right ≤ c
  pub high_right : c < g.right + g.rights

pub covers_fact : (g : Grid) (b c : ℕ) → covers g b c ≡ true → Covers g b c
covers_fact g b c h =
    let q = both_tests _ _ h in let l = both_tests _ _ q.0 in let r = both_tests _ _ q.1 in
    let l0 : nat_le g.left b ≡ true = l.0 in let l1 : nat_lt b (g.left + g.lefts) ≡ true = l.1 in
    let r0 : nat_le g.right c ≡ true = r.0 in let r1 : nat_lt c (g.right + g.rights) ≡ true = r.1 in
    record { low = grind (arith, nat_tests); high = grind (arith, nat_tests); low_right = grind (arith, nat_tests); high_right = grind (arith, nat_tests) }

all_miss : (b c : ℕ) (gs : List Grid) → first_cover b c gs ≡ None → Misses b c (flat_map cells_of gs)
all_miss b c [] h = tt
all_miss b c (f ∷ gs) h = elim (cases_Bool (covers f b c)) [
  | inl e ↦ absurd (let q : Some f ≡ None = rw e at h in cc)
  | inr e ↦ misses-append b c (cells_of f) _ (covers_misses f b c e) (all_miss b c gs (rw e at h))
]

module _ {E : Type 0} where
  row_found : (b c a m : ℕ) (ys : List (ℕ × ℕ)) (es : List E) → a ≤ c → c < a + m → m ≤ length es →
      find_entry (b, c) (row b a m ++ ys) es ≡ slice_get es (c - a)
  row_found b c a zero ys es h k l = absurd (omega arith)
  row_found b c a (suc m) ys [] h k l = absurd (omega arith)
  row_found b c a (suc m) ys (e ∷ es) h k l = elim (cases_Bool (a == c)) [
    | inl q ↦ let i : c - a ≡ 0 = grind (arith, nat_tests) in let t : (b == b) ≡ true = grind (arith, nat_tests) in rw (q, t, i)
    | inr q ↦ let i : c - a ≡ suc (c - suc a) = grind (arith, nat_tests) in
        rw (and_false (b == b) (a == c) q, i) (row_found b c (suc a) m ys es (grind (arith, nat_tests)) (omega arith) (omega arith))
  ]

  rectangle_found : (b c a n d m : ℕ) (ys : List (ℕ × ℕ)) (es : List E) → a ≤ b → b < a + n → d ≤ c → c < d + m → n * m ≤ length es →
      find_entry (b, c) (rectangle a n d m ++ ys) es ≡ slice_get es ((b - a) * m + (c - d))
  rectangle_found b c a zero d m ys es h k p q l = absurd (omega arith)
  rectangle_found b c a (suc n) d m ys es h k p q l =
      let s : suc n * m ≡ m + n * m = grind arith in
      let i : row a d m ++ rectangle (suc a) n d m ++ ys ≡ row a d m ++ (rectangle (suc a) n d m ++ ys) = append_assoc (row a d m) _ ys in
      elim (cases_Bool (a == b)) [
        | inl e ↦ let v : a ≡ b = grind (arith, nat_tests) in let z : (b - a) * m + (c - d) ≡ c - d = (let y : b - a ≡ 0 = omega arith in rw y (omega arith)) in
            rw (i, z) (subst (λ r. find_entry (b, c) (row r d m ++ (rectangle (suc a) n d m ++ ys)) es ≡ slice_get es (c - d)) (sym v)
            (row_found b c d m (rectangle (suc a) n d m ++ ys) es p q (omega arith)))
        | inr e ↦ let u : suc a ≤ b = grind (arith, nat_tests) in
            let r : length (row a d m) ≡ m = length-row a d m in
            let z : (b - a) * m + (c - d) ≡ m + ((b - suc a) * m + (c - d)) = (let y : b - a ≡ suc (b - suc a) = omega arith in rw y (let x : suc (b - suc a) * m ≡ m + (b - suc a) * m = grind arith in rw x (omega arith))) in
            rw i (find_past b c (row a d m) _ es (row_misses_left b c a d m (λ e. absurd (omega arith))) (omega arith)
            ∙ rw (r, z) (rectangle_found b c (suc a) n d m ys (drop m es) u (omega arith) p q (omega (arith, length-drop m es)) ∙ get-drop m _ es))
      ]

  -- THE PLACE: the entry of a pair is that at the place of the first rectangle which has it
  pub grids_found : (b c n : ℕ) (gs : List Grid) (g : Grid) (es : List E) → OffsetsFrom n gs → n + length (flat_map cells_of gs) ≤ length es →
      first_cover b c gs ≡ Some g → find_entry (b, c) (flat_map cells_of gs) (drop n es) ≡ slice_get es (place_in g b c)
  grids_found b c n [] g es o l h = absurd (cc)
  grids_found b c n (f ∷ gs) g es o l h =
      let s : length (flat_map cells_of (f ∷ gs)) ≡ length (cells_of f) + length (flat_map cells_of gs) = length-append (cells_of f) _ in
      let r : length (cells_of f) ≡ f.lefts * f.rights = length-rectangle f.left f.lefts f.right f.rights in
      elim (cases_Bool (covers f b c)) [
        | inl e ↦ let k = covers_fact f b c e in
            let same : f ≡ g = (let q : Some f ≡ Some g = rw e at h in cc) in
            let z : n + ((b - f.left) * f.rights + (c - f.right)) ≡ place_in f b c = rw o.0 (omega arith) in
            rectangle_found b c f.left f.lefts f.right f.rights _ (drop n es) k.low k.high k.low_right k.high_right (omega (arith, length-drop n es))
            ∙ get-drop n _ es ∙ ap (slice_get es) z ∙ ap (λ w. slice_get es (place_in w b c)) same
        | inr e ↦ find_past b c (cells_of f) _ (drop n es) (covers_misses f b c e) (omega (arith, length-drop n es))
            ∙ rw r (ap (find_entry (b, c) (flat_map cells_of gs)) (drop-drop (f.lefts * f.rights) n es)
            ∙ grids_found b c (n + f.lefts * f.rights) gs g es o.1 (omega arith) (rw e at h))
      ]

  pub grids_none : (b c : ℕ) (gs : List Grid) (es : List E) → first_cover b c gs ≡ None → find_entry (b, c) (flat_map cells_of gs) es ≡ None
  grids_none b c gs es h = find_none b c (flat_map cells_of gs) es (all_miss b c gs h)

-- the facts that a rectangle covers
pub covers_low : (g : Grid) (b c : ℕ) → covers g b c ≡ true → (g.left ≤ b) × (g.right ≤ c)
covers_low g b c h = let k = covers_fact g b c h in (k.low, k.low_right)

pub cover_covers : (b c : ℕ) (gs : List Grid) (g : Grid) → first_cover b c gs ≡ Some g → covers g b c ≡ true
cover_covers b c [] g h = absurd (cc)
cover_covers b c (f ∷ gs) g h = elim (cases_Bool (covers f b c)) [
  | inl e ↦ let q : Some f ≡ Some g = rw e at h in let same : f ≡ g = cc in subst (λ w. covers w b c ≡ true) same e
  | inr e ↦ cover_covers b c gs g (rw e at h)
]

inside : (g : Grid) (b c : ℕ) → Covers g b c → (b - g.left) * g.rights + (c - g.right) < g.lefts * g.rights
inside g b c k =
    let r : (b - g.left) + 1 ≤ g.lefts = (let l = k.low in let h = k.high in omega arith) in
    let s : (b - g.left + 1) * g.rights ≤ g.lefts * g.rights = mul-le (b - g.left + 1) g.rights g.lefts g.rights r (omega arith) in
    let t : (b - g.left + 1) * g.rights ≡ (b - g.left) * g.rights + g.rights = grind arith in
    (let l = k.low_right in let h = k.high_right in omega arith)

pub place_within : (b c n : ℕ) (gs : List Grid) (g : Grid) → OffsetsFrom n gs → first_cover b c gs ≡ Some g →
    place_in g b c < n + length (flat_map cells_of gs)
place_within b c n [] g o h = absurd (cc)
place_within b c n (f ∷ gs) g o h =
    let s : length (flat_map cells_of (f ∷ gs)) ≡ length (cells_of f) + length (flat_map cells_of gs) = length-append (cells_of f) _ in
    let r : length (cells_of f) ≡ f.lefts * f.rights = length-rectangle f.left f.lefts f.right f.rights in
    elim (cases_Bool (covers f b c)) [
      | inl e ↦ let q : Some f ≡ Some g = rw e at h in let same : f ≡ g = cc in
          let i : (b - f.left) * f.rights + (c - f.right) < f.lefts * f.rights = inside f b c (covers_fact f b c e) in
          let z : f.offset ≡ n = o.0 in
          subst (λ w. place_in w b c < n + length (flat_map cells_of (f ∷ gs))) same (omega arith)
      | inr e ↦ let i : place_in g b c < (n + f.lefts * f.rights) + length (flat_map cells_of gs) = place_within b c (n + f.lefts * f.rights) gs g o.1 (rw e at h) in omega arith
    ]

pub get_some : {E : Type 0} (es : List E) (i : ℕ) (x : E) → i < length es → x ≡ get_or es i x → slice_get es i ≡ Some x
get_some [] i x h q = absurd (omega arith)
get_some (e ∷ es) zero x h q = ap Some (sym q)
get_some (e ∷ es) (suc i) x h q = get_some es i x (omega arith) q

pub find_empty : {E : Type 0} (k : ℕ × ℕ) (xs : List (ℕ × ℕ)) → find_entry {E = E} k xs [] ≡ None
find_empty k [] = refl
find_empty k (x ∷ xs) = refl
