-- The texts of cells, rectangles and parts, piece by piece.
use Rattle.std.proofs.Common.{◌≡◌, ℕ, zero, suc, ◌+◌, ◌-◌, ◌<◌, ◌≤◌, List, [], ◌∷◌, ◌++◌, length, map, take, drop, get_or, refl, sym, ap, ◌∙◌, arith}
use Rattle.std.specs.Prelude.{Some, None, unwrap_or, reverse}
use Rattle.std.specs.List.{flat_map}
use Rattle.std.proofs.lemmas.List.{take_more, reverse-append}
use Rattle.std.proofs.lemmas.List.Concat.{flat_map-cons}
use Rattle.std.proofs.lemmas.Grind.{flat_map-append}
use Rattle.gf_sums.specs.Sums.{reindex}
use Rattle.alb_mono.specs.Listing.{Each}
use Rattle.alb_mono.specs.Tree.{Tree, rising}
use Rattle.alb_rows.specs.Row.{Cells, comb}
use Rattle.alb_table.specs.Grid.{cells_of, ArePairsBelow}
use Rattle.alb_table.specs.Table.{rectangle, PartView, mono_at, part_at, entry_of}
use Rattle.alb_table.specs.declared.grid.Grid.{Grid}
use Rattle.alb_print.specs.Text.{leading_text, later_text, poly_text}
use Rattle.alb_answer.specs.Answers.{cells_poly, entry_poly, row_pairs}
use Rattle.alb_print.proofs.Pieces.{flat-at, flat-get}

-- ---- parts

pub parts-at : (f : PartView → List ℕ) (parts : List PartView) (k : ℕ) → k < length parts → flat_map f (drop k parts) ≡ f (part_at parts k) ++ flat_map f (drop (k + 1) parts)
parts-at f parts k h = flat-get f parts k _ h

-- ---- cells

reindex-snoc : (h : ℕ → Tree) (xs : Cells) (x : ℕ × ℕ) → reindex h (comb (xs ++ x ∷ [])) ≡ reindex h (comb xs) ++ (x.1, h x.0) ∷ []
reindex-snoc h [] x = refl
reindex-snoc h (y ∷ xs) x = ap (λ z. (y.1, h y.0) ∷ z) (reindex-snoc h xs x)

cells-snoc : (parts : List PartView) (xs : Cells) (x : ℕ × ℕ) → cells_poly parts (xs ++ x ∷ []) ≡ (x.1, mono_at parts x.0) ∷ cells_poly parts xs
cells-snoc parts xs x = ap reverse (reindex-snoc (mono_at parts) xs x) ∙ reverse-append (reindex (mono_at parts) (comb xs)) ((x.1, mono_at parts x.0) ∷ [])

-- the last of the first m + 1 cells has the first term
pub cells-more : (parts : List PartView) (cells : Cells) (m : ℕ) (x : ℕ × ℕ) → m < length cells → x ≡ get_or cells m x
    → cells_poly parts (take (m + 1) cells) ≡ (x.1, mono_at parts x.0) ∷ cells_poly parts (take m cells)
cells-more parts cells m x h e = ap (cells_poly parts) (take_more cells m x h ∙ ap (λ y. take m cells ++ y ∷ []) (sym e)) ∙ cells-snoc parts (take m cells) x

pub later-cells : (p : ℕ) (letters : List ℕ) (parts : List PartView) (cells : Cells) (m : ℕ) (x : ℕ × ℕ) → m < length cells → x ≡ get_or cells m x
    → flat_map (later_text p letters) (cells_poly parts (take (m + 1) cells)) ≡ later_text p letters (x.1, mono_at parts x.0) ++ flat_map (later_text p letters) (cells_poly parts (take m cells))
later-cells p letters parts cells m x h e =
    ap (flat_map (later_text p letters)) (cells-more parts cells m x h e) ∙ flat_map-cons (later_text p letters) (x.1, mono_at parts x.0) (cells_poly parts (take m cells))

take-all : {X : Type 0} (xs : List X) (n : ℕ) → n ≡ length xs → take n xs ≡ xs
take-all [] zero h = refl
take-all [] (suc n) h = refl
take-all (x ∷ xs) zero h = absurd (omega arith)
take-all (x ∷ xs) (suc n) h = ap (λ ys. x ∷ ys) (take-all xs n (omega arith))

-- all cells
pub cells-all : (parts : List PartView) (cells : Cells) (n : ℕ) → n ≡ length cells → cells_poly parts (take n cells) ≡ cells_poly parts cells
cells-all parts cells n h = ap (cells_poly parts) (take-all cells n h)

-- the first term and the others
pub cells-text : (p : ℕ) (letters : List ℕ) (parts : List PartView) (cells : Cells) (m : ℕ) (x : ℕ × ℕ) → m + 1 ≡ length cells → x ≡ get_or cells m x
    → leading_text p letters (x.1, mono_at parts x.0) ++ flat_map (later_text p letters) (cells_poly parts (take m cells)) ≡ poly_text p letters (cells_poly parts cells)
cells-text p letters parts cells m x h e =
    ap (poly_text p letters) (sym (cells-more parts cells m x (omega arith) e) ∙ cells-all parts cells (m + 1) h)

-- ---- entries

pub entry-some : (p : ℕ) (letters : List ℕ) (parts : List PartView) (b c : ℕ) (cells : Cells) → entry_of parts b c ≡ Some cells → cells_poly parts cells ≡ entry_poly parts (b, c)
entry-some p letters parts b c cells h = ap (λ e. cells_poly parts (unwrap_or e [])) (sym h)

pub entry-none : (parts : List PartView) (b c : ℕ) → entry_of parts b c ≡ None → [] ≡ entry_poly parts (b, c)
entry-none parts b c h = ap (λ e. cells_poly parts (unwrap_or e [])) (sym h)

-- ---- rectangles

rows-from : (f : ℕ × ℕ → List ℕ) (b c n d m : ℕ) → n ≡ suc m → d ≡ suc c → flat_map f (row_pairs b c n) ≡ f (b, c) ++ flat_map f (row_pairs b d m)
rows-from f b c n d m h k = rw (h, k) (flat_map-cons f (b, c) (row_pairs b (suc c) m))

pub row-at : (f : ℕ × ℕ → List ℕ) (b c n j : ℕ) → j < n → flat_map f (row_pairs b (c + j) (n - j)) ≡ f (b, c + j) ++ flat_map f (row_pairs b (c + (j + 1)) (n - (j + 1)))
row-at f b c n j h = rows-from f b (c + j) (n - j) (c + (j + 1)) (n - (j + 1)) (omega arith) (omega arith)

pub row-start : (b c n : ℕ) → row_pairs b (c + 0) (n - 0) ≡ row_pairs b c n
row-start b c n = let e : c + 0 ≡ c = omega arith in let d : n - 0 ≡ n = omega arith in rw (e, d) refl

pub row-end : (f : ℕ × ℕ → List ℕ) (b c n j : ℕ) → n ≤ j → flat_map f (row_pairs b (c + j) (n - j)) ≡ []
row-end f b c n j h = let e : n - j ≡ 0 = omega arith in rw e refl

pub row-below : (n b c m j : ℕ) → ArePairsBelow n (row_pairs b c m) → j < m → (b < n) × (c + j < n)
row-below n b c zero j e h = absurd (omega arith)
row-below n b c (suc m) zero e h = let a = e.0.0 in let d = e.0.1 in (a, omega arith)
row-below n b c (suc m) (suc j) e h = let r = row-below n b (suc c) m j e.1 (omega arith) in let d = r.1 in (r.0, omega arith)

rectangle-from : (f : ℕ × ℕ → List ℕ) (a n c m d k : ℕ) → n ≡ suc k → d ≡ suc a → flat_map f (rectangle a n c m) ≡ flat_map f (row_pairs a c m) ++ flat_map f (rectangle d k c m)
rectangle-from f a n c m d k h e = rw (h, e) (ap (flat_map f) (flat_map-cons (λ i. map (λ j. (i, j)) (rising c m)) a (rising (suc a) k)) ∙ flat_map-append f (row_pairs a c m) (rectangle (suc a) k c m))

pub rectangle-at : (f : ℕ × ℕ → List ℕ) (a n c m i : ℕ) → i < n → flat_map f (rectangle (a + i) (n - i) c m) ≡ flat_map f (row_pairs (a + i) c m) ++ flat_map f (rectangle (a + (i + 1)) (n - (i + 1)) c m)
rectangle-at f a n c m i h = rectangle-from f (a + i) (n - i) c m (a + (i + 1)) (n - (i + 1)) (omega arith) (omega arith)

pub rectangle-start : (a n c m : ℕ) → rectangle (a + 0) (n - 0) c m ≡ rectangle a n c m
rectangle-start a n c m = let e : a + 0 ≡ a = omega arith in let d : n - 0 ≡ n = omega arith in rw (e, d) refl

pub rectangle-end : (f : ℕ × ℕ → List ℕ) (a n c m i : ℕ) → n ≤ i → flat_map f (rectangle (a + i) (n - i) c m) ≡ []
rectangle-end f a n c m i h = let e : n - i ≡ 0 = omega arith in rw e refl

-- a rectangle without right factors
pub rectangle-empty : (a n c : ℕ) → rectangle a n c 0 ≡ []
rectangle-empty a zero c = refl
rectangle-empty a (suc n) c = rectangle-empty (suc a) n c

each-front : {X : Type 0} (P : X → Type 0) (xs ys : List X) → Each P (xs ++ ys) → Each P xs
each-front P [] ys h = tt
each-front P (x ∷ xs) ys h = (h.0, each-front P xs ys h.1)

each-back : {X : Type 0} (P : X → Type 0) (xs ys : List X) → Each P (xs ++ ys) → Each P ys
each-back P [] ys h = h
each-back P (x ∷ xs) ys h = each-back P xs ys h.1

pub rectangle-below : (n a k c m i : ℕ) → ArePairsBelow n (rectangle a k c m) → i < k → ArePairsBelow n (row_pairs (a + i) c m)
rectangle-below n a zero c m i e h = absurd (omega arith)
rectangle-below n a (suc k) c m zero e h =
    let z : a + 0 ≡ a = omega arith in
    rw z (each-front (λ q. (q.0 < n) × (q.1 < n)) (row_pairs a c m) (rectangle (suc a) k c m) e)
rectangle-below n a (suc k) c m (suc i) e h =
    let z : a + suc i ≡ suc a + i = omega arith in
    rw z (rectangle-below n (suc a) k c m i (each-back (λ q. (q.0 < n) × (q.1 < n)) (row_pairs a c m) (rectangle (suc a) k c m) e) (omega arith))

-- ---- many rectangles

pub grids-at : (f : ℕ × ℕ → List ℕ) (gs : List Grid) (i : ℕ) (x : Grid) → i < length gs → x ≡ get_or gs i x
    → flat_map f (flat_map cells_of (drop i gs)) ≡ flat_map f (cells_of x) ++ flat_map f (flat_map cells_of (drop (i + 1) gs))
grids-at f gs i x h e = ap (flat_map f) (flat-at cells_of gs i x h e) ∙ flat_map-append f (cells_of x) (flat_map cells_of (drop (i + 1) gs))

pub grids-below : (n : ℕ) (gs : List Grid) (i : ℕ) (x : Grid) → ArePairsBelow n (flat_map cells_of gs) → i < length gs → x ≡ get_or gs i x → ArePairsBelow n (cells_of x)
grids-below n [] i x b h e = absurd (omega arith)
grids-below n (y ∷ gs) zero x b h e = rw e (each-front (λ q. (q.0 < n) × (q.1 < n)) (cells_of y) (flat_map cells_of gs) b)
grids-below n (y ∷ gs) (suc i) x b h e = grids-below n gs i x (each-back (λ q. (q.0 < n) × (q.1 < n)) (cells_of y) (flat_map cells_of gs) b) (omega arith) e
