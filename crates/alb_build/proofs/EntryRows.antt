-- The entry of a pivot is a row over the numbers of the basis elements of its block.
use Rattle.std.proofs.Common.{◌≡◌, ℕ, zero, suc, ◌+◌, ◌-◌, ◌%◌, ◌<◌, ◌≤◌, Bool, true, false, List, [], ◌∷◌, ◌++◌, length, get_or, reverse, drop, sym, refl, ap, ◌∙◌, subst, arith, inl, inr, ◌⊎◌, length-append}
use Rattle.std.specs.Prelude.{◌≢◌, Result, Ok, Err, IfOk}
use Rattle.std.specs.List.{All, AllPairs}
use Rattle.gf_field.specs.Modular.{IsSameMod}
use Rattle.gf_field.proofs.Mod.{residues}
use Rattle.std.proofs.Math.Nat.{mod-eq_of_lt}
use Rattle.std.proofs.lemmas.List.{get_or_append_left, get_or-append_right}
use Rattle.alb_mono.proofs.ListingLemmas.{each-append}
use Rattle.alb_rows.proofs.RowLemmas.{row_tail, tail_later, head_entry, entry_found}
use Rattle.alb_linear.proofs.LinearLemmas.{each_from_all}
use Rattle.alb_block.proofs.ListLemmas.{reverse-cons, each-reverse}
use Rattle.alb_mono.specs.Listing.{Each}
use Rattle.alb_rows.specs.Row.{Cells, entry, IsRow, IsRowOver, ColumnsBelow, RowLeadsWith}
use Rattle.alb_rows.specs.Span.{IsPivot, IsReducedRow}
use Rattle.alb_reduce.specs.Reduction.{Reduction, kept}
use Rattle.alb_table.specs.Table.{IsRowAmong}
use Rattle.alb_build.specs.Part.{AreFree, AreNumbers, IsNewEntry, AreNegated, IsPivotEntry, HasPivotEntry, numbers_from}
use Rattle.alb_build.proofs.Numbering.{before, length-numbers, number-at, before-less}

-- a cell at a free column, which is a residue and not 0
pub record IsFreeCell (p : ℕ) (free : List Bool) (cell : ℕ × ℕ) : Type 0 where
  pub low : cell.0 < length free
  pub is_free : get_or free (length free - 1 - cell.0) false ≡ true
  pub residue : cell.1 < p
  pub nonzero : cell.1 ≡ 0 → ⊥

-- the later cells have smaller columns
abbrev pub Descend : Cells → Type 0
Descend [] = Unit {0}
Descend (c ∷ cs) = Each (λ d. d.0 < c.0) cs × Descend cs

-- the same as a list of cells: the columns ascend from `low` on to below `high`, and the residues are not 0
abbrev pub Rises : ℕ → ℕ → ℕ → Cells → Type 0
Rises p low high [] = Unit {0}
Rises p low high (c ∷ cs) = (low ≤ c.0) × (c.0 < high) × (c.1 < p) × (c.1 ≡ 0 → ⊥) × Rises p (suc c.0) high cs

-- the numbers of descending free columns ascend
pub negated-rises : (p first : ℕ) (free : List Bool) (low : ℕ) (cs es : Cells) → 0 < p →
    Each (IsFreeCell p free) cs → Descend cs → AreNegated p (numbers_from first free) cs es → Each (λ c. low ≤ first + before free (length free - 1 - c.0)) cs →
    Rises p low (first + before free (length free)) es
negated-rises p first free low [] [] pos f d n l = tt
negated-rises p first free low [] (e ∷ es) pos f d n l = absurd n
negated-rises p first free low (c ∷ cs) [] pos f d n l = absurd n
negated-rises p first free low (c ∷ cs) (e ∷ es) pos f d n l =
    let k : ℕ = length free - 1 - c.0 in
    let a : c.0 < length free = f.0.low in
    let m : length (numbers_from first free) ≡ length free = length-numbers first free in
    let at : get_or (numbers_from first free) k 0 ≡ first + before free k = number-at first free k (omega arith) in
    let e0 : e.0 ≡ get_or (numbers_from first free) (length (numbers_from first free) - 1 - c.0) 0 = n.0.number in
    let z : length (numbers_from first free) - 1 - c.0 ≡ k = omega arith in
    let e1 : e.0 ≡ first + before free k = e0 ∙ ap (λ i. get_or (numbers_from first free) i 0) z ∙ at in
    let h : before free k < before free (length free) = before-less free k (length free) (omega arith) f.0.is_free in
    let lo : low ≤ first + before free k = l.0 in (
      omega arith,
      omega arith,
      n.0.residue,
      (λ q. f.0.nonzero (zero-negative p e.1 c.1 pos q f.0.residue n.0.negative)),
      negated-rises p first free (suc e.0) cs es pos f.1 d.1 n.1 (later cs f.1 d.0 e1),
    )
  where
    zero-negative : (p x y : ℕ) → 0 < p → x ≡ 0 → y < p → IsSameMod p (x + y) 0 → y ≡ 0
    zero-negative p x y pos q l s = let z : x + y ≡ y = omega arith in residues l pos (subst (λ m. IsSameMod p m 0) z s)

    later : (ds : Cells) → Each (IsFreeCell p free) ds → Each (λ d. d.0 < c.0) ds → e.0 ≡ first + before free (length free - 1 - c.0) →
        Each (λ d. suc e.0 ≤ first + before free (length free - 1 - d.0)) ds
    later [] f a q = tt
    later (x ∷ ds) g a q =
        let b : x.0 < c.0 = a.0 in
        let i : x.0 < length free = g.0.low in
        let j : c.0 < length free = f.0.low in
        let s : before free (length free - 1 - c.0) < before free (length free - 1 - x.0) = before-less free (length free - 1 - c.0) (length free - 1 - x.0) (omega arith) f.0.is_free in
        (omega arith, later ds g.1 a.1 q)

-- ---- the cells of a reduced row after its pivot

pub each-indexed : (P : ℕ × ℕ → Type 0) (xs : Cells) → ((i : ℕ) → i < length xs → P (get_or xs i (0, 0))) → Each P xs
each-indexed P [] h = tt
each-indexed P (x ∷ xs) h = (h 0 (omega arith), each-indexed P xs (λ i l. h (suc i) (omega arith)))

descend-push : (ys : Cells) (x : ℕ × ℕ) → Descend ys → Each (λ d. x.0 < d.0) ys → Descend (ys ++ x ∷ [])
descend-push [] x d a = (tt, tt)
descend-push (y ∷ ys) x d a = (each-append (λ e. e.0 < y.0) ys (x ∷ []) d.0 (a.0, tt), descend-push ys x d.1 a.1)

-- the cells of a row, the last first
descend-row : (xs : Cells) → IsRow xs → Descend (reverse xs)
descend-row [] h = tt
descend-row (x ∷ xs) h = rw (reverse-cons x xs)
    (descend-push (reverse xs) x (descend-row xs (row_tail x xs h)) (each-reverse (λ d. x.0 < d.0) xs (each_from_all (λ d. x.0 < d.0) xs (tail_later x xs h))))

-- the first cell stands at the pivot or after it
pub lead-first : (column : ℕ) (x : ℕ × ℕ) (xs : Cells) → IsRow (x ∷ xs) → RowLeadsWith (x ∷ xs) (column, 1) → column ≤ x.0
lead-first column x xs h l = elim (order column x.0) [
  | inl s ↦ s
  | inr s ↦ (
      let e : entry (x ∷ xs) x.0 ≡ x.1 = head_entry x xs h in
      let z : entry (x ∷ xs) x.0 ≡ 0 = l.before x.0 s in
      let n : x.1 ≢ 0 = h.nonzero 0 x (omega arith) in
      absurd (n (sym e ∙ z)))
]
  where
    order : (a b : ℕ) → (a ≤ b) ⊎ (b < a)
    order a b = grind arith

module _ (r : Reduction) (free : List Bool) (are : AreFree r (length free) free) (column : ℕ) where
  -- a cell after the pivot is free
  pub rest-free : (x : ℕ × ℕ) (xs : Cells) → IsReducedRow r.p (kept r) column (entry (x ∷ xs)) → RowLeadsWith (x ∷ xs) (column, 1) → IsRowOver r.p (x ∷ xs) →
      ColumnsBelow (length free) (x ∷ xs) → Each (IsFreeCell r.p free) xs
  rest-free x xs red lead over below = each-indexed (IsFreeCell r.p free) xs (λ i l.
      let c : ℕ × ℕ = get_or xs i (0, 0) in
      let low : c.0 < length free = below (suc i) (0, 0) (omega arith) in
      let res : c.1 < r.p = over.residues (suc i) (0, 0) (omega arith) in
      let non : c.1 ≢ 0 = over.row.nonzero (suc i) (0, 0) (omega arith) in
      let behind : x.0 < c.0 = tail_later x xs over.row i (0, 0) l in
      let first : column ≤ x.0 = lead-first column x xs over.row lead in
      let value : entry (x ∷ xs) c.0 ≡ c.1 = entry_found (x ∷ xs) (suc i) c.0 over.row (omega arith) refl in
      let place : length free - 1 - (length free - 1 - c.0) ≡ c.0 = omega arith in
      record {
        low = low;
        is_free = (are.each (length free - 1 - c.0) (omega arith)).1 (λ v.
            let w : IsPivot r.p (kept r) c.0 = subst (IsPivot r.p (kept r)) place v in
            let z : entry (x ∷ xs) c.0 % r.p ≡ 0 = red.others c.0 w (λ q. absurd (omega arith)) in
            non (sym (mod-eq_of_lt res) ∙ ap (λ y. y % r.p) (sym value) ∙ z));
        residue = res;
        nonzero = non;
      })

  -- the entry of a pivot ascends through the numbers of the block
  pub pivot-rises : (first : ℕ) (row es : Cells) → IsReducedRow r.p (kept r) column (entry row) → RowLeadsWith row (column, 1) → IsRowOver r.p row →
      ColumnsBelow (length free) row → IsPivotEntry r.p (numbers_from first free) row es → Rises r.p first (first + before free (length free)) es
  pivot-rises first [] [] red lead over below e = tt
  pivot-rises first [] (c ∷ cs) red lead over below e = absurd e
  pivot-rises first (x ∷ xs) es red lead over below e =
      let res : x.1 < r.p = over.residues 0 x (omega arith) in
      negated-rises r.p first free first (reverse xs) es (omega arith)
      (each-reverse (IsFreeCell r.p free) xs (rest-free x xs red lead over below))
      (descend-row xs (row_tail x xs over.row))
      e
      (all-above (reverse xs))
    where
      all-above : (cs : Cells) → Each (λ c. first ≤ first + before free (length free - 1 - c.0)) cs
      all-above [] = tt
      all-above (c ∷ cs) = (omega arith, all-above cs)

  -- the cells after the pivot, the last first
  pub cells-free : (row : Cells) → IsReducedRow r.p (kept r) column (entry row) → RowLeadsWith row (column, 1) → IsRowOver r.p row → ColumnsBelow (length free) row →
      Each (IsFreeCell r.p free) (reverse (drop 1 row))
  cells-free [] red lead over below = tt
  cells-free (x ∷ xs) red lead over below = each-reverse (IsFreeCell r.p free) xs (rest-free x xs red lead over below)

-- ---- what ascends is a row

rises-low : (p low high : ℕ) (es : Cells) → Rises p low high es → All (λ c. low ≤ c.0) es
rises-low p low high [] h k d l = absurd (omega arith)
rises-low p low high (c ∷ cs) h zero d l = h.0
rises-low p low high (c ∷ cs) h (suc k) d l =
    let a : suc c.0 ≤ (get_or cs k d).0 = rises-low p (suc c.0) high cs h.4 k d (omega arith) in let b : low ≤ c.0 = h.0 in omega arith

rises-high : (p low high : ℕ) (es : Cells) → Rises p low high es → ColumnsBelow high es
rises-high p low high [] h k d l = absurd (omega arith)
rises-high p low high (c ∷ cs) h zero d l = h.1
rises-high p low high (c ∷ cs) h (suc k) d l = rises-high p (suc c.0) high cs h.4 k d (omega arith)

rises-residues : (p low high : ℕ) (es : Cells) → Rises p low high es → All (λ c. c.1 < p) es
rises-residues p low high [] h k d l = absurd (omega arith)
rises-residues p low high (c ∷ cs) h zero d l = h.2
rises-residues p low high (c ∷ cs) h (suc k) d l = rises-residues p (suc c.0) high cs h.4 k d (omega arith)

rises-nonzero : (p low high : ℕ) (es : Cells) → Rises p low high es → All (λ c. c.1 ≢ 0) es
rises-nonzero p low high [] h k d l = absurd (omega arith)
rises-nonzero p low high (c ∷ cs) h zero d l = h.3
rises-nonzero p low high (c ∷ cs) h (suc k) d l = rises-nonzero p (suc c.0) high cs h.4 k d (omega arith)

rises-pairs : (p low high : ℕ) (es : Cells) → Rises p low high es → AllPairs (λ a b. a.0 < b.0) es
rises-pairs p low high [] h i j d l m = absurd (omega arith)
rises-pairs p low high (c ∷ cs) h i zero d l m = absurd (omega arith)
rises-pairs p low high (c ∷ cs) h zero (suc j) d l m = let a : suc c.0 ≤ (get_or cs j d).0 = rises-low p (suc c.0) high cs h.4 j d (omega arith) in omega arith
rises-pairs p low high (c ∷ cs) h (suc i) (suc j) d l m = rises-pairs p (suc c.0) high cs h.4 i j d (omega arith) (omega arith)

pub rises-row : (p low high : ℕ) (es : Cells) → Rises p low high es → IsRowOver p es
rises-row p low high es h = record {
  row = record { ascending = rises-pairs p low high es h; nonzero = rises-nonzero p low high es h };
  residues = rises-residues p low high es h;
}

pub rises-among : (p first count : ℕ) (es : Cells) → Rises p first (first + count) es → IsRowAmong p first count es
rises-among p first count es h = record {
  row = rises-row p first (first + count) es h;
  low = rises-low p first (first + count) es h;
  high = rises-high p first (first + count) es h;
}

-- ---- the entries of a block

pub numbers-long : (r : Reduction) (n : ℕ) (numbers : List ℕ) → AreNumbers r n numbers → length numbers ≡ n
numbers-long r n numbers a = ap length a.numbers_are ∙ length-numbers a.first a.free ∙ a.are_free.full

pub free-full : (r : Reduction) (n : ℕ) (free : List Bool) → AreFree r n free → AreFree r (length free) free
free-full r n free a = subst (λ m. AreFree r m free) (sym a.full) a

-- the negated cells are a row
pub pivot-row : (r : Reduction) (n : ℕ) (numbers : List ℕ) (column : ℕ) (row es : Cells) → AreNumbers r n numbers → IsReducedRow r.p (kept r) column (entry row) →
    RowLeadsWith row (column, 1) → IsRowOver r.p row → ColumnsBelow n row → IsPivotEntry r.p numbers row es → IsRowOver r.p es
pivot-row r n numbers column row es a red lead over below e =
    rises-row r.p a.first (a.first + before a.free (length a.free)) es
    (pivot-rises r a.free (free-full r n a.free a.are_free) column a.first row es red lead over (subst (λ m. ColumnsBelow m row) (sym a.are_free.full) below)
    (subst (λ ns. IsPivotEntry r.p ns row es) a.numbers_are e))

-- the entry of a product that is no pivot
pub new-free : (r : Reduction) (numbers : List ℕ) (k column : ℕ) (es : Cells) → column ≡ length numbers - 1 - k → (IsPivot r.p (kept r) column → ⊥) →
    es ≡ (get_or numbers k 0, 1) ∷ [] → IsNewEntry r numbers k es
new-free r numbers k column es e n h = record {
  free = λ _. h;
  pivot = λ v. absurd (n (subst (IsPivot r.p (kept r)) (sym e) v));
}

-- the entry of a pivot
pub new-pivot : (r : Reduction) (n : ℕ) (numbers : List ℕ) (k column : ℕ) (row es : Cells) → column ≡ length numbers - 1 - k → IsPivot r.p (kept r) column →
    IsReducedRow r.p (kept r) column (entry row) → RowLeadsWith row (column, 1) → IsRowOver r.p row → ColumnsBelow r.columns row → IsPivotEntry r.p numbers row es →
    IsNewEntry r numbers k es
new-pivot r n numbers k column row es e v red lead over below h = record {
  free = λ f. absurd (f (subst (IsPivot r.p (kept r)) e v));
  pivot = λ _. subst (λ c. HasPivotEntry r numbers c es) e (record { row = row; reduced = red; leads = lead; residues = over; below = below; entry_is = h });
}

pub ok_from : {X E : Type 0} (o : Result X E) (P Q : X → Type 0) → IfOk o P → ((x : X) → P x → Q x) → IfOk o Q
ok_from (Ok x) P Q h f = f x h
ok_from (Err e) P Q h f = tt

-- one more entry
pub entries-more : (P : ℕ → Cells → Type 0) (out new : List Cells) (k : ℕ) (es : Cells) → length out ≡ k → ((i : ℕ) → i < k → P i (get_or out i [])) → new ≡ out ++ es ∷ [] → P k es →
    (length new ≡ k + 1) × ((i : ℕ) → i < k + 1 → P i (get_or new i []))
entries-more P out new k es l h e p = (
  ap length e ∙ length-append out (es ∷ []) ∙ ap (λ n. n + 1) l,
  λ i m. elim (order i k (omega arith)) [
    | inl s ↦ subst (P i) (sym (ap (λ xs. get_or xs i []) e ∙ get_or_append_left out (es ∷ []) [] i (omega arith))) (h i s)
    | inr s ↦ (
        let z : i - length out ≡ 0 = omega arith in
        let g : get_or new i [] ≡ es = ap (λ xs. get_or xs i []) e ∙ get_or-append_right out (es ∷ []) (length out) i [] refl (omega arith) ∙ ap (λ j. get_or (es ∷ []) j []) z in
        subst (P i) (sym g) (subst (λ j. P j es) (sym s) p))
  ],
)
  where
    order : (a b : ℕ) → a ≤ b → (a < b) ⊎ (a ≡ b)
    order a b h = grind arith
