-- A recipe over kept origins: the combination of their rows that is a column less its entry.
use Rattle.std.proofs.Common.{ℕ, ◌<◌, ◌≤◌, List, [], ◌∷◌, length, get_or, zero, suc, sym, refl, subst, arith}
use Rattle.std.specs.List.{Contains}
use Rattle.gf_field.specs.Modular.{IsSameMod}
use Rattle.gf_field.proofs.Mod.{same, back, ◌⊙◌, plus, times}
use Rattle.gf_sums.specs.Sums.{Comb, reindex}
use Rattle.gf_sums.proofs.Alike.{Alike, itself, turned, joined}
use Rattle.alb_mono.specs.Listing.{Each}
use Rattle.alb_mono.specs.Tree.{Tree}
use Rattle.alb_poly.specs.Textbook.{unit}
use Rattle.alb_poly.specs.Poly.{Poly}
use Rattle.alb_poly.proofs.Consequence.{alike_poly, poly_alike}
use Rattle.alb_poly.proofs.Multilinear.{each-from}
use Rattle.alb_rows.specs.Span.{combination, Same}
use Rattle.alb_rows.specs.Span as Vectors
use Rattle.alb_table.specs.Right.{IsZeroAt, difference}
use Rattle.alb_table.specs.Block.{spread, InNamedSpan}
use Rattle.alb_table.specs.Columns.{vector_of, AreColumns, col, HaveSpan, IsEntryRow}
use Rattle.alb_table.proofs.Columns.{element-vector, rows-have-span, vector-spread, vectors-alike, element, at_monomial}

-- the named origins of a recipe
abbrev pub recipe_of : {N : Type 0} → List N → N → List (ℕ × ℕ) → Comb N
recipe_of names d items = reindex (λ k. get_or names k d) items

at_place : {N : Type 0} (Named : N → Type 0) (xs : List N) (k : ℕ) (d : N) → Each Named xs → k < length xs → Named (get_or xs k d)
at_place Named [] k d a l = absurd (omega arith)
at_place Named (x ∷ xs) zero d a l = a.0
at_place Named (x ∷ xs) (suc k) d a l = at_place Named xs k d a.1 (omega arith)

contained : {N : Type 0} (Named : N → Type 0) (xs : List N) → Each Named xs → (k : N) → Contains xs k → Named k
contained Named xs a k c = subst Named c.2 (at_place Named xs c.0 k a c.1)

contains-each : {N : Type 0} (xs : List N) → Each (Contains xs) xs
contains-each [] = tt
contains-each (x ∷ xs) = ((0, omega arith, refl), each-from (Contains xs) (Contains (x ∷ xs)) xs (λ m c. (suc c.0, (let l : c.0 < length xs = c.1 in omega arith), c.2)) (contains-each xs))

module _ {N : Type 0} (Named : N → Type 0) (names : List N) (d : N) (named : Each Named names) where
  pub recipe-named : (items : List (ℕ × ℕ)) → Each (λ s. s.1 < length names) items → Each (λ t. Named t.1) (recipe_of names d items)
  recipe-named [] a = tt
  recipe-named (s ∷ items) a = (at_place Named names s.1 d named a.0, recipe-named items a.1)

module _ {N : Type 0} (p : ℕ) (pos : 0 < p) (Named : N → Type 0) (row : N → Poly) (Column : Tree → Type 0) (cols : List Tree) (are : AreColumns Column cols)
    (columns : (x : Poly) → InNamedSpan p Named row x → (m : Tree) → (IsZeroAt p x m → ⊥) → Column m) where
  -- An element whose vector is the reduced row of a column is the column less its entry.
  pub entry-element : {K : Type 0} (f : K → ℕ → ℕ) (span : HaveSpan p Named row cols f) (j : ℕ) → j < length cols → (v : ℕ → ℕ) → Vectors.IsReducedRow p f j v → (e : Comb ℕ) →
      IsEntryRow p cols j v e → (y : Poly) → InNamedSpan p Named row y → ((i : ℕ) → IsSameMod p (v i) (vector_of cols y i)) →
      Alike p (difference p (unit (col cols j)) (reindex (col cols) e)) y
  entry-element f span j here v reduced e entry y s h =
      let u = element p Named row Column cols are f span columns pos j here v reduced e entry in
      turned (joined (vectors-alike p Column cols are y u.element (columns y s) (columns u.element u.in_span) (λ i. back (h i) ⊙ u.vector i))
      (alike_poly (at_monomial p Named row Column cols are f span columns pos j here v reduced e entry)))

  module _ (names : List N) (d : N) (named : Each Named names) (origins : ℕ → ℕ → ℕ)
      (rows : (k i : ℕ) → k < length names → IsSameMod p (origins k i) (vector_of cols (row (get_or names k d)) i)) where
    recipe-vector : (items : List (ℕ × ℕ)) (i : ℕ) → Each (λ s. s.1 < length names) items →
        IsSameMod p (combination origins items i) (combination (λ n. vector_of cols (row n)) (recipe_of names d items) i)
    recipe-vector [] i a = same refl
    recipe-vector (s ∷ items) i a = plus (times (same {a = s.0} refl) (rows s.1 i a.0)) (recipe-vector items i a.1)

    -- A recipe of the reduced row: the column less its entry is the same combination of the origins' rows.
    pub recipe-entry : {K : Type 0} (f : K → ℕ → ℕ) (span : HaveSpan p Named row cols f) (j : ℕ) → j < length cols → (v : ℕ → ℕ) → Vectors.IsReducedRow p f j v → (e : Comb ℕ) →
        IsEntryRow p cols j v e → (items : List (ℕ × ℕ)) → Each (λ s. s.1 < length names) items → Same p (combination origins items) v →
        Alike p (difference p (unit (col cols j)) (reindex (col cols) e)) (spread row (recipe_of names d items))
    recipe-entry f span j here v reduced e entry items a gives =
        let y : Poly = spread row (recipe_of names d items) in
        let s : InNamedSpan p Named row y = record { items = recipe_of names d items; named = recipe-named Named names d named items a; gives = poly_alike (itself y) } in
        entry-element f span j here v reduced e entry y s
        (λ i. back (record { same = gives i }) ⊙ recipe-vector items i a ⊙ same (sym (vector-spread cols row (recipe_of names d items) i)))

    -- Where the origins' rows span all rows, their vectors have the span of the block: so the reduced form of the
    -- origins is that of the block.
    pub origins-have-span : ((k i : ℕ) → length names ≤ k → IsSameMod p (origins k i) 0) → ((n : N) → Named n → InNamedSpan p (Contains names) row (row n)) → HaveSpan p Named row cols origins
    origins-have-span past spans =
        let family : HaveSpan p (Contains names) row cols origins = rows-have-span p (Contains names) row cols names d origins (contains-each names) (λ k c. c) rows past in
        record {
          into = λ k. let u = family.into k in record { element = u.element; in_span = wider u.element u.in_span; vector = u.vector };
          from = λ n h. element-vector p (Contains names) row Column cols are origins family (λ x r. columns x (wider x r)) (row n) (spans n h);
        }
      where
        wider : (x : Poly) → InNamedSpan p (Contains names) row x → InNamedSpan p Named row x
        wider x r = record { items = r.items; named = each-from _ _ r.items (λ t c. contained Named names named t.1 c) r.named; gives = r.gives }
