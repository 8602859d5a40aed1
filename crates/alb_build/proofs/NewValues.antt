-- The entries of the types of the next degree are those of the blocks.
use Rattle.std.proofs.Common.{◌≡◌, ℕ, ◌+◌, ◌-◌, ◌<◌, true, false, List, [], ◌∷◌, ◌++◌, length, get_or, reverse, drop, sym, ap, ◌∙◌, subst, arith, sum, inl, inr}
use Rattle.std.specs.Prelude.{unwrap_or}
use Rattle.std.proofs.lemmas.Bool.{cases_Bool}
use Rattle.gf_sums.specs.Sums.{Comb, reindex}
use Rattle.alb_mono.specs.Listing.{Each}
use Rattle.alb_mono.specs.Tree.{Tree, leaf, node}
use Rattle.alb_poly.specs.Textbook.{unit}
use Rattle.alb_poly.specs.Instance.{Form}
use Rattle.alb_rows.specs.Row.{Cells, comb, entry, ColumnsBelow}
use Rattle.alb_rows.specs.Span as Vectors
use Rattle.alb_reduce.specs.Reduction.{kept}
use Rattle.alb_table.specs.Table.{PartView, elems, monos, mono_at, products, table_product, Table, IsTable, extended}
use Rattle.alb_table.specs.Block.{IsColumnAt, IsEntryAt, IsFreeAt}
use Rattle.alb_table.specs.Right.{IsRight, place_of}
use Rattle.alb_table.specs.RightTable.{basis_monos, mono_entry}
use Rattle.alb_table.specs.Columns.{IsEntryRow}
use Rattle.alb_poly.proofs.Multilinear.{each-from}
use Rattle.std.proofs.lemmas.List.{get_or_default}
use Rattle.alb_table.proofs.Numbers.{place-mono, place-append}
use Rattle.alb_table.proofs.RangeLemmas.{product_of, type_of_range}
use Rattle.alb_table.proofs.RightTables.{numbered, length-monos}
use Rattle.alb_block.specs.Meaning.{column_monos}
use Rattle.alb_block.proofs.MeaningLemmas.{block-itself}
use Rattle.alb_build.specs.Part.{HasPivotEntry, numbers_from}
use Rattle.alb_build.proofs.Blocks.{col-place}
use Rattle.alb_build.proofs.EntryCombs.{negated_comb, negated-reindex, negated-each, entry-row}
use Rattle.alb_build.proofs.EntryRows.{IsFreeCell, cells-free, free-full}
use Rattle.alb_build.proofs.KeptParts.{monos-kept}
use Rattle.alb_build.proofs.Numbering.{before, length-numbers, number-at}
use Rattle.alb_build.proofs.NewBases.{pair_mono, free-long, long, place-is, no-pivot, wide_is}
use Rattle.alb_build.proofs.NewEntries.{reindex-agree, reindex-twice, free-mono, entry-found, pair-in}
use Rattle.alb_build.proofs.Places.{HasPart}

module _ (fs : List Form) (t : Table) (new : List PartView) (old : IsTable t) (tab : IsTable (extended t new)) (pos : 0 < t.p)
    (right : IsRight t.p fs t.target t.degree (basis_monos t.parts) (mono_entry t.parts))
    (next : Each (λ (q : PartView). sum q.at ≡ t.degree + 1) new)
    (w : List ℕ) (deg : sum w ≡ t.degree + 1) (h : HasPart fs t (t.parts ++ new) 0 w) where
  abbrev P : List (ℕ × ℕ)
  P = products t.parts w

  abbrev pair_at : ℕ → ℕ × ℕ
  pair_at k = get_or P k (0, 0)

  -- the place of a basis monomial in the longer list is its number
  place-of : (b : ℕ) → b < length (elems t.parts) → place_of (monos (t.parts ++ new)) (mono_at t.parts b) ≡ b
  place-of b l =
      let r = monos-kept t.parts new in
      let n : b < length (monos t.parts) = omega (arith, l, length-monos t.parts) in
      let e : place_of (monos t.parts) (mono_at t.parts b) ≡ b = place-mono (monos t.parts) b (numbered fs t old right).different n in
      ap (λ ms. place_of ms (mono_at t.parts b)) r.1 ∙ place-append (monos t.parts) r.0 (mono_at t.parts b) (omega arith) ∙ e

  -- the entry over monomials
  entry-value : (k : ℕ) → k < length P →
      mono_entry (t.parts ++ new) (mono_at t.parts (pair_at k).0) (mono_at t.parts (pair_at k).1) ≡ reindex (mono_at (t.parts ++ new)) (comb (get_or h.part.entries k []))
  entry-value k l =
      let p = product_of t.parts w (pair_at k).0 (pair_at k).1 (pair-in fs t new old tab pos right next w deg h k l) in
      let a = (type_of_range t.parts p.left (pair_at k).0 p.left_range).0 in
      let b = (type_of_range t.parts p.right (pair_at k).1 p.right_range).0 in
      ap (λ i. reindex (mono_at (t.parts ++ new)) (table_product (t.parts ++ new) i (place_of (monos (t.parts ++ new)) (mono_at t.parts (pair_at k).1)))) (place-of (pair_at k).0 a)
      ∙ ap (λ i. reindex (mono_at (t.parts ++ new)) (table_product (t.parts ++ new) (pair_at k).0 i)) (place-of (pair_at k).1 b)
      ∙ ap (λ o. reindex (mono_at (t.parts ++ new)) (comb (unwrap_or o []))) (entry-found fs t new old tab pos right next w deg h k l)

  numbers : List ℕ
  numbers = numbers_from (0 + h.first) h.made.free

  long-numbers : length (numbers_from (0 + h.first) h.made.free) ≡ length P
  long-numbers = length-numbers (0 + h.first) h.made.free ∙ free-long fs t new tab w h

  -- the column of a free place has the monomial of its number
  number-mono : (k : ℕ) → k < length P → get_or h.made.free k false ≡ true → mono_at (t.parts ++ new) (get_or (numbers_from (0 + h.first) h.made.free) k 0) ≡ pair_mono t.parts (pair_at k)
  number-mono k l e =
      let n : get_or (numbers_from (0 + h.first) h.made.free) k 0 ≡ (0 + h.first) + before h.made.free k = number-at (0 + h.first) h.made.free k (omega (arith, l, free-long fs t new tab w h)) in
      let z : (0 + h.first) + before h.made.free k ≡ h.first + before h.made.free k = omega arith in
      ap (mono_at (t.parts ++ new)) (n ∙ z) ∙ free-mono fs t new old tab pos right next w deg h k l e

  -- the monomial of a free column is that of its number
  cell-mono : (c : ℕ × ℕ) → IsFreeCell h.block.reduced.p h.made.free c →
      get_or (column_monos t.parts w) c.0 (leaf 0)
      ≡ mono_at (t.parts ++ new) (get_or (numbers_from (0 + h.first) h.made.free) (length (numbers_from (0 + h.first) h.made.free) - 1 - c.0) 0)
  cell-mono c f =
      let full : length h.made.free ≡ length P = free-long fs t new tab w h in
      let low : c.0 < length h.made.free = f.low in
      let k : ℕ = length P - 1 - c.0 in
      let z : length h.made.free - 1 - c.0 ≡ k = ap (λ m. m - 1 - c.0) full in
      let y : length (numbers_from (0 + h.first) h.made.free) - 1 - c.0 ≡ k = ap (λ m. m - 1 - c.0) long-numbers in
      let e : get_or h.made.free k false ≡ true = ap (λ i. get_or h.made.free i false) (sym z) ∙ f.is_free in
      col-place (pair_mono t.parts) P c.0 (omega arith)
      ∙ sym (ap (λ i. mono_at (t.parts ++ new) (get_or (numbers_from (0 + h.first) h.made.free) i 0)) y ∙ number-mono k (omega arith) e)

  -- the entry of a pivot
  pivot-at : (column : ℕ) (es : Cells) → column < length P → HasPivotEntry h.block.reduced (numbers_from (0 + h.first) h.made.free) column es →
      IsEntryAt t.p fs t.target t.degree (mono_entry t.parts) w (get_or (column_monos t.parts w) column (leaf 0)) (reindex (mono_at (t.parts ++ new)) (comb es))
  pivot-at column es l g =
      let field : h.block.reduced.p ≡ t.p = h.is_block.block.field in
      let full : length h.made.free ≡ length P = free-long fs t new tab w h in
      let wide : length h.block.columns ≡ length P = wide_is fs t new tab w h in
      let below : ColumnsBelow (length P) g.row = subst (λ n. ColumnsBelow n g.row) (h.is_block.block.width ∙ wide) g.below in
      let cells = cells-free h.block.reduced h.made.free (free-full h.block.reduced (length h.block.columns) h.made.free h.made.are_free) column g.row g.reduced g.leads g.residues
      (subst (λ n. ColumnsBelow n g.row) (sym full) below) in
      let e : Comb ℕ = negated_comb (reverse (drop 1 g.row)) es in
      let row = subst (λ p. IsEntryRow p (column_monos t.parts w) column (entry g.row) e) field
      (entry-row h.block.reduced.p (length P) column (numbers_from (0 + h.first) h.made.free) g.row es (column_monos t.parts w) (subst (λ p. 0 < p) (sym field) pos)
      (long fs t new tab w h) g.leads g.residues below g.entry_is) in
      let same : reindex (λ c. get_or (column_monos t.parts w) c (leaf 0)) e ≡ reindex (mono_at (t.parts ++ new)) (comb es) =
      reindex-agree (λ c. get_or (column_monos t.parts w) c (leaf 0))
      (λ c. mono_at (t.parts ++ new) (get_or (numbers_from (0 + h.first) h.made.free) (length (numbers_from (0 + h.first) h.made.free) - 1 - c) 0)) e
      (negated-each (λ c. get_or (column_monos t.parts w) c (leaf 0)
      ≡ mono_at (t.parts ++ new) (get_or (numbers_from (0 + h.first) h.made.free) (length (numbers_from (0 + h.first) h.made.free) - 1 - c) 0))
      h.block.reduced.p (numbers_from (0 + h.first) h.made.free) (reverse (drop 1 g.row)) es g.entry_is (each-from _ _ (reverse (drop 1 g.row)) cell-mono cells))
      ∙ sym (reindex-twice (mono_at (t.parts ++ new)) (λ c. get_or (numbers_from (0 + h.first) h.made.free) (length (numbers_from (0 + h.first) h.made.free) - 1 - c) 0) e)
      ∙ ap (reindex (mono_at (t.parts ++ new))) (negated-reindex h.block.reduced.p (numbers_from (0 + h.first) h.made.free) (reverse (drop 1 g.row)) es g.entry_is) in
      subst (IsEntryAt t.p fs t.target t.degree (mono_entry t.parts) w (get_or (column_monos t.parts w) column (leaf 0))) same
      (h.is_block.meaning.entries column (omega (arith, l, long fs t new tab w h)) (entry g.row)
      (subst (λ p. Vectors.IsReducedRow p (kept h.block.reduced) column (entry g.row)) field g.reduced) e row)

  -- THE ENTRY of the product at a place
  entry-at : (k : ℕ) → k < length P →
      IsEntryAt t.p fs t.target t.degree (mono_entry t.parts) w (pair_mono t.parts (pair_at k)) (reindex (mono_at (t.parts ++ new)) (comb (get_or h.part.entries k [])))
  entry-at k l = elim (cases_Bool (get_or h.made.free k false)) [
    | inl e ↦ (
        let j : ℕ = length P - 1 - k in
        let np = no-pivot fs t new tab w h k l e in
        let z : length (numbers_from (0 + h.first) h.made.free) - 1 - k ≡ length P - 1 - k = ap (λ m. m - 1 - k) long-numbers in
        let c : get_or h.part.entries k [] ≡ (get_or (numbers_from (0 + h.first) h.made.free) k 0, 1) ∷ [] =
        (h.made.entries.each k (omega (arith, l, long-numbers))).free (λ v. np (subst (Vectors.IsPivot t.p (kept h.block.reduced)) z
        (subst (λ p. Vectors.IsPivot p (kept h.block.reduced) (length (numbers_from (0 + h.first) h.made.free) - 1 - k)) h.is_block.block.field v))) in
        let u : reindex (mono_at (t.parts ++ new)) (comb (get_or h.part.entries k [])) ≡ unit (pair_mono t.parts (pair_at k)) =
        ap (λ es. reindex (mono_at (t.parts ++ new)) (comb es)) c ∙ ap unit (number-mono k l e) in
        let f = h.is_block.meaning.free j (omega (arith, l, long fs t new tab w h)) np in
        subst (IsEntryAt t.p fs t.target t.degree (mono_entry t.parts) w (pair_mono t.parts (pair_at k))) (sym u)
        (block-itself fs t w pos (pair_mono t.parts (pair_at k)) (subst (IsFreeAt t.p fs t.target t.degree (mono_entry t.parts) w)
        (place-is fs t new tab w h k l) f)))
    | inr e ↦ pivot_entry e
  ]
    where
      pivot_entry : get_or h.made.free k false ≡ false →
          IsEntryAt t.p fs t.target t.degree (mono_entry t.parts) w (pair_mono t.parts (pair_at k)) (reindex (mono_at (t.parts ++ new)) (comb (get_or h.part.entries k [])))
      pivot_entry e =
          let wide : length h.block.columns ≡ length P = wide_is fs t new tab w h in
          let y : length (numbers_from (0 + h.first) h.made.free) - 1 - k ≡ length P - 1 - k = ap (λ m. m - 1 - k) long-numbers in
          let z : length h.block.columns - 1 - k ≡ length (numbers_from (0 + h.first) h.made.free) - 1 - k = ap (λ m. m - 1 - k) (wide ∙ sym long-numbers) in
          let v : Vectors.IsPivot h.block.reduced.p (kept h.block.reduced) (length (numbers_from (0 + h.first) h.made.free) - 1 - k) =
          subst (Vectors.IsPivot h.block.reduced.p (kept h.block.reduced)) z (h.made.are_free.pivot k (omega arith) e) in
          let g = (h.made.entries.each k (omega (arith, l, long-numbers))).pivot v in
          subst (λ x. IsEntryAt t.p fs t.target t.degree (mono_entry t.parts) w x (reindex (mono_at (t.parts ++ new)) (comb (get_or h.part.entries k []))))
          (ap (λ i. get_or (column_monos t.parts w) i (leaf 0)) y ∙ place-is fs t new tab w h k l)
          (pivot-at (length (numbers_from (0 + h.first) h.made.free) - 1 - k) (get_or h.part.entries k []) (omega arith) g)

  -- THE ENTRY of a product of the type
  pub new-entry : (b c : Tree) → IsColumnAt t.p fs t.target t.degree w (node b c) →
      IsEntryAt t.p fs t.target t.degree (mono_entry t.parts) w (node b c) (mono_entry (t.parts ++ new) b c)
  new-entry b c col =
      let n = h.is_block.meaning.columns.whole (node b c) col in
      let l : n.0 < length P = omega (arith, n.1, long fs t new tab w h) in
      let k : ℕ = length P - 1 - n.0 in
      let e : get_or (column_monos t.parts w) n.0 (leaf 0) ≡ node b c = get_or_default (column_monos t.parts w) n.0 (leaf 0) (node b c) n.1 ∙ n.2 in
      let f : pair_mono t.parts (pair_at k) ≡ node b c = sym (col-place (pair_mono t.parts) P n.0 l) ∙ e in
      let x : mono_at t.parts (pair_at k).0 ≡ b = cc in
      let y : mono_at t.parts (pair_at k).1 ≡ c = cc in
      let v : mono_entry (t.parts ++ new) b c ≡ reindex (mono_at (t.parts ++ new)) (comb (get_or h.part.entries k [])) =
      ap (λ m. mono_entry (t.parts ++ new) m c) (sym x) ∙ ap (mono_entry (t.parts ++ new) (mono_at t.parts (pair_at k).0)) (sym y) ∙ entry-value k (omega arith) in
      subst (λ m. IsEntryAt t.p fs t.target t.degree (mono_entry t.parts) w m (mono_entry (t.parts ++ new) b c)) f
      (subst (IsEntryAt t.p fs t.target t.degree (mono_entry t.parts) w (pair_mono t.parts (pair_at k))) (sym v) (entry-at k (omega arith)))
