-- A block's bases and entries, from the reduced form of its rows over column numbers.
use Rattle.std.proofs.Common.{◌≡◌, ℕ, ◌+◌, ◌<◌, ◌≤◌, List, length, sum, subst, get_or}
use Rattle.std.specs.List.{Contains}
use Rattle.std.specs.List.Sorted.{IsStrictlySortedBy}
use Rattle.alb_mono.specs.Tree.{Tree, cmp_trees}
use Rattle.gf_sums.specs.Sums.{Comb, reindex}
use Rattle.alb_poly.specs.Textbook.{unit}
use Rattle.gf_sums.proofs.Alike.{itself, turned}
use Rattle.alb_poly.specs.Poly.{Poly}
use Rattle.alb_poly.specs.Instance.{Form}
use Rattle.alb_mono.specs.Listing.{Each}
use Rattle.alb_poly.proofs.Multilinear.{each-from}
use Rattle.alb_poly.specs.Consequence.{AreMultilinear}
use Rattle.alb_table.specs.Right.{IsZeroAt, AreHigh, IsWithinDegree, IsBasisTo, IsTypeTo}
use Rattle.alb_table.proofs.Congruent.{difference-zero}
use Rattle.alb_table.proofs.Spans.{span-alike, span-zero}
use Rattle.alb_table.specs.Block.{InNamedSpan, tuple_row, IsTupleAt, IsColumnAt, IsPivotAt, IsFreeAt, IsEntryAt, AreFreeAt}
use Rattle.alb_table.proofs.Bases.{IsTable}
use Rattle.alb_table.proofs.Right.{element-columns_at}
use Rattle.alb_table.specs.Columns.{AreColumns, HaveSpan, IsEntryRow, col, vector_of}
use Rattle.alb_table.proofs.Columns.{pivot-number, number-pivot, column-at, number, entry-free, entry-span, names-span}
use Rattle.gf_field.specs.Modular.{IsSameMod}
use Rattle.alb_rows.specs.Span as Vectors

module _ (p : ℕ) (pos : 0 < p) (fs : List Form) (multi : AreMultilinear fs) (high : AreHigh fs) (target : List ℕ) (d : ℕ) (big : 1 ≤ d) (entry : Tree → Tree → Poly)
    (table : IsTable p fs (IsWithinDegree target d) (IsBasisTo p fs target d) entry) (t : List ℕ) (ty : IsTypeTo target (d + 1) t) (next : sum t ≡ d + 1)
    {K : Type 0} (cols : List Tree) (are : AreColumns (IsColumnAt p fs target d t) cols)
    (f : K → ℕ → ℕ) (span : HaveSpan p (IsTupleAt p fs target d t) (tuple_row fs entry) cols f) where
  abbrev Named : ℕ × List Tree → Type 0
  Named name = IsTupleAt p fs target d t name

  columns : (x : Poly) → InNamedSpan p Named (tuple_row fs entry) x → (m : Tree) → (IsZeroAt p x m → ⊥) → IsColumnAt p fs target d t m
  columns x s m n = element-columns_at p pos fs multi high target d big entry table t ty next x s m n

  -- a column whose number is no pivot of the rows is free
  pub number-free : (j : ℕ) → j < length cols → (Vectors.IsPivot p f j → ⊥) → IsFreeAt p fs target d entry t (col cols j)
  number-free j h n = record {
    column = column-at p Named (tuple_row fs entry) (IsColumnAt p fs target d t) cols are f span columns j h;
    no_pivot = λ v. n (pivot-number p Named (tuple_row fs entry) (IsColumnAt p fs target d t) cols are f span columns j h v);
  }

  -- and each free column is one
  pub free-number : (m : Tree) → IsFreeAt p fs target d entry t m → (j : ℕ) × (j < length cols) × (col cols j ≡ m) × (Vectors.IsPivot p f j → ⊥)
  free-number m h =
      let i = number p Named (tuple_row fs entry) (IsColumnAt p fs target d t) cols are f span columns m h.column in (
        i.0,
        i.1,
        i.2,
        λ v. h.no_pivot (subst (λ x. IsPivotAt p fs target d entry t x) i.2
            (number-pivot p Named (tuple_row fs entry) (IsColumnAt p fs target d t) cols are f span columns i.0 v).1),
      )

  -- the entry of a pivot, by its reduced row
  pub pivot-entry : (j : ℕ) → j < length cols → (v : ℕ → ℕ) → Vectors.IsReducedRow p f j v → (e : Comb ℕ) →
      IsEntryRow p cols j v e → IsEntryAt p fs target d entry t (col cols j) (reindex (col cols) e)
  pivot-entry j h v r e k = record {
    free = each-from _ _ (reindex (col cols) e) (λ s q. record { column = q.0; no_pivot = q.1 })
        (entry-free p Named (tuple_row fs entry) (IsColumnAt p fs target d t) cols are f span columns pos j h v r e k);
    in_span = entry-span p Named (tuple_row fs entry) (IsColumnAt p fs target d t) cols are f span columns pos j h v r e k;
  }

  -- the entry of a free column is itself
  pub free-entry : (m : Tree) → IsFreeAt p fs target d entry t m → IsEntryAt p fs target d entry t m (unit m)
  free-entry m h = record {
    free = (h, tt);
    in_span = span-alike p Named (tuple_row fs entry) (turned (difference-zero p pos (itself (unit m)))) (span-zero p Named (tuple_row fs entry));
  }

  -- the ascending list of the columns whose numbers are no pivots
  pub free-list : (ms : List Tree) → IsStrictlySortedBy cmp_trees ms →
      Each (λ m. (j : ℕ) × (j < length cols) × (col cols j ≡ m) × (Vectors.IsPivot p f j → ⊥)) ms →
      ((j : ℕ) → j < length cols → (Vectors.IsPivot p f j → ⊥) → Contains ms (col cols j)) → AreFreeAt p fs target d entry t ms
  free-list ms s a w = record {
    ascends = s;
    free = each-from _ _ ms (λ m h. subst (IsFreeAt p fs target d entry t) h.2 (number-free h.0 h.1 h.3)) a;
    whole = λ m h. let n = free-number m h in subst (Contains ms) n.2 (w n.0 n.1 n.3);
  }

  -- tuples whose vectors span those of all tuples have rows that span all rows
  pub origins-span : (names : List (ℕ × List Tree)) (other : ℕ × List Tree) (g : ℕ → ℕ → ℕ) → Each Named names →
      ((k j : ℕ) → k < length names → IsSameMod p (g k j) (vector_of cols (tuple_row fs entry (get_or names k other)) j)) →
      ((k j : ℕ) → length names ≤ k → IsSameMod p (g k j) 0) →
      ((name : ℕ × List Tree) → Named name → Vectors.InSpan p g (vector_of cols (tuple_row fs entry name))) →
      (name : ℕ × List Tree) → Named name → InNamedSpan p (Contains names) (tuple_row fs entry) (tuple_row fs entry name)
  origins-span names other g named rows past spans name h =
      names-span p (IsColumnAt p fs target d t) cols are Named (tuple_row fs entry) columns names other g named rows past name h (spans name h)
