-- The entry of a product in a right table, out of the kept origins of its type.
use Rattle.std.proofs.Common.{◌≡◌, ℕ, ◌+◌, ◌-◌, ◌<◌, ◌≤◌, List, length, get_or, sum, subst, arith}
use Rattle.std.specs.List.{Contains}
use Rattle.gf_field.specs.Modular.{IsSameMod}
use Rattle.gf_sums.specs.Sums.{Comb, coefficient, reindex}
use Rattle.gf_sums.proofs.Alike.{Alike, itself, turned, joined, append-alike, scale-alike}
use Rattle.alb_mono.specs.Listing.{Each}
use Rattle.alb_mono.specs.Tree.{Tree, node, same_tree}
use Rattle.alb_poly.specs.Textbook.{unit}
use Rattle.alb_poly.specs.Poly.{Poly}
use Rattle.alb_poly.specs.Instance.{Form}
use Rattle.alb_poly.specs.Consequence.{AreMultilinear}
use Rattle.alb_poly.proofs.Multilinear.{each-from}
use Rattle.alb_rows.specs.Span.{combination, Same}
use Rattle.alb_rows.specs.Span as Vectors
use Rattle.alb_table.specs.Right.{difference, AreHigh, IsWithinDegree, IsBasisTo, IsTypeTo, IsRight}
use Rattle.alb_table.specs.Block.{spread, InNamedSpan, tuple_row, IsTupleAt, IsColumnAt, IsEntryAt}
use Rattle.alb_table.specs.Columns.{vector_of, AreColumns, col, IsEntryRow}
use Rattle.alb_table.proofs.Bases.{IsTable}
use Rattle.alb_table.proofs.Block.{pivot-entry}
use Rattle.alb_table.proofs.Congruent.{congruent-joined, congruent-turned}
use Rattle.alb_table.proofs.Right.{right-table, of_type-within, entry-stands, element-columns_at}
use Rattle.alb_table.proofs.Types.{type-turned}
use Rattle.alb_table.proofs.Values.{normal-unique}
use Rattle.alb_table.proofs.Within.{within-same}
use Rattle.alb_trace.proofs.Recipe.{recipe_of, recipe-entry, origins-have-span}

module _ (p : ℕ) (pos : 0 < p) (fs : List Form) (multi : AreMultilinear fs) (high : AreHigh fs) (target : List ℕ) where
  basis-more : (d e : ℕ) → d ≤ e → (b : Tree) → IsBasisTo p fs target d b → IsBasisTo p fs target e b
  basis-more d e l b h = record { within = record { below = h.within.below; type = h.within.type; degree = omega (arith, h.within.degree) }; normal = h.normal }

  -- A right table is right to each smaller degree.
  pub right-lower : (d e : ℕ) → d ≤ e → (basis : List ℕ → List Tree) (entry : Tree → Tree → Poly) → IsRight p fs target e basis entry → IsRight p fs target d basis entry
  right-lower d e l basis entry r = record {
    bases = λ t ty. r.bases t (record { counts = ty.counts; le = ty.le; degree = omega (arith, ty.degree) });
    entries = λ b c hb hc w.
        let s = r.entries b c (basis-more d e l b hb) (basis-more d e l c hc) (record { below = w.below; type = w.type; degree = omega (arith, w.degree) }) in
        record {
          parts = each-from _ _ (entry b c) (λ t k. record { basis = record { within = within-same target d (node b c) t.1 (type-turned k.type) w; normal = k.basis.normal }; type = k.type }) s.parts;
          congruent = s.congruent;
        };
  }

  module _ (d : ℕ) (one : 1 ≤ d) (basis : List ℕ → List Tree) (entry : Tree → Tree → Poly) (right : IsRight p fs target (d + 1) basis entry)
      (t : List ℕ) (ty : IsTypeTo target (d + 1) t) (next : sum t ≡ d + 1) where
    lower : IsTable p fs (IsWithinDegree target d) (IsBasisTo p fs target d) entry
    lower = right-table p pos fs multi high target d basis entry (right-lower d (d + 1) (omega arith) basis entry right)

    -- What the block of a type has for a column is the entry of the table.
    pub entry-alike : (b c : Tree) (e : Poly) → IsColumnAt p fs target d t (node b c) → IsBasisTo p fs target d b → IsBasisTo p fs target d c →
        IsEntryAt p fs target d entry t (node b c) e → Alike p e (entry b c)
    entry-alike b c e column hb hc h =
        let x = entry-stands p pos fs multi high target d one entry lower t ty next (node b c) e column.type h in
        let y = right.entries b c (basis-more d (d + 1) (omega arith) b hb) (basis-more d (d + 1) (omega arith) c hc) (of_type-within target (d + 1) t (node b c) ty column.type) in
        normal-unique p pos fs multi e (entry b c) (each-from _ _ e (λ s k. k.basis.normal) x.parts) (each-from _ _ (entry b c) (λ s k. k.basis.normal) y.parts)
        (congruent-joined p fs pos (congruent-turned p fs pos x.congruent) y.congruent)

    abbrev Named : ℕ × List Tree → Type 0
    Named name = IsTupleAt p fs target d t name

    columns : (x : Poly) → InNamedSpan p Named (tuple_row fs entry) x → (m : Tree) → ((IsSameMod p (coefficient same_tree x m) 0) → ⊥) → IsColumnAt p fs target d t m
    columns x s m n = element-columns_at p pos fs multi high target d one entry lower t ty next x s m n

    -- An entry of the table from the kept origins of its block: with the vectors of their rows, the reduced row of the
    -- column, and a recipe for this row, the product less the entry is the same combination of the rows.
    pub origin-entry : (cols : List Tree) (are : AreColumns (IsColumnAt p fs target d t) cols) (names : List (ℕ × List Tree)) (other : ℕ × List Tree) → Each Named names →
        (origins : ℕ → ℕ → ℕ) → ((k i : ℕ) → k < length names → IsSameMod p (origins k i) (vector_of cols (tuple_row fs entry (get_or names k other)) i)) →
        ((k i : ℕ) → length names ≤ k → IsSameMod p (origins k i) 0) →
        ((name : ℕ × List Tree) → Named name → InNamedSpan p (Contains names) (tuple_row fs entry) (tuple_row fs entry name)) →
        (j : ℕ) → j < length cols → (v : ℕ → ℕ) → Vectors.IsReducedRow p origins j v → (e : Comb ℕ) → IsEntryRow p cols j v e →
        (items : List (ℕ × ℕ)) → Each (λ s. s.1 < length names) items → Same p (combination origins items) v →
        (b c : Tree) → col cols j ≡ node b c → IsColumnAt p fs target d t (node b c) → IsBasisTo p fs target d b → IsBasisTo p fs target d c →
        Alike p (difference p (unit (node b c)) (entry b c)) (spread (tuple_row fs entry) (recipe_of names other items))
    origin-entry cols are names other named origins rows past spans j here v reduced e row items places gives b c q column hb hc =
        let span = origins-have-span p pos Named (tuple_row fs entry) (IsColumnAt p fs target d t) cols are columns names other named origins rows past spans in
        let a = recipe-entry p pos Named (tuple_row fs entry) (IsColumnAt p fs target d t) cols are columns names other named origins rows origins span j here v reduced e row items places gives in
        let h = pivot-entry p pos fs multi high target d one entry lower t ty next cols are origins span j here v reduced e row in
        let k : Alike p (reindex (col cols) e) (entry b c) = entry-alike b c (reindex (col cols) e) column hb hc (subst (λ m. IsEntryAt p fs target d entry t m (reindex (col cols) e)) q h) in
        joined (append-alike (itself (unit (node b c))) (scale-alike (p - 1) (turned k))) (subst (λ m. Alike p (difference p (unit m) (reindex (col cols) e)) (spread (tuple_row fs entry) (recipe_of names other items))) q a)
