-- The row of the value of a monomial.
use Rattle.std.proofs.Common.{◌≡◌, ℕ, ◌<◌, [], ◌∷◌, ◌++◌, length, get_or, sym, refl, ap, ◌∙◌, arith, inl, inr, nat_eq}
use Rattle.std.proofs.lemmas.List.{get_or_default}
use Rattle.gf_field.specs.Modular.{IsSameMod}
use Rattle.gf_field.proofs.Mod.{same, ◌⊙◌, residues}
use Rattle.gf_sums.specs.Sums.{coefficient, weigh, scale, reindex}
use Rattle.gf_sums.proofs.Totals.{weigh-append, weigh-scale}
use Rattle.gf_sums.proofs.Alike.{Alike, equal, joined}
use Rattle.alb_mono.specs.Listing.{Each}
use Rattle.alb_mono.specs.Tree.{Tree, same_tree}
use Rattle.alb_poly.specs.Poly.{Poly}
use Rattle.alb_poly.proofs.Consequence.{tree_tells, poly_alike}
use Rattle.alb_rows.specs.Row.{Cells, comb, entry, AreSameVector}
use Rattle.alb_rows.proofs.RowLemmas.{entry_found}
use Rattle.alb_table.specs.Table.{elems, mono_at, Table}
use Rattle.alb_table.specs.Right.{mono_value, IsBasisTo, IsWithinDegree}
use Rattle.alb_table.specs.RightTable.{RulesView, IsRightFor, basis_monos, mono_entry}
use Rattle.alb_table.specs.Value.{IsBasisRow, table_value}
use Rattle.alb_table.proofs.Bases.{IsTable}
use Rattle.alb_table.proofs.Coefficients.{each-coefficient}
use Rattle.alb_table.proofs.GeneratorLemmas.{above_one}
use Rattle.alb_table.proofs.Numbers.{coefficient-reindex}
use Rattle.alb_table.proofs.Right.{right-table}
use Rattle.alb_table.proofs.Values.{value-stands}
use Rattle.alb_table.proofs.RightTables.{columns-below}
use Rattle.alb_table.proofs.TableValues.{monos-apart, row-alike}
use Rattle.alb_trace.specs.Given.{IsPartOfType, IsValueRow}

one : {p : ℕ} (f : Poly) → Alike p (scale 1 f ++ []) f
one f = equal _ _ (λ w. let e : weigh w [] ≡ 0 = refl in omega (arith, weigh-append w (scale 1 f) [], weigh-scale w 1 f))

module _ (given : RulesView) (t : Table) (g : IsRightFor given t) where
  pub pos : 0 < t.p
  pos = omega (arith, above_one t g.table)

  -- the table over monomials
  pub over : IsTable t.p given.forms (IsWithinDegree t.target t.degree) (IsBasisTo t.p given.forms t.target t.degree) (mono_entry t.parts)
  over = right-table t.p pos given.forms g.multilinear g.high t.target t.degree (basis_monos t.parts) (mono_entry t.parts) g.right.right

  -- the terms of the value of a monomial are parts of it
  pub value-parts : (m : Tree) → IsWithinDegree t.target t.degree m → Each (λ s. IsPartOfType given.forms t m s.1) (mono_value (mono_entry t.parts) m)
  value-parts m w = (value-stands t.p pos given.forms (IsWithinDegree t.target t.degree) (IsBasisTo t.p given.forms t.target t.degree) (mono_entry t.parts) over m w).parts

  module _ (m : Tree) (w : IsWithinDegree t.target t.degree m) (cells : Cells) (vector : IsBasisRow t.p (length (elems t.parts)) cells)
      (is : AreSameVector t.p (comb cells) (table_value t ((1, m) ∷ []))) where
    value-alike : Alike t.p (reindex (mono_at t.parts) (comb cells)) (mono_value (mono_entry t.parts) m)
    value-alike = joined (row-alike given t g ((1, m) ∷ []) (w, tt) cells (record { row = vector; value = is })) (one (mono_value (mono_entry t.parts) m))

    cell-part : (k : ℕ) (d : ℕ × ℕ) → k < length cells → IsPartOfType given.forms t m (mono_at t.parts (get_or cells k d).0)
    cell-part k d l =
        let cell : ℕ × ℕ = get_or cells k d in
        let first : get_or cells k (0, 0) ≡ cell = get_or_default cells k (0, 0) d l in
        let x : Tree = mono_at t.parts cell.0 in
        let b : cell.0 < length (elems t.parts) = vector.below k d l in
        let found : entry cells cell.0 ≡ cell.1 = entry_found cells k cell.0 vector.row.row l (ap (λ s. s.0) first) ∙ ap (λ s. s.1) first in
        let moved : coefficient same_tree (reindex (mono_at t.parts) (comb cells)) x ≡ entry cells cell.0 =
        coefficient-reindex (λ i. i < length (elems t.parts)) (λ i j. nat_eq i j) same_tree (mono_at t.parts) (monos-apart given t g) (comb cells) cell.0 b
        (columns-below (length (elems t.parts)) cells vector.below) in
        elim (each-coefficient same_tree tree_tells (IsPartOfType given.forms t m) (mono_value (mono_entry t.parts) m) x (value-parts m w)) [
          | inl part ↦ part
          | inr none ↦ (
              let c : IsSameMod t.p cell.1 0 = same (sym (moved ∙ found)) ⊙ poly_alike value-alike x ⊙ same none in
              let z : cell.1 ≡ 0 = residues (vector.row.residues k d l) pos c in
              absurd (vector.row.row.nonzero k d l z))
        ]

    pub value-row : IsValueRow given.forms t m cells
    value-row = record {
      vector = vector;
      same = poly_alike value-alike;
      parts = cell-part;
    }
