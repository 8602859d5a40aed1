-- What the row of the value of a polynomial in a right table says, as a polynomial over monomials.
use Rattle.std.proofs.Common.{get_or, ◌≡◌, ℕ, zero, suc, ◌<◌, List, [], ◌∷◌, length, ap, arith}
use Rattle.std.specs.Prelude.{All, IsTrue, slice_index_or}
use Rattle.gf_sums.specs.Sums.{reindex}
use Rattle.gf_sums.proofs.Alike.{turned}
use Rattle.alb_mono.specs.Listing.{Each}
use Rattle.alb_mono.specs.Tree.{Tree, are_below}
use Rattle.alb_poly.specs.Instance.{Form}
use Rattle.alb_poly.specs.Poly.{normal, Poly}
use Rattle.alb_poly.specs.Terms.{term, terms}
use Rattle.alb_poly.specs.declared.term.Term.{Term}
use Rattle.alb_poly.proofs.NormalLemmas.{normal-each, normal-alike, normal-residues, normal-descending}
use Rattle.alb_rows.specs.Row.{Cells, comb, ColumnsBelow, IsRowOver}
use Rattle.alb_table.specs.Laws.{Decides}
use Rattle.alb_table.specs.Right.{IsNormal}
use Rattle.alb_table.specs.Table.{elems, mono_at, Table}
use Rattle.alb_table.specs.RightTable.{RulesView, IsRightFor}
use Rattle.alb_table.proofs.Congruent.{congruent-alike, congruent-joined}
use Rattle.alb_table.proofs.TableValues.{mono-known}
use Rattle.alb_linear.proofs.LinearLemmas.{all_from_each}
use Rattle.alb_query.specs.Answer.{IsNormalForm}

pub column-at : (n : ℕ) (cells : Cells) (i : ℕ) (d : ℕ × ℕ) → All (λ cell. cell.0 < n) cells → i < length cells → (slice_index_or cells i d).0 < n
column-at n cells i d a h = a i d h

module _ (r : RulesView) (t : Table) (h : IsRightFor r t) where
  row-known : (cells : Cells) → ColumnsBelow (length (elems t.parts)) cells → Each (λ s. IsTrue (are_below (length t.target) s.1)) (reindex (mono_at t.parts) (comb cells))
  row-known [] b = tt
  row-known (x ∷ cells) b = (mono-known r t h x.0 (b 0 x (omega arith)), row-known cells (λ k d l. b (suc k) d (omega arith)))

  -- a normal form has the generators of the table
  pub normal_form-known : (p : ℕ) (cells : Cells) → ColumnsBelow (length (elems t.parts)) cells
      → All (λ s. IsTrue (are_below (length t.target) s.1)) (normal p (reindex (mono_at t.parts) (comb cells)))
  normal_form-known p cells b =
      all_from_each _ _ (normal-each (λ m. IsTrue (are_below (length t.target) m)) p (reindex (mono_at t.parts) (comb cells)) (row-known cells b))

-- the normal form of a polynomial that decides `g`
pub decided-form : (p : ℕ) (fs : List Form) (g f : Poly) → 0 < p → Decides p fs g f → IsNormalForm p fs g (normal p f)
decided-form p fs g f pos d = record {
  descending = normal-descending p f pos;
  residues = normal-residues p f pos;
  normal = normal-each (IsNormal p fs) p f d.normal;
  congruent = congruent-joined p fs pos d.congruent (congruent-alike p fs pos (turned (normal-alike p f)));
}

-- the coefficients of the terms of a row are residues
pub row-residues : (p : ℕ) (h : ℕ → Tree) (ts : List Term) (cells : Cells) → terms ts ≡ reindex h (comb cells) → IsRowOver p cells → (k : ℕ) (d : Term) → k < length ts → (get_or ts k d).coef < p
row-residues p h ts cells e r k d l = at_place ts cells k e r.residues l
  where
    at_place : (ts : List Term) (cells : Cells) (k : ℕ) → terms ts ≡ reindex h (comb cells) → All (λ cell. cell.1 < p) cells → k < length ts → (get_or ts k d).coef < p
    at_place [] cells k e a l = absurd (omega arith)
    at_place (t ∷ ts) [] k e a l = absurd (cc)
    at_place (t ∷ ts) (x ∷ cells) zero e a l = let u : term t ≡ (x.1, h x.0) = cc in let q : t.coef ≡ x.1 = ap (λ s. s.0) u in rw q (a 0 x (omega arith))
    at_place (t ∷ ts) (x ∷ cells) (suc k) e a l = at_place ts cells k (cc) (λ j y z. a (suc j) y (omega arith)) (omega arith)
