-- The table of the next degree is right.
use Rattle.std.proofs.Common.{◌≡◌, ℕ, ◌+◌, ◌^◌, ◌<◌, ◌≤◌, List, ◌++◌, length, subst, arith, sum}
use Rattle.alb_mono.specs.Listing.{Each, IsIn}
use Rattle.alb_mono.proofs.TypesListing.{types_of-listing}
use Rattle.alb_poly.specs.Consequence.{AreMultilinear}
use Rattle.alb_poly.specs.Instance.{Form}
use Rattle.alb_table.specs.Table.{PartView, elems, next_types, next_products, Table, IsTable, count_coefficients, extended}
use Rattle.alb_table.specs.Right.{AreHigh, IsTypeTo, IsRight}
use Rattle.alb_table.specs.RightTable.{basis_monos, mono_entry}
use Rattle.alb_table.proofs.TableLemmas.{old_degrees, new_degrees}
use Rattle.alb_block.specs.View.{BlockView}
use Rattle.alb_build.specs.Part.{ArePartsOf}
use Rattle.alb_build.specs.Next.{AreBlocks}
use Rattle.alb_build.proofs.Growing.{grown-right}
use Rattle.alb_table.specs.End.{NextHas}
use Rattle.alb_build.proofs.Grown.{made-types, table-big, grown-table, grown-countable}
use Rattle.alb_build.proofs.NewBases.{new-basis}
use Rattle.alb_build.proofs.NewValues.{new-entry}
use Rattle.alb_build.proofs.Places.{HasPart, part-new, part-behind}

module _ (fs : List Form) (t : Table) (bs : List BlockView) (new : List PartView) (old : IsTable t) (tab : IsTable (extended t new)) (pos : 0 < t.p)
    (a : AreBlocks fs t (next_types t) bs) (m : ArePartsOf (length (elems t.parts)) bs new) where
  -- each type of the next degree has its part
  pub has-part : (w : List ℕ) → IsTypeTo t.target (t.degree + 1) w → sum w ≡ t.degree + 1 → HasPart fs t (t.parts ++ new) 0 w
  has-part w ty e =
      let i : IsIn w (next_types t) = (types_of-listing t.target (t.degree + 1)).all w (record { long = ty.counts; within = ty.le; degree = e }) in
      let z : length (elems t.parts) ≡ 0 + length (elems t.parts) = omega arith in
      part-behind fs t t.parts new w t.degree (old_degrees t old) e 0
      (part-new fs t (next_types t) bs new (0 + length (elems t.parts)) w a (subst (λ n. ArePartsOf n bs new) z m) i)

  pub next-degrees : Each (λ (q : PartView). sum q.at ≡ t.degree + 1) new
  next-degrees = new_degrees t.target (t.degree + 1) new (made-types fs t (next_types t) bs new (length (elems t.parts)) a m)

  -- its bases and entries
  pub next-right : AreMultilinear fs → AreHigh fs → IsRight t.p fs t.target t.degree (basis_monos t.parts) (mono_entry t.parts) →
      IsRight t.p fs t.target (t.degree + 1) (basis_monos (t.parts ++ new)) (mono_entry (t.parts ++ new))
  next-right multi high right =
      grown-right fs t old right new next-degrees pos multi high
      (λ w ty e. new-basis fs t new tab w (has-part w ty e))
      (λ w b c ty e col. new-entry fs t new old tab pos right next-degrees w e (has-part w ty e) b c col)

-- how many coefficients the right table of the next degree has
pub next-has : (fs : List Form) (t : Table) (bs : List BlockView) (new : List PartView) → IsTable t → AreMultilinear fs → AreHigh fs → t.degree < sum t.target → AreBlocks fs t (next_types t) bs →
    ArePartsOf (length (elems t.parts)) bs new → next_products t ≤ 1000000 → length (elems t.parts) + length (elems new) < 2 ^ 32 → count_coefficients (t.parts ++ new) < 2 ^ 64 →
    IsRight t.p fs t.target t.degree (basis_monos t.parts) (mono_entry t.parts) → (n : ℕ) → count_coefficients (t.parts ++ new) ≡ n → NextHas fs t n
next-has fs t bs new old multi high room a m few small cells right n e =
    let big : 1 < t.p = table-big t old in
    let tab : IsTable (extended t new) = grown-table fs t bs new old big a m room (grown-countable fs t bs new old big a m few small cells) in
    record {
      parts = new;
      table = tab;
      right = next-right fs t bs new old tab (omega arith) a m multi high right;
      count = e;
    }
