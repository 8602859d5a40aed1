-- The building of tables ends at a right table.
use Rattle.std.proofs.Common.{◌≡◌, ℕ, zero, suc, ◌+◌, ◌-◌, ◌^◌, ◌<◌, ◌≤◌, List, [], ◌∷◌, ◌++◌, length, refl, arith, sum, inl, inr, ◌⊎◌}
use Rattle.std.specs.Prelude.{Option, Some, None, nat_lt}
use Rattle.std.proofs.lemmas.Bool.{cases_Bool, cases_lt}
use Rattle.std.proofs.lemmas.Bool.Decides.{nat_tests}
use Rattle.alb_mono.specs.Listing.{Each}
use Rattle.alb_mono.proofs.TypesListing.{types_of-listing}
use Rattle.alb_poly.specs.Instance.{Form}
use Rattle.alb_poly.specs.Consequence.{AreMultilinear}
use Rattle.alb_table.specs.End.{End, Complete, TooWide, TooManyProducts, TooManyCoefficients, IsEnd, first_wide}
use Rattle.alb_table.specs.Table.{next_types, next_products, wide, most_of_type, most_products, most_coefficients, PartView, elems, Table, IsTable, count_coefficients, extended, first_table}
use Rattle.alb_table.specs.Right.{AreHigh}
use Rattle.alb_table.specs.RightTable.{RulesView, IsRightFor, IsRightTable}
use Rattle.alb_table.proofs.FirstLemmas.{few_generators}
use Rattle.alb_table.proofs.RightForLemmas.{right-extended, first-right-for}
use Rattle.alb_build.specs.Laws.{HasEnd, EachEnds}
use Rattle.alb_build.proofs.CellCounts.{coefficients-append}
use Rattle.alb_build.proofs.Counts.{made-count}
use Rattle.alb_build.proofs.Few.{right-few}
use Rattle.alb_build.proofs.Grown.{grown-countable, grown-table, table-big, new-few}
use Rattle.alb_build.proofs.MadeParts.{HasParts, parts-exist, made-few}
use Rattle.alb_build.proofs.NextRight.{next-has}
use Rattle.alb_build.proofs.NextTable.{next-table}

-- where no type is too wide, each type is narrow
each-narrow : (t : Table) (ws : List (List ℕ)) → first_wide t ws ≡ None → Each (λ w. wide t w ≤ 4096) ws
each-narrow t [] e = tt
each-narrow t (w ∷ ws) e = elim (cases_Bool (nat_lt most_of_type (wide t w))) [
  | inl l ↦ (let q : Some w ≡ None = rw l at e in absurd (cc))
  | inr l ↦ (grind (arith, nat_tests), each-narrow t ws (rw l at e))
]

-- the table of the next degree
pub record HasNext (fs : List Form) (t : Table) : Type 0 where
  pub parts : List PartView
  pub table : IsTable (extended t parts)
  pub right : IsRightTable fs (extended t parts)

-- how the building ends at a table
pub record EndsAt (fs : List Form) (t : Table) : Type 0 where
  pub end : End
  pub ends : IsEnd fs t end

module _ (fs : List Form) (multi : AreMultilinear fs) (high : AreHigh fs) (t : Table) (tab : IsTable t) (right : IsRightTable fs t)
    (room : t.degree < sum t.target) where
  -- the blocks of the next degree are there
  module _ (goes : first_wide t (next_types t) ≡ None) (few : next_products t ≤ most_products) (h : HasParts fs t (next_types t) (length (elems t.parts))) where
    small : length (elems t.parts) + length (elems h.parts) ≤ 12 + next_products t
    small =
        let a = made-few h.blocks h.parts (length (elems t.parts)) h.are_parts in
        let b = made-count fs t (next_types t) h.blocks h.parts (length (elems t.parts)) h.are_blocks h.are_parts in
        omega (arith, right-few fs t tab right.right, few_generators t.target tab.goal)

    fits : length (elems t.parts) + length (elems h.parts) < 2 ^ 32
    fits = omega (arith, small)

    cells : count_coefficients (t.parts ++ h.parts) < 2 ^ 64
    cells =
        let a = new-few fs t h.blocks h.parts tab h.are_blocks h.are_parts fits few in
        let b = coefficients-append t.parts h.parts in
        let c : count_coefficients t.parts ≤ most_coefficients = right.limits.coefficients in
        omega arith

    with-parts : EndsAt fs t ⊎ HasNext fs t
    with-parts = elim (cases_lt most_coefficients (count_coefficients (t.parts ++ h.parts))) [
      | inl l ↦ inl (record {
        end = TooManyCoefficients (count_coefficients (t.parts ++ h.parts));
        ends = record {
          goes_on = record { room = room; narrow = goes };
          few = few;
          next = next-has fs t h.blocks h.parts tab multi high room h.are_blocks h.are_parts few fits cells right.right (count_coefficients (t.parts ++ h.parts)) refl;
          many = l;
        };
      })
      | inr l ↦ (
          let big : 1 < t.p = table-big t tab in
          let longer : IsTable (extended t h.parts) =
          grown-table fs t h.blocks h.parts tab big h.are_blocks h.are_parts room (grown-countable fs t h.blocks h.parts tab big h.are_blocks h.are_parts few fits cells) in
          inr (record {
            parts = h.parts;
            table = longer;
            right = next-table fs t h.blocks h.parts tab longer multi high h.are_blocks h.are_parts right few l;
          }))
    ]

  -- ONE DEGREE MORE, or the end
  next-or-end : EndsAt fs t ⊎ HasNext fs t
  next-or-end = by_wide (first_wide t (next_types t)) refl
    where
      by_wide : (o : Option (List ℕ)) → first_wide t (next_types t) ≡ o → EndsAt fs t ⊎ HasNext fs t
      by_wide (Some w) e = inl (record { end = TooWide w (wide t w); ends = record { room = room; first = e; number = refl } })
      by_wide None e = elim (cases_lt most_products (next_products t)) [
        | inl l ↦ inl (record { end = TooManyProducts (next_products t); ends = record { goes_on = record { room = room; narrow = e }; number = refl; many = l } })
        | inr l ↦ with-parts e l (parts-exist fs t (next_types t) (length (elems t.parts)) tab right multi high (types_of-listing t.target (t.degree + 1)).each (each-narrow t (next_types t) e))
      ]

-- the building ends, from a table that is k degrees below its target
ends-from : (r : RulesView) (k : ℕ) (t : Table) → t.degree + k ≡ sum t.target → IsRightFor r t → HasEnd r
ends-from r zero t e h = record { table = t; end = Complete; right = h; ends = (let z : t.degree ≡ sum t.target = omega arith in z) }
ends-from r (suc k) t e h = elim (next-or-end r.forms h.multilinear h.high t h.table h.right (omega arith)) [
  | inl n ↦ record { table = t; end = n.end; right = h; ends = n.ends }
  | inr n ↦ ends-from r k (extended t n.parts) (omega arith) (right-extended r t n.parts h n.table n.right)
]

-- THE LAW
pub each-ends : EachEnds
each-ends r prime goal multi high =
    let some : 0 < sum r.target = goal.some in
    ends-from r (sum r.target - 1) (first_table r.p r.target) (omega arith) (first-right-for r prime goal multi high)
