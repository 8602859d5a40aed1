-- What rules, and tables that are right for them, say.
use Rattle.std.proofs.Common.{◌≡◌, ℕ, ◌<◌, ◌≤◌, ◌^◌, List, length, refl, sym, subst, arith}
use Rattle.std.proofs.lemmas.List.{length-map}
use Rattle.gf_field.specs.Modular.{IsInTable}
use Rattle.gf_field.proofs.Table.{IsPrime-from_table}
use Rattle.alb_mono.specs.Listing.{Each}
use Rattle.alb_mono.proofs.ListingLemmas.{each-weaker}
use Rattle.alb_poly.specs.Consequence.{AreMultilinear, form}
use Rattle.alb_poly.specs.Instance.{Form, IsMultilinearForm}
use Rattle.alb_poly.specs.declared.rules.Rules.{Rules}
use Rattle.alb_linear.specs.Identity.{IsLinearized}
use Rattle.alb_table.specs.RightTable.{RulesView, rules_view, AreRules, IsRightFor, IsRightTable}
use Rattle.alb_table.specs.Table.{PartView, Table, IsTable, IsTarget, first_table, extended}
use Rattle.alb_table.specs.Right.{AreHigh}
use Rattle.alb_table.proofs.FirstLemmas.{few_generators, first_is_table}
use Rattle.alb_table.proofs.FirstRight.{first-right-table}

-- ---- rules

-- linearized forms are multilinear
pub forms-multilinear : (p : ℕ) (fs : List Form) → Each (IsLinearized p) fs → AreMultilinear fs
forms-multilinear p fs h = each-weaker (IsLinearized p) IsMultilinearForm fs (λ f k. k.multilinear) h

pub rules-multilinear : (r : RulesView) → AreRules r → AreMultilinear r.forms
rules-multilinear r h = forms-multilinear r.p r.forms h.linearized

pub rules-few : (rules : Rules) → AreRules (rules_view rules) → length rules.linears.items < 2 ^ 32
rules-few rules h = let e = length-map rules.linears.items form in omega (arith, e, h.few)

-- rules and a right table of their field and target
pub right-for : (r : RulesView) (t : Table) → AreRules r → t.p ≡ r.p → t.target ≡ r.target → IsTable t → IsRightTable r.forms t → IsRightFor r t
right-for r t h field target table right =
    record { field = field; target = target; multilinear = rules-multilinear r h; high = h.high; table = table; right = right }

-- ---- right tables

-- the table of the generators
pub first-right-for : (r : RulesView) → IsInTable r.p → IsTarget r.target → AreMultilinear r.forms → AreHigh r.forms → IsRightFor r (first_table r.p r.target)
first-right-for r prime goal multi high = record {
  field = refl;
  target = refl;
  multilinear = multi;
  high = high;
  table = first_is_table r.p r.target prime goal;
  right = first-right-table r.p r.target prime goal r.forms multi high;
}

-- a longer table
pub right-extended : (r : RulesView) (t : Table) (new : List PartView) → IsRightFor r t → IsTable (extended t new) → IsRightTable r.forms (extended t new) → IsRightFor r (extended t new)
right-extended r t new h table right = record { field = h.field; target = h.target; multilinear = h.multilinear; high = h.high; table = table; right = right }

pub right-positive : (r : RulesView) (t : Table) → IsRightFor r t → 0 < t.p
right-positive r t h = omega (arith, (IsPrime-from_table t.p h.table.field).above_one)

-- the rules are linearized over the table's field
pub right-linearized : (r : RulesView) (t : Table) → AreRules r → IsRightFor r t → Each (IsLinearized t.p) r.forms
right-linearized r t rules h = subst (λ p. Each (IsLinearized p) r.forms) (sym h.field) rules.linearized

-- there are at most 12 generators
pub right-counts : (r : RulesView) (t : Table) → IsRightFor r t → length t.target ≤ 12
right-counts r t h = few_generators t.target h.table.goal
