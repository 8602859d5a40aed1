-- Right tables: those of the relatively free algebra of some rules.
use Rattle.std.specs.Prelude.{◌≡◌, ℕ, ◌-◌, ◌<◌, ◌≤◌, List, [], length, map, sum, ◌^◌}
use Rattle.alb_mono.specs.Listing.{Each}
use Rattle.alb_mono.specs.Tree.{Tree, rising}
use Rattle.alb_poly.specs.Poly.{Poly}
use Rattle.alb_poly.specs.Instance.{Form}
use Rattle.alb_table.specs.Block.{AreOriginsAt}
use Rattle.alb_table.specs.Table.{table_product, IsWithinLimits, PartView, elems, first_of, dim_of, origins_at, monos, mono_at, Table, CoversType, IsTable, IsTarget}
use Rattle.alb_table.specs.Right.{IsRight, entry_by, AreHigh}
use Rattle.gf_field.specs.Modular.{IsInTable}
use Rattle.alb_poly.specs.Consequence.{AreMultilinear, forms}
use Rattle.alb_poly.specs.declared.rules.Rules.{Rules}
use Rattle.alb_linear.specs.Identity.{IsLinearized}

-- ---- right tables: those of the relatively free algebra of some identities

-- the basis monomials of a type
abbrev pub basis_monos : List PartView → List ℕ → List Tree
basis_monos parts w = map (mono_at parts) (rising (first_of parts w) (dim_of parts w))

-- the entry of two basis monomials
abbrev pub mono_entry : List PartView → Tree → Tree → Poly
mono_entry parts = entry_by (monos parts) (table_product parts)

-- an instance, its basis elements by their monomials
abbrev pub instance_at : List PartView → ℕ × List ℕ → ℕ × List Tree
instance_at parts o = (o.0, map (mono_at parts) o.1)

-- THE MATHEMATICS of a right table: its bases are the normal monomials, and its entries stand for the products of these.
abbrev pub IsMultiplicationTable : List Form → Table → Type 0
IsMultiplicationTable fs t = IsRight t.p fs t.target t.degree (basis_monos t.parts) (mono_entry t.parts)

-- THE BOOKKEEPING: the origins of each type of degree 2 or more are as many instances as the type has pivots, with the span of
-- all its instances; a type of less degree has none; they name basis elements of the table; and no limit is passed.
pub record KeepsBooks (fs : List Form) (t : Table) : Type 0 where
  pub origins : (w : List ℕ) → length w ≡ length t.target → CoversType t w → 2 ≤ sum w
      → AreOriginsAt t.p fs t.target (sum w - 1) (mono_entry t.parts) w (map (instance_at t.parts) (origins_at t.parts w))
  pub no_origins : (w : List ℕ) → sum w ≤ 1 → origins_at t.parts w ≡ []
  pub known : Each (λ q. Each (λ o. Each (λ b. b < length (elems t.parts)) o.1) q.origins) t.parts
  pub limits : IsWithinLimits t

-- A RIGHT TABLE: a multiplication table of the relatively free algebra of the forms, with its books
pub record IsRightTable (fs : List Form) (t : Table) : Type 0 where
  pub right : IsMultiplicationTable fs t
  pub books : KeepsBooks fs t
  pub open books use *

-- ---- rules as contracts see them, and the tables that are right for them

-- rules: the number of elements of a field, how often each generator may occur, and forms
pub record RulesView : Type 0 where
  pub p : ℕ
  pub target : List ℕ
  pub forms : List Form

abbrev pub rules_view : Rules → RulesView
rules_view r = record { p = r.field; target = r.target; forms = forms r }

-- what a table is built for: linearized forms of degree 2 to 8 over a field of the table of primes, whose numbers have 32 bits
pub record AreRules (r : RulesView) : Type 0 where
  pub prime : IsInTable r.p
  pub goal : IsTarget r.target
  pub linearized : Each (IsLinearized r.p) r.forms
  pub high : AreHigh r.forms
  pub low : Each (λ f. f.degree ≤ 8) r.forms
  pub few : length r.forms < 2 ^ 32

-- THE TABLE IS RIGHT FOR THE RULES: it has their field and their target, and is a right table of their forms, which are
-- multilinear and have degree 2 or more
pub record IsRightFor (r : RulesView) (t : Table) : Type 0 where
  pub field : t.p ≡ r.p
  pub target : t.target ≡ r.target
  pub multilinear : AreMultilinear r.forms
  pub high : AreHigh r.forms
  pub table : IsTable t
  pub right : IsRightTable r.forms t
