-- Contexts, rules and their consequences.
use Rattle.std.specs.Prelude.{List, [], ◌∷◌, map, ◌≡◌, ℕ, ◌<◌, length, slice_index_or}
use Rattle.alb_mono.specs.Tree.{Tree, node}
use Rattle.alb_mono.specs.declared.side.Side.{Side}
use Rattle.alb_mono.specs.declared.side.Side.TheVariants.{Left, Right}
use Rattle.alb_poly.specs.declared.rules.Linear.{Linear}
use Rattle.alb_poly.specs.declared.rules.Rules.{Rules}
use Rattle.alb_poly.specs.Instance.{Form, instance, IsMultilinearForm, IsHomogeneous}
use Rattle.std.specs.List.{flat_map}
use Rattle.gf_sums.specs.Sums.{scale, reindex}
use Rattle.alb_mono.specs.Listing.{Each}
use Rattle.alb_poly.specs.Poly.{Poly, IsSamePoly}

-- ---- contexts: what stands round a monomial in a product

-- the product of a monomial with another one, which stands on the named side
abbrev pub beside : Side × Tree → Tree → Tree
beside (Left, m) x = node m x
beside (Right, m) x = node x m

-- a monomial in a context, whose factors are applied from the inside out
abbrev pub within : List (Side × Tree) → Tree → Tree
within [] x = x
within (s ∷ c) x = within c (beside s x)

-- ---- what contracts see of linearized identities and rules

abbrev pub form : Linear → Form
form f = record { degree = f.degree; terms = f.terms }

abbrev pub forms : Rules → List Form
forms r = map form r.linears.items

-- ---- consequences: combinations of instances in contexts

-- a multiple of an instance in a context
pub record Item : Type 0 where
  pub coef : ℕ
  pub form : ℕ
  pub args : List Tree
  pub context : List (Side × Tree)

-- the form of a number, from 0
abbrev pub form_at : List Form → ℕ → Form
form_at fs k = slice_index_or fs k (record { degree = 0; terms = [] })

-- the item names a form, and has a monomial for each of its positions
pub record IsItem (fs : List Form) (it : Item) : Type 0 where
  pub named : it.form < length fs
  pub full : length it.args ≡ (form_at fs it.form).degree

abbrev pub item_value : List Form → Item → Poly
item_value fs it = scale it.coef (reindex (within it.context) (instance (form_at fs it.form) it.args))

abbrev pub AreItems : List Form → List Item → Type 0
AreItems fs [] = Unit {0}
AreItems fs (it ∷ its) = IsItem fs it × AreItems fs its

-- `g` equals the sum of items
pub record IsConsequence (p : ℕ) (fs : List Form) (g : Poly) : Type 0 where
  pub items : List Item
  pub are : AreItems fs items
  pub same : IsSamePoly p g (flat_map (item_value fs) items)

-- `g` equals the sum of items all of whose monomials have the type `e`
pub record IsConsequenceOfType (p : ℕ) (fs : List Form) (e : List ℕ) (g : Poly) : Type 0 where
  pub items : List Item
  pub are : AreItems fs items
  pub types : Each (λ it. IsHomogeneous e (item_value fs it)) items
  pub same : IsSamePoly p g (flat_map (item_value fs) items)

-- every form is multilinear
abbrev pub AreMultilinear : List Form → Type 0
AreMultilinear fs = Each IsMultilinearForm fs
