-- Laws that functions of `laws` state.
use Rattle.std.specs.Prelude.{◌≡◌, ℕ, List}
use Rattle.std.specs.declared.cmp.Ordering.{Ordering}
use Rattle.std.specs.declared.cmp.Ordering.TheVariants.{Less, Equal}
use Rattle.alb_mono.specs.Tree.{Tree, node, type_of, cmp_trees, cmp_types, types_of, IsTypeWithin, splits, IsSplit}
use Rattle.alb_mono.specs.Listing.{IsListing}

-- what compares as equal is one monomial
abbrev pub EqualAreOne : (Tree → Tree → Ordering) → Type 0
EqualAreOne order = (m n : Tree) → order m n ≡ Equal → m ≡ n

-- of two monomials of one type, the lesser gives the lesser product on the left of a third
abbrev pub LeftFactorIsMonotone : Type 0
LeftFactorIsMonotone = (m n x : Tree) → type_of 26 m ≡ type_of 26 n → cmp_trees m n ≡ Less → cmp_trees (node m x) (node n x) ≡ Less

-- and on the right
abbrev pub RightFactorIsMonotone : Type 0
RightFactorIsMonotone = (m n x : Tree) → type_of 26 m ≡ type_of 26 n → cmp_trees m n ≡ Less → cmp_trees (node x m) (node x n) ≡ Less

-- all types of degree `d` within a target, each once, ascending
abbrev pub TypesAreAll : Type 0
TypesAreAll = (target : List ℕ) (d : ℕ) → IsListing cmp_types (IsTypeWithin target d) (types_of target d)

-- all pairs of nonzero types with the sum `t`, each once, ascending by the left one
abbrev pub SplitsAreAll : Type 0
SplitsAreAll = (t : List ℕ) → IsListing (λ q r. cmp_types q.0 r.0) (IsSplit t) (splits t)
