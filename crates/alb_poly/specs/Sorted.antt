-- Lists of terms in the order in which a polynomial keeps them.
use Rattle.std.specs.Prelude.{Bool, ℕ, ◌+◌, ◌%◌, if◌then◌else◌, List, [], ◌∷◌}
use Rattle.std.specs.Ordering.{is_lt}
use Rattle.std.specs.List.Sorted.{IsSortedBy}
use Rattle.alb_mono.specs.Tree.{Tree, cmp_monos, same_tree, tree}
use Rattle.alb_poly.specs.declared.term.Term.{Term}
use Rattle.alb_poly.specs.Poly.{Poly, before}

-- the greater monomial comes first
abbrev pub comes_first : Term → Term → Bool
comes_first s t = is_lt (cmp_monos (tree t.mono) (tree s.mono))

-- descending, where a monomial may repeat
abbrev pub AreSorted : List Term → Type 0
AreSorted ts = IsSortedBy comes_first ts

-- a term in front of a list that it does not come after: it joins the first one where that has its monomial
abbrev pub in_front : ℕ → ℕ × Tree → Poly → Poly
in_front p t [] = before t.0 t.1 []
in_front p t (u ∷ f) = if same_tree u.1 t.1 then before ((t.0 + u.0) % p) t.1 f else before t.0 t.1 (u ∷ f)
