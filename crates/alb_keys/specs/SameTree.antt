-- That the test of monomials tells them apart, and what a monomial feeds a hasher. The laws of `Eq` and `Hash` cite it.
use Rattle.std.specs.Prelude.{◌≡◌, ◌&&◌, Bool, true, ◌++◌}
use Rattle.std.specs.Bool.{Decides}
use Rattle.std.specs.Cmp.{IsEquivalence, decided, first_so, second_so}
use Rattle.std.specs.Hash as fed
use Rattle.std.proofs.Common.{true≢false, refl, sym, ap, subst, eqb-true, eq-eqb}
use Rattle.alb_mono.specs.Tree.{Tree, leaf, node, same_tree}

same-both : (a b : Bool) → a ≡ true → b ≡ true → (a && b) ≡ true
same-both a b h k = λ i. h i && k i

same_tree-is : (l m : Tree) → same_tree l m ≡ true → l ≡ m
same_tree-is (leaf a) (leaf b) h = ap leaf (eqb-true a b h)
same_tree-is (leaf a) (node m s) h = absurd (true≢false (sym h))
same_tree-is (node l r) (leaf b) h = absurd (true≢false (sym h))
same_tree-is (node l r) (node m s) h = λ i. node (same_tree-is l m (first_so (same_tree l m) (same_tree r s) h) i) (same_tree-is r s (second_so (same_tree l m) (same_tree r s) h) i)

tree-itself : (m : Tree) → same_tree m m ≡ true
tree-itself (leaf a) = eq-eqb a a refl
tree-itself (node l r) = same-both (same_tree l l) (same_tree r r) (tree-itself l) (tree-itself r)

pub tree-Decides : (l m : Tree) → Decides (same_tree l m) (l ≡ m)
tree-Decides l m = (same_tree-is l m, λ e. subst (λ x. same_tree l x ≡ true) e (tree-itself l))

pub same_tree-equivalence : IsEquivalence same_tree
same_tree-equivalence = decided same_tree tree-Decides

-- a product as 255 and its factors
abbrev pub tree_writes : Tree → fed.HashWrites
tree_writes (leaf k) = fed.u8 k
tree_writes (node l r) = fed.u8 255 ++ tree_writes l ++ tree_writes r
