-- Degrees.
use Rattle.std.proofs.Common.{ℕ, ◌≤◌, arith}
use Rattle.alb_mono.specs.Tree.{Tree, leaf, node, degree}

pub degree_positive : (m : Tree) → 1 ≤ degree m
degree_positive (leaf k) = omega arith
degree_positive (node l r) = omega (arith, degree_positive l, degree_positive r)
