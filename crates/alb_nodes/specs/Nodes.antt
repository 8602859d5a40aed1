-- Monomials by numbers.
use Rattle.std.specs.Prelude.{◌≡◌, ℕ, suc, ◌<◌, nat_lt, Bool, true, ◌&&◌, List, [], ◌∷◌, ◌++◌, length, slice_index_or}
use Rattle.alb_mono.specs.Tree.{Tree, leaf, node}
use Rattle.alb_nodes.specs.declared.node.Node.{Node}
use Rattle.alb_nodes.specs.declared.node.Node.TheVariants.{Letter, Product}

-- the monomial of a number
abbrev pub at : List Tree → ℕ → Tree
at ts k = slice_index_or ts k (leaf 0)

-- the number `k` is that of the monomial `m`
pub record IsNumber (ts : List Tree) (k : ℕ) (m : Tree) : Type 0 where
  pub within : k < length ts
  pub is : at ts k ≡ m

-- later monomials leave the earlier numbers
pub record Extends (old new : List Tree) : Type 0 where
  pub more : List Tree
  pub is : new ≡ old ++ more

-- no monomial has two numbers
abbrev pub AreDifferent : List Tree → Type 0
AreDifferent ts = (i j : ℕ) → i < length ts → j < length ts → at ts i ≡ at ts j → i ≡ j

-- ---- how the monomials are made

-- the monomial of a node, where the factors stand among `ts`
abbrev pub made : List Tree → Node → Tree
made ts (Letter g) = leaf g
made ts (Product a b) = node (at ts a) (at ts b)

-- the monomials of all nodes, after `ts`
abbrev pub made_all : List Tree → List Node → List Tree
made_all ts [] = ts
made_all ts (n ∷ ns) = made_all (ts ++ made ts n ∷ []) ns

-- the factors have numbers below `k`
abbrev pub is_after : ℕ → Node → Bool
is_after k (Letter g) = true
is_after k (Product a b) = nat_lt a k && nat_lt b k

-- the factors of each node, of which the first has the number `k`, come before it
abbrev pub are_after : ℕ → List Node → Bool
are_after k [] = true
are_after k (n ∷ ns) = is_after k n && are_after (suc k) ns
