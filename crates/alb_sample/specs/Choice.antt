-- What is drawn for a polynomial, and the consequence that it chooses.
use Rattle.std.specs.Prelude.{ℕ, ◌%◌, ◌<◌, nat_lt, if◌then◌else◌, List, [], ◌∷◌, slice_index_or}
use Rattle.gf_sums.specs.Sums.{total, reindex}
use Rattle.alb_mono.specs.Tree.{Tree, leaf, node, count, listed}
use Rattle.alb_mono.specs.declared.side.Side.TheVariants.{Left, Right}
use Rattle.alb_poly.specs.Consequence.{beside}
use Rattle.alb_poly.specs.Instance.{identity_instance}
use Rattle.alb_poly.specs.Poly.{Poly}
use Rattle.alb_linear.specs.Identity.{leading_type}
use Rattle.alb_sample.specs.Draws.{drawn, state_after}
use Rattle.alb_sample.specs.Problem.{sample_problem}
use Rattle.alb_sample.specs.declared.choice.Choice.{Choice}

-- the monomials of which three are drawn: a, b and ab
abbrev pub argument : ℕ → Tree
argument k = slice_index_or (leaf 0 ∷ leaf 1 ∷ node (leaf 0) (leaf 1) ∷ []) k (leaf 0)

-- WHAT IS DRAWN, in the state `s` and those after it: one of the two identities, three of the monomials, and where which
-- generator stands beside the instance: a or b on the left, a or b on the right.
unfoldable pub choice_at : ℕ → Choice
choice_at s = record {
  identity = drawn 2 s;
  first = drawn 3 (state_after 1 s);
  second = drawn 3 (state_after 2 s);
  third = drawn 3 (state_after 3 s);
  side = if nat_lt (drawn 4 (state_after 4 s)) 2 then Left else Right;
  generator = drawn 4 (state_after 4 s) % 2;
}

-- what is drawn is one of what there is
pub record IsChoice (c : Choice) : Type 0 where
  pub identity : c.identity < 2
  pub first : c.first < 3
  pub second : c.second < 3
  pub third : c.third < 3
  pub generator : c.generator < 2

-- the three monomials
abbrev pub chosen : Choice → List Tree
chosen c = argument c.first ∷ argument c.second ∷ argument c.third ∷ []

-- the instance of an identity of the problem at monomials
abbrev pub instance_of : Poly → List Tree → Poly
instance_of f ms = identity_instance (leading_type f) f ms

-- THE CONSEQUENCE: the instance of the identity at the three monomials, times the generator
unfoldable pub consequence : Choice → Poly
consequence c = reindex (beside (c.side, leaf c.generator)) (instance_of (slice_index_or sample_problem.identities c.identity []) (chosen c))

-- its type: how often a and b occur in the generator and the three monomials
unfoldable pub chosen_type : Choice → List ℕ
chosen_type c = listed (λ g. total (count g) (leaf c.generator ∷ chosen c)) 0 2
