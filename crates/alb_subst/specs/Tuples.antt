-- Tuples of basis numbers whose types add up to a type.
use Rattle.std.specs.Prelude.{◌≡◌, ℕ, suc, ◌<◌, nat_le, Bool, true, not, ◌&&◌, ◌||◌, List, [], ◌∷◌, length, replicate, All}
use Rattle.std.specs.Ordering.{nat_cmp}
use Rattle.std.specs.Cmp.Lexicographic.{slice_cmp}
use Rattle.std.specs.declared.cmp.Ordering.{Ordering}
use Rattle.alb_mono.specs.Listing.{IsListing}
use Rattle.alb_mono.specs.Tree.{type_plus}
use Rattle.alb_linear.specs.Runs.{goes_on}
use Rattle.alb_table.specs.Table.{PartView, elems, type_at}

-- the sum of the types of basis elements, over `gens` generators
abbrev pub type_sum : List PartView → ℕ → List ℕ → List ℕ
type_sum parts gens [] = replicate gens 0
type_sum parts gens (b ∷ bs) = type_plus (type_at parts b) (type_sum parts gens bs)

-- n basis elements whose types add up to `t`
pub record IsTupleOf (parts : List PartView) (n : ℕ) (t x : List ℕ) : Type 0 where
  pub long : length x ≡ n
  pub numbers : All (λ b. b < length (elems parts)) x
  pub types : type_sum parts (length t) x ≡ t

-- the lexicographic order
abbrev pub cmp_tuples : List ℕ → List ℕ → Ordering
cmp_tuples = slice_cmp nat_cmp

-- all such tuples, each once, ascending
abbrev pub AreTuples : List PartView → ℕ → List ℕ → List (List ℕ) → Type 0
AreTuples parts n t xs = IsListing cmp_tuples (IsTupleOf parts n t) xs

-- whether numbers never fall within a run of positions; the first of them stands at the position k
abbrev pub rises_within : List ℕ → ℕ → List ℕ → Bool
rises_within runs k [] = true
rises_within runs k (a ∷ []) = true
rises_within runs k (a ∷ b ∷ x) = (not (goes_on runs (suc k)) || nat_le a b) && rises_within runs (suc k) (b ∷ x)

-- such a tuple whose numbers never fall within a run
pub record IsLeastTuple (parts : List PartView) (n : ℕ) (t runs x : List ℕ) : Type 0 where
  pub tuple : IsTupleOf parts n t x
  pub rises : rises_within runs 0 x ≡ true

-- all such tuples, each once, ascending
abbrev pub AreLeastTuples : List PartView → ℕ → List ℕ → List ℕ → List (List ℕ) → Type 0
AreLeastTuples parts n t runs xs = IsListing cmp_tuples (IsLeastTuple parts n t runs) xs
