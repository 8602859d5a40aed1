-- The table of the next degree, and what growing answers.
use Rattle.std.specs.Prelude.{◌≡◌, ℕ, ◌<◌, ◌≤◌, List, [], ◌∷◌, Result, Ok, Err, Some}
use Rattle.alb_poly.specs.Instance.{Form}
use Rattle.alb_table.specs.Table.{PartView, Table, extended, next_types, wide, next_products, most_products, most_coefficients}
use Rattle.alb_table.specs.RightTable.{RulesView, IsRightFor}
use Rattle.alb_table.specs.End.{NextHas, IsEnd, end_of, first_wide}
use Rattle.alb_block.specs.Asked.{setting_of, IsBlock}
use Rattle.alb_block.specs.Meaning.{IsBlockAt}
use Rattle.alb_block.specs.View.{BlockView}
use Rattle.alb_block.specs.declared.error.BlockStop.{BlockStop}
use Rattle.alb_block.specs.declared.error.BlockStop.TheVariants as blocks
use Rattle.alb_build.specs.declared.stop.GrowStop.{GrowStop}
use Rattle.alb_build.specs.declared.stop.GrowStop.TheVariants.{TooManyProducts, TooManyCoefficients, NoMemory}
use Rattle.alb_build.specs.declared.step.Step.{Step}
use Rattle.alb_build.specs.declared.step.Step.TheVariants.{Grown, Ended}

-- the block of a type of the next degree, as `reduce_block` gives it
pub record IsNextBlock (fs : List Form) (t : Table) (w : List ℕ) (b : BlockView) : Type 0 where
  pub block : IsBlock (setting_of fs t w) b
  pub meaning : IsBlockAt fs t w b.reduced b.origins

-- one block for each type
abbrev pub AreBlocks : List Form → Table → List (List ℕ) → List BlockView → Type 0
AreBlocks fs t [] [] = Unit {0}
AreBlocks fs t [] (b ∷ bs) = ⊥
AreBlocks fs t (w ∷ ws) [] = ⊥
AreBlocks fs t (w ∷ ws) (b ∷ bs) = IsNextBlock fs t w b × AreBlocks fs t ws bs

-- `u` is the table `t` with the parts of one more degree, and right for the rules
pub record IsGrown (r : RulesView) (t u : Table) : Type 0 where
  pub parts : List PartView
  pub extends : u ≡ extended t parts
  pub right : IsRightFor r u

-- the table of the next degree would have `n` products, too many
pub record PassesProducts (t : Table) (n : ℕ) : Type 0 where
  pub number : next_products t ≡ n
  pub many : most_products < n

-- it would have `n` coefficients that are not 0, too many
pub record PassesCoefficients (fs : List Form) (t : Table) (n : ℕ) : Type 0 where
  pub few : next_products t ≤ most_products
  pub next : NextHas fs t n
  pub many : most_coefficients < n

-- WHAT GROWING ANSWERS: the right table of the next degree, or the first limit that it passes
abbrev pub GrowsTo : RulesView → Table → Result Table GrowStop → Type 0
GrowsTo r t (Ok u) = IsGrown r t u
GrowsTo r t (Err (TooManyProducts n)) = PassesProducts t n
GrowsTo r t (Err (TooManyCoefficients n)) = PassesCoefficients r.forms t n
GrowsTo r t (Err NoMemory) = Unit {0}

-- the first type that has too many products for a block
pub record IsFirstWide (t : Table) (w : List ℕ) (n : ℕ) : Type 0 where
  pub first : first_wide t (next_types t) ≡ Some w
  pub number : wide t w ≡ n

-- there is no memory, or this type is the first that is too wide
abbrev pub IsWideStop : Table → BlockStop → Type 0
IsWideStop t (blocks.TooWide w n) = IsFirstWide t w n
IsWideStop t blocks.NoMemory = Unit {0}

-- the table grows, or this is its end
abbrev pub StepsTo : RulesView → Table → Step → Type 0
StepsTo r t (Grown u) = IsGrown r t u
StepsTo r t (Ended e) = IsEnd r.forms t (end_of e)
