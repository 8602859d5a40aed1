-- What the rows keep while the instances of a type are offered.
use Rattle.std.specs.Prelude.{◌≡◌, ℕ, false, ◌<◌, List, [], ◌∷◌, length}
use Rattle.gf_field.specs.Modular.{IsSameMod}
use Rattle.alb_mono.specs.Listing.{Each, IsIn}
use Rattle.alb_rows.specs.Row.{Cells, entry}
use Rattle.alb_rows.specs.Span.{InSpan, SpanWithin, SameSpan, IsPivot}
use Rattle.alb_reduce.specs.Reduction.{Reduction, kept}
use Rattle.alb_block.specs.declared.offers.Sources.{Sources}
use Rattle.alb_block.specs.Asked.{block_setting}
use Rattle.alb_block.specs.Instances.{columns_of, BlockSetting, IsInstance, instance_vector, listed_instances}

-- the forms of the rules over the table, at the type
abbrev pub setting_from : Sources → BlockSetting
setting_from s = block_setting s.rules.now s.tables.now s.at.now

-- no number twice
abbrev pub AreDifferent : List ℕ → Type 0
AreDifferent [] = Unit {0}
AreDifferent (x ∷ xs) = (IsIn x xs → ⊥) × AreDifferent xs

-- the span has n pivots
pub record HasPivots {K : Type 0} (p : ℕ) (f : K → ℕ → ℕ) (n : ℕ) : Type 0 where
  pub pivots : List ℕ
  pub different : AreDifferent pivots
  pub each : Each (IsPivot p f) pivots
  pub all : (c : ℕ) → IsPivot p f c → IsIn c pivots
  pub count : length pivots ≡ n

-- the row is the vector of the instance
abbrev pub IsRowOf : BlockSetting → ℕ × List ℕ → Cells → Type 0
IsRowOf s name row = (j : ℕ) → IsSameMod s.p (entry row j) (instance_vector s name j)

-- rows over the products of the type, with the span of the instances that gave them
pub record AreKept (s : BlockSetting) (r : Reduction) (names : List (ℕ × List ℕ)) : Type 0 where
  pub field : r.p ≡ s.p
  pub width : r.columns ≡ length (columns_of s.parts s.at)
  pub no_recipes : r.keeps_recipes ≡ false
  pub are : Each (IsInstance s) names
  pub spans : SameSpan s.p (kept r) (listed_instances s names)
  pub pivots : HasPivots s.p (kept r) (length names)

-- the span has all instances of the forms before the form k
abbrev pub HasBefore : BlockSetting → Reduction → ℕ → Type 0
HasBefore s r k = (name : ℕ × List ℕ) → IsInstance s name → name.0 < k → InSpan s.p (kept r) (instance_vector s name)

-- the span has grown by the instance
pub record HasMore (s : BlockSetting) (old new : Reduction) (name : ℕ × List ℕ) : Type 0 where
  pub within : SpanWithin s.p (kept old) (kept new)
  pub has : InSpan s.p (kept new) (instance_vector s name)
