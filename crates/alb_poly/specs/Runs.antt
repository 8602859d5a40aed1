-- Runs of terms of one type.
use Rattle.std.specs.Prelude.{◌≡◌, ◌≢◌, ℕ, ◌-◌, ◌<◌, ◌≤◌, List, slice_index_or}
use Rattle.alb_mono.specs.Tree.{tree, type_of}
use Rattle.alb_poly.specs.declared.term.Term.{Term}

-- the terms before `end` that have the type `e` in a row begin at `start`
pub record IsTypeRun (gens : ℕ) (ts : List Term) (end : ℕ) (e : List ℕ) (start : ℕ) : Type 0 where
  pub within : start ≤ end
  pub run : (k : ℕ) (d : Term) → start ≤ k → k < end → type_of gens (tree (slice_index_or ts k d).mono) ≡ e
  pub cut : (d : Term) → 0 < start → type_of gens (tree (slice_index_or ts (start - 1) d).mono) ≢ e
