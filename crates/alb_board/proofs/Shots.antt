-- Lists of shots, and the numbers of kept values.
use Rattle.std.proofs.Common.{◌≡◌, ℕ, ◌+◌, ◌≤◌, Bool, List, [], ◌∷◌, ◌++◌, refl, arith, Option, Some, None}
use Rattle.std.specs.Option.{is_some}
use Rattle.alb_table.specs.declared.end.BuildEnd.{BuildEnd}
use Rattle.alb_board.specs.declared.kept.Shot.{Shot}
use Rattle.alb_board.specs.Published.{end_count}
use Rattle.alb_board.specs.Views.{Slot}
use Rattle.alb_board.specs.Turns.{RiseTo, shot_number}

-- the value in the first slot of a list
abbrev pub shot_or : Shot → List (ℕ × Slot) → Shot
shot_or d ((n, Some k) ∷ xs) = k
shot_or d _ = d

pub rise_more : (from to to' : ℕ) (xs : List (ℕ × Bool)) → to ≤ to' → RiseTo from to xs → RiseTo from to' xs
rise_more from to to' [] more r = omega arith
rise_more from to to' (x ∷ xs) more r = (r.0, rise_more (shot_number x) to to' xs more r.1)

pub rise_snoc : (from to to' : ℕ) (x : ℕ × Bool) (xs : List (ℕ × Bool)) → to ≤ shot_number x → shot_number x ≤ to' → RiseTo from to xs → RiseTo from to' (xs ++ x ∷ [])
rise_snoc from to to' x [] low high r = (omega arith, high)
rise_snoc from to to' x (y ∷ xs) low high r = (r.0, rise_snoc (shot_number y) to to' x xs low high r.1)

pub number_is : (d : ℕ) (e : Option BuildEnd) → shot_number (d, is_some e) ≡ d + end_count e
number_is d None = omega arith
number_is d (Some e) = refl
