-- What happens to a line.
use Rattle.std.specs.Prelude.{◌≡◌, ℕ, List, [], ◌∷◌, ◌++◌}
use Rattle.alb_deriv.specs.Views.{line}
use Rattle.alb_deriv.specs.declared.line.Line.{Line}
use Rattle.alb_tidy.specs.Cites.{renumbered}
use Rattle.alb_tidy.specs.Numbers.{lines_in, IsNumbered}
use Rattle.alb_tidy.specs.declared.keeping.Keeping.{Keeping}

-- the line is kept with new numbers, and has a number itself
pub record Keeps (old new : Keeping) (entry : Line) : Type 0 where
  pub copy : Line
  pub is : line copy ≡ renumbered old.places.items (line entry)
  pub number : ℕ
  pub numbered : IsNumbered (lines_in old.ledger) (lines_in new.ledger) copy number
  pub places : new.places.items ≡ old.places.items ++ number ∷ []

-- the line is left out
pub record Skips (old new : Keeping) : Type 0 where
  pub lines : lines_in new.ledger ≡ lines_in old.ledger
  pub places : new.places.items ≡ old.places.items ++ 0 ∷ []
