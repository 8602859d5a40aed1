-- What a call that writes does to its sink.
use Rattle.std.specs.Prelude.{◌≡◌, ℕ, List, Result}
use Rattle.alb_io.specs.Causes.{HasCause}
use Rattle.alb_io.specs.Puts.{Puts}
use Rattle.alb_io.specs.declared.sink.Sink.{Ghosts}

-- The text was appended, or at an error a front of it. The sink's name is as it was, and where the call failed its faults
-- rose.
pub record Writes {K E : Type 0} (sink : Ghosts K) (old new : K) (text : List ℕ) (result : Result (Unit {0}) E) : Type 0 where
  pub puts : Puts result (sink.taken old) (sink.taken new) text
  pub same_name : sink.name new ≡ sink.name old
  pub cause : HasCause (sink.faults old) (sink.faults new) result
