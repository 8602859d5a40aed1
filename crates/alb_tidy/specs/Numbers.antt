-- What a ledger has.
use Rattle.std.specs.Prelude.{◌≡◌, ℕ, ◌+◌, ◌-◌, List, [], ◌∷◌, ◌++◌, ◌⊎◌, length, map}
use Rattle.alb_deriv.specs.Views.{line}
use Rattle.alb_deriv.specs.declared.line.Line.{Line}
use Rattle.alb_tidy.specs.Tidy.{line_at, AreDifferent}
use Rattle.alb_tidy.specs.Cites.{IsNumber, renumbered}
use Rattle.alb_tidy.specs.declared.key.LineKey.{LineKey}
use Rattle.alb_tidy.specs.declared.ledger.Ledger.{Ledger}

-- the lines of a ledger
abbrev pub lines_in : Ledger → List Line
lines_in s = map (λ (k : LineKey). k.line) s.set.keys

-- the lines `new` are `old`, with `entry` after them where it does not stand among them; there it has the number `n`
pub record IsNumbered (old new : List Line) (entry : Line) (n : ℕ) : Type 0 where
  pub lines : (new ≡ old) ⊎ (new ≡ old ++ entry ∷ [])
  pub number : IsNumber (length new) n
  pub stands : line_at (map line new) (n - 1) ≡ line entry
  pub different : AreDifferent (map line new)
