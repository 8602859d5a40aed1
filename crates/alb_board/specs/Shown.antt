-- The machine of a build that a board shows.
use Rattle.std.specs.Prelude.{◌≡◌, Option, Some, None, length, sum}
use Rattle.alb_core.specs.declared.event.Ended.{Ended}
use Rattle.alb_core.specs.declared.event.Ended.TheVariants as machine
use Rattle.alb_core.specs.Machine.{Machine}
use Rattle.alb_table.specs.declared.end.BuildEnd.{BuildEnd}
use Rattle.alb_table.specs.End.{End, Complete, TooWide, TooManyProducts, TooManyCoefficients, NoMemory, end_of}
use Rattle.alb_table.specs.RightTable.{RulesView}
use Rattle.alb_board.specs.declared.kept.Published.{Published}
use Rattle.alb_board.specs.declared.kept.PassView.{PassView}
use Rattle.alb_board.specs.Published.{published}

-- an end as the machine knows it: complete at the total degree, and else stopped
abbrev pub kind_of : End → Ended
kind_of Complete = machine.Complete
kind_of (TooWide w n) = machine.Stopped
kind_of (TooManyProducts n) = machine.Stopped
kind_of (TooManyCoefficients n) = machine.Stopped
kind_of NoMemory = machine.Stopped

abbrev pub ended_of : Option BuildEnd → Ended
ended_of None = machine.Running
ended_of (Some e) = kind_of (end_of e)

-- THE MACHINE THAT IS SHOWN by what is kept: its total degree is that of the rules, and its published degree and its end are those
-- that are kept
pub record IsMachineOf (r : RulesView) (kept : Published) (m : Machine) : Type 0 where
  pub total : length m.counts ≡ sum r.target
  pub degree : m.degree ≡ kept.degree
  pub ended : m.ended ≡ ended_of kept.end

-- what a pass has seen last
abbrev pub seen_by : PassView → Published
seen_by v = published v.seen v.end
