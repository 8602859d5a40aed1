-- How a run ended, as a number.
use Rattle.std.specs.Prelude.{ℕ}
use Rattle.alb_io.specs.declared.status.Status.{Status}
use Rattle.alb_io.specs.declared.status.Status.TheVariants as status

-- the exit status of each end
abbrev pub code_of : Status → ℕ
code_of status.Done = 0
code_of status.Refused = 1
code_of status.ReadFault = 2
code_of status.WriteFault = 3
code_of status.NoMemory = 4
code_of status.Usage = 5
code_of status.OpenFault = 6
code_of status.InputLimit = 7
code_of status.ReportFault = 8
