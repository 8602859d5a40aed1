-- What a function returned is what a definition gives, unless memory ran out.
use Rattle.std.specs.Prelude.{◌≡◌, Result, Ok, Err}
use Rattle.alb_evidence.specs.Block.{Code, ABadLine, ABadNumber}
use Rattle.alb_evidence.specs.declared.flaw.Flaw.{Flaw}
use Rattle.alb_evidence.specs.declared.flaw.Flaw.TheVariants as flaws

abbrev pub Fails : {Y : Type 0} → Flaw → Result Y Code → Type 0
Fails flaws.BadLine read = read ≡ Err ABadLine
Fails flaws.BadNumber read = read ≡ Err ABadNumber
Fails flaws.NoMemory read = Unit {0}

-- what was returned, seen by `view`
abbrev pub Gives : {X Y : Type 0} → (X → Y) → Result X Flaw → Result Y Code → Type 0
Gives view (Ok x) read = read ≡ Ok (view x)
Gives view (Err e) read = Fails e read
