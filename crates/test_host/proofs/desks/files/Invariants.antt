use Rattle.std.proofs.Common.{map}
use Rattle.alb_io.specs.Memory.{HasPieces}
use Rattle.alb_io.specs.MemFiles.{stored_of}
use Rattle.test_host.proofs.desks.files.Given as goal

abbrev pub invariant-loop-text : goal.invariant-loop-text
invariant-loop-text l = HasPieces (map stored_of l.made.items)
