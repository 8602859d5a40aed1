use Rattle.std.proofs.Common.{◌≡◌, map, drop}
use Rattle.alb_io.specs.Memory.{file_named}
use Rattle.alb_io.specs.MemFiles.{stored_of}
use Rattle.alb_io.proofs.memory.desk.find.Given as goal

abbrev pub invariant-loop-file : goal.invariant-loop-file
invariant-loop-file l = file_named l.name (map stored_of (drop l.file-index l.files)) ≡ file_named l.name (map stored_of l.files)
