-- What a file in memory is to contracts.
use Rattle.std.specs.String.{string_bytes}
use Rattle.alb_io.specs.Memory.{Stored}
use Rattle.alb_io.specs.declared.memory.desk.MemFile.{MemFile}

-- the file's name, bytes, piece and failing numbers
abbrev pub stored_of : MemFile → Stored
stored_of f = record { name = string_bytes f.name; bytes = f.bytes.items; piece = f.piece; failing = f.failing.items }
