-- Files in memory, one after the other.
use Rattle.std.proofs.Common.{ℕ, ◌≤◌, List, [], ◌∷◌, ◌++◌, map}
use Rattle.alb_io.specs.Memory.{HasPieces}
use Rattle.alb_io.specs.MemFiles.{stored_of}
use Rattle.alb_io.specs.declared.memory.desk.MemFile.{MemFile}

-- one file more
pub pieces-more : (fs : List MemFile) (f : MemFile) → HasPieces (map stored_of fs) → 1 ≤ f.piece → HasPieces (map stored_of (fs ++ f ∷ []))
pieces-more [] f h piece = (piece, tt)
pieces-more (g ∷ fs) f h piece = (h.0, pieces-more fs f h.1 piece)
