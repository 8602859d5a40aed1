use Rattle.std.proofs.Common.{map, sym, subst, rules, arith}
use Rattle.alb_io.specs.MemFiles.{stored_of}
use Rattle.alb_io.specs.Memory.{HasPieces, IsSoundShelf}
use Rattle.alb_io.proofs.Shelves.{piece_found}
use Rattle.alb_io.proofs.memory.desk.MemDeskDesk.create.Goals as goal

pub create_file-requires : goal.create_file-requires
create_file-requires c =
    piece_found c.args.name.now (map stored_of c.deref-2.result.now) c.find.result
    (subst (λ l. HasPieces (map stored_of l)) (sym c.deref-2.ensures.value) c.self.invariant) c.find.ensures

pub returns-in-Ok-clause-stays_sound : goal.returns-in-Ok-clause-stays_sound
returns-in-Ok-clause-stays_sound c = λ sound.
    let was : IsSoundShelf (record { files = map stored_of c.self.inside.files.items; failing = c.self.inside.failing.items; next = c.self.inside.next; faults = c.self.inside.faults }) = subst IsSoundShelf (sym c.self.view_is) sound in
    ((λ k le. was.0 k (omega arith), was.1), search rules)
