use Rattle.std.proofs.Common.{List, map, sym, subst}
use Rattle.alb_io.specs.Memory.{HasPieces}
use Rattle.alb_io.specs.MemFiles.{stored_of}
use Rattle.alb_io.specs.declared.memory.desk.MemFile.{MemFile}
use Rattle.test_host.proofs.FileLemmas.{pieces-more}
use Rattle.test_host.proofs.desks.files.Goals as goal

pub loop-text-preserved : goal.loop-text-preserved
loop-text-preserved c =
    subst (λ (xs : List MemFile). HasPieces (map stored_of xs)) (sym c.in_ok-push.ensures.items) (pieces-more c.loop-text.made.items c.in_ok-next.next c.loop-text.invariant c.in_ok-next.ensures)
