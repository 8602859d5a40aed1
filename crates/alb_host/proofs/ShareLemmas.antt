-- What the jobs share among threads may be shared.
use mathlib.Core.List.{List, [], ◌∷◌}
use mir.Syntax.{Sym}
use denote.Builtin.{u32}
use denote.RattleType.{RattleType}
use denote.Struct.Declared.{shape}
use denote.Struct.Tuple.{TupleAt, type_at, field_at}
use denote.Param.Send.{IsSend, IsSync, sendable, recorded_sync, struct_sync}
use Rattle.std.proofs.Crossing.{crosses}
use Rattle.atomic_table.proofs.send_lease.SendLease.TheSendSync as lease
use Rattle.atomic_table.proofs.shared.Shared.TheSendSync as shared
use Rattle.alb_board.proofs.kept.Shot.TheSendSync as shot
use Rattle.alb_board.specs.contracts.kept.Shot as Shot
use Rattle.alb_board.specs.contracts.rule.Board as Board
use Rattle.alb_mono.proofs.mono.Mono.TheLaws.TheKnot.{send-Mono, sync-Mono}
use Rattle.alb_mono.specs.contracts.letters.Letters as Letters
use Rattle.alb_poly.specs.contracts.rules.Rules as Rules

pub u32-sync : IsSync u32
u32-sync = search sendable

pub letters-sync : IsSync Letters.the_row
letters-sync = search (sendable, crosses) depth 40

rules-sync : IsSync Rules.the_row
rules-sync = search (sendable, crosses, sync-Mono) depth 40

rules-send : IsSend Rules.the_row
rules-send = search (sendable, crosses, send-Mono) depth 40

shot-send : IsSend Shot.the_row
shot-send = shot.the_send

pub board-sync : IsSync Board.the_row
board-sync = search (sendable, crosses, shared.the_sync, lease.the_sync, shot-send, rules-send, rules-sync) depth 40 fits 5000

-- a closure that captures six values
pub six-sync : (ν : Sym) (A B C D E F : RattleType) → IsSync A → IsSync B → IsSync C → IsSync D → IsSync E → IsSync F
    → IsSync (TupleAt ν (A ∷ B ∷ C ∷ D ∷ E ∷ F ∷ []))
six-sync ν A B C D E F a b c d e f =
    let Ts : List RattleType = A ∷ B ∷ C ∷ D ∷ E ∷ F ∷ [] in
    recorded_sync (field_at ν Ts).row _ _ (type_at ν Ts).to_one (struct_sync (shape (type_at ν Ts)) (a, (b, (c, (d, (e, (f, tt)))))))
