-- The calls of a board as events of the machine that it shows.
use Rattle.std.proofs.Common.{◌≡◌, ℕ, ◌<◌, ◌&&◌, true, nat_lt, eq-eqb, length, sum, sym, refl, ap, ◌∙◌, arith}
use Rattle.std.proofs.lemmas.Bool.{lt-ltb}
use Rattle.alb_mono.proofs.Both.{both_true}
use Rattle.alb_core.specs.declared.event.Reply.TheVariants.{Seen}
use Rattle.alb_core.specs.Machine.{Machine, is_running, is_end_at, all_done}
use Rattle.alb_table.specs.End.{End, Complete, TooWide, TooManyProducts, TooManyCoefficients, NoMemory, end_of}
use Rattle.alb_table.specs.RightTable.{RulesView}
use Rattle.alb_board.specs.Published.{IsAllowedEnd}
use Rattle.alb_board.specs.Shown.{kind_of, ended_of}
use Rattle.alb_board.specs.Laws.{OpensAsMachine, PublishIsEvent, EndIsEvent, AskIsEvent, WorkersChangeNothing}

-- an end that is allowed is one of the machine at this degree
end_at : (r : RulesView) (m : Machine) (d : ℕ) (e : End) → length m.counts ≡ sum r.target → m.degree ≡ d → IsAllowedEnd r d e
    → is_end_at (kind_of e) m.degree (length m.counts) ≡ true
end_at r m d Complete total degree a = let at = a.end in eq-eqb m.degree (length m.counts) (omega (arith, at, a.degree_is, ap sum a.right.target))
end_at r m d (TooWide w n) total degree a = lt-ltb m.degree (length m.counts) (omega (arith, a.end.room, a.degree_is, ap sum a.right.target))
end_at r m d (TooManyProducts n) total degree a = lt-ltb m.degree (length m.counts) (omega (arith, a.end.goes_on.room, a.degree_is, ap sum a.right.target))
end_at r m d (TooManyCoefficients n) total degree a = lt-ltb m.degree (length m.counts) (omega (arith, a.end.goes_on.room, a.degree_is, ap sum a.right.target))
end_at r m d NoMemory total degree a = lt-ltb m.degree (length m.counts) (omega arith)

pub opens : OpensAsMachine
opens rules counts total = record { total = total; degree = refl; ended = refl }

pub publishes : PublishIsEvent
publishes r m v w t shown done none_yet right next keeps =
    let running : is_running m.ended ≡ true = ap is_running (shown.ended ∙ ap ended_of none_yet) in
    let below : m.degree < length m.counts = omega (arith, shown.degree, shown.total, next, right.table.within, ap sum right.target) in record {
      enabled = both_true (is_running m.ended && nat_lt m.degree (length m.counts)) (all_done m.cells) (both_true (is_running m.ended) (nat_lt m.degree (length m.counts)) running (lt-ltb m.degree (length m.counts) below)) done;
      shown = record { total = shown.total; degree = omega (arith, shown.degree, keeps.seen, next); ended = shown.ended ∙ ap ended_of (none_yet ∙ sym keeps.end) };
    }

pub ends : EndIsEvent
ends r m v w e shown none_yet allowed keeps =
    let running : is_running m.ended ≡ true = ap is_running (shown.ended ∙ ap ended_of none_yet) in record {
      enabled = both_true (is_running m.ended) (is_end_at (kind_of (end_of e)) m.degree (length m.counts)) running (end_at r m v.seen (end_of e) shown.total shown.degree allowed);
      shown = record { total = shown.total; degree = shown.degree ∙ sym keeps.seen; ended = sym (ap ended_of keeps.end) };
    }

pub asks : AskIsEvent
asks rules m v w k session shown shot =
    let degree : m.degree ≡ w.seen = shown.degree ∙ sym shot.seen in let ended : m.ended ≡ ended_of w.end = shown.ended ∙ sym (ap ended_of shot.end) in record {
      happens = record { enabled = refl; shown = record { total = shown.total; degree = degree; ended = ended } };
      reply = λ i. Seen (degree i) (ended i);
    }

pub works : WorkersChangeNothing
works r kept m shown = record {
  take = λ worker block. record { total = shown.total; degree = shown.degree; ended = shown.ended };
  give = λ worker block. record { total = shown.total; degree = shown.degree; ended = shown.ended };
}
