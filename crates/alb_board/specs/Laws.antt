-- Laws that functions of `laws` state: the calls of a board are events of the machine that it shows.
use Rattle.std.specs.Prelude.{◌≡◌, ℕ, true, ◌+◌, List, Some, None, length, sum}
use Rattle.alb_core.specs.declared.event.Event.{Event}
use Rattle.alb_core.specs.declared.event.Event.TheVariants.{Take, Give, Publish, End, Ask}
use Rattle.alb_core.specs.declared.event.Reply.TheVariants.{Seen}
use Rattle.alb_core.specs.Machine.{Machine, opened, all_done, is_enabled, after, reply_to}
use Rattle.alb_poly.specs.declared.rules.Rules.{Rules}
use Rattle.alb_table.specs.declared.end.BuildEnd.{BuildEnd}
use Rattle.alb_table.specs.End.{end_of}
use Rattle.alb_table.specs.RightTable.{RulesView, rules_view, IsRightFor}
use Rattle.alb_table.specs.Table.{Table}
use Rattle.alb_board.specs.declared.kept.Published.{Published}
use Rattle.alb_board.specs.declared.kept.Shot.{Shot}
use Rattle.alb_board.specs.declared.kept.PassView.{PassView}
use Rattle.alb_board.specs.Published.{published, published_of, IsAllowedEnd}
use Rattle.alb_board.specs.Views.{first_view}
use Rattle.alb_board.specs.Calls.{ShowsShot, KeepsShot}
use Rattle.alb_board.specs.Shown.{kind_of, ended_of, IsMachineOf, seen_by}

-- the event is enabled, and after it the machine is one that is shown by what is kept
pub record Happens (r : RulesView) (m : Machine) (e : Event) (kept : Published) : Type 0 where
  pub enabled : is_enabled m e ≡ true
  pub shown : IsMachineOf r kept (after m e)

-- the machine's first state is shown by a board that was opened
abbrev pub OpensAsMachine : Type 0
OpensAsMachine = (rules : Rules) (counts : List ℕ) → length counts ≡ sum (rules_view rules).target
    → IsMachineOf (rules_view rules) (seen_by (first_view rules)) (opened counts)

-- under the conditions of `publish`, and where all blocks are done, it is the event Publish
abbrev pub PublishIsEvent : Type 0
PublishIsEvent = (r : RulesView) (m : Machine) (v w : PassView) (t : Table) → IsMachineOf r (seen_by v) m → all_done m.cells ≡ true
    → v.end ≡ None → IsRightFor r t → t.degree ≡ v.seen + 1 → KeepsShot v (published t.degree None) w → Happens r m Publish (seen_by w)

-- under the conditions of `end` it is the event End
abbrev pub EndIsEvent : Type 0
EndIsEvent = (r : RulesView) (m : Machine) (v w : PassView) (e : BuildEnd) → IsMachineOf r (seen_by v) m
    → v.end ≡ None → IsAllowedEnd r v.seen (end_of e) → KeepsShot v (published v.seen (Some e)) w → Happens r m (End (kind_of (end_of e))) (seen_by w)

-- a session is answered as the machine answers that is shown in its turn
pub record IsAnswered (r : RulesView) (m : Machine) (w : PassView) (session : ℕ) : Type 0 where
  pub happens : Happens r m (Ask session) (seen_by w)
  pub reply : reply_to m (Ask session) ≡ Seen w.seen (ended_of w.end)

-- a shot is the event Ask
abbrev pub AskIsEvent : Type 0
AskIsEvent = (rules : Rules) (m : Machine) (v w : PassView) (k : Shot) (session : ℕ) → IsMachineOf (rules_view rules) (published_of k) m
    → ShowsShot rules v k w → IsAnswered (rules_view rules) m w session

-- what a worker does changes nothing that is kept
pub record BlocksStay (r : RulesView) (kept : Published) (m : Machine) : Type 0 where
  pub take : (worker block : ℕ) → IsMachineOf r kept (after m (Take worker block))
  pub give : (worker block : ℕ) → IsMachineOf r kept (after m (Give worker block))

abbrev pub WorkersChangeNothing : Type 0
WorkersChangeNothing = (r : RulesView) (kept : Published) (m : Machine) → IsMachineOf r kept m → BlocksStay r kept m
