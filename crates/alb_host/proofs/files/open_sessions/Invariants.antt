use Rattle.std.proofs.Common.{◌≡◌, ◌≤◌, length, map, take}
use Rattle.std.specs.Prelude.{vec_len, vec_capacity}
use Rattle.alb_host.specs.Runs.{AreEach}
use Rattle.alb_host.specs.Steps.{IsOpenedAs}
use Rattle.alb_host.specs.Words.{names_view}
use Rattle.alb_host.proofs.files.open_sessions.Given as goal

abbrev pub invariant-loop-names : goal.invariant-loop-names
invariant-loop-names g l = record {
  opened : AreEach (IsOpenedAs g.D.In.Source g.D.Out.Sink (g.D.Desk.files l.fn.desk) (g.D.Desk.is_sound l.fn.desk)) (map names_view (take l.names-index l.sessions)) l.opened.items;
  room : length l.sessions ≤ vec_capacity l.opened;
  count : vec_len l.opened ≡ l.names-index;
  same_files : g.D.Desk.files l.desk ≡ g.D.Desk.files l.fn.desk;
  stays_sound : g.D.Desk.is_sound l.fn.desk → g.D.Desk.is_sound l.desk;
  later : g.D.Desk.faults l.fn.desk ≤ g.D.Desk.faults l.desk;
}
