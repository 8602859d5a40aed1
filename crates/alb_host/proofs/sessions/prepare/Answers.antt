use Rattle.std.proofs.Common.{refl, arith}
use Rattle.std.specs.Arc.{arc_value}
use Rattle.alb_table.proofs.AcceptedRules.{accepted-rules}
use Rattle.alb_host.proofs.PreparedLemmas.{ready-builder}
use Rattle.alb_host.proofs.sessions.prepare.Goals as goal

pub open_board-requires : goal.open_board-requires
open_board-requires g c = accepted-rules c.args.problem c.requires.accepted

pub returns : goal.returns
returns g c =
    let opened = c.in_ok-board.ensures in
    let started = c.in_ok-starts.ensures in
    record {
      rules = opened.rules;
      letters_are = refl;
      builder = c.start_all.new.pass;
      first = c.in_ok-board.field-0.first;
      starts = c.in_ok-starts.starts.items;
      jobs_are = c.in_ok-jobs.ensures;
      ready = ready-builder c.in_ok-board.field-0.board c.args.problem.rules c.in_ok-board.field-0.pass c.start_all.new.pass (arc_value c.in_ok-board.field-0.first)
          (accepted-rules c.args.problem c.requires.accepted) opened.rules opened.first opened.pass started.split started.own;
      started = started.started;
      files_are = started.files;
      empty = c.in_ok-room.ensures.items;
      room = omega (arith, c.in_ok-room.ensures.capacity, c.len.ensures);
    }
