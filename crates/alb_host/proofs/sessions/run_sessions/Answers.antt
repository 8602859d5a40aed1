use Rattle.std.proofs.Common.{◌∙◌, sym, ap, refl, option_map}
use Rattle.alb_host.specs.Steps.{built_pair}
use Rattle.alb_host.proofs.PreparedLemmas.{board-rules, board-letters, all-ready, room-there, built-there, has-run-so}
use Rattle.alb_host.proofs.sessions.run_sessions.Goals as goal

pub work_all-requires-clause-common : goal.work_all-requires-clause-common
work_all-requires-clause-common g c κs within =
    let made = c.in_ok-board.ensures in
    let board = c.in_ok-board.field-0.board in
    record {
      rules = board-rules board c.args.problem c.requires.accepted made.rules;
      letters_fit = board-letters board c.in_ok-board.field-0.letters c.args.problem c.requires.accepted made.rules made.letters_are;
      some_worker = c.requires.some_worker;
      few_workers = c.requires.few_workers;
    }

pub work_all-requires-clause-ready : goal.work_all-requires-clause-ready
work_all-requires-clause-ready g c κs within =
    let made = c.in_ok-board.ensures in
    all-ready c.in_ok-board.field-0.board made.builder made.first made.starts c.in_ok-board.field-0.jobs.items made.jobs_are made.ready made.started

pub collect-built-requires-clause-room : goal.collect-built-requires-clause-room
collect-built-requires-clause-room g c =
    let made = c.in_ok-board.field-0 in
    room-there g.I.Source g.K.Sink c.args.problem c.args.files.items made.board made.letters made.jobs.items made.room c.in_ok-done.done.items c.in_ok-board.ensures c.in_ok-done.ensures

pub unreachable-requires : goal.unreachable-requires
unreachable-requires g c =
    let made = c.in_ok-board.field-0 in
    built-there g.I.Source g.K.Sink c.args.problem c.args.files.items made.board made.letters made.jobs.items made.room c.in_ok-done.done.items c.in_ok-board.ensures c.in_ok-done.ensures
    c.collect-built.result.built c.collect-built.ensures.built c.in_default.is

pub returns : goal.returns
returns g c =
    let made = c.in_ok-board.field-0 in
    has-run-so g.I.Source g.K.Sink c.args.problem c.args.files.items made.board made.letters made.jobs.items made.room c.in_ok-done.done.items c.in_ok-board.ensures c.in_ok-done.ensures
    (record { board = made.board; builder = c.in-Some.field-0.pass; end = c.in-Some.field-0.end; sessions = c.collect-built.result.sessions }) refl c.collect-built.ensures.sessions
    (ap (option_map built_pair) (sym c.in-Some.is) ∙ c.collect-built.ensures.built)
