use Rattle.std.proofs.Common.{inr}
use Rattle.alb_host.specs.Words.{words_view}
use Rattle.alb_host.proofs.FileLemmas.{is-err}
use Rattle.alb_host.proofs.RunLemmas.{rose-since, files-later, opened-few, opened-at, reads-file, stops-open, has-run, runs-built}
use Rattle.alb_host.proofs.run.run_words.Goals as goal

pub returns-in-Err-Failed-open_sessions-clause-runs : goal.returns-in-Err-Failed-open_sessions-clause-runs
returns-in-Err-Failed-open_sessions-clause-runs g c =
    let opened = c.in-Ok.ensures in
    let read = c.in-Ok-read_file.ensures in
    let failed = c.in-Err-Failed-open_sessions.ensures in
    let report = c.stopped-in-Err-Failed-open_sessions in
    stops-open g.D.In.Source g.D.Out.Sink (g.D.Desk.files c.args.desk.now) (g.D.Desk.is_sound c.args.desk.now) (words_view c.args.said.now) (g.D.Desk.faults c.args.desk.now)
    (g.D.Desk.faults c.open_sessions.new.desk) report.result report.ensures.build report.ensures.none report.ensures.status report.ensures.refusal
    (record {
      rose = rose-since (g.D.Desk.faults c.args.desk.now) (g.D.Desk.faults c.open.new.self) (g.D.Desk.faults c.open_sessions.new.desk) opened.cause.later (failed.failed (is-err _ _ c.in-Err-Failed-open_sessions.field-0-is));
      missing = λ sound is all.
          failed.opens (opened.stays_sound sound).0
          (files-later (g.D.Desk.files c.args.desk.now) (g.D.Desk.files c.open.new.self) c.args.said.now.sessions.items c.deref.result.now opened.same_files c.deref.ensures.value all) (is-err _ _ c.in-Err-Failed-open_sessions.field-0-is);
      problem = inr (record {
        file = c.read_file.new.source;
        problem = c.in-Ok-read_file.problem;
        problem_is = report.ensures.problem;
        reads = reads-file g.D.In.Source g.D.Out.Sink (g.D.Desk.files c.args.desk.now) (g.D.Desk.is_sound c.args.desk.now) c.args.said.now.problem.now _ c.in-Ok.source c.read_file.new.source
            opened.content opened.fresh (λ k. (opened.stays_sound k).1) read.reads read.read_fault read.sound;
      });
    })

pub run_sessions-requires-clause-few : goal.run_sessions-requires-clause-few
run_sessions-requires-clause-few g c κs within =
    opened-few g.D.In.Source g.D.Out.Sink (g.D.Desk.files c.args.desk.now) (g.D.Desk.files c.open.new.self) (g.D.Desk.is_sound c.args.desk.now) (g.D.Desk.is_sound c.open.new.self)
    c.in-Ok.ensures.same_files (λ k. (c.in-Ok.ensures.stays_sound k).0) c.args.said.now.sessions.items c.deref.result.now c.in-Ok-open_sessions.files.items c.deref.ensures.value c.requires.few
    c.in-Ok-open_sessions.ensures.opened

pub returns-in-Ok-run_sessions-clause-runs : goal.returns-in-Ok-run_sessions-clause-runs
returns-in-Ok-run_sessions-clause-runs g c =
    let opened = c.in-Ok.ensures in
    let read = c.in-Ok-read_file.ensures in
    runs-built g.D.In.Source g.D.Out.Sink (g.D.Desk.files c.args.desk.now) (g.D.Desk.is_sound c.args.desk.now) (words_view c.args.said.now) (g.D.Desk.faults c.args.desk.now)
    (g.D.Desk.faults c.open_sessions.new.desk) c.in-Ok-run_sessions.ran.end c.built_report.result c.built_report.ensures.build
    (has-run g.D.In.Source g.D.Out.Sink (g.D.Desk.files c.args.desk.now) (g.D.Desk.is_sound c.args.desk.now) (words_view c.args.said.now) c.in-Ok-read_file.problem
    c.in-Ok-open_sessions.files.items c.in-Ok-run_sessions.ran c.read_file.new.source c.built_report.result
    (reads-file g.D.In.Source g.D.Out.Sink (g.D.Desk.files c.args.desk.now) (g.D.Desk.is_sound c.args.desk.now) c.args.said.now.problem.now _ c.in-Ok.source c.read_file.new.source
    opened.content opened.fresh (λ k. (opened.stays_sound k).1) read.reads read.read_fault read.sound)
    read.accepted
    (opened-at g.D.In.Source g.D.Out.Sink (g.D.Desk.files c.args.desk.now) (g.D.Desk.files c.open.new.self) (g.D.Desk.is_sound c.args.desk.now) (g.D.Desk.is_sound c.open.new.self)
    opened.same_files (λ k. (opened.stays_sound k).0) c.args.said.now.sessions.items c.deref.result.now c.in-Ok-open_sessions.files.items c.deref.ensures.value c.in-Ok-open_sessions.ensures.opened)
    c.in-Ok-run_sessions.ensures c.built_report.ensures)
