use Rattle.std.proofs.Common.{◌∙◌, arith}
use Rattle.alb_host.proofs.FileLemmas.{same-error, file-at, opened-since, opened-more}
use Rattle.alb_host.proofs.files.open_sessions.Goals as goal

pub loop-names-preserved : goal.loop-names-preserved
loop-names-preserved g c =
    let now = c.in-Ok-open_session.ensures in
    let before = c.loop-names.invariant in
    record {
      opened = opened-more g.D.In.Source g.D.Out.Sink (g.D.Desk.files c.args.desk.now) (g.D.Desk.is_sound c.args.desk.now) c.args.sessions.now c.loop-names.names-index _ c.loop-names.opened.items
          c.push_reserved.new.self.items c.in-Ok-open_session.files c.loop-names-test.true c.push_reserved.ensures.items before.opened
          (opened-since g.D.In.Source g.D.Out.Sink (g.D.Desk.files c.args.desk.now) (g.D.Desk.files c.loop-names.desk) (g.D.Desk.is_sound c.args.desk.now) (g.D.Desk.is_sound c.loop-names.desk) _
          c.in-Ok-open_session.files before.same_files before.stays_sound now.opened);
      room = omega (arith, c.push_reserved.ensures.capacity, before.room);
      count = omega (arith, c.push_reserved.ensures.len, before.count);
      same_files = now.same_files ∙ before.same_files;
      stays_sound = λ h. now.stays_sound (before.stays_sound h);
      later = omega (arith, now.later, before.later);
    }

pub returns-in-Err-open_session-clause-opens : goal.returns-in-Err-open_session-clause-opens
returns-in-Err-open_session-clause-opens g c = λ sound all failed.
    let before = c.loop-names.invariant in
    c.in-Err-open_session.ensures.opens (before.stays_sound sound)
    (file-at (g.D.Desk.files c.args.desk.now) (g.D.Desk.files c.loop-names.desk) c.args.sessions.now c.loop-names.names-index _ before.same_files c.loop-names-test.true all)
    (same-error _ _ failed)
