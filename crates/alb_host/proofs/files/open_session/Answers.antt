use Rattle.std.proofs.Common.{sym, subst}
use Rattle.std.specs.Prelude.{IsSome}
use Rattle.alb_host.proofs.files.open_session.Goals as goal

pub returns-in-Ok-create-clause-opened : goal.returns-in-Ok-create-clause-opened
returns-in-Ok-create-clause-opened g c = record {
  file = c.in-Ok.ensures.content;
  no_read_fault = c.in-Ok.ensures.fresh;
  sound_source = λ h. (c.in-Ok.ensures.stays_sound h).1;
  no_write_fault = c.in-Ok-create.ensures.fresh;
  empty = λ told. c.in-Ok-create.ensures.empty (subst IsSome (sym c.in-Ok.ensures.same_files) told);
}
