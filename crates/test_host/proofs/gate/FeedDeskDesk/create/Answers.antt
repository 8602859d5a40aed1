use Rattle.std.proofs.Common.{◌≡◌}
use Rattle.alb_host.proofs.FileLemmas.{same-error}
use Rattle.test_host.proofs.gate.FeedDeskDesk.create.Goals as goal

pub returns-in-Ok-clause-stays_sound : goal.returns-in-Ok-clause-stays_sound
returns-in-Ok-clause-stays_sound c = λ sound. ((c.in-Ok.ensures.stays_sound sound).0, λ is. cc)

pub returns-in-Err-clause-stays_sound : goal.returns-in-Err-clause-stays_sound
returns-in-Err-clause-stays_sound c = λ sound. ((c.in-Err.ensures.stays_sound sound).0, λ is. (c.in-Err.ensures.stays_sound sound).1 (same-error _ _ is))
