-- What the program does where nothing was read or written.
use Rattle.std.proofs.Common.{ℕ, List, Option, None, Some, refl}
use Rattle.std.proofs.KnownBytes.{Consumes-nil, Appends-nil}
use Rattle.alb_io.specs.declared.status.Status.TheVariants as status
use Rattle.alb_script.specs.declared.form.Form.TheVariants as form
use Rattle.alb_top.specs.Does.{Does}
use Rattle.alb_top.specs.Script.{start}
use Rattle.alb_top.specs.declared.mode.Mode.{Mode}
use Rattle.alb_top.specs.declared.mode.Mode.TheVariants as mode
use Rattle.alb_top.proofs.Going.{Outcome-nothing, idle}
use Rattle.alb_top.proofs.SoundLemmas.{sound-start}

-- want of memory before anything was done
pub Does-nothing : (named : Option Mode) (first before : Option (List ℕ)) → Does named status.NoMemory first first before before
Does-nothing None first before = idle first before
Does-nothing (Some mode.Batch) first before = Outcome-nothing (start mode.Batch form.Batch) (sound-start mode.Batch form.Batch refl) first before
Does-nothing (Some mode.Check) first before = Outcome-nothing (start mode.Check form.Check) (sound-start mode.Check form.Check refl) first before
Does-nothing (Some (mode.Sample n)) first before = record { consumed = Consumes-nil first; writes = Appends-nil before }
