use Rattle.std.proofs.Common.{◌<◌, slice_index, arith, ap, refl, length}
use Rattle.std.proofs.Math.Seq.{take-set-lt}
use Rattle.std.proofs.Math.ListN.{length-take}
use Rattle.alb_core.specs.Machine.{Machine}
use Rattle.alb_core.proofs.machine.State.set_cell.Goals as goal

pub returns : goal.returns
returns c = let inside : c.args.block < slice_index c.self.inside.counts.items c.self.inside.degree = omega (arith, ap (λ (m : Machine). length m.cells) c.self.view_is, c.requires, length-take (slice_index c.self.inside.counts.items c.self.inside.degree) c.self.inside.cells.items) in
    rw (← c.self.view_is, take-set-lt) refl
