use Rattle.std.proofs.Common.{arith, refl, take}
use Rattle.alb_io.proofs.LineLemmas.{held_cut}
use Rattle.alb_io.specs.Feeder.{held_of}
use Rattle.alb_io.proofs.feeder.Feeder.move_part.Goals as goal

pub returns-in-Some-clause-part : goal.returns-in-Some-clause-part
returns-in-Some-clause-part c =
    let f = c.args.self.now in
    let found = c.in-Some.ensures in
    (take c.in-Some.at (held_of f), found.1, held_cut f.chunk f.from f.to c.in-Some.at c.requires.0 (omega arith) found.0 found.2, c.add.ensures, refl, refl)
