use Rattle.std.proofs.Common.{rules}
use Rattle.alb_io.proofs.Pieces.{Piecing-part, Piecing-fill, Reads-line, Reads-rest, Reads-limit, Reads-fault}
use Rattle.alb_io.proofs.lines.read_line.Goals as goal

pub returns-then-move_part-clause-reads : goal.returns-then-move_part-clause-reads
returns-then-move_part-clause-reads g c =
    Reads-line c.args.feeder.now c.pieces.feeder c.move_part.new.self c.pieces.gathered c.move_part.new.gathered _ _ c.step.result
    c.pieces.invariant.piecing c.if-move_part.ensures.part c.if-move_part.ensures.kept c.step.ensures

pub returns-else-is_empty-clause-reads : goal.returns-else-is_empty-clause-reads
returns-else-is_empty-clause-reads g c =
    let p = Piecing-part c.args.feeder.now c.pieces.feeder c.move_part.new.self c.pieces.gathered c.move_part.new.gathered _ _ c.pieces.invariant.piecing c.if-move_part.ensures.part in
    Reads-rest c.args.feeder.now c.move_part.new.self c.move_part.new.gathered _ _ c.step-else-is_empty.result p c.if-move_part.ensures.kept c.if-move_part.ensures.part.1 c.if-feeder.true
    c.step-else-is_empty.ensures c.if-is_empty.ensures

pub returns-then-feeder-eq0-clause-reads : goal.returns-then-feeder-eq0-clause-reads
returns-then-feeder-eq0-clause-reads g c =
    let p = Piecing-part c.args.feeder.now c.pieces.feeder c.move_part.new.self c.pieces.gathered c.move_part.new.gathered _ _ c.pieces.invariant.piecing c.if-move_part.ensures.part in
    Reads-limit c.args.feeder.now c.move_part.new.self c.move_part.new.gathered _ _ p c.if-move_part.ensures.kept c.if-move_part.ensures.part.1 c.if-feeder.false c.if-feeder-eq0.true

pub returns-in-Err-clause-reads : goal.returns-in-Err-clause-reads
returns-in-Err-clause-reads g c =
    let p = Piecing-part c.args.feeder.now c.pieces.feeder c.move_part.new.self c.pieces.gathered c.move_part.new.gathered _ _ c.pieces.invariant.piecing c.if-move_part.ensures.part in
    Reads-fault c.args.feeder.now c.move_part.new.self c.fill.new.self c.move_part.new.gathered _ _ _ p c.fill.ensures.kept c.if-move_part.ensures.part.1 c.in-Err.ensures.fills c.if-feeder.false

pub pieces-preserved : goal.pieces-preserved
pieces-preserved g c =
    let p = Piecing-part c.args.feeder.now c.pieces.feeder c.move_part.new.self c.pieces.gathered c.move_part.new.gathered _ _ c.pieces.invariant.piecing c.if-move_part.ensures.part in
    record {
      is_feeder = c.fill.ensures.kept;
      piecing = Piecing-fill c.args.feeder.now c.move_part.new.self c.fill.new.self c.move_part.new.gathered _ _ _ c.if-move_part.ensures.part.1 c.if-feeder.false p c.in-Ok.ensures.fills;
      later = search rules;
      sound = λ s. (c.fill.ensures.sound (c.pieces.invariant.sound s)).1;
    }
