use Rattle.alb_evidence.proofs.ReadLemmas.{closes-end, inside-short, inside-long}
use Rattle.alb_evidence.proofs.inside.next_inside.Goals as goal

pub returns-then-is_end-clause-next : goal.returns-then-is_end-clause-next
returns-then-is_end-clause-next g c =
    closes-end c.args.reader.now c.next_line.new.self _ _ c.line.result.now c.is_end.result c.in-Line.ensures.reads c.line.ensures c.is_end.ensures c.if-is_end.true

pub returns-else-is_end-clause-next : goal.returns-else-is_end-clause-next
returns-else-is_end-clause-next g c =
    inside-short c.args.reader.now c.next_line.new.self _ _ c.line.result.now c.is_end.result c.in-Line.ensures.reads c.line.ensures c.is_end.ensures c.if-is_end.false

pub returns-in-TooLong-clause-next : goal.returns-in-TooLong-clause-next
returns-in-TooLong-clause-next g c = inside-long c.args.reader.now c.next_line.new.self _ _ c.in-TooLong.ensures.reads
