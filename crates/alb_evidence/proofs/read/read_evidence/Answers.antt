use Rattle.std.proofs.Common.{rules}
use Rattle.alb_evidence.proofs.ReadLemmas.{ReadsLine-smaller}
use Rattle.alb_evidence.proofs.ReadingLemmas.{SoFar-more, ReadsAs-closed, ReadsAs-end, ReadsAs-memory, ReadsAs-after}
use Rattle.alb_evidence.proofs.read.read_evidence.Goals as goal

pub lines-smaller : goal.lines-smaller
lines-smaller g c =
    let t = c.in-Line.ensures.next in
    ReadsLine-smaller c.lines.reader c.next_inside.new.reader _ _ t.line t.reads

pub lines-preserved : goal.lines-preserved
lines-preserved g c =
    let t = c.in-Line.ensures.next in
    record {
      so_far = SoFar-more c.args.field.now c.args.letters.now c.lines.block c.args.reader.now c.lines.reader c.next_inside.new.reader _ _ _ c.lines.invariant.so_far c.take_next.new.block c.in-Line.is_long t
          (c.in-Ok.ensures.takes t.line t.long t.held);
      said = c.in-Ok.ensures.said c.lines.invariant.said;
      running = t.reads.running;
      later = search rules;
      sound = λ s. (c.next_inside.ensures.sound (c.lines.invariant.sound s)).0;
    }

pub returns-in-Err-NoMemory-clause-reads : goal.returns-in-Err-NoMemory-clause-reads
returns-in-Err-NoMemory-clause-reads g c =
    ReadsAs-memory c.args.field.now c.args.letters.now c.lines.block c.args.reader.now c.lines.reader c.next_inside.new.reader _ _ _ c.lines.invariant.so_far c.in-Line.is_long c.in-Line.ensures.next

pub returns-in-Err-clause-reads : goal.returns-in-Err-clause-reads
returns-in-Err-clause-reads g c =
    let t = c.in-Line.ensures.next in
    ReadsAs-after c.args.field.now c.args.letters.now c.lines.block c.args.reader.now c.lines.reader c.next_inside.new.reader _ _ _ c.lines.invariant.so_far c.skip_after.new.reader _ c.in-Line.is_long t c.take_next.new.block
    c.in-Err.error c.skip_after.result (c.in-Err.ensures.takes t.line t.long t.held) c.skip_after.ensures.skips

pub returns-in-End-clause-reads : goal.returns-in-End-clause-reads
returns-in-End-clause-reads g c =
    ReadsAs-closed c.args.field.now c.args.letters.now c.lines.block c.args.reader.now c.lines.reader c.next_inside.new.reader _ _ _ c.lines.invariant.so_far c.close.result c.in-End.ensures.next c.close.ensures.value

pub returns-in-End-clause-evidence : goal.returns-in-End-clause-evidence
returns-in-End-clause-evidence g c = c.close.ensures.evidence c.args.field.now c.lines.invariant.said

pub returns-in-InputEnd-clause-reads : goal.returns-in-InputEnd-clause-reads
returns-in-InputEnd-clause-reads g c =
    ReadsAs-end c.args.field.now c.args.letters.now c.lines.block c.args.reader.now c.lines.reader c.next_inside.new.reader _ _ _ c.lines.invariant.so_far c.in-InputEnd.ensures.next
