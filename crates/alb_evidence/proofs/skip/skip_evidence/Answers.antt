use Rattle.std.proofs.Common.{rules, ◌++◌, ◌∷◌, [], true}
use Rattle.alb_evidence.proofs.ReadLemmas.{ReadsInside-more, ReadsLine-smaller, ReadsBlock-close}
use Rattle.alb_evidence.proofs.skip.skip_evidence.Goals as goal

pub lines-smaller : goal.lines-smaller
lines-smaller g c =
    let t = c.in-Line.ensures.next in
    ReadsLine-smaller c.lines.reader c.next_inside.new.reader _ _ t.line t.reads

pub lines-preserved : goal.lines-preserved
lines-preserved g c =
    let t = c.in-Line.ensures.next in
    let so_far = c.lines.invariant.inside in
    record {
      inside = (so_far.0 ++ t.line ∷ [], ReadsInside-more so_far.0 t.line c.args.reader.now c.lines.reader c.next_inside.new.reader _ _ _ so_far.1 t.reads t.no_end);
      running = t.reads.running;
      later = search rules;
      sound = λ s. (c.next_inside.ensures.sound (c.lines.invariant.sound s)).0;
    }

pub returns-in-End-clause-reads : goal.returns-in-End-clause-reads
returns-in-End-clause-reads g c =
    let so_far = c.lines.invariant.inside in
    (so_far.0, true, ReadsBlock-close true so_far.0 c.args.reader.now c.lines.reader c.next_inside.new.reader _ _ _ so_far.1 c.in-End.ensures.next)
