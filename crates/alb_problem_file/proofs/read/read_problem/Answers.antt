use Rattle.std.proofs.Common.{rules, ap, sym, subst}
use Rattle.alb_io.specs.Reader.{Reader}
use Rattle.alb_problem.specs.Builder.{Builder}
use Rattle.alb_problem_file.specs.Steps.{Going, SaysLine}
use Rattle.alb_problem_file.specs.declared.line.Said as lines
use Rattle.alb_problem_file.proofs.ReadLemmas.{line-fewer, Going-start, Going-next, Reads-ends, Reads-refused, Reads-no-memory, Reads-end, Reads-fault, Reads-limit}
use Rattle.alb_problem_file.proofs.read.read_problem.Goals as goal

pub lines-init : goal.lines-init
lines-init g c = record {
  going = subst (λ (b : Builder). Going c.args.reader.now b 1 (g.S.Source.left c.args.source.now) (g.S.Source.left c.args.source.now)) (sym c.new-builder.ensures)
      (Going-start c.args.reader.now (g.S.Source.left c.args.source.now) (ap (λ (r : Reader). r.held) c.requires.fresh) (ap (λ (r : Reader). r.at_end) c.requires.fresh) (ap (λ (r : Reader). r.room) c.requires.fresh));
  not_ended = ap (λ (r : Reader). r.ended) c.requires.fresh;
  reads = search rules;
  sound = λ s. s;
}

pub lines-smaller : goal.lines-smaller
lines-smaller g c = line-fewer _ _ _ _ _ c.in-Line-GoesOn.ensures.takes.reads

pub lines-preserved : goal.lines-preserved
lines-preserved g c = record {
  going = Going-next _ _ _ _ _ _ _ _ c.lines.invariant.going
      (subst (λ (s : lines.Said). SaysLine s c.lines.reader c.take_line.new.reader (g.S.Source.left c.lines.source) (g.S.Source.left c.take_line.new.source) c.lines.builder c.take_line.new.builder)
      c.in-Line-GoesOn.field-0-is c.in-Line-GoesOn.ensures.takes);
  not_ended = c.in-Line-GoesOn.ensures.takes.reads.running;
  reads = search rules;
  sound = λ s. (c.take_line.ensures.sound (c.lines.invariant.sound s)).0;
}

pub returns-in-Line-Ends-clause-reads : goal.returns-in-Line-Ends-clause-reads
returns-in-Line-Ends-clause-reads g c =
    Reads-ends _ _ _ _ _ _ _ _ _ c.lines.invariant.going
    (subst (λ (s : lines.Said). SaysLine s c.lines.reader c.take_line.new.reader (g.S.Source.left c.lines.source) (g.S.Source.left c.take_line.new.source) c.lines.builder c.take_line.new.builder)
    c.in-Line-Ends.field-0-is c.in-Line-Ends.ensures.takes)
    c.finish.ensures.exact

pub returns-in-Line-Refused-clause-reads : goal.returns-in-Line-Refused-clause-reads
returns-in-Line-Refused-clause-reads g c =
    Reads-refused _ _ _ _ _ _ _ _ _ c.lines.invariant.going
    (subst (λ (s : lines.Said). SaysLine s c.lines.reader c.take_line.new.reader (g.S.Source.left c.lines.source) (g.S.Source.left c.take_line.new.source) c.lines.builder c.take_line.new.builder)
    c.in-Line-Refused.field-0-is c.in-Line-Refused.ensures.takes)

pub returns-in-Line-NoMemory-clause-reads : goal.returns-in-Line-NoMemory-clause-reads
returns-in-Line-NoMemory-clause-reads g c =
    Reads-no-memory _ _ _ _ _ _ _ _ c.lines.invariant.going
    (subst (λ (s : lines.Said). SaysLine s c.lines.reader c.take_line.new.reader (g.S.Source.left c.lines.source) (g.S.Source.left c.take_line.new.source) c.lines.builder c.take_line.new.builder)
    c.in-Line-NoMemory.field-0-is c.in-Line-NoMemory.ensures.takes)

pub returns-in-End-clause-reads : goal.returns-in-End-clause-reads
returns-in-End-clause-reads g c =
    Reads-end _ _ _ _ _ _ _ _ _ c.lines.invariant.going c.in-End.ensures.takes.0 c.in-End.ensures.takes.1 c.finish-in-End.ensures.exact

pub returns-in-ReadFault-clause-reads : goal.returns-in-ReadFault-clause-reads
returns-in-ReadFault-clause-reads g c = Reads-fault _ _ _ _ _ _ _ c.lines.invariant.going c.in-ReadFault.ensures.takes

pub returns-in-InputLimit-clause-reads : goal.returns-in-InputLimit-clause-reads
returns-in-InputLimit-clause-reads g c = Reads-limit _ _ _ _ _ _ _ c.lines.invariant.going c.in-InputLimit.ensures.takes
