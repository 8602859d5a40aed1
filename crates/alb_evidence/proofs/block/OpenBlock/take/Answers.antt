use Rattle.std.proofs.Common.{◌∙◌, sym, arith}
use Rattle.alb_evidence.specs.Said.{said}
use Rattle.alb_evidence.proofs.BlockLemmas.{says-skipped, fault-taken, line-taken}
use Rattle.alb_evidence.proofs.block.OpenBlock.take.Goals as goal

pub returns-then-is_skipped-clause-takes : goal.returns-then-is_skipped-clause-takes
returns-then-is_skipped-clause-takes c = λ lines has_end.
    says-skipped c.args.field.now c.args.letters.now c.args.self.now.next (said c.args.self.now.said) c.args.line.now lines has_end c.requires (sym c.is_skipped.ensures ∙ c.if-is_skipped.true)

pub returns-in-Err-clause-takes : goal.returns-in-Err-clause-takes
returns-in-Err-clause-takes c =
    fault-taken c.args.field.now c.args.letters.now c.args.self.now _ c.args.line.now c.in-Err.flaw c.fault_at.result c.fault_at.ensures c.in-Err.ensures.value c.requires (sym c.is_skipped.ensures ∙ c.if-is_skipped.false)

pub returns-in-Some-clause-takes : goal.returns-in-Some-clause-takes
returns-in-Some-clause-takes c =
    line-taken c.args.field.now c.args.letters.now c.args.self.now _ c.args.line.now c.in-Ok.ensures.value (omega arith) c.requires (sym c.is_skipped.ensures ∙ c.if-is_skipped.false)
