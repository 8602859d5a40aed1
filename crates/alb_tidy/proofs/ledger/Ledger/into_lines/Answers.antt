use Rattle.alb_tidy.proofs.LedgerLemmas.{key-moved}
use Rattle.alb_tidy.proofs.ledger.Ledger.into_lines.Goals as goal

pub loop-key-preserved : goal.loop-key-preserved
loop-key-preserved c = key-moved c.loop-key.left.keys c.pop.new.self.keys c.in-Some.key c.loop-key.lines.items c.push.new.self.items _ c.in-Some.ensures.keys c.in_ok-push.ensures.items c.loop-key.invariant
