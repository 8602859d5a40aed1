use Rattle.std.proofs.Common.{arith, ◌∙◌}
use Rattle.alb_evidence.proofs.TableLemmas.{pad-step}
use Rattle.alb_evidence.proofs.table.pad.Goals as goal

pub loop-list-preserved : goal.loop-list-preserved
loop-list-preserved c = record { items = pad-step c.loop-list.list.items c.push.new.self.items c.args.count c.in_ok-push.ensures.items (omega arith) ∙ c.loop-list.invariant.items }
