use Rattle.std.proofs.Common.{take}
use Rattle.alb_poly.specs.Consequence.{forms}
use Rattle.alb_poly.specs.Terms.{terms}
use Rattle.alb_table.specs.Block.{spread}
use Rattle.alb_trace.specs.Trace.{mono_less, PushesItems}
use Rattle.alb_trace.proofs.trace.Trace.add_monomials.Given as goal

abbrev pub invariant-loop-term : goal.invariant-loop-term
invariant-loop-term l = PushesItems (forms l.ground.rules.now) l.ground.tables.now l.initial.self l.self l.initial.sum.items.items l.sum.items.items (spread (mono_less l.ground.tables.now) (take l.term-index (terms l.term-items)))
