use Rattle.alb_mono.specs.Tree.{tree}
use Rattle.alb_poly.specs.Consequence.{forms}
use Rattle.alb_trace.specs.Trace.{mono_less}
use Rattle.alb_trace.proofs.Ends.{forms-few, derived-stands}
use Rattle.alb_trace.proofs.answers.derive_monomial.Goals as goal

pub monomial_line-requires-clause-trace : goal.monomial_line-requires-clause-trace
monomial_line-requires-clause-trace c = c.new-trace.ensures (forms c.args.rules.now) c.args.tables.now c.requires.right.table

pub lines_to-requires : goal.lines_to-requires
lines_to-requires c = record { stands = derived-stands (forms c.args.rules.now) c.args.tables.now c.new-trace.result c.monomial_line.new.self c.in_ok-cited.cited (mono_less c.args.tables.now (tree c.args.m.now)) c.in_ok-cited.ensures }

pub returns : goal.returns
returns c = c.lines_to.ensures (forms c.args.rules.now) c.args.tables.now c.new-trace.result (mono_less c.args.tables.now (tree c.args.m.now)) (forms-few c.args.rules.now c.requires.rules) c.in_ok-cited.ensures
