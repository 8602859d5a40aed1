use Rattle.alb_poly.specs.Consequence.{forms}
use Rattle.alb_trace.specs.Trace.{product_less}
use Rattle.alb_trace.proofs.Asked.{product-of}
use Rattle.alb_trace.proofs.Ends.{forms-few, derived-stands}
use Rattle.alb_trace.proofs.answers.derive_entry.Goals as goal

pub product_line-requires-clause-trace : goal.product_line-requires-clause-trace
product_line-requires-clause-trace c = c.new-trace.ensures (forms c.args.rules.now) c.args.tables.now c.requires.right.table

pub product_line-requires-clause-product : goal.product_line-requires-clause-product
product_line-requires-clause-product c = product-of c.args.tables.now c.args.b c.args.c c.requires.right.table c.requires.left_factor c.requires.right_factor c.requires.covered

pub lines_to-requires : goal.lines_to-requires
lines_to-requires c = record { stands = derived-stands (forms c.args.rules.now) c.args.tables.now c.new-trace.result c.product_line.new.self c.in_ok-cited.cited (product_less c.args.tables.now (c.args.b, c.args.c)) c.in_ok-cited.ensures }

pub returns : goal.returns
returns c = c.lines_to.ensures (forms c.args.rules.now) c.args.tables.now c.new-trace.result (product_less c.args.tables.now (c.args.b, c.args.c)) (forms-few c.args.rules.now c.requires.rules) c.in_ok-cited.ensures
