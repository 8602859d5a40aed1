use Rattle.std.proofs.Common.{length, ap, subst, arith, []}
use Rattle.alb_nodes.specs.Nodes.{AreDifferent}
use Rattle.alb_nodes.proofs.NodeLemmas.{same_node, same_node-tells, length-all, set-different}
use Rattle.alb_nodes.proofs.numbers.Numbers.len.Goals as goal

pub returns-clause-value : goal.returns-clause-value
returns-clause-value c = omega (arith, c.len.ensures.len, length-all [] c.self.inside.nodes.keys, ap length c.self.view_is)

pub returns-clause-different : goal.returns-clause-different
returns-clause-different c =
    subst AreDifferent c.self.view_is
    (set-different same_node same_node-tells
    c.self.inside.nodes.keys c.len.ensures.unique c.self.invariant)
