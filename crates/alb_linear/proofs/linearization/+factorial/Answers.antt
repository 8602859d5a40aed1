use Rattle.std.proofs.Common.{◌*◌, ap, arith}
use Rattle.alb_linear.proofs.LinearLemmas.{factorial-step, factorial-small}
use Rattle.alb_linear.proofs.linearization.+factorial.Goals as goal

pub returns-else-n-eq0-clause-small : goal.returns-else-n-eq0-clause-small
returns-else-n-eq0-clause-small t c =
    omega (arith, ap (λ z. c.args.n * z) c.factorial.ensures.value, factorial-step c.args.n (omega arith), factorial-small c.args.n c.requires)
