use Rattle.std.proofs.Common.{ℕ, List, All, length, subst}
use Rattle.alb_deriv.specs.Views.{IsLine}
use Rattle.test_program.proofs.derivations.derives.Goals as goal

pub check_claim-requires-clause-lines : goal.check_claim-requires-clause-lines
check_claim-requires-clause-lines c =
    subst (λ (p : ℕ). All (λ l. IsLine p (length c.args.topic.now.problem.rules.target) l) c.args.lines.now) c.requires.right.field
    (subst (λ (t : List ℕ). All (λ l. IsLine c.args.topic.now.tables.p (length t) l) c.args.lines.now) c.requires.right.target c.requires.lines)
