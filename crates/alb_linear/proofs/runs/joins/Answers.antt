use Rattle.std.proofs.Common.{◌≡◌, true}
use Rattle.std.specs.Prelude.{◌↔◌}
use Rattle.alb_poly.specs.Consequence.{form}
use Rattle.alb_linear.specs.Runs.{AreExchangeable}
use Rattle.alb_linear.proofs.RunLemmas.{later-joins}
use Rattle.alb_linear.proofs.runs.joins.Goals as goal

pub returns-clause-later : goal.returns-clause-later
returns-clause-later c =
    later-joins (λ j b. (b ≡ true) ↔ AreExchangeable c.args.field.now (form c.args.f.now) j) c.are_exchangeable.result c.args.k c.are_exchangeable.ensures
