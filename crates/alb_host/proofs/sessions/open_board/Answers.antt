use Rattle.std.proofs.Common.{◌∙◌}
use Rattle.std.specs.Arc.{arc_value}
use Rattle.alb_host.proofs.PreparedLemmas.{right-first}
use Rattle.alb_host.proofs.sessions.open_board.Goals as goal

pub open-requires-clause-right : goal.open-requires-clause-right
open-requires-clause-right c =
    right-first c.args.rules (arc_value c.in_ok-shared.shared) (arc_value c.in_ok-kept.kept) c.requires c.in_ok-shared.ensures.ok (c.in_ok-kept.ensures ∙ c.in_ok-first.ensures.ok ∙ c.in_ok-tables.ensures)
