use Rattle.std.proofs.Common.{rules, ap, ◌∙◌}
use Rattle.alb_board.specs.declared.kept.PassView.{PassView}
use Rattle.alb_board.proofs.Draws.{draws_keeps, looks_keeps}
use Rattle.alb_board.proofs.turn.enter.Goals as goal

pub fetch_add-ticket-requires : goal.fetch_add-ticket-requires
fetch_add-ticket-requires g c = (search rules, search rules, draws_keeps _ _ _ _ c.requires.idle.0.0 c.requires.idle.0.1 c.requires.idle.1)

pub load-requires : goal.load-requires
load-requires g c = let drawn = c.loop.invariant.drawn in
    (search rules, search rules, looks_keeps _ _ _ _ _ (ap (λ (v : PassView). v.ticket) drawn) (ap (λ (v : PassView). v.turn) drawn ∙ c.requires.idle.0.1))
