use Rattle.std.proofs.Common.{rules, ◌∙◌, ap}
use Rattle.alb_board.specs.Views.{M}
use Rattle.alb_board.proofs.Draws.{counts_keeps}
use Rattle.alb_board.proofs.turn.wait_above.Goals as goal

pub load-requires : goal.load-requires
load-requires g c = let known = c.loop.invariant.known in (search rules, search rules, counts_keeps _ _ _ _ (ap (λ (m : M). m.0.turn) known ∙ c.requires.idle.1))
