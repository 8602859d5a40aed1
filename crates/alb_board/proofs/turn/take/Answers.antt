use Rattle.std.proofs.Common.{◌∷◌, List, ℕ, Some, ap, sym, ◌∙◌}
use Rattle.atomic_table.specs.Table.{rest}
use Rattle.alb_board.specs.Views.{Slot}
use Rattle.alb_board.proofs.turn.take.Goals as goal

pub exchange-requires : goal.exchange-requires
exchange-requires c = let t = c.requires.held in (c.requires.own, (Some t.0, t.1 ∙ ap (λ (l : List (ℕ × Slot)). (0, Some t.0) ∷ rest l) (sym t.1)))
