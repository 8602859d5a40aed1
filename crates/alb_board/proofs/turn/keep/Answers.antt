use Rattle.std.proofs.Common.{rules, ap, ◌∙◌, sym, subst}
use Rattle.alb_board.specs.Views.{M}
use Rattle.alb_board.proofs.CallLemmas.{MayFollow}
use Rattle.alb_board.proofs.Raises.{raises_keeps}
use Rattle.alb_board.proofs.turn.keep.Goals as goal

pub fetch_add-requires : goal.fetch_add-requires
fetch_add-requires c = let held = c.put.ensures.held in let t = c.requires.turn in let good = subst (λ (m : M). MayFollow m.0 c.args.kept) (sym held) c.requires.kept in
    (search rules, search rules, raises_keeps _ _ _ _ c.args.kept (ap (λ (m : M). m.0.turn) held ∙ t.0) (ap (λ (m : M). m.0.builder) held ∙ t.1) (ap (λ (m : M). m.0.end) held ∙ t.2) (ap (λ (m : M). m.1) held) good.0 good.1 good.2 good.3)
