use Rattle.std.proofs.Common.{rules, ◌≡◌, ◌∷◌, [], List, Some, None, sym, subst, ap}
use Rattle.std.specs.Arc.{arc_value}
use Rattle.atomic_table.specs.Table.{opening}
use Rattle.alb_poly.specs.declared.rules.Rules.{Rules}
use Rattle.alb_board.specs.Published.{published}
use Rattle.alb_board.specs.Views.{Slot, first_view}
use Rattle.alb_board.specs.Turns.{Turns}
use Rattle.alb_board.proofs.Splits.{starts}
use Rattle.alb_board.proofs.rule.Board.open.Goals as goal

pub new-requires : goal.new-requires
new-requires c = let one : c.push_reserved.new.self.items ≡ Some record { tables = c.args.first; end = None } ∷ [] = search rules in
    let same : c.deref.result.now ≡ arc_value c.args.rules = search rules in
    subst (λ (x : Rules × List Slot). Turns x.0 (opening (0 ∷ 0 ∷ 1 ∷ []) x.1 (first_view x.0))) (λ i. (sym same i, sym one i))
    (starts _ _ (record { right = c.requires.right; end = tt }) (ap (λ n. published n None) c.requires.degree))
