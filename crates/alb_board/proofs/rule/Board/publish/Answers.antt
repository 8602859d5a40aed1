use Rattle.std.proofs.Common.{ap, ◌∙◌, refl, None, subst, sym}
use Rattle.std.specs.Arc.{arc_value}
use Rattle.alb_poly.specs.declared.rules.Rules.{Rules}
use Rattle.alb_table.specs.RightTable.{rules_view, IsRightFor}
use Rattle.alb_board.specs.Views.{M}
use Rattle.alb_board.proofs.CallLemmas.{next_follows}
use Rattle.alb_board.proofs.rule.Board.publish.Goals as goal

pub keep-requires-clause-kept : goal.keep-requires-clause-kept
keep-requires-clause-kept g c = let t = c.enter.ensures.turn in
    next_follows c.args.pass.now.seat.me.0 c.take-old.new.seat.me.0 t.1 t.0 t.2 record { tables = c.args.tables; end = None } (ap (λ (m : M). m.0) c.take-old.ensures.held.0 ∙ t.3) t.5
    c.requires.builder c.requires.unended (subst (λ (x : Rules). IsRightFor (rules_view x) (arc_value c.args.tables)) (sym c.requires.own.1) c.requires.right) c.requires.next refl
