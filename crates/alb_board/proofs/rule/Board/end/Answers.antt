use Rattle.std.proofs.Common.{ap, ◌∙◌, sym, refl, Some, subst}
use Rattle.alb_poly.specs.declared.rules.Rules.{Rules}
use Rattle.alb_table.specs.End.{end_of}
use Rattle.alb_table.specs.RightTable.{rules_view}
use Rattle.alb_board.specs.declared.kept.Shot.{Shot}
use Rattle.alb_board.specs.Published.{IsAllowedEnd}
use Rattle.alb_board.specs.Views.{M}
use Rattle.alb_board.proofs.Shots.{shot_or}
use Rattle.alb_board.proofs.CallLemmas.{end_follows}
use Rattle.alb_board.proofs.rule.Board.end.Goals as goal

pub keep-requires-clause-kept : goal.keep-requires-clause-kept
keep-requires-clause-kept g c = let t = c.enter.ensures.turn in let same = ap (shot_or t.2) (sym c.take-tables.ensures.held.1 ∙ t.4) in
    end_follows c.args.pass.now.seat.me.0 c.take-tables.new.seat.me.0 t.1 t.0 t.2 record { tables = c.take-tables.result.tables; end = Some c.args.end } c.args.end
    (ap (λ (m : M). m.0) c.take-tables.ensures.held.0 ∙ t.3) t.5 c.requires.builder c.requires.unended (ap (λ (k : Shot). k.tables) same) refl
    (subst (λ (x : Rules). IsAllowedEnd (rules_view x) c.args.pass.now.seat.me.0.seen (end_of c.args.end)) (sym c.requires.own.1) c.requires.allowed)
