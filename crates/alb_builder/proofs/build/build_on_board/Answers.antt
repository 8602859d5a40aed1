use Rattle.std.proofs.Common.{◌≡◌, ◌<◌, sum, sym, ap, ◌∙◌, subst, arith}
use Rattle.std.specs.Arc.{arc_value}
use Rattle.alb_poly.specs.Consequence.{forms}
use Rattle.alb_poly.specs.declared.rules.Rules.{Rules}
use Rattle.alb_table.specs.End.{Complete, end_of}
use Rattle.alb_table.specs.RightTable.{rules_view}
use Rattle.alb_table.specs.Table.{Table}
use Rattle.alb_board.specs.Passes.{board_rules}
use Rattle.alb_pool.specs.Stops.{IsStop}
use Rattle.alb_builder.specs.Building.{HasEndedAt}
use Rattle.alb_builder.specs.Steps.{IsNext}
use Rattle.alb_builder.proofs.BuildingLemmas.{after-join, building-start, building-next}
use Rattle.alb_builder.proofs.EndLemmas.{stopped-at, complete-at}
use Rattle.alb_builder.proofs.build.build_on_board.Goals as goal

pub degrees-init : goal.degrees-init
degrees-init g c = record {
  own = c.requires.own;
  building = building-start _ _ _ c.requires.right c.requires.first c.requires.builder c.requires.unended c.requires.seen c.requires.known;
}

pub degrees-preserved : goal.degrees-preserved
degrees-preserved g c =
    let m = subst (λ (q : Rules). IsNext (rules_view q) c.deref-in-degrees-2.result.now c.in-Ok.field-0) c.rules-rules.ensures c.in-Ok.ensures.next in
    let n = subst (λ (t : Table). IsNext (rules_view (board_rules c.args.board.now)) t c.in-Ok.field-0) c.deref-in-degrees-2.ensures m in
    record {
      own = c.publish.ensures.own;
      building = building-next _ _ _ _ _ _ _ c.degrees.invariant.building n.right n.degree_is c.publish.ensures.published (ap (λ (t : Table). t.degree) n.same);
    }

pub end_on_board-requires-clause-allowed : goal.end_on_board-requires-clause-allowed
end_on_board-requires-clause-allowed g c =
    let r = rules_view (board_rules c.args.board.now) in
    let t = arc_value c.degrees.tables in
    let h = c.degrees.invariant.building in
    let a : c.degree.result ≡ t.degree = c.degree.ensures.value ∙ ap (λ (u : Table). u.degree) c.deref.ensures in
    let b : c.degree-in-degrees.result ≡ sum t.target = c.degree-in-degrees.ensures ∙ ap sum (c.target.ensures.value ∙ ap (λ (u : Table). u.target) c.deref-in-degrees.ensures) in
    let room : t.degree < sum t.target = omega (arith, a, b, c.degrees-test.true) in
    let s = subst (λ (q : Rules). IsStop (forms q) c.deref-in-degrees-2.result.now (end_of c.in-Err.end)) c.rules-rules.ensures c.in-Err.ensures.stopped in
    let stop = subst (λ (u : Table). IsStop r.forms u (end_of c.in-Err.end)) c.deref-in-degrees-2.ensures s in
    subst (λ d. HasEndedAt r d (end_of c.in-Err.end)) (sym h.seen) (stopped-at r t (end_of c.in-Err.end) h.right room stop)

pub end_on_board-requires-2-clause-allowed : goal.end_on_board-requires-2-clause-allowed
end_on_board-requires-2-clause-allowed g c =
    let r = rules_view (board_rules c.args.board.now) in
    let t = arc_value c.degrees.tables in
    let h = c.degrees.invariant.building in
    let a : c.degree.result ≡ t.degree = c.degree.ensures.value ∙ ap (λ (u : Table). u.degree) c.deref.ensures in
    let b : c.degree-in-degrees.result ≡ sum t.target = c.degree-in-degrees.ensures ∙ ap sum (c.target.ensures.value ∙ ap (λ (u : Table). u.target) c.deref-in-degrees.ensures) in
    let within = h.right.table.within in
    let whole : t.degree ≡ sum t.target = omega (arith, a, b, c.degrees-test.false, within) in
    subst (λ d. HasEndedAt r d Complete) (sym h.seen) (complete-at r t h.right whole)

pub returns-in-Err-clause-after : goal.returns-in-Err-clause-after
returns-in-Err-clause-after g c = after-join _ _ _ c.degrees.invariant.building.after c.end_on_board.ensures.after

pub returns-clause-after : goal.returns-clause-after
returns-clause-after g c = after-join _ _ _ c.degrees.invariant.building.after c.end_on_board-2.ensures.after
