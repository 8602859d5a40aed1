use Rattle.std.proofs.Common.{◌≡◌, ℕ, get_or, arith, subst, sym}
use Rattle.std.proofs.lemmas.List.{get_or_read}
use Rattle.alb_reduce.specs.Echelon.{KeepsPivot}
use Rattle.alb_reduce.proofs.KeepLemmas.{covers_more, keeps_none}
use Rattle.alb_reduce.proofs.steps.keep_row.Goals as goal

pub returns-in-None-clause-keeps : goal.returns-in-None-clause-keeps
returns-in-None-clause-keeps c =
    keeps_none _ c.args.kept.now c.args.row.now c.clear.new.lanes.items c.requires.ready.held c.in_ok-clear.ensures.spread (rw c.deref.ensures.value at c.in-None.ensures)

pub returns-in_ok-add_pivot-in-Some-clause-keeps : goal.returns-in_ok-add_pivot-in-Some-clause-keeps
returns-in_ok-add_pivot-in-Some-clause-keeps c =
    let first = rw c.deref.ensures.value at c.in-Some.ensures in
    let column : c.index-column.result.now ≡ get_or c.args.kept.now.live.items c.in-Some.lane 0 =
    get_or_read c.args.kept.now.live.items c.in-Some.lane _ (omega (arith, first.within, c.in_ok-clear.ensures.spread.long)) c.index-column.ensures 0 in
    subst (λ (n : ℕ). KeepsPivot c.args.field.now c.args.kept.now c.add_pivot.new.kept c.args.row.now c.args.recipe n) (sym column)
    (c.in_ok-add_pivot-in-Some.ensures.keeps c.args.row.now c.args.recipe c.in_ok-clear.ensures.spread c.in_ok-clear.ensures.agrees)

pub returns-in_ok-add_pivot-in-Some-clause-ready : goal.returns-in_ok-add_pivot-in-Some-clause-ready
returns-in_ok-add_pivot-in-Some-clause-ready c =
    let added = c.in_ok-add_pivot-in-Some.ensures in
    record {
      held = added.held c.args.row.now c.in_ok-clear.ensures.spread;
      covers = λ l. covers_more c.args.columns c.args.kept.now c.add_pivot.new.kept _ c.requires.covers added.live added.pivots;
      long = added.lanes_long;
      zero = added.lanes_zero;
    }
