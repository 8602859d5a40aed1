use Rattle.std.proofs.lemmas.Result.{IfOk-weaker}
use Rattle.alb_sample.specs.Choice.{consequence}
use Rattle.alb_sample.proofs.PolyLemmas.{drawn-state}
use Rattle.alb_sample.proofs.ValueLemmas.{drawn-value, on-ok}
use Rattle.alb_sample.proofs.values.Values.polynomial.Goals as goal

pub with_element-requires-clause-vector : goal.with_element-requires-clause-vector
with_element-requires-clause-vector c = c.in_ok-row.ensures.row

pub returns-clause-value : goal.returns-clause-value
returns-clause-value c =
    IfOk-weaker c.with_element.result _ _ (λ x h.
    drawn-value c.args.tables.now c.requires.right c.args.k c.args.draws.now c.draw-choice.new.draws c.draw-choice.result c.type_of.result c.draw_element-element.result x
    c.draw-choice.ensures.value c.draw-choice.ensures.state c.type_of.ensures c.draw_element-element.ensures.value h)
    (c.with_element.ensures (consequence c.draw-choice.result) c.in_ok-row.ensures)

pub returns-clause-state : goal.returns-clause-state
returns-clause-state c =
    on-ok c.with_element.result (drawn-state c.args.tables.now c.args.k c.args.draws.now c.draw-choice.new.draws c.draw_element-element.new.draws c.draw-choice.result c.type_of.result
    c.draw-choice.ensures.value c.draw-choice.ensures.state c.type_of.ensures c.draw_element-element.ensures.state)
