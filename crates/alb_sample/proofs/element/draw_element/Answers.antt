use Rattle.std.proofs.Common.{◌≡◌, ◌+◌, ◌%◌, ◌<◌, ◌∙◌, ℕ, sym, ap, ap₂, arith}
use Rattle.std.specs.Prelude.{Some}
use Rattle.alb_table.specs.Table.{dim_of}
use Rattle.alb_table.proofs.RangeLemmas.{range_within}
use Rattle.alb_sample.specs.Draws.{drawn}
use Rattle.alb_sample.proofs.CodeLemmas.{even-state, empty-none, empty-state, odd-state}
use Rattle.alb_sample.proofs.ParityLemmas.{even-none, odd-some}
use Rattle.alb_sample.proofs.element.draw_element.Goals as goal
use Rattle.alb_sample.proofs.element.draw_element.Goals.{then-k-eq0-via-then-k-eq0, then-k-eq0-via-else-k-eq0+then-count-eq0}

pub returns-then-k-eq0-clause-value : goal.returns-then-k-eq0-clause-value
returns-then-k-eq0-clause-value c = elim c.then-k-eq0.branch [
  | then-k-eq0-via-then-k-eq0 w ↦ sym (even-none c.args.tables.now c.args.k c.args.at.now c.args.draws.now w.if-k-eq0.true)
  | then-k-eq0-via-else-k-eq0+then-count-eq0 w ↦ empty-none c.args.tables.now c.args.k c.args.at.now c.args.draws.now (sym c.basis-first.ensures.count ∙ w.if-count-eq0.true)
]

pub returns-then-k-eq0-clause-state : goal.returns-then-k-eq0-clause-state
returns-then-k-eq0-clause-state c = elim c.then-k-eq0.branch [
  | then-k-eq0-via-then-k-eq0 w ↦ even-state c.args.tables.now c.args.k c.args.at.now c.args.draws.now w.if-k-eq0.true
  | then-k-eq0-via-else-k-eq0+then-count-eq0 w ↦ empty-state c.args.tables.now c.args.k c.args.at.now c.args.draws.now (sym c.basis-first.ensures.count ∙ w.if-count-eq0.true)
]

pub returns-clause-below : goal.returns-clause-below
returns-clause-below c =
    let f = c.basis-first.ensures.first in
    let n : c.basis-first.result.1 ≡ dim_of c.args.tables.now.parts c.args.at.now = c.basis-first.ensures.count in
    let from : c.from.result ≡ c.basis-first.result.1 = c.from.ensures in
    let s = c.draw-place.ensures.small in omega (arith, range_within c.args.tables.now.parts c.args.at.now, f, n, s)

pub overflow_add-result : goal.overflow_add-result
overflow_add-result c =
    let f = c.basis-first.ensures.first in
    let n : c.basis-first.result.1 ≡ dim_of c.args.tables.now.parts c.args.at.now = c.basis-first.ensures.count in
    let from : c.from.result ≡ c.basis-first.result.1 = c.from.ensures in
    let s = c.draw-place.ensures.small in
    let t = c.degree.ensures.table.countable.elements in omega (arith, range_within c.args.tables.now.parts c.args.at.now, f, n, s, t)

pub returns-clause-value : goal.returns-clause-value
returns-clause-value c =
    let f = c.basis-first.ensures.first in
    let n : c.basis-first.result.1 ≡ dim_of c.args.tables.now.parts c.args.at.now = c.basis-first.ensures.count in
    let from : c.from.result ≡ c.basis-first.result.1 = c.from.ensures in
    let o : c.args.k % 2 ≡ 1 = let h = c.if-k-eq0.false in omega arith in
    let p : 0 < dim_of c.args.tables.now.parts c.args.at.now = let h = c.if-count-eq0.false in omega (arith, n) in
    ap₂ (λ (x y : ℕ). Some (x + y)) f (c.draw-place.ensures.value ∙ ap (λ k. drawn k c.args.draws.now) (from ∙ n))
    ∙ sym (odd-some c.args.tables.now c.args.k c.args.at.now c.args.draws.now o p)

pub returns-clause-state : goal.returns-clause-state
returns-clause-state c =
    let n : c.basis-first.result.1 ≡ dim_of c.args.tables.now.parts c.args.at.now = c.basis-first.ensures.count in
    let from : c.from.result ≡ c.basis-first.result.1 = c.from.ensures in
    let o : c.args.k % 2 ≡ 1 = let h = c.if-k-eq0.false in omega arith in
    let p : 0 < dim_of c.args.tables.now.parts c.args.at.now = let h = c.if-count-eq0.false in omega (arith, n) in
    c.draw-place.ensures.state ∙ odd-state c.args.tables.now c.args.k c.args.at.now c.args.draws.now o p
