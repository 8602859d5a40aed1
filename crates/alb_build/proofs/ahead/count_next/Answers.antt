use Rattle.std.proofs.Common.{◌≡◌, ◌∙◌, ◌+◌, ◌*◌, ◌≤◌, ◌<◌, List, ℕ, Some, suc, length, ap, arith, subst, sym}
use Rattle.alb_mono.specs.Tree.{types_of}
use Rattle.alb_table.specs.End.{first_wide}
use Rattle.alb_table.specs.Table.{next_products, next_types, wide}
use Rattle.alb_build.proofs.Counting.{IsCounted, first-after, counted-more, counted-few}
use Rattle.alb_build.proofs.ahead.count_next.Goals as goal

pub returns-then-products-gt-MOST_OF_TYPE-clause-wide : goal.returns-then-products-gt-MOST_OF_TYPE-clause-wide
returns-then-products-gt-MOST_OF_TYPE-clause-wide c =
    let t = c.args.tables.now in
    let types : c.deref-at-items.result.now ≡ next_types t =
    c.deref-at-items.ensures.value ∙ c.in_ok-types.ensures ∙ ap (λ w. types_of w (c.degree.result + 1)) c.target.ensures.value ∙ ap (λ d. types_of t.target (d + 1)) c.degree.ensures.value in
    let at : c.of.result ≡ c.at-item.result = c.of.ensures ∙ c.counts.ensures.value in
    let many : 4096 < wide t c.at-item.result = subst (λ n. 4096 < n) c.in_ok-products.ensures c.if-products-gt-MOST_OF_TYPE.true in
    let first : first_wide t c.deref-at-items.result.now ≡ Some c.at-item.result =
    first-after t c.deref-at-items.result.now c.loop-at.at-index c.at-item.result c.loop-at-test.true (sym c.at-item.is) many c.loop-at.invariant.narrow in
    record {
      first = ap (first_wide t) (sym types) ∙ first ∙ ap Some (sym at);
      number = ap (wide t) at ∙ sym c.in_ok-products.ensures;
    }

pub overflow_add-count : goal.overflow_add-count
overflow_add-count c =
    let t = c.args.tables.now in
    let types : c.deref-at-items.result.now ≡ next_types t =
    c.deref-at-items.ensures.value ∙ c.in_ok-types.ensures ∙ ap (λ w. types_of w (c.degree.result + 1)) c.target.ensures.value ∙ ap (λ d. types_of t.target (d + 1)) c.degree.ensures.value in
    let inside : c.loop-at.at-index ≤ length (next_types t) = let e = ap length types in let l = c.loop-at-test.true in omega arith in
    let counted : IsCounted t (next_types t) c.loop-at.at-index c.loop-at.count = subst (λ ws. IsCounted t ws c.loop-at.at-index c.loop-at.count) types c.loop-at.invariant in
    let few = counted-few t c.loop-at.at-index c.loop-at.count c.degree.ensures.table.goal c.requires inside counted in
    let small = c.if-products-gt-MOST_OF_TYPE.false in
    omega arith

pub loop-at-preserved : goal.loop-at-preserved
loop-at-preserved c =
    let t = c.args.tables.now in
    let k = c.loop-at.at-index in
    let next : suc k ≡ k + 1 = omega arith in
    let small : c.in_ok-products.products ≤ 4096 = c.if-products-gt-MOST_OF_TYPE.false in
    subst (λ n. IsCounted t c.deref-at-items.result.now n (c.loop-at.count + c.in_ok-products.products)) next
    (counted-more t c.deref-at-items.result.now k c.loop-at.count c.in_ok-products.products c.at-item.result c.loop-at-test.true (sym c.at-item.is) c.in_ok-products.ensures small c.loop-at.invariant)
