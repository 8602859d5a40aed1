use Rattle.std.proofs.Common.{◌≡◌, ℕ, max, cond, arith, ◌∙◌}
use Rattle.std.specs.Ordering.{is_lt, nat_cmp}
use Rattle.std.proofs.lemmas.Bool.Decides.{nat_tests}
use Rattle.alb_poly.proofs.Items.{degree_more}
use Rattle.alb_poly.proofs.lists.greatest.Goals as goal

greater : (a b : ℕ) → cond (is_lt (nat_cmp b a)) a b ≡ max a b
greater a b = grind (arith, nat_tests)

pub loop-t-preserved : goal.loop-t-preserved
loop-t-preserved c =
    let e = degree_more c.args.list.now c.loop-t.t-index c.t-item.result c.loop-t-test.true c.t-item.is in
    let m : c.max-most.result ≡ max c.loop-t.most c.degree.result = c.max-most.ensures ∙ greater c.loop-t.most c.degree.result in
    (omega arith, omega arith)
