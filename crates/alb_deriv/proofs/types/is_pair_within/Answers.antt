use Rattle.std.proofs.Common.{◌≡◌, ◌+◌, ℕ, List, arith, get_or, length, sym, ap}
use Rattle.alb_mono.specs.Tree.{count}
use Rattle.alb_nodes.specs.Nodes.{at}
use Rattle.alb_deriv.proofs.Within.{within_all, within_not}
use Rattle.alb_deriv.proofs.types.is_pair_within.Goals as goal

pub returns-then-from-occurrences : goal.returns-then-from-occurrences
returns-then-from-occurrences c =
    let ts = c.args.numbers.now in
    let f : ℕ → ℕ = λ g. count g (at ts c.args.a) + count g (at ts c.args.b) in
    let g = c.loop-g.g in
    let zero : 0 + g ≡ g = omega arith in
    let e = c.counts-counts.ensures.value in
    let here : get_or c.counts-counts.result.now g 0 ≡ get_or c.args.target.now g 0 = ap (λ (t : List ℕ). get_or t g 0) e in
    let long : length c.counts-counts.result.now ≡ length c.args.target.now = ap length e in
    sym (within_not f 0 c.args.target.now g (omega arith) (omega (arith, ap f zero, c.from.ensures, c.occurrences.ensures.value, c.occurrences-in-loop-g.ensures.value)))

pub returns : goal.returns
returns c =
    let ts = c.args.numbers.now in
    let f : ℕ → ℕ = λ g. count g (at ts c.args.a) + count g (at ts c.args.b) in
    let long : length c.counts-counts.result.now ≡ length c.args.target.now = ap length c.counts-counts.ensures.value in
    sym (within_all f 0 c.args.target.now (λ i l.
    let zero : 0 + i ≡ i = omega arith in omega (arith, ap f zero, c.loop-g.invariant i (omega arith))))
