use Rattle.std.proofs.Common.{◌≡◌, ◌+◌, ℕ, List, arith, map, get_or, length, sym, ap}
use Rattle.gf_sums.specs.Sums.{total}
use Rattle.alb_mono.specs.Tree.{tree, count}
use Rattle.alb_deriv.proofs.Within.{within_all, within_not}
use Rattle.alb_deriv.proofs.types.are_within.Goals as goal

pub returns-then-from-all_occurrences : goal.returns-then-from-all_occurrences
returns-then-from-all_occurrences c =
    let f : ℕ → ℕ = λ g. total (count g) (map tree c.args.ms.now) in
    let g = c.loop-g.g in
    let zero : 0 + g ≡ g = omega arith in
    let e = c.counts-counts.ensures.value in
    let at : get_or c.counts-counts.result.now g 0 ≡ get_or c.args.target.now g 0 = ap (λ (t : List ℕ). get_or t g 0) e in
    let long : length c.counts-counts.result.now ≡ length c.args.target.now = ap length e in
    sym (within_not f 0 c.args.target.now g (omega arith) (omega (arith, ap f zero, c.from.ensures, c.all_occurrences.ensures)))

pub returns : goal.returns
returns c =
    let f : ℕ → ℕ = λ g. total (count g) (map tree c.args.ms.now) in
    let long : length c.counts-counts.result.now ≡ length c.args.target.now = ap length c.counts-counts.ensures.value in
    sym (within_all f 0 c.args.target.now (λ i l.
    let zero : 0 + i ≡ i = omega arith in omega (arith, ap f zero, c.loop-g.invariant i (omega arith))))
