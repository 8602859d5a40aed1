use Rattle.std.proofs.Common.{inl, inr, ◌≡◌, ◌+◌, get_or, length, arith, sym, subst, true}
use Rattle.std.proofs.lemmas.Bool.{cases_lt}
use Rattle.alb_mono.specs.Tree.{count, listed, type_le}
use Rattle.alb_nodes.specs.Nodes.{at}
use Rattle.alb_deriv.proofs.LineLemmas.{passed-none, passed-some}
use Rattle.alb_deriv.proofs.values.is_passed.Goals as goal

pub returns-then-not-is_pair_within : goal.returns-then-not-is_pair_within
returns-then-not-is_pair_within c = λ side.
    let ts = c.args.numbers.now in
    sym (passed-some c.args.target.now (side, at ts c.args.n) ts c.args.list.now c.loop-t.t-index c.loop-t-test.true (sym c.if-not-is_pair_within.ensures))

pub returns : goal.returns
returns c = λ side.
    let ts = c.args.numbers.now in
    sym (passed-none c.args.target.now (side, at ts c.args.n) ts c.args.list.now (λ k l. c.loop-t.invariant k (omega arith)))

pub loop-t-preserved : goal.loop-t-preserved
loop-t-preserved c = λ k l.
    let i = c.loop-t.t-index in
    let ts = c.args.numbers.now in
    let target = c.args.target.now in
    elim (cases_lt k i) [
      | inl before ↦ c.loop-t.invariant k before
      | inr here ↦ (let same : i ≡ k = omega arith in
          subst (λ j. type_le (listed (λ g. count g (at ts (get_or c.args.list.now j (0, 0)).1) + count g (at ts c.args.n)) 0 (length target)) target ≡ true) same
          (sym c.if-not-is_pair_within.ensures))
    ]
