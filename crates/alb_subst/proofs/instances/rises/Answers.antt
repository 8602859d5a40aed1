use Rattle.std.proofs.Common.{suc, ◌+◌, ◌≤◌, ◌∙◌, sym, refl, length, arith}
use Rattle.alb_subst.proofs.LeastLemmas.{falls_at, rises_at, rises_end}
use Rattle.alb_subst.proofs.instances.rises.Goals as goal

pub returns-then-falls : goal.returns-then-falls
returns-then-falls c =
    sym (sym c.loop-k.invariant ∙ falls_at c.args.runs.now c.args.tuple.now c.loop-k.k (c.loop-k.k + 1) _ _ c.falls.result (omega arith) (omega arith)
    refl refl c.falls.ensures c.if-falls.true)

pub loop-k-preserved : goal.loop-k-preserved
loop-k-preserved c =
    rises_at c.args.runs.now c.args.tuple.now c.loop-k.k (c.loop-k.k + 1) _ _ c.falls.result (omega arith) (omega arith)
    refl refl c.falls.ensures c.if-falls.false ∙ c.loop-k.invariant

pub returns : goal.returns
returns c =
    let l : length c.args.tuple.now ≤ suc c.loop-k.k = omega arith in
    sym (rises_end c.args.runs.now c.args.tuple.now c.loop-k.k l) ∙ c.loop-k.invariant
