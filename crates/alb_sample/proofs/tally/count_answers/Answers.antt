use Rattle.std.proofs.Common.{ℕ, ◌+◌, ◌∙◌, refl, ap, subst, arith}
use Rattle.alb_sample.specs.Sample.{polynomial, state_drawn}
use Rattle.alb_sample.specs.Tally.{HasKind}
use Rattle.alb_sample.proofs.TallyLemmas.{non_zeros-most, state-next, state-start, tally-next, tally-start, zeros-most}
use Rattle.alb_sample.proofs.tally.count_answers.Goals as goal

pub loop-k-init : goal.loop-k-init
loop-k-init c = record {
  tally = tally-start c.args.tables.now c.args.n;
  state = c.new-draws.ensures ∙ state-start c.args.tables.now c.args.n;
  zeros = omega arith;
  non_zeros = omega arith;
}

pub loop-k-preserved : goal.loop-k-preserved
loop-k-preserved c =
    let t = c.args.tables.now in
    let k = c.loop-k.k in
    let i = c.loop-k.invariant in
    let zs = c.counted-tally.ensures.zeros in
    let ys = c.counted-tally.ensures.non_zeros in
    let z = zeros-most c.loop-k.tally.zeros c.in_ok-kind.kind in
    let y = non_zeros-most c.loop-k.tally.non_zeros c.in_ok-kind.kind in
    record {
      tally = tally-next t c.args.n k c.loop-k.tally.zeros c.loop-k.tally.non_zeros c.counted-tally.result.zeros c.counted-tally.result.non_zeros (k + 1) c.in_ok-kind.kind i.tally
          (subst (λ (s : ℕ). HasKind t (polynomial t (k + 1) s) c.in_ok-kind.kind) i.state c.in_ok-kind.ensures.kind) zs ys refl;
      state = state-next t c.args.n k c.next_kind.new.draws (k + 1) (c.in_ok-kind.ensures.state ∙ ap (λ (s : ℕ). state_drawn t (k + 1) s) i.state) refl;
      zeros = omega (arith, zs, z, i.zeros);
      non_zeros = omega (arith, ys, y, i.non_zeros);
    }
