use Rattle.std.proofs.Common.{arith, ◌≡◌, length}
use Rattle.alb_build.proofs.Steps.{basis-true, basis-false, basis-all}
use Rattle.alb_build.proofs.part.basis_of.Goals as goal
use Rattle.alb_build.proofs.part.basis_of.Goals.{then-free-k+in_ok-push, else-free-k}

pub loop-k-preserved : goal.loop-k-preserved
loop-k-preserved c = elim c.if-free-k.branch [
  | then-free-k+in_ok-push w ↦
      rw w.out-is
      (basis-true c.loop-k.out.items w.push.new.self.items c.args.columns.now c.args.free.now c.loop-k.k c.len-count.result w.pair-left.result c.len-count.ensures.value
      c.loop-k-test.true c.requires w.pair-left.ensures w.if-free-k.true w.in_ok-push.ensures.items c.loop-k.invariant)
  | else-free-k w ↦
      rw w.out-is
      (basis-false c.loop-k.out.items c.args.columns.now c.args.free.now c.loop-k.k c.len-count.result c.len-count.ensures.value c.loop-k-test.true c.requires w.if-free-k.false
      c.loop-k.invariant)
]

pub returns : goal.returns
returns c =
    let n : c.len-count.result ≡ length c.args.columns.now = c.len-count.ensures.value in
    basis-all c.loop-k.out.items c.args.columns.now c.args.free.now c.loop-k.k (omega arith) c.loop-k.invariant
