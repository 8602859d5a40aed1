use Rattle.std.proofs.Common.{◌≡◌, subst, length, arith}
use Rattle.alb_rows.specs.Merge.{Merged}
use Rattle.alb_rows.proofs.merge.merged.Goals as goal

pub take_right-requires-clause-merged : goal.take_right-requires-clause-merged
take_right-requires-clause-merged c = c.in_ok-take_left.ensures.merged c.args.field.now c.args.c c.requires.a_in c.loop-k.invariant.1

pub returns : goal.returns
returns c =
    let end : c.loop-k.k ≡ length c.args.b.now = omega arith in
    let taken = c.in_ok-take_left-2.ensures in
    let all : c.take_left-2.new.self.taken ≡ length c.args.a.now = taken.all (omega arith) in
    let m : Merged c.args.field.now c.args.a.now c.args.c c.args.b.now c.loop-k.sum.taken (length c.args.b.now) c.loop-k.sum.cells.items =
    subst (λ k. Merged c.args.field.now c.args.a.now c.args.c c.args.b.now c.loop-k.sum.taken k c.loop-k.sum.cells.items) end c.loop-k.invariant.1 in
    subst (λ i. Merged c.args.field.now c.args.a.now c.args.c c.args.b.now i (length c.args.b.now) c.take_left-2.new.self.cells.items) all
    (taken.merged c.args.field.now c.args.c c.requires.a_in m)
