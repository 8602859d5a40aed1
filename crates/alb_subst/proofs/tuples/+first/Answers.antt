use Rattle.std.proofs.Common.{rules, ◌≡◌, ◌∙◌, sym, ap, ◌+◌, ◌-◌, arith, true, take, length}
use Rattle.std.proofs.lemmas.List.{take-take}
use Rattle.alb_mono.specs.Tree.{type_le}
use Rattle.alb_mono.proofs.TypesListing.{length-minus}
use Rattle.alb_subst.proofs.TupleLemmas.{first_found, first_none, piece_none}
use Rattle.alb_subst.proofs.tuples.+first.Goals as goal

pub first_at-returns-then-try_range-clause-found : goal.first_at-returns-then-try_range-clause-found
first_at-returns-then-try_range-clause-found t c = λ _.
    let h = rw c.loop-k.invariant.0 at (c.try_range.ensures.found (search rules)) in
    first_found c.args.ranges.now (length c.args.current.now.items - (c.args.i + 1)) _ c.args.r.now c.loop-k.k c.index-ranges-k.result _ c.loop-k-test.true c.index-ranges-k.is
    (omega arith) c.loop-k.invariant.2 h

pub first_at-returns-clause-none : goal.first_at-returns-clause-none
first_at-returns-clause-none t c = λ _.
    first_none c.args.ranges.now (length c.args.current.now.items - (c.args.i + 1)) _ c.args.r.now c.loop-k.k (omega arith) (omega arith) c.loop-k.invariant.2

pub try_range-first_at-requires : goal.try_range-first_at-requires
try_range-first_at-requires t c =
    (search rules, (omega arith, rw (c.minus-rest.ensures, length-minus c.args.r.now c.args.q.now.at c.requires.q_long) c.requires.long))

pub try_range-returns-clause-kept : goal.try_range-returns-clause-kept
try_range-returns-clause-kept t c =
    sym (take-take c.args.i (c.args.i + 1) c.first_at.new.current.items (omega arith)) ∙ ap (take c.args.i) c.first_at.ensures.kept
    ∙ take-take c.args.i (c.args.i + 1) c.args.current.now.items (omega arith)

pub try_range-returns-clause-none : goal.try_range-returns-clause-none
try_range-returns-clause-none t c = λ _.
    let l : type_le c.args.q.now.at c.args.r.now ≡ true = search rules in
    piece_none c.args.ranges.now (length c.args.current.now.items - (c.args.i + 1)) c.args.r.now c.args.q.now l (rw c.minus-rest.ensures at (c.first_at.ensures.none c.if-first_at.false))
