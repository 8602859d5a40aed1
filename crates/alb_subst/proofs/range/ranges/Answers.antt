use Rattle.std.proofs.Common.{◌∙◌, ◌+◌, ◌++◌, sym, ap, arith, map}
use Rattle.alb_mono.specs.Tree.{types_of}
use Rattle.alb_subst.specs.Ranges.{range_of}
use Rattle.alb_subst.proofs.RangeLemmas.{ranges_more}
use Rattle.alb_subst.proofs.range.ranges.Goals as goal

pub loop-k-preserved : goal.loop-k-preserved
loop-k-preserved c =
    c.in_ok-push_ranges.ensures ∙ ap (λ rs. rs ++ map (range_of c.args.tables.now.parts) (types_of c.args.t.now (c.loop-k.k + 1))) c.loop-k.invariant
    ∙ sym (ranges_more c.args.tables.now.parts c.args.t.now c.loop-k.k (c.loop-k.k + 1) (omega arith))
