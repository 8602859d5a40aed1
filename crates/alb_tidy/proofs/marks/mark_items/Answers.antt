use Rattle.std.proofs.Common.{◌≡◌, ◌-◌, ◌∙◌, true, length, get_or, subst, sym, length-set, ap}
use Rattle.alb_tidy.proofs.MarkLemmas.{marks-more}
use Rattle.alb_tidy.proofs.marks.mark_items.Goals as goal

pub loop-item-preserved : goal.loop-item-preserved
loop-item-preserved c = record {
  count = length-set c.loop-item.marks _ true ∙ c.loop-item.invariant.count;
  marks = marks-more c.args.marks.now c.loop-item.marks c.args.items.now c.loop-item.item-index (0, 0) c.loop-item-test.true c.requires.within c.loop-item.invariant.count c.loop-item.invariant.marks;
}
