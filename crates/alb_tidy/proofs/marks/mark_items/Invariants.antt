use Rattle.std.proofs.Common.{◌≡◌, ◌+◌, ◌||◌, ℕ, take, length}
use Rattle.std.specs.Bool.{◌==◌}
use Rattle.std.specs.List.{list_any}
use Rattle.alb_tidy.specs.Needed.{is_marked}
use Rattle.alb_tidy.proofs.marks.mark_items.Given as goal

abbrev pub invariant-loop-item : goal.invariant-loop-item
invariant-loop-item l = record {
  count : length l.marks ≡ length l.initial.marks;
  marks : (k : ℕ) → is_marked l.marks k ≡ (is_marked l.initial.marks k || list_any (λ c. c.1 == k + 1) (take l.item-index l.items));
}
