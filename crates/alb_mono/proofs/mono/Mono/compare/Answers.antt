use Rattle.std.proofs.Common.{sym}
use Rattle.alb_mono.proofs.Order.{same_tree-sound, monos-itself}
use Rattle.alb_mono.proofs.mono.Mono.compare.Goals as goal

pub returns-then-is_same : goal.returns-then-is_same
returns-then-is_same c = sym (monos-itself _ _ (same_tree-sound _ _ (sym (c.if-is_same.ensures))))
