use Rattle.std.proofs.Common.{rules}
use Rattle.std.proofs.lemmas.List.Sorted.{answers_always, ranks_by, IsStrictWeakOrder-flip}
use Rattle.alb_mono.proofs.Order.{cmp_monos_total}
use Rattle.alb_mono.specs.Tree.{tree}
use Rattle.alb_poly.specs.Sorted.{comes_first}
use Rattle.alb_poly.proofs.normal.sort_terms.Goals as goal

pub returns-clause-sorted : goal.returns-clause-sorted
returns-clause-sorted c = c.in_ok-sort_by.ensures.sorted comes_first (IsStrictWeakOrder-flip _ (ranks_by cmp_monos_total (λ t. tree t.mono))) (answers_always _ _ _ (λ f a r g h. search rules))
