use Rattle.std.proofs.Common.{◌∙◌, ◌+◌, ◌++◌, map, sym, ap, append_assoc}
use Rattle.alb_mono.specs.Tree.{rising}
use Rattle.alb_table.specs.Table.{rectangle}
use Rattle.alb_subst.proofs.ProductLemmas.{rectangle_more}
use Rattle.alb_subst.proofs.products.push_rectangle.Goals as goal

pub loop-k-preserved : goal.loop-k-preserved
loop-k-preserved c =
    c.in_ok-push_row.ensures ∙ ap (λ xs. xs ++ map (λ j. (c.args.left.0 + c.loop-k.k, j)) (rising c.args.right.0 c.args.right.1)) c.loop-k.invariant ∙ append_assoc c.args.out.now.items (rectangle c.args.left.0 c.loop-k.k c.args.right.0 c.args.right.1) (map (λ j. (c.args.left.0 + c.loop-k.k, j)) (rising c.args.right.0 c.args.right.1))
    ∙ ap (λ xs. c.args.out.now.items ++ xs) (sym (rectangle_more c.args.left.0 c.args.right.0 c.args.right.1 c.loop-k.k))
