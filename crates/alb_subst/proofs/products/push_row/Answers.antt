use Rattle.std.proofs.Common.{◌∙◌, ◌+◌, ◌++◌, ◌∷◌, [], map, sym, ap, append_assoc}
use Rattle.alb_mono.specs.Tree.{rising}
use Rattle.alb_subst.proofs.ProductLemmas.{row_more}
use Rattle.alb_subst.proofs.products.push_row.Goals as goal

pub loop-k-preserved : goal.loop-k-preserved
loop-k-preserved c =
    c.in_ok-push.ensures.items ∙ ap (λ xs. xs ++ (c.args.b, c.args.first + c.loop-k.k) ∷ []) c.loop-k.invariant ∙ append_assoc c.args.out.now.items (map (λ j. (c.args.b, j)) (rising c.args.first c.loop-k.k)) ((c.args.b, c.args.first + c.loop-k.k) ∷ [])
    ∙ ap (λ xs. c.args.out.now.items ++ xs) (sym (row_more c.args.b c.args.first c.loop-k.k))
