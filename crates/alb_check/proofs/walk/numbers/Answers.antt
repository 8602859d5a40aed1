use Rattle.std.proofs.Common.{◌≡◌, ◌∙◌, ◌+◌, ◌∷◌, [], ◌++◌, ap, sym, arith, add-one}
use Rattle.std.specs.Prelude.{ℕ}
use Rattle.alb_mono.specs.Tree.{rising}
use Rattle.alb_mono.proofs.TypeLemmas.{rising_more}
use Rattle.alb_check.specs.Raw.{raw}
use Rattle.alb_check.proofs.WalkLemmas.{all_candidates}
use Rattle.alb_check.proofs.walk.numbers.Goals as goal

rising_push : (n : ℕ) → rising 1 (n + 1) ≡ rising 1 n ++ (n + 1) ∷ []
rising_push n =
    let e : 1 + n ≡ n + 1 = omega arith in
    ap (rising 1) (add-one n) ∙ rising_more 1 n ∙ ap (λ k. rising 1 n ++ k ∷ []) e

pub loop-k-preserved : goal.loop-k-preserved
loop-k-preserved c = c.in_ok-push.ensures.items ∙ ap (λ ks. ks ++ (c.loop-k.k + 1) ∷ []) c.loop-k.invariant ∙ sym (rising_push c.loop-k.k)

pub returns : goal.returns
returns c = all_candidates (raw c.args.table.now) c.args.table.now.top c.loop-k.out.items c.loop-k.k c.loop-k.invariant (omega (arith, c.len-k-end.ensures))
