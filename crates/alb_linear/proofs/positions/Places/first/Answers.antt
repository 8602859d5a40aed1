use Rattle.std.proofs.Common.{◌≡◌, ◌+◌, ◌∙◌, ◌++◌, ◌∷◌, [], ap, sym, arith}
use Rattle.std.specs.List.{range_with_len}
use Rattle.std.proofs.lemmas.List.FromFn.{length-range_with_len, get_or-range_with_len}
use Rattle.alb_mono.proofs.LetterLemmas.{range_more}
use Rattle.alb_linear.proofs.positions.Places.first.Goals as goal

pub loop-k-preserved : goal.loop-k-preserved
loop-k-preserved c =
    let z : 0 + c.loop-k.k ≡ c.loop-k.k = omega arith in
    (c.push.ensures.items ∙ ap (λ xs. xs ++ c.loop-k.k ∷ []) c.loop-k.invariant.0 ∙ ap (λ n. range_with_len 0 c.loop-k.k ++ n ∷ []) (sym z) ∙ sym (range_more 0 c.loop-k.k), omega arith)

pub invariant_of-result : goal.invariant_of-result
invariant_of-result c = rw c.loop-k.invariant.0
    (λ k d h. omega (arith, get_or-range_with_len 0 c.loop-k.k k d (omega (arith, length-range_with_len 0 c.loop-k.k)), length-range_with_len 0 c.loop-k.k))
