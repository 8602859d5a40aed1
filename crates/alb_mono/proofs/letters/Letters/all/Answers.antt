use Rattle.std.proofs.Common.{◌≡◌, ◌+◌, ◌∙◌, ◌++◌, ◌∷◌, [], ap, sym, arith}
use Rattle.std.specs.List.{range_with_len}
use Rattle.alb_mono.proofs.LetterLemmas.{AreLetters-range, alphabet-range, range_more}
use Rattle.alb_mono.proofs.letters.Letters.all.Goals as goal

pub loop-k-preserved : goal.loop-k-preserved
loop-k-preserved c = (c.push.ensures.items ∙ ap (λ xs. xs ++ (97 + c.loop-k.k) ∷ []) c.loop-k.invariant.0 ∙ sym (range_more 97 c.loop-k.k), omega arith)

pub invariant_of-result : goal.invariant_of-result
invariant_of-result c = rw c.loop-k.invariant.0 (AreLetters-range c.loop-k.k (omega arith))

pub returns : goal.returns
returns c = let e : c.loop-k.k ≡ 26 = omega arith in c.loop-k.invariant.0 ∙ ap (range_with_len 97) e ∙ sym alphabet-range
