use Rattle.std.proofs.Common.{◌≡◌, ◌≤◌, ◌∙◌, length, arith}
use Rattle.std.proofs.lemmas.List.{take_all}
use Rattle.std.proofs.lemmas.Grind.{common_steps}
use Rattle.alb_mono.proofs.LetterLemmas.{AreLetters-from_different, length-letters}
use Rattle.alb_mono.proofs.letters.Letters.of.Goals as goal

pub push-requires : goal.push-requires
push-requires c =
    let few : length c.args.list.now ≤ 26 = length-letters _ c.requires.letters c.requires.different in
    grind (arith, common_steps)

pub invariant_of-result : goal.invariant_of-result
invariant_of-result c =
    let e : c.loop-letter.copied.items ≡ c.args.list.now = c.loop-letter.invariant ∙ take_all _ _ (omega arith) in
    rw e (AreLetters-from_different _ c.requires.letters c.requires.different)
