use Rattle.std.proofs.Common.{◌≡◌, take}
use Rattle.alb_mono.proofs.letters.Letters.of.Given as goal

abbrev pub invariant-loop-letter : goal.invariant-loop-letter
invariant-loop-letter l = l.copied.items ≡ take l.letter-index l.list
