use Rattle.std.proofs.Common.{◌≡◌, ◌≤◌, ◌++◌, All, IsTrue, length, map, Ok}
use Rattle.alb_mono.specs.Tree.{tree, degree, are_below}
use Rattle.alb_evidence.specs.Block.{words, monos_from, ◌>>=◌}
use Rattle.alb_evidence.proofs.lines.monos.Given as goal

abbrev pub invariant-words : goal.invariant-words
invariant-words l = record {
  value : (monos_from l.letters (words l.left) >>= λ ms. Ok (map tree l.list.items ++ ms)) ≡ monos_from l.letters (words l.fn.text);
  short : length l.left ≤ 65536;
  small : All (λ m. degree (tree m) ≤ 64) l.list.items;
  known : All (λ m. IsTrue (are_below (length l.letters) (tree m))) l.list.items;
}

abbrev pub decreases-words : goal.decreases-words
decreases-words l = length l.left
