use Rattle.std.proofs.Common.{◌≡◌, ◌<◌, ◌++◌, All, length, Ok}
use Rattle.alb_evidence.specs.Block.{words, items, ◌>>=◌}
use Rattle.alb_evidence.proofs.lines.items.Given as goal

abbrev pub invariant-words : goal.invariant-words
invariant-words l = record {
  value : (items l.field (words l.left) >>= λ cs. Ok (l.list.items ++ cs)) ≡ items l.field (words l.fn.text);
  residues : All (λ c. c.0 < l.field) l.list.items;
}

abbrev pub decreases-words : goal.decreases-words
decreases-words l = length l.left
