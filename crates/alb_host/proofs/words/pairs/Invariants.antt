use Rattle.std.proofs.Common.{◌≡◌, ◌++◌, map, length}
use Rattle.alb_host.specs.Words.{pairs_of, names_view}
use Rattle.alb_host.proofs.words.pairs.Given as goal

abbrev pub invariant-pairs : goal.invariant-pairs
invariant-pairs l = pairs_of (map (λ s. s.now) l.words) ≡ map names_view l.names.items ++ pairs_of (map (λ s. s.now) l.rest)

abbrev pub decreases-pairs : goal.decreases-pairs
decreases-pairs l = length l.rest
