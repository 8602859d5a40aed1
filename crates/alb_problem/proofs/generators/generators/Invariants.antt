use Rattle.alb_problem.proofs.GeneratorLemmas.{Goes}
use Rattle.alb_problem.proofs.generators.generators.Given as goal

abbrev pub invariant-loop-token : goal.invariant-loop-token
invariant-loop-token l = Goes l.tokens l.end l.token-index l.pairs.letters.items l.pairs.counts.items
