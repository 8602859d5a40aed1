use Rattle.std.proofs.Common.{drop}
use Rattle.alb_evidence.specs.Texts.{counted, generator_text}
use Rattle.alb_io.proofs.Writers.{Writing}
use Rattle.alb_evidence.proofs.basis.write_generators.Given as goal

abbrev pub invariant-loop-k : goal.invariant-loop-k
invariant-loop-k g l = Writing g.K.Sink l.fn.sink l.sink (counted (generator_text l.letters) 0 l.generators) (counted (generator_text l.letters) l.k (drop l.k l.generators))
