use Rattle.std.proofs.Common.{◌≡◌, ◌++◌, drop, reverse}
use Rattle.alb_build.specs.Part.{elements_of}
use Rattle.alb_build.proofs.part.basis_of.Given as goal

abbrev pub invariant-loop-k : goal.invariant-loop-k
invariant-loop-k l = l.out.items ++ elements_of (drop l.k (reverse l.columns)) (drop l.k l.free) ≡ elements_of (reverse l.columns) l.free
