use Rattle.std.proofs.Common.{◌≡◌, vec_len}
use Rattle.gf_lanes.specs.Lanes.{AreBelow}
use Rattle.test_algebra.proofs.lanes.repeated.Given as goal

abbrev pub invariant-loop-k : goal.invariant-loop-k
invariant-loop-k l = record { long : vec_len l.list ≡ l._k; residues : AreBelow 251 l.list.items }
