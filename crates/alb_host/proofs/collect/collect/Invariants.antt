use Rattle.std.proofs.Common.{◌≡◌, None}
use Rattle.std.specs.Prelude.{option_map, vec_capacity}
use Rattle.alb_host.specs.Steps.{sessions_of, built_of, built_pair}
use Rattle.alb_host.proofs.collect.collect.Given as goal

abbrev pub invariant-loop-left : goal.invariant-loop-left
invariant-loop-left g l = record {
  sessions : l.sessions.items ≡ sessions_of l.yielded;
  built : option_map built_pair l.built ≡ built_of None l.yielded;
  room : vec_capacity l.sessions ≡ vec_capacity l.fn.room;
}
