use Rattle.std.proofs.Common.{◌≡◌, map, take}
use Rattle.alb_mono.specs.Tree.{tree}
use Rattle.alb_table.specs.Table.{mono_at}
use Rattle.alb_trace.proofs.ground.Ground.basis_monos.Given as goal

abbrev pub invariant-loop-b : goal.invariant-loop-b
invariant-loop-b l = map tree l.monos.items ≡ map (mono_at l.self.tables.now.parts) (take l.b-index l.args)
