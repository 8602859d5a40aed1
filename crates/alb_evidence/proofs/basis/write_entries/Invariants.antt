use Rattle.std.proofs.Common.{drop}
use Rattle.std.specs.List.{flat_map}
use Rattle.alb_evidence.specs.Texts.{entry_text}
use Rattle.alb_io.proofs.Writers.{Writing}
use Rattle.alb_evidence.proofs.basis.write_entries.Given as goal

abbrev pub invariant-loop-entry : goal.invariant-loop-entry
invariant-loop-entry g l = Writing g.K.Sink l.fn.sink l.sink (flat_map (entry_text l.field) l.entries) (flat_map (entry_text l.field) (drop l.entry-index l.entries))
