use Rattle.alb_table.proofs.AcceptedRules.{accepted-rules}
use Rattle.test_program.proofs.derivations.entry_lines.Goals as goal

pub derive_entry-requires-clause-rules : goal.derive_entry-requires-clause-rules
derive_entry-requires-clause-rules c = accepted-rules _ c.requires.accepted
