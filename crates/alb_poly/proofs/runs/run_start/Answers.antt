use Rattle.std.proofs.Common.{◌-◌, arith}
use Rattle.alb_poly.proofs.PartLemmas.{letters_at}
use Rattle.alb_poly.proofs.runs.run_start.Goals as goal

pub type_of-requires-clause-known : goal.type_of-requires-clause-known
type_of-requires-clause-known c = letters_at c.args.gens c.args.list.now c.requires.known (c.loop-start.start - 1) c.index-list-start.result (omega arith)
