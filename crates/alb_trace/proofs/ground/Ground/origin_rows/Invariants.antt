use Rattle.alb_block.specs.Asked.{block_setting}
use Rattle.alb_table.specs.Table.{origins_at}
use Rattle.alb_trace.specs.Origins.{HasOffered}
use Rattle.alb_trace.proofs.ground.Ground.origin_rows.Given as goal

abbrev pub invariant-loop-k : goal.invariant-loop-k
invariant-loop-k l = HasOffered (block_setting l.self.rules.now l.self.tables.now l.t) l.echelon (origins_at l.self.tables.now.parts l.t) l.k
