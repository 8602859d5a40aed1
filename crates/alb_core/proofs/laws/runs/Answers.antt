use Rattle.alb_core.proofs.RunLemmas.{each_block_once, replies_rise, end_is_final}
use Rattle.alb_core.proofs.laws.runs.Goals as goal

pub returns-clause-once : goal.returns-clause-once
returns-clause-once c = each_block_once

pub returns-clause-rise : goal.returns-clause-rise
returns-clause-rise c = replies_rise

pub returns-clause-last : goal.returns-clause-last
returns-clause-last c = end_is_final
