use Rattle.alb_board.proofs.EventLemmas.{opens, publishes, ends, asks, works}
use Rattle.alb_board.proofs.laws.calls_are_events.Goals as goal

pub returns-clause-opens : goal.returns-clause-opens
returns-clause-opens c = opens

pub returns-clause-publishes : goal.returns-clause-publishes
returns-clause-publishes c = publishes

pub returns-clause-ends : goal.returns-clause-ends
returns-clause-ends c = ends

pub returns-clause-asks : goal.returns-clause-asks
returns-clause-asks c = asks

pub returns-clause-works : goal.returns-clause-works
returns-clause-works c = works
