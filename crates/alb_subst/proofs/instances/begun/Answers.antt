use Rattle.std.proofs.Common.{◌-◌, length, arith}
use Rattle.alb_subst.proofs.ComeLemmas.{opened, going_first}
use Rattle.alb_subst.proofs.instances.begun.Goals as goal

pub returns-clause-going : goal.returns-clause-going
returns-clause-going c =
    going_first c.args.ranges.now c.args.t.now c.first_at.new.current.items (length c.args.current.now.items) (length c.args.current.now.items - 0) c.first_at.result
    c.requires.rises c.requires.long c.requires.fit c.first_at.ensures.len c.requires.few (omega arith) c.first_at.ensures.found

pub returns-clause-comes : goal.returns-clause-comes
returns-clause-comes c =
    opened c.args.ranges.now c.args.t.now c.first_at.new.current.items (length c.args.current.now.items) (length c.args.current.now.items - 0) c.first_at.result
    c.first_at.ensures.len (omega arith) c.first_at.ensures.found c.first_at.ensures.none
