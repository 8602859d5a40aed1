use Rattle.std.proofs.Common.{◌-◌, length, arith}
use Rattle.alb_subst.proofs.ComeLemmas.{comes, gone_on}
use Rattle.alb_subst.proofs.instances.gone_on.Goals as goal

pub next_at-requires-clause-tuple : goal.next_at-requires-clause-tuple
next_at-requires-clause-tuple c = comes c.args.ranges.now c.args.t.now c.args.current.now.items c.requires

pub returns-clause-going : goal.returns-clause-going
returns-clause-going c =
    (gone_on c.args.ranges.now c.args.t.now c.args.current.now.items c.next_at.new.current.items (length c.args.current.now.items - 0) c.next_at.result c.requires (omega arith)
    c.next_at.ensures.len c.next_at.ensures.found c.next_at.ensures.none).1

pub returns-clause-comes : goal.returns-clause-comes
returns-clause-comes c =
    (gone_on c.args.ranges.now c.args.t.now c.args.current.now.items c.next_at.new.current.items (length c.args.current.now.items - 0) c.next_at.result c.requires (omega arith)
    c.next_at.ensures.len c.next_at.ensures.found c.next_at.ensures.none).0
