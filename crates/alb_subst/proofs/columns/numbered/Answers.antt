use Rattle.alb_subst.proofs.DistinctLemmas.{insert_more}
use Rattle.alb_subst.proofs.columns.numbered.Goals as goal

pub loop-pair-preserved : goal.loop-pair-preserved
loop-pair-preserved c =
    insert_more c.loop-pair.set.keys c.insert.new.self.keys c.pop.new.self.items c.loop-pair.left.items c.args.pairs.items c.in-Some.pair c.requires.distinct
    c.loop-pair.invariant c.in-Some.ensures.items c.in_ok-insert.ensures.keys
