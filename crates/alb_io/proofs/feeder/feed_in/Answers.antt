use Rattle.std.proofs.Common.{rules, arith}
use Rattle.alb_io.proofs.LineLemmas.{HasNoFeed-more, HasNoFeed-all, feed_at}
use Rattle.alb_io.proofs.feeder.feed_in.Goals as goal

pub returns-then-piece-i-eq10 : goal.returns-then-piece-i-eq10
returns-then-piece-i-eq10 c = (omega arith, c.loop-i.invariant, feed_at c.args.piece.now c.loop-i.i (omega arith) (search rules))

pub loop-i-preserved : goal.loop-i-preserved
loop-i-preserved c = HasNoFeed-more c.args.piece.now c.loop-i.i (omega arith) c.loop-i.invariant (search rules)

pub returns : goal.returns
returns c = HasNoFeed-all c.args.piece.now _ (omega arith) c.loop-i.invariant
