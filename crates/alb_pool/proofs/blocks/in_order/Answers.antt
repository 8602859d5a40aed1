use Rattle.alb_pool.proofs.AnswerLemmas.{block-more, first-stop}
use Rattle.alb_pool.proofs.blocks.in_order.Goals as goal

pub loop-number-preserved : goal.loop-number-preserved
loop-number-preserved c = record {
  places = c.take_block.ensures.places;
  blocks = block-more c.args.degree.now c.loop-number.number c.loop-number-test.true c.loop-number.blocks.items c.push_block.new.blocks.items c.in-Ok.block
      c.loop-number.invariant.blocks c.in-Ok.ensures.block c.in_ok-push_block-in-Ok.ensures;
}

pub returns-in-Err-clause-wide : goal.returns-in-Err-clause-wide
returns-in-Err-clause-wide c =
    first-stop c.args.degree.now c.loop-number.number c.loop-number-test.true c.loop-number.blocks.items c.in-Err.stop c.requires.degree
    c.loop-number.invariant.blocks c.in-Err.ensures.block
