use Rattle.alb_pool.proofs.AnswerLemmas.{filled}
use Rattle.alb_pool.proofs.blocks.put_answer.Goals as goal

pub returns : goal.returns
returns c = filled c.args.degree.now c.args.places.now.items c.args.answer.number c.args.answer.block c.requires.places c.requires.answer.number c.requires.answer.block
