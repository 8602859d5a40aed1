use Rattle.std.specs.Prelude.{slice_index_or}
use Rattle.alb_pool.proofs.AnswerLemmas.{read-again, type-within}
use Rattle.alb_pool.proofs.workers.answer_at.Goals as goal

pub reduce_block-block-requires-clause-next : goal.reduce_block-block-requires-clause-next
reduce_block-block-requires-clause-next c =
    type-within c.args.degree.now c.args.number c.requires.number (slice_index_or c.args.degree.now.types.now c.args.number c.index-degree-number.result) c.requires.degree
    (read-again c.args.degree.now.types.now c.args.number c.index-degree-number.result c.requires.number)
