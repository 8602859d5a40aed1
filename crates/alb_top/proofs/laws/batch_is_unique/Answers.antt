use Rattle.alb_top.proofs.UniqueBatch.{batch-unique}
use Rattle.alb_top.proofs.laws.batch_is_unique.Goals as goal

pub returns : goal.returns
returns c = batch-unique
