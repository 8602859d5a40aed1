use Rattle.alb_block.proofs.MeaningLemmas.{rows-span-images}
use Rattle.alb_block.proofs.laws.rows_span_images.Goals as goal

pub returns : goal.returns
returns c = rows-span-images
