use Rattle.alb_mono.proofs.Leaves.{length-type_of}
use Rattle.alb_query.proofs.answers.fits.Goals as goal

pub le-requires : goal.le-requires
le-requires c = rw (c.type_of.ensures, c.counts.ensures.value) (length-type_of _ _)
