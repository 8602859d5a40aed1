use Rattle.alb_mono.proofs.TypesListing.{types_of-listing}
use Rattle.alb_mono.proofs.laws.types_are_all.Goals as goal

pub returns : goal.returns
returns c = types_of-listing
