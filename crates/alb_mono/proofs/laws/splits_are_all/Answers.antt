use Rattle.alb_mono.proofs.TypesListing.{splits-listing}
use Rattle.alb_mono.proofs.laws.splits_are_all.Goals as goal

pub returns : goal.returns
returns c = splits-listing
