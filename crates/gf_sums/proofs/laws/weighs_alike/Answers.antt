use Rattle.std.proofs.Common.{nat_eq}
use Rattle.gf_sums.proofs.Totals.{numbers-tell, weigh-same}
use Rattle.gf_sums.proofs.laws.weighs_alike.Goals as goal

pub returns : goal.returns
returns c p f g w h = weigh-same nat_eq numbers-tell f g h w
