use Rattle.std.proofs.Common.{nat_eq}
use Rattle.gf_sums.proofs.Totals.{numbers-tell, same-weigh}
use Rattle.gf_sums.proofs.laws.coefficients_from_weights.Goals as goal

pub returns : goal.returns
returns c p f g h = same-weigh nat_eq numbers-tell f g h
