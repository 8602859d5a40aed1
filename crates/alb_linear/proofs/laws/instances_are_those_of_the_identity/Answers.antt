use Rattle.gf_sums.proofs.Alike.{joined, reindex-alike}
use Rattle.alb_poly.specs.Instance.{fill, linearization}
use Rattle.alb_poly.proofs.Consequence.{poly_alike, itself'}
use Rattle.alb_poly.proofs.Multilinear.{instance-linearization}
use Rattle.alb_poly.proofs.NormalLemmas.{normal-alike}
use Rattle.alb_linear.proofs.laws.instances_are_those_of_the_identity.Goals as goal

pub returns : goal.returns
returns c p e f ms h n =
    poly_alike (joined (reindex-alike (fill ms) (normal-alike p (linearization e f).terms)) (itself' _ _ (instance-linearization e f ms h n)))
