use Rattle.alb_poly.proofs.NormalLemmas.{canonical-normal, normal-same, canonical-is-normal}
use Rattle.alb_poly.proofs.laws.normal_form.Goals as goal

pub returns : goal.returns
returns c p f pos = (
  record { canonical = canonical-normal p f pos; same = normal-same p f },
  λ g h. canonical-is-normal p f g pos h.canonical h.same,
)
