use Rattle.alb_deriv.proofs.ShortDerivation.{consequence-short_derivation}
use Rattle.alb_deriv.proofs.laws.complete.Goals as goal

pub returns : goal.returns
returns c p most target fs g pos big multi within h = consequence-short_derivation p pos most big target fs g multi within h
