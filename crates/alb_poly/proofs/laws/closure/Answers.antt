use Rattle.alb_poly.proofs.Consequence.{consequence-append, consequence-scale, consequence-beside, consequence-instance}
use Rattle.alb_poly.proofs.laws.closure.Goals as goal

pub returns : goal.returns
returns c p fs = record {
  instances = λ k ms h n. consequence-instance p fs k ms h n;
  sums = λ f g a b. consequence-append p fs a b;
  multiples = λ c f a. consequence-scale p fs c a;
  products = λ s f a. consequence-beside p fs s a;
}
