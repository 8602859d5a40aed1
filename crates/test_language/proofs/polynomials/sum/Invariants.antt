use Rattle.std.proofs.Common.{◌<◌, All}
use Rattle.test_language.proofs.polynomials.sum.Given as goal

abbrev pub invariant-loop-coef : goal.invariant-loop-coef
invariant-loop-coef l = All (λ t. t.coef < l.field) l.terms.items
