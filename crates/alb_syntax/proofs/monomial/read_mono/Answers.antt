use Rattle.std.proofs.Common.{subst}
use Rattle.alb_mono.specs.Tree.{tree}
use Rattle.alb_syntax.specs.Gives.{Gives}
use Rattle.alb_syntax.proofs.Monomials.{mono-again, mono-is_spelled, spelled-low, spelled-known}
use Rattle.alb_syntax.proofs.monomial.read_mono.Goals as goal

pub returns-clause-found : goal.returns-clause-found
returns-clause-found c = mono-is_spelled (record { letters = c.args.letters.now; end = c.args.end }) c.args.tokens.now c.whole.result c.whole.ensures

pub returns-clause-only : goal.returns-clause-only
returns-clause-only c = λ m d. subst (λ r. Gives tree c.whole.result r) (mono-again (record { letters = c.args.letters.now; end = c.args.end }) c.args.tokens.now m d) c.whole.ensures

pub returns-clause-small : goal.returns-clause-small
returns-clause-small c = spelled-low c.args.letters.now c.args.tokens.now c.whole.result (mono-is_spelled (record { letters = c.args.letters.now; end = c.args.end }) c.args.tokens.now c.whole.result c.whole.ensures)

pub returns-clause-known : goal.returns-clause-known
returns-clause-known c = spelled-known c.args.letters.now c.args.tokens.now c.whole.result (mono-is_spelled (record { letters = c.args.letters.now; end = c.args.end }) c.args.tokens.now c.whole.result c.whole.ensures)
