use Rattle.std.proofs.Common.{subst}
use Rattle.alb_syntax.specs.Gives.{Gives}
use Rattle.alb_syntax.proofs.Again.{denoted-again}
use Rattle.alb_syntax.proofs.Found.{is_found}
use Rattle.alb_syntax.proofs.Kept.{ok-residues, ok-few}
use Rattle.alb_syntax.proofs.Known.{denoted-known}
use Rattle.alb_syntax.proofs.reading.read_poly.Goals as goal

pub returns-clause-found : goal.returns-clause-found
returns-clause-found c = is_found (record { field = c.args.field.now; letters = c.args.letters.now; end = c.args.end }) c.args.tokens.now c.whole.result c.whole.ensures.value

pub returns-clause-only : goal.returns-clause-only
returns-clause-only c = λ f d. subst (λ r. Gives (λ g. g) c.whole.result r) (denoted-again (record { field = c.args.field.now; letters = c.args.letters.now; end = c.args.end }) c.args.tokens.now f d) c.whole.ensures.value

pub returns-clause-residues : goal.returns-clause-residues
returns-clause-residues c = ok-residues c.args.field.now c.whole.result c.whole.ensures.kept

pub returns-clause-few : goal.returns-clause-few
returns-clause-few c = ok-few c.args.field.now c.whole.result c.whole.ensures.kept

pub returns-clause-known : goal.returns-clause-known
returns-clause-known c =
    denoted-known c.args.field.now c.args.letters.now c.args.tokens.now c.whole.result
    (is_found (record { field = c.args.field.now; letters = c.args.letters.now; end = c.args.end }) c.args.tokens.now c.whole.result c.whole.ensures.value)
