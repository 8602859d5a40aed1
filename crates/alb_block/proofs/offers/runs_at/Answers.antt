use Rattle.std.proofs.Common.{sym, subst}
use Rattle.alb_poly.specs.Consequence.{form}
use Rattle.alb_linear.specs.Identity.{IsLinearized}
use Rattle.alb_block.proofs.OfferLemmas.{no-exchange, exchanges}
use Rattle.alb_block.proofs.offers.runs_at.Goals as goal

pub returns-then-degree-f : goal.returns-then-degree-f
returns-then-degree-f c = rw c.new.ensures (no-exchange c.args.tables.now.p (form c.args.f.now))

pub places-requires-clause-form : goal.places-requires-clause-form
places-requires-clause-form c = subst (λ p. IsLinearized p (form c.args.f.now)) (sym c.field.ensures) c.requires.form

pub returns : goal.returns
returns c =
    exchanges c.field.result.now c.args.tables.now.p (form c.args.f.now) (λ r. r.items) c.places.result c.field.ensures c.places.ensures
