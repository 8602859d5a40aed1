use Rattle.std.proofs.Common.{sym, ap, subst, ◌∙◌}
use Rattle.alb_poly.specs.Poly.{Poly, normal}
use Rattle.alb_poly.specs.Terms.{terms}
use Rattle.alb_syntax.specs.Gives.{Gives}
use Rattle.alb_syntax.specs.Reading.{sum}
use Rattle.alb_lex.proofs.Binds.{ok_is}
use Rattle.alb_syntax.proofs.Kept.{kept-above_one}
use Rattle.alb_syntax.proofs.Loose.{difference-sum}
use Rattle.alb_syntax.proofs.sums.subtracted.Goals as goal

pub returns-clause-value : goal.returns-clause-value
returns-clause-value c =
    subst (λ r. Gives (λ v. normal c.args.field.now (terms v.items)) c.added.result r)
    (ap (λ (y : Poly). sum c.args.field.now c.args.place (normal c.args.field.now (terms c.args.list.items)) y) (sym (ok_is _ _ c.in_ok-turned.ensures.value))
    ∙ difference-sum c.args.field.now c.args.place (normal c.args.field.now (terms c.args.list.items)) c.args.x.now (kept-above_one c.args.field.now c.args.x.now c.requires.more))
    c.added.ensures.value
