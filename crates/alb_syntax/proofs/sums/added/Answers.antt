use Rattle.std.proofs.Common.{◌+◌, ◌≤◌, length, Ok, sym, ap, ◌∙◌, arith}
use Rattle.alb_poly.specs.Poly.{Poly}
use Rattle.alb_poly.specs.Terms.{terms}
use Rattle.alb_syntax.specs.Reading.{sum}
use Rattle.alb_lex.proofs.Binds.{ok_is}
use Rattle.alb_syntax.proofs.Kept.{length-terms, poly-length}
use Rattle.alb_syntax.proofs.Loose.{loose-terms, normal-terms, appended-loose, sum-appended}
use Rattle.alb_syntax.proofs.sums.added.Goals as goal

pub returns-then-count-le-MAX_TERMS-clause-value : goal.returns-then-count-le-MAX_TERMS-clause-value
returns-then-count-le-MAX_TERMS-clause-value c =
    let few : length (terms c.args.list.items) + length c.args.x ≤ 65536 = omega (arith, length-terms c.args.list.items, poly-length c.terms.result.now c.args.x c.terms.ensures.value) in
    sum-appended c.args.field.now c.args.place (terms c.args.list.items) c.args.x c.in_ok-longer.longer.items c.requires.so_far c.requires.more
    (sym (ok_is _ _ c.in_ok-longer.ensures)) few

pub returns-then-count-le-MAX_TERMS-clause-loose : goal.returns-then-count-le-MAX_TERMS-clause-loose
returns-then-count-le-MAX_TERMS-clause-loose c =
    let few : length (terms c.args.list.items) + length c.args.x ≤ 65536 = omega (arith, length-terms c.args.list.items, poly-length c.terms.result.now c.args.x c.terms.ensures.value) in
    appended-loose c.args.field.now c.args.place (terms c.args.list.items) c.args.x c.in_ok-longer.longer.items c.requires.so_far c.requires.more
    (sym (ok_is _ _ c.in_ok-longer.ensures)) few

pub returns-clause-value : goal.returns-clause-value
returns-clause-value c =
    ap (λ (f : Poly). sum c.args.field.now c.args.place f c.args.x) (ok_is _ _ c.in_ok-f.ensures.value) ∙ c.in_ok-h.ensures.value
    ∙ ap (λ (f : Poly). Ok f) (sym (normal-terms c.args.field.now c.into_terms.result.items c.in_ok-h.h c.in_ok-h.ensures.kept c.into_terms.ensures))

pub returns-clause-loose : goal.returns-clause-loose
returns-clause-loose c = loose-terms c.args.field.now c.into_terms.result.items c.in_ok-h.h c.in_ok-h.ensures.kept c.into_terms.ensures
