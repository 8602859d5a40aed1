use Rattle.std.proofs.Common.{Ok, sym, ap, ◌∙◌}
use Rattle.std.proofs.lemmas.Result.{err_from_is_err_and}
use Rattle.alb_poly.specs.Poly.{Poly, normal}
use Rattle.alb_poly.specs.Terms.{terms}
use Rattle.alb_syntax.specs.Setting.{setting}
use Rattle.alb_syntax.specs.Reading.{each, bracketed, begins_atom, is_star, is_sign, factor, star, signed}
use Rattle.alb_lex.proofs.Binds.{ok_is}
use Rattle.alb_syntax.proofs.Loose.{loose-terms, normal-terms}
use Rattle.alb_syntax.proofs.Turns.{goes_on, fails, stops}
use Rattle.alb_syntax.proofs.Shrinks.{bracketed-shrinks, factor-part, star-part, signed-part, poly-single}
use Rattle.alb_syntax.proofs.reading.+parser.Goals as goal

pub juxt-returns-in_err-g : goal.juxt-returns-in_err-g
juxt-returns-in_err-g t c =
    let p = err_from_is_err_and c.from_residual-in_err-g.result c.from_residual-in_err-g.ensures.1 in
    rw (p.1, p.2) (record { reads = fails begins_atom (factor (setting c.args.s.now) (bracketed (setting c.args.s.now) c.args.left)) (factor-part (setting c.args.s.now) (bracketed (setting c.args.s.now) c.args.left) (bracketed-shrinks (setting c.args.s.now) c.args.left)) _ c.factors.f c.factors.rest.now c.in_err-g.field-0.0 c.factors.invariant.so_far (ap begins_atom (sym c.next.ensures) ∙ sym c.begins_atom.ensures ∙ c.factors-test.true) c.in_err-g.ensures.reads; kept = tt })

pub juxt-factors-smaller : goal.juxt-factors-smaller
juxt-factors-smaller t c = (factor-part (setting c.args.s.now) (bracketed (setting c.args.s.now) c.args.left) (bracketed-shrinks (setting c.args.s.now) c.args.left)).less c.factors.f c.factors.rest.now _ c.in_ok-g.ensures.reads

pub juxt-factors-preserved : goal.juxt-factors-preserved
juxt-factors-preserved t c = record { so_far = goes_on begins_atom (factor (setting c.args.s.now) (bracketed (setting c.args.s.now) c.args.left)) (factor-part (setting c.args.s.now) (bracketed (setting c.args.s.now) c.args.left) (bracketed-shrinks (setting c.args.s.now) c.args.left)) _ c.factors.f c.factors.rest.now _ c.factors.invariant.so_far (ap begins_atom (sym c.next.ensures) ∙ sym c.begins_atom.ensures ∙ c.factors-test.true) c.in_ok-g.ensures.reads; kept = c.in_ok-g.ensures.kept }

pub juxt-returns : goal.juxt-returns
juxt-returns t c = record { reads = stops begins_atom (factor (setting c.args.s.now) (bracketed (setting c.args.s.now) c.args.left)) (factor-part (setting c.args.s.now) (bracketed (setting c.args.s.now) c.args.left) (bracketed-shrinks (setting c.args.s.now) c.args.left)) _ c.factors.f c.factors.rest.now c.factors.invariant.so_far (ap begins_atom (sym c.next.ensures) ∙ sym c.begins_atom.ensures ∙ c.factors-test.false); kept = c.factors.invariant.kept }

pub jprod-returns-in_err-g : goal.jprod-returns-in_err-g
jprod-returns-in_err-g t c =
    let p = err_from_is_err_and c.from_residual-in_err-g.result c.from_residual-in_err-g.ensures.1 in
    rw (p.1, p.2) (record { reads = fails is_star (star (setting c.args.s.now) (bracketed (setting c.args.s.now) c.args.left)) (star-part (setting c.args.s.now) (bracketed (setting c.args.s.now) c.args.left) (bracketed-shrinks (setting c.args.s.now) c.args.left)) _ c.stars.f c.stars.rest.now c.in_err-g.field-0.0 c.stars.invariant.so_far (ap is_star (sym c.next.ensures) ∙ sym c.is_star.ensures ∙ c.stars-test.true) c.in_err-g.ensures.reads; kept = tt })

pub jprod-stars-smaller : goal.jprod-stars-smaller
jprod-stars-smaller t c = (star-part (setting c.args.s.now) (bracketed (setting c.args.s.now) c.args.left) (bracketed-shrinks (setting c.args.s.now) c.args.left)).less c.stars.f c.stars.rest.now _ c.in_ok-g.ensures.reads

pub jprod-stars-preserved : goal.jprod-stars-preserved
jprod-stars-preserved t c = record { so_far = goes_on is_star (star (setting c.args.s.now) (bracketed (setting c.args.s.now) c.args.left)) (star-part (setting c.args.s.now) (bracketed (setting c.args.s.now) c.args.left) (bracketed-shrinks (setting c.args.s.now) c.args.left)) _ c.stars.f c.stars.rest.now _ c.stars.invariant.so_far (ap is_star (sym c.next.ensures) ∙ sym c.is_star.ensures ∙ c.stars-test.true) c.in_ok-g.ensures.reads; kept = c.in_ok-g.ensures.kept }

pub jprod-returns : goal.jprod-returns
jprod-returns t c = record { reads = stops is_star (star (setting c.args.s.now) (bracketed (setting c.args.s.now) c.args.left)) (star-part (setting c.args.s.now) (bracketed (setting c.args.s.now) c.args.left) (bracketed-shrinks (setting c.args.s.now) c.args.left)) _ c.stars.f c.stars.rest.now c.stars.invariant.so_far (ap is_star (sym c.next.ensures) ∙ sym c.is_star.ensures ∙ c.stars-test.false); kept = c.stars.invariant.kept }

pub more_terms-terms-init : goal.more_terms-terms-init
more_terms-terms-init t c = record {
  so_far = ap (λ (f : Poly). each is_sign (signed (setting c.args.s.now) (bracketed (setting c.args.s.now) c.args.left)) f c.args.tokens.now) (normal-terms c.args.s.now.field.now c.into_terms-list.result.items c.args.f c.requires c.into_terms-list.ensures);
  loose = loose-terms c.args.s.now.field.now c.into_terms-list.result.items c.args.f c.requires c.into_terms-list.ensures;
}

pub more_terms-returns-in_err-longer : goal.more_terms-returns-in_err-longer
more_terms-returns-in_err-longer t c =
    let p = err_from_is_err_and c.from_residual.result c.from_residual.ensures.1 in
    rw (p.1, p.2) (record { reads = fails is_sign (signed (setting c.args.s.now) (bracketed (setting c.args.s.now) c.args.left)) (signed-part (setting c.args.s.now) (bracketed (setting c.args.s.now) c.args.left) (bracketed-shrinks (setting c.args.s.now) c.args.left)) _ (normal c.args.s.now.field.now (terms c.terms.list.items)) c.terms.rest.now c.in_err-longer.field-0.0 c.terms.invariant.so_far (ap is_sign (sym c.next.ensures) ∙ sym c.is_sign.ensures ∙ c.terms-test.true) c.in_err-longer.ensures.reads; kept = tt })

pub more_terms-terms-smaller : goal.more_terms-terms-smaller
more_terms-terms-smaller t c = (signed-part (setting c.args.s.now) (bracketed (setting c.args.s.now) c.args.left) (bracketed-shrinks (setting c.args.s.now) c.args.left)).less (normal c.args.s.now.field.now (terms c.terms.list.items)) c.terms.rest.now _ c.in_ok-longer.ensures.reads

pub more_terms-terms-preserved : goal.more_terms-terms-preserved
more_terms-terms-preserved t c = record { so_far = goes_on is_sign (signed (setting c.args.s.now) (bracketed (setting c.args.s.now) c.args.left)) (signed-part (setting c.args.s.now) (bracketed (setting c.args.s.now) c.args.left) (bracketed-shrinks (setting c.args.s.now) c.args.left)) _ (normal c.args.s.now.field.now (terms c.terms.list.items)) c.terms.rest.now _ c.terms.invariant.so_far (ap is_sign (sym c.next.ensures) ∙ sym c.is_sign.ensures ∙ c.terms-test.true) c.in_ok-longer.ensures.reads; loose = c.in_ok-longer.ensures.loose }

pub more_terms-returns : goal.more_terms-returns
more_terms-returns t c = record {
  reads = stops is_sign (signed (setting c.args.s.now) (bracketed (setting c.args.s.now) c.args.left)) (signed-part (setting c.args.s.now) (bracketed (setting c.args.s.now) c.args.left) (bracketed-shrinks (setting c.args.s.now) c.args.left)) _ (normal c.args.s.now.field.now (terms c.terms.list.items)) c.terms.rest.now c.terms.invariant.so_far (ap is_sign (sym c.next.ensures) ∙ sym c.is_sign.ensures ∙ c.terms-test.false) ∙ ap (λ (f : Poly). Ok (f, c.terms.rest.now)) (ok_is _ _ c.in_ok-g.ensures.value);
  kept = c.in_ok-g.ensures.kept;
}

pub poly-returns-then-not-is_sign-clause-reads : goal.poly-returns-then-not-is_sign-clause-reads
poly-returns-then-not-is_sign-clause-reads t c = poly-single (setting c.args.s.now) (bracketed (setting c.args.s.now) c.args.left) (bracketed-shrinks (setting c.args.s.now) c.args.left) c.args.tokens.now _ _ c.in_ok-f.ensures.reads (ap is_sign (sym c.next.ensures) ∙ sym c.is_sign.ensures ∙ c.if-not-is_sign.true)
