use Rattle.std.proofs.Common.{sym, ap, ◌∙◌}
use Rattle.std.proofs.lemmas.Result.{err_from_is_err_and}
use Rattle.alb_mono.specs.Tree.{tree}
use Rattle.alb_syntax.specs.Lettering.{lettering}
use Rattle.alb_syntax.specs.Reading.{begins_part, next_part, nested}
use Rattle.alb_syntax.proofs.Turns.{goes_on, fails, stops}
use Rattle.alb_syntax.proofs.Monomials.{part-is, nested-shrinks}
use Rattle.alb_syntax.proofs.monomial.+monomial.Goals as goal

pub mono-returns-in_err-g : goal.mono-returns-in_err-g
mono-returns-in_err-g t c =
    let p = err_from_is_err_and c.from_residual-in_err-g.result c.from_residual-in_err-g.ensures.1 in
    rw (p.1, p.2) (record { reads = fails begins_part (next_part (lettering c.args.s.now) (nested (lettering c.args.s.now) c.args.left)) (part-is (lettering c.args.s.now) (nested (lettering c.args.s.now) c.args.left) (nested-shrinks (lettering c.args.s.now) c.args.left)) _ (tree c.parts.m) c.parts.rest.now c.in_err-g.field-0.0 c.parts.invariant.so_far (ap begins_part (sym c.next.ensures) ∙ sym c.begins_part.ensures ∙ c.parts-test.true) c.in_err-g.ensures.reads; small = tt })

pub mono-parts-smaller : goal.mono-parts-smaller
mono-parts-smaller t c = (part-is (lettering c.args.s.now) (nested (lettering c.args.s.now) c.args.left) (nested-shrinks (lettering c.args.s.now) c.args.left)).less (tree c.parts.m) c.parts.rest.now _ c.in_ok-g.ensures.reads

pub mono-parts-preserved : goal.mono-parts-preserved
mono-parts-preserved t c = record { so_far = goes_on begins_part (next_part (lettering c.args.s.now) (nested (lettering c.args.s.now) c.args.left)) (part-is (lettering c.args.s.now) (nested (lettering c.args.s.now) c.args.left) (nested-shrinks (lettering c.args.s.now) c.args.left)) _ (tree c.parts.m) c.parts.rest.now _ c.parts.invariant.so_far (ap begins_part (sym c.next.ensures) ∙ sym c.begins_part.ensures ∙ c.parts-test.true) c.in_ok-g.ensures.reads; small = c.in_ok-g.ensures.small }

pub mono-returns : goal.mono-returns
mono-returns t c = record { reads = stops begins_part (next_part (lettering c.args.s.now) (nested (lettering c.args.s.now) c.args.left)) (part-is (lettering c.args.s.now) (nested (lettering c.args.s.now) c.args.left) (nested-shrinks (lettering c.args.s.now) c.args.left)) _ (tree c.parts.m) c.parts.rest.now c.parts.invariant.so_far (ap begins_part (sym c.next.ensures) ∙ sym c.begins_part.ensures ∙ c.parts-test.false); small = c.parts.invariant.small }
