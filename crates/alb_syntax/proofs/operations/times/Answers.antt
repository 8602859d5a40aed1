use Rattle.std.proofs.Common.{Ok, sym, ap, subst, ◌∙◌, arith}
use Rattle.alb_poly.specs.Poly.{Poly}
use Rattle.alb_syntax.specs.Reading.{IsCanonicalPoly}
use Rattle.alb_syntax.proofs.Kept.{kept-residues, counts, times-zero, times-high, times-many, times-within, times-kept}
use Rattle.alb_syntax.proofs.operations.times.Goals as goal

pub returns-then-count-eq0-clause-value : goal.returns-then-count-eq0-clause-value
returns-then-count-eq0-clause-value c =
    let n = counts c.args.field.now c.args.place c.args.f.now c.args.g.now c.requires.left c.requires.right c.terms.result.now c.terms-2.result.now c.terms.ensures.value c.terms-2.ensures.value in
    times-zero c.args.field.now c.args.place c.args.f.now c.args.g.now c.requires.left c.requires.right (sym n ∙ c.if-count-eq0.true) ∙ ap (λ (h : Poly). Ok h) (sym c.zero.ensures.value)

pub returns-then-degree-gt-MAX_DEGREE-clause-value : goal.returns-then-degree-gt-MAX_DEGREE-clause-value
returns-then-degree-gt-MAX_DEGREE-clause-value c =
    let n = counts c.args.field.now c.args.place c.args.f.now c.args.g.now c.requires.left c.requires.right c.terms.result.now c.terms-2.result.now c.terms.ensures.value c.terms-2.ensures.value in
    times-high c.args.field.now c.args.place c.args.f.now c.args.g.now c.requires.left c.requires.right (omega arith) (omega arith)

pub returns-then-count-gt-MAX_TERMS-clause-value : goal.returns-then-count-gt-MAX_TERMS-clause-value
returns-then-count-gt-MAX_TERMS-clause-value c =
    let n = counts c.args.field.now c.args.place c.args.f.now c.args.g.now c.requires.left c.requires.right c.terms.result.now c.terms-2.result.now c.terms.ensures.value c.terms-2.ensures.value in
    times-many c.args.field.now c.args.place c.args.f.now c.args.g.now c.requires.left c.requires.right (omega arith) (omega arith)

pub mul-requires-clause-left : goal.mul-requires-clause-left
mul-requires-clause-left c = kept-residues c.args.field.now c.args.f.now c.requires.left

pub mul-requires-clause-right : goal.mul-requires-clause-right
mul-requires-clause-right c = kept-residues c.args.field.now c.args.g.now c.requires.right

pub returns-clause-value : goal.returns-clause-value
returns-clause-value c =
    let n = counts c.args.field.now c.args.place c.args.f.now c.args.g.now c.requires.left c.requires.right c.terms.result.now c.terms-2.result.now c.terms.ensures.value c.terms-2.ensures.value in
    times-within c.args.field.now c.args.place c.args.f.now c.args.g.now c.requires.left c.requires.right (omega arith) (omega arith) (omega arith)
    ∙ ap (λ (h : Poly). Ok h) (sym c.in_ok-h.ensures.value)

pub returns-clause-kept : goal.returns-clause-kept
returns-clause-kept c =
    let n = counts c.args.field.now c.args.place c.args.f.now c.args.g.now c.requires.left c.requires.right c.terms.result.now c.terms-2.result.now c.terms.ensures.value c.terms-2.ensures.value in
    subst (IsCanonicalPoly c.args.field.now) (sym c.in_ok-h.ensures.value) (times-kept c.args.field.now c.args.place c.args.f.now c.args.g.now c.requires.left c.requires.right (omega arith))
