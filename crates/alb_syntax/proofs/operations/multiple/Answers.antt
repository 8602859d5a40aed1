use Rattle.std.proofs.Common.{◌≡◌, ◌<◌, ◌%◌, Ok, sym, ap, subst, ◌∙◌, arith}
use Rattle.std.proofs.Math.Nat.{mod-lt}
use Rattle.gf_sums.specs.Sums.{scale}
use Rattle.alb_poly.specs.Poly.{Poly, normal}
use Rattle.alb_syntax.specs.Reading.{IsCanonicalPoly, multiple}
use Rattle.alb_syntax.proofs.Kept.{kept-multiple, table-above_one, table-small, kept-residues, multiple-mod}
use Rattle.alb_syntax.proofs.operations.multiple.Goals as goal

pub nonzero_rem-c : goal.nonzero_rem-c
nonzero_rem-c c = omega (arith, table-above_one c.args.field.now c.p.ensures.listed)

pub overflow_cast-c : goal.overflow_cast-c
overflow_cast-c c =
    let one = table-above_one c.args.field.now c.p.ensures.listed in
    let few = table-small c.args.field.now c.p.ensures.listed in
    let pos : 0 < c.p.result = omega arith in
    let less : c.args.n % c.p.result < c.p.result = mod-lt c.args.n pos in
    omega arith

pub scale-requires-clause-coefficients : goal.scale-requires-clause-coefficients
scale-requires-clause-coefficients c = kept-residues c.args.field.now c.args.f.now c.requires

pub scale-requires-clause-residue : goal.scale-requires-clause-residue
scale-requires-clause-residue c =
    let one = table-above_one c.args.field.now c.p.ensures.listed in
    let pos : 0 < c.p.result = omega arith in
    let less : c.args.n % c.p.result < c.p.result = mod-lt c.args.n pos in
    omega arith

pub returns-clause-value : goal.returns-clause-value
returns-clause-value c =
    let one = table-above_one c.args.field.now c.p.ensures.listed in
    let e : c.in_ok-h.h ≡ multiple c.args.field.now c.args.n c.args.f.now =
    c.in_ok-h.ensures.value ∙ ap (λ q. normal c.args.field.now (scale (c.args.n % q) c.args.f.now)) c.p.ensures.value ∙ multiple-mod c.args.field.now c.args.n c.args.f.now one in
    ap (λ (h : Poly). Ok h) (sym e)

pub returns-clause-kept : goal.returns-clause-kept
returns-clause-kept c =
    let one = table-above_one c.args.field.now c.p.ensures.listed in
    let e : c.in_ok-h.h ≡ multiple c.args.field.now c.args.n c.args.f.now =
    c.in_ok-h.ensures.value ∙ ap (λ q. normal c.args.field.now (scale (c.args.n % q) c.args.f.now)) c.p.ensures.value ∙ multiple-mod c.args.field.now c.args.n c.args.f.now one in
    subst (IsCanonicalPoly c.args.field.now) (sym e) (kept-multiple c.args.field.now c.args.n c.args.f.now c.requires)
