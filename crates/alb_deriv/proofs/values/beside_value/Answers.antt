use Rattle.std.proofs.Common.{◌≡◌, ◌∙◌, true, false, sym, subst}
use Rattle.alb_mono.specs.Tree.{tree}
use Rattle.alb_poly.specs.Poly.{Poly}
use Rattle.alb_deriv.specs.Numbered.{is_past}
use Rattle.alb_deriv.proofs.ValueLemmas.{beside-same}
use Rattle.alb_deriv.proofs.values.beside_value.Goals as goal

pub returns-then-is_passed-clause-value : goal.returns-then-is_passed-clause-value
returns-then-is_passed-clause-value c =
    subst (λ (g : Poly). is_past c.args.target.now g ≡ true)
    (beside-same c.args.numbers.now c.number.new.self c.args.list.now c.in-Ok.n (tree c.args.m.now) c.args.side c.in-Ok.ensures.kept c.requires.within c.in-Ok.ensures.number)
    (sym (c.if-is_passed.ensures c.args.side))

pub returns-in-Ok-terms_beside-clause-value : goal.returns-in-Ok-terms_beside-clause-value
returns-in-Ok-terms_beside-clause-value c =
    let same =
    beside-same c.args.numbers.now c.number.new.self c.args.list.now c.in-Ok.n (tree c.args.m.now) c.args.side c.in-Ok.ensures.kept c.requires.within c.in-Ok.ensures.number in
    record {
      fits = subst (λ (g : Poly). is_past c.args.target.now g ≡ false) same (sym (c.if-is_passed.ensures c.args.side));
      is = c.in-Ok-terms_beside.ensures.value ∙ same;
      within = c.in-Ok-terms_beside.ensures.within;
    }
