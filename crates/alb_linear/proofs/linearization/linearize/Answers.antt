use Rattle.std.proofs.Common.{◌≡◌, ◌∙◌, length, sum, sym, ap}
use Rattle.std.specs.List.{range_with_len}
use Rattle.std.proofs.lemmas.List.{length-map}
use Rattle.std.proofs.lemmas.List.FromFn.{length-range_with_len}
use Rattle.alb_poly.specs.Poly.{Poly, normal}
use Rattle.alb_poly.specs.Terms.{term, terms}
use Rattle.alb_poly.specs.Instance.{arrangements, linearization}
use Rattle.alb_linear.specs.Identity.{leading_type, factorials}
use Rattle.alb_linear.proofs.LinearLemmas.{IsFit, identity-fits, identity-homogeneous, length-leading, all_within, linear_list, linearized, coefficients, residues-linearization}
use Rattle.alb_linear.proofs.linearization.linearize.Goals as goal

pub arrangements-requires-clause-full : goal.arrangements-requires-clause-full
arrangements-requires-clause-full c =
    ap length (c.list.ensures.value ∙ c.first.ensures) ∙ length-range_with_len 0 c.degree-degree.result ∙ c.degree-degree.ensures ∙ ap sum (sym c.counts-2.ensures.value)

pub linearized_terms-requires : goal.linearized_terms-requires
linearized_terms-requires c =
    let f : Poly = c.args.f.now.poly in
    let fit : IsFit f = identity-fits c.args.f.now.poly c.requires.identity.no_fault in
    let lead : c.leading_type-e.result ≡ leading_type f = c.leading_type-e.ensures ∙ ap leading_type c.terms-list.ensures.value in
    let list : c.list.result.now ≡ range_with_len 0 (sum (leading_type f)) =
    c.list.ensures.value ∙ c.first.ensures ∙ ap (range_with_len 0) (c.degree-degree.ensures ∙ ap sum lead) in
    let all : c.deref.result.now ≡ arrangements (leading_type f) (range_with_len 0 (sum (leading_type f))) =
    c.deref.ensures.value ∙ c.in_ok-all.ensures ∙ ap (λ e. arrangements e c.list.result.now) (c.counts-2.ensures.value ∙ lead) ∙ ap (arrangements (leading_type f)) list in
    let first = rw (c.counts-3.ensures.value ∙ lead) at c.first_numbers.ensures in
    all_within (leading_type f) c.terms-list.result.now f c.first_numbers.result c.deref.result.now c.terms-list.ensures.value
    (identity-homogeneous c.terms-list.result.now f c.terms-list.ensures.value fit) (length-leading f fit.nonzero) first all

pub ordered-requires : goal.ordered-requires
ordered-requires c =
    let f : Poly = c.args.f.now.poly in
    let fit : IsFit f = identity-fits c.args.f.now.poly c.requires.identity.no_fault in
    let lead : c.leading_type-e.result ≡ leading_type f = c.leading_type-e.ensures ∙ ap leading_type c.terms-list.ensures.value in
    let list : c.list.result.now ≡ range_with_len 0 (sum (leading_type f)) =
    c.list.ensures.value ∙ c.first.ensures ∙ ap (range_with_len 0) (c.degree-degree.ensures ∙ ap sum lead) in
    let all : c.deref.result.now ≡ arrangements (leading_type f) (range_with_len 0 (sum (leading_type f))) =
    c.deref.ensures.value ∙ c.in_ok-all.ensures ∙ ap (λ e. arrangements e c.list.result.now) (c.counts-2.ensures.value ∙ lead) ∙ ap (arrangements (leading_type f)) list in
    let first = rw (c.counts-3.ensures.value ∙ lead) at c.first_numbers.ensures in
    let same : terms c.in_ok-linearized.linearized.items ≡ (linearization (leading_type f) f).terms =
    c.in_ok-linearized.ensures ∙ linear_list c.terms-list.result.now f c.first_numbers.result c.deref.result.now c.terms-list.ensures.value fit first all in
    coefficients c.args.field.now c.in_ok-linearized.linearized.items (linearization (leading_type f) f).terms same
    (residues-linearization c.args.field.now (leading_type f) f c.requires.residues)

pub returns : goal.returns
returns c =
    let f : Poly = c.args.f.now.poly in
    let fit : IsFit f = identity-fits c.args.f.now.poly c.requires.identity.no_fault in
    let lead : c.leading_type-e.result ≡ leading_type f = c.leading_type-e.ensures ∙ ap leading_type c.terms-list.ensures.value in
    let list : c.list.result.now ≡ range_with_len 0 (sum (leading_type f)) =
    c.list.ensures.value ∙ c.first.ensures ∙ ap (range_with_len 0) (c.degree-degree.ensures ∙ ap sum lead) in
    let all : c.deref.result.now ≡ arrangements (leading_type f) (range_with_len 0 (sum (leading_type f))) =
    c.deref.ensures.value ∙ c.in_ok-all.ensures ∙ ap (λ e. arrangements e c.list.result.now) (c.counts-2.ensures.value ∙ lead) ∙ ap (arrangements (leading_type f)) list in
    let first = rw (c.counts-3.ensures.value ∙ lead) at c.first_numbers.ensures in
    let same : terms c.in_ok-linearized.linearized.items ≡ (linearization (leading_type f) f).terms =
    c.in_ok-linearized.ensures ∙ linear_list c.terms-list.result.now f c.first_numbers.result c.deref.result.now c.terms-list.ensures.value fit first all in
    let a : length c.terms-list.result.now ≡ length f = sym (length-map c.terms-list.result.now term) ∙ ap length c.terms-list.ensures.value in
    let b : c.factorials.result ≡ factorials (leading_type f) = c.factorials.ensures.value ∙ ap factorials (c.counts.ensures.value ∙ lead) in
    let d : c.degree-degree.result ≡ sum (leading_type f) = c.degree-degree.ensures ∙ ap sum lead in
    let e : c.in_ok-terms.terms ≡ normal c.args.field.now (linearization (leading_type f) f).terms = c.in_ok-terms.ensures.value ∙ ap (normal c.args.field.now) same in (
      rw (a, b) at c.if-count-gt-MOST_TERMS.false,
      d,
      e,
      record { residues = c.in_ok-terms.ensures.residues; multilinear = linearized c.args.field.now c.degree-degree.result c.terms-list.result.now f c.in_ok-terms.terms c.terms-list.ensures.value fit d e },
    )
