use Rattle.std.proofs.Common.{◌≡◌, ◌∙◌, ◌<◌, ℕ, List, [], All, map, take, get_or, arith, sym, ap, subst, length}
use Rattle.std.proofs.lemmas.List.{get_or_default, take_all}
use Rattle.std.proofs.lemmas.Result.{IfOk-weaker}
use Rattle.gf_field.proofs.Mod.{same}
use Rattle.gf_sums.specs.Sums.{weigh}
use Rattle.gf_sums.proofs.Alike.{itself}
use Rattle.alb_mono.specs.Listing.{Each}
use Rattle.alb_poly.specs.Consequence.{forms}
use Rattle.alb_poly.specs.Poly.{Poly, IsSamePoly, normal}
use Rattle.alb_poly.proofs.Consequence.{poly_alike}
use Rattle.alb_poly.proofs.Multilinear.{all_from_each}
use Rattle.alb_poly.proofs.NormalLemmas.{same-normal}
use Rattle.alb_deriv.specs.Derivation.{line_value, Sum}
use Rattle.alb_deriv.specs.Numbered.{AreApart, IsCoefficient, IsFit, IsNumbered, read, said}
use Rattle.alb_deriv.specs.Tally.{tallied, nonzero}
use Rattle.alb_deriv.proofs.LineLemmas.{place-found, table-positive}
use Rattle.alb_deriv.proofs.NumberedLemmas.{said-alike, collected-numbered, from_three}
use Rattle.alb_deriv.proofs.TallyLemmas.{nonzero-weigh, nonzero-each, paired-each}
use Rattle.alb_deriv.proofs.ValueLemmas.{sum-line}
use Rattle.alb_deriv.proofs.values.add_up.Goals as goal

pub loop-c-init : goal.loop-c-init
loop-c-init c = record {
  value = λ ts gs e. subst (λ f. IsSamePoly c.args.rules.now.field (read ts f) []) (sym c.new-sum.ensures.value) (poly_alike (itself []));
  tally = c.new-sum.ensures.tally c.args.rules.now.field;
  fit = λ ts h. subst (Each (IsFit c.args.rules.now.target ts)) (sym c.new-sum.ensures.keys) tt;
}

pub add_multiple-requires-clause-residues : goal.add_multiple-requires-clause-residues
add_multiple-requires-clause-residues c =
    let q = place-found (length c.args.values.now) (get_or c.args.items.now c.loop-c.c-index (0, 0)).1 c.in-Some.at c.in-Some.ensures in
    subst (All (λ (t : ℕ × ℕ). t.0 < c.args.rules.now.field)) (sym c.index-values-at.is ∙ sym c.terms.ensures) (c.requires.residues c.in-Some.at c.index-values-at.result q.below)

pub loop-c-preserved : goal.loop-c-preserved
loop-c-preserved c =
    let p = c.args.rules.now.field in
    let target = c.args.rules.now.target in
    let items = c.args.items.now in
    let values = c.args.values.now in
    let i = c.loop-c.c-index in
    let k = c.in-Some.at in
    let item : ℕ × ℕ = get_or items i (0, 0) in
    let is : item ≡ get_or items i item = get_or_default items i (0, 0) item c.loop-c-test.true in
    let q = place-found (length values) item.1 k c.in-Some.ensures in
    let f : List (ℕ × ℕ) = c.terms.result.now in
    let own : f ≡ get_or values k f = subst (λ (x : List (ℕ × ℕ)). x ≡ get_or values k x) (sym c.terms.ensures) c.index-values-at.is in
    record {
      value = λ ts gs e. sum-line p (table-positive p c.requires.rules.prime) target (forms c.args.rules.now) ts gs values items i item k
          (tallied c.loop-c.sum) (tallied c.add_multiple.new.self) f e q own c.loop-c-test.true is (c.loop-c.invariant.value ts gs e) c.in_ok-add_multiple.ensures.value;
      tally = c.in_ok-add_multiple.ensures.tally;
      fit = λ ts h. c.in_ok-add_multiple.ensures.fit target ts (c.loop-c.invariant.fit ts h)
          (all_from_each (λ (t : ℕ × ℕ). IsFit target ts t.1) f (subst (IsNumbered p target ts) (sym own) (h k f q.below)).fit);
    }

pub returns-clause-value : goal.returns-clause-value
returns-clause-value c = λ ts.
    let p = c.args.rules.now.field in
    let pos = table-positive p c.requires.rules.prime in
    let items = c.args.items.now in
    let sum = tallied c.loop-c.sum in
    let value : List Poly → List (ℕ × ℕ) → Poly = λ gs cs. line_value (forms c.args.rules.now) gs (Sum cs) in
    let all : take c.loop-c.c-index items ≡ items = take_all c.loop-c.c-index items (omega arith) in
    IfOk-weaker c.close.result (λ f. f ≡ nonzero sum) (λ f. (gs : List Poly) → map (said p ts) c.args.values.now ≡ map (normal p) gs → said p ts f ≡ normal p (value gs items))
    (λ f e gs h. said-alike p ts f sum pos (λ w. same (ap (weigh w) e ∙ nonzero-weigh w sum))
    ∙ same-normal p (read ts sum) (value gs (take c.loop-c.c-index items)) pos (c.loop-c.invariant.value ts gs h)
    ∙ ap (λ cs. normal p (value gs cs)) all)
    c.close.ensures.value

pub returns-clause-numbered : goal.returns-clause-numbered
returns-clause-numbered c = λ ts d h.
    let p = c.args.rules.now.field in
    let target = c.args.rules.now.target in
    let tally = c.loop-c.sum in
    from_three c.close.result (λ f. f ≡ nonzero (tallied tally)) AreApart (λ f. Each (IsCoefficient p) f) (λ f. IsNumbered p target ts f)
    (λ f e a k. collected-numbered p target ts f d
    (subst (Each (λ t. IsFit target ts t.1)) (sym e)
    (nonzero-each (λ t. IsFit target ts t.1) (tallied tally) (paired-each (IsFit target ts) tally.coefs.items tally.numbers.keys (c.loop-c.invariant.fit ts h))))
    k a)
    c.close.ensures.value c.close.ensures.apart (c.close.ensures.coefs p c.loop-c.invariant.tally)
