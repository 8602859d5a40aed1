use Rattle.std.proofs.Common.{◌≡◌, ◌∙◌, ap, sym, subst, length}
use Rattle.std.specs.Prelude.{IsTrue, All}
use Rattle.std.proofs.lemmas.Result.{IfOk-weaker}
use Rattle.alb_mono.specs.Tree.{are_below}
use Rattle.alb_poly.specs.Consequence.{forms}
use Rattle.alb_poly.specs.Terms.{terms}
use Rattle.alb_query.proofs.AnswerLemmas.{all-terms}
use Rattle.alb_check.specs.Raw.{raw}
use Rattle.alb_trace.specs.FirstType.{IsFirstAmong}
use Rattle.alb_trace.specs.Proof.{IsCounterTable}
use Rattle.alb_trace.proofs.Counter.{not-zero, first-counter, first-long-of}
use Rattle.alb_trace.proofs.proving.counter_table.Goals as goal

pub first_type-requires-clause-known : goal.first_type-requires-clause-known
first_type-requires-clause-known c =
    let e : length c.counts.result.now ≡ length c.args.tables.now.target = ap length (c.counts.ensures.value ∙ c.target.ensures.value) in
    all-terms (λ s. IsTrue (are_below (length c.counts.result.now) s.1)) c.terms.result.now c.args.f.now c.terms.ensures.value
    (subst (λ n. All (λ s. IsTrue (are_below n s.1)) c.args.f.now) (sym e) c.requires.known)

pub sub_table-requires : goal.sub_table-requires
sub_table-requires c = first-long-of c.args.tables.now.target (length c.counts.result.now) (terms c.terms.result.now) c.in-Some.top (ap length (c.counts.ensures.value ∙ c.target.ensures.value)) c.in-Some.ensures

pub returns : goal.returns
returns c =
    let e : length c.counts.result.now ≡ length c.args.tables.now.target = ap length (c.counts.ensures.value ∙ c.target.ensures.value) in
    let h : IsFirstAmong (length c.args.tables.now.target) c.args.f.now c.in-Some.top =
    subst (λ f. IsFirstAmong (length c.args.tables.now.target) f c.in-Some.top) c.terms.ensures.value
    (subst (λ n. IsFirstAmong n (terms c.terms.result.now) c.in-Some.top) e c.in-Some.ensures) in
    let k = first-counter (forms c.args.rules.now) c.args.tables.now c.requires.right.multilinear c.requires.right.high c.requires.right.table c.requires.right.right c.args.g.now c.args.f.now
    (not-zero (forms c.args.rules.now) c.args.tables.now c.args.g.now c.args.f.now c.requires.not_zero) c.in-Some.top h in
    IfOk-weaker c.sub_table.result _ (λ r. IsCounterTable (forms c.args.rules.now) c.args.tables.now c.args.g.now c.args.f.now (raw r))
    (λ r q. subst (IsCounterTable (forms c.args.rules.now) c.args.tables.now c.args.g.now c.args.f.now) (sym q) k) c.sub_table.ensures.table
