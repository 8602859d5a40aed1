use Rattle.std.proofs.Common.{List, get_or, arith, ap, ◌∙◌, sym, subst, length, refl, below_more}
use Rattle.std.proofs.lemmas.List.{length-map}
use Rattle.alb_poly.specs.Consequence.{form, forms, form_at}
use Rattle.alb_poly.specs.declared.rules.Linear.{Linear}
use Rattle.alb_check.specs.Raw.{raw}
use Rattle.alb_check.specs.TableAlgebra.{IsZeroAtTuples, IsFirstTuple}
use Rattle.alb_check.proofs.CheckLemmas.{form_item, item_linearized, each_from_places}
use Rattle.alb_check.proofs.check.try_identities.Goals as goal

pub first_failing-requires-clause-linearized : goal.first_failing-requires-clause-linearized
first_failing-requires-clause-linearized c =
    let ls = c.args.rules.now.linears.items in
    let v = c.deref-linear-items.ensures.value in
    item_linearized c.args.rules.now.field ls c.loop-k.k c.linear-item.result c.requires.rules.linearized (omega (arith, ap length v))
    (c.linear-item.is ∙ ap (λ (xs : List Linear). get_or xs c.loop-k.k c.linear-item.result) v)

pub returns-in-Some : goal.returns-in-Some
returns-in-Some c =
    let ls = c.args.rules.now.linears.items in
    let v = c.deref-linear-items.ensures.value in
    let e = form_item ls c.loop-k.k c.linear-item.result (omega (arith, ap length v)) (c.linear-item.is ∙ ap (λ (xs : List Linear). get_or xs c.loop-k.k c.linear-item.result) v) in
    record {
      place = c.loop-k.k;
      number = refl;
      named = omega (arith, ap length v, length-map ls form);
      tuple = subst (λ f. IsFirstTuple c.args.rules.now.field (raw c.args.table.now) f c.in-Some.tuple.items) (sym e) (rw c.in-Some.is at c.in_ok-tuple.ensures);
      before = c.loop-k.invariant;
    }

pub loop-k-preserved : goal.loop-k-preserved
loop-k-preserved c =
    let ls = c.args.rules.now.linears.items in
    let v = c.deref-linear-items.ensures.value in
    let e = form_item ls c.loop-k.k c.linear-item.result (omega (arith, ap length v)) (c.linear-item.is ∙ ap (λ (xs : List Linear). get_or xs c.loop-k.k c.linear-item.result) v) in
    below_more (λ i. IsZeroAtTuples c.args.rules.now.field (raw c.args.table.now) (form_at (forms c.args.rules.now) i)) c.loop-k.k c.loop-k.invariant
    (subst (IsZeroAtTuples c.args.rules.now.field (raw c.args.table.now)) (sym e) (rw c.in_default.is at c.in_ok-tuple.ensures))

pub returns : goal.returns
returns c =
    let ls = c.args.rules.now.linears.items in
    let v = c.deref-linear-items.ensures.value in
    each_from_places (IsZeroAtTuples c.args.rules.now.field (raw c.args.table.now)) (forms c.args.rules.now)
    (λ k l. c.loop-k.invariant k (omega (arith, ap length v, length-map ls form)))
