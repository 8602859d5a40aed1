use Rattle.std.proofs.Common.{◌≡◌, ℕ, ◌∷◌, List, subst, ◌≤◌, arith}
use Rattle.std.proofs.lemmas.List.{length-map}
use Rattle.alb_poly.specs.Consequence.{form, form_at}
use Rattle.alb_poly.specs.Instance.{Form}
use Rattle.alb_linear.specs.Identity.{IsLinearized}
use Rattle.alb_table.specs.RightTable.{rules_view}
use Rattle.alb_table.proofs.RightForLemmas.{right-linearized}
use Rattle.alb_subst.specs.Laws.{MayBeExchanged}
use Rattle.alb_subst.specs.Sums.{HasEntries, instance_row}
use Rattle.alb_subst.specs.Tuples.{AreLeastTuples}
use Rattle.alb_block.specs.Asked.{block_setting}
use Rattle.alb_block.specs.Instances.{BlockSetting, IsInstance}
use Rattle.alb_block.specs.Offers.{HasMore, IsRowOf}
use Rattle.alb_block.proofs.OfferLemmas.{Lacks, form_item, item-form, row-of, lacks-all, lacks-less, before-more, before-next}
use Rattle.alb_block.proofs.offers.offer_form.Goals as goal

pub open_least-requires-clause-few : goal.open_least-requires-clause-few
open_least-requires-clause-few c =
    item-form (λ f. f.degree ≤ 8) c.args.from.now.rules.now.linears.items c.args.k c.index-f.result.now c.requires.rules.low c.requires.form c.index-f.ensures

pub row_of-requires-clause-form : goal.row_of-requires-clause-form
row_of-requires-clause-form c =
    item-form (IsLinearized c.args.from.now.tables.now.p) c.args.from.now.rules.now.linears.items c.args.k c.index-f.result.now
    (right-linearized (rules_view c.args.from.now.rules.now) c.args.from.now.tables.now c.requires.rules c.requires.right) c.requires.form c.index-f.ensures

pub loop-tuple-preserved : goal.loop-tuple-preserved
loop-tuple-preserved c =
    let s : BlockSetting = block_setting c.args.from.now.rules.now c.args.from.now.tables.now c.args.from.now.at.now in
    let e : form c.index-f.result.now ≡ form_at s.forms c.args.k = form_item c.args.from.now.rules.now.linears.items c.args.k c.index-f.result.now c.requires.form c.index-f.ensures in
    let x : List ℕ = c.in-Some.tuple.items in
    let l : Lacks s c.loop-tuple.offers.echelon c.args.k (x ∷ c.next.new.self) =
    subst (Lacks s c.loop-tuple.offers.echelon c.args.k) c.in-Some.ensures.some c.loop-tuple.invariant.lacks in
    let i : IsInstance s (c.args.k, x) = record { form = omega (arith, c.requires.form, length-map c.args.from.now.rules.now.linears.items form); tuple = l.each.0 } in
    let h : HasEntries s.p c.args.from.now.columns.now c.in_ok-row.row (instance_row s.parts (form c.index-f.result.now) x) =
    subst (λ (xs : List ℕ). HasEntries s.p c.args.from.now.columns.now c.in_ok-row.row (instance_row s.parts (form c.index-f.result.now) xs)) c.as_slice.ensures.value c.in_ok-row.ensures.entries in
    let r : IsRowOf s (c.args.k, x) c.in_ok-row.row = row-of s (c.args.k, x) c.args.from.now.columns.now c.in_ok-row.row (form c.index-f.result.now) c.requires.columns_are e h c.in_ok-row.ensures.columns in
    let m : HasMore s c.loop-tuple.offers.echelon c.in_ok-offers.offers.echelon (c.args.k, x) = c.in_ok-offers.ensures.more s c.loop-tuple.invariant.kept r in
    record {
      kept = c.in_ok-offers.ensures.kept s c.loop-tuple.invariant.kept i r;
      before = before-more s c.loop-tuple.offers.echelon c.in_ok-offers.offers.echelon c.args.k (c.args.k, x) c.loop-tuple.invariant.before m;
      lacks = lacks-less s c.loop-tuple.offers.echelon c.in_ok-offers.offers.echelon c.args.k x c.next.new.self l m;
    }

pub returns-clause-before : goal.returns-clause-before
returns-clause-before c =
    let s : BlockSetting = block_setting c.args.from.now.rules.now c.args.from.now.tables.now c.args.from.now.at.now in
    before-next s c.loop-tuple.offers.echelon c.args.k c.loop-tuple.invariant.before
    (subst (Lacks s c.loop-tuple.offers.echelon c.args.k) c.in_default.ensures.none.0 c.loop-tuple.invariant.lacks)

pub runs_at-requires-clause-form : goal.runs_at-requires-clause-form
runs_at-requires-clause-form c =
    (item-form (IsLinearized c.args.from.now.tables.now.p) c.args.from.now.rules.now.linears.items c.args.k c.index-f.result.now
    (right-linearized (rules_view c.args.from.now.rules.now) c.args.from.now.tables.now c.requires.rules c.requires.right) c.requires.form c.index-f.ensures)

pub runs_at-requires-clause-few : goal.runs_at-requires-clause-few
runs_at-requires-clause-few c =
    item-form (λ f. f.degree ≤ 8) c.args.from.now.rules.now.linears.items c.args.k c.index-f.result.now c.requires.rules.low c.requires.form c.index-f.ensures

pub loop-tuple-init : goal.loop-tuple-init
loop-tuple-init c =
    let s : BlockSetting = block_setting c.args.from.now.rules.now c.args.from.now.tables.now c.args.from.now.at.now in
    let f : Form = form c.index-f.result.now in
    let runs : List ℕ = c.in_ok-runs.runs.items in
    let e : f ≡ form_at s.forms c.args.k = form_item c.args.from.now.rules.now.linears.items c.args.k c.index-f.result.now c.requires.form c.index-f.ensures in
    let q : MayBeExchanged s.p f runs = c.in_ok-runs.ensures in
    let a : AreLeastTuples s.parts f.degree s.at runs c.in_ok-instances.instances =
    subst (λ (rs : List ℕ). AreLeastTuples s.parts f.degree s.at rs c.in_ok-instances.instances) c.as_slice-least.ensures.value c.in_ok-instances.ensures in
    record {
      kept = c.requires.kept;
      before = c.requires.before;
      lacks = lacks-all s c.args.offers.echelon c.args.k f runs c.in_ok-instances.instances e q a;
    }
