use Rattle.std.proofs.Common.{◌≡◌, ◌∙◌, ℕ, List, map, sym, subst, ap, length, arith, ◌≤◌}
use Rattle.std.proofs.lemmas.List.{length-map}
use Rattle.alb_poly.specs.Consequence.{form, forms}
use Rattle.alb_reduce.specs.Reduction.{Reduction, kept}
use Rattle.alb_rows.specs.Span.{ArePivots}
use Rattle.alb_table.specs.Table.{origin_view}
use Rattle.alb_block.specs.Asked.{block_setting}
use Rattle.alb_block.specs.Instances.{BlockSetting, columns_of}
use Rattle.alb_block.specs.Offers.{AreKept, HasBefore}
use Rattle.alb_block.proofs.OfferLemmas.{spans-all, origins-kept}
use Rattle.alb_block.proofs.MeaningLemmas.{block-at}
use Rattle.alb_block.proofs.block.reduce_block.Goals as goal

pub returns-clause-answer : goal.returns-clause-answer
returns-clause-answer c =
    let s : BlockSetting = block_setting c.args.rules.now c.args.tables.now c.args.t.now in
    let names : List (ℕ × List ℕ) = map origin_view c.in_ok-echelon.field-0.origins.items in
    let same : c.in_ok-reduced.reduced ≡ c.in_ok-echelon.field-0.echelon = c.in_ok-reduced.ensures in
    let k : AreKept s c.in_ok-reduced.reduced names = subst (λ (e : Reduction). AreKept s e names) (sym same) c.in_ok-echelon.ensures.kept in
    let b : HasBefore s c.in_ok-reduced.reduced (length s.forms) =
    subst (HasBefore s c.in_ok-reduced.reduced) (sym (length-map c.args.rules.now.linears.items form))
    (subst (λ (e : Reduction). HasBefore s e (length c.args.rules.now.linears.items)) (sym same) c.in_ok-echelon.ensures.before) in
    let cols : c.in_ok-columns.columns ≡ columns_of s.parts s.at = c.in_ok-columns.ensures.0 in
    record {
      at = c.of.ensures ∙ c.counts.ensures.value;
      columns = cols;
      few = c.in_ok-columns.ensures.1;
      field = k.field;
      width = k.width ∙ sym (ap length cols);
      spans = spans-all s c.in_ok-reduced.reduced names k b;
      origins = origins-kept s c.in_ok-reduced.reduced names k;
    }

pub returns-clause-block : goal.returns-clause-block
returns-clause-block c =
    let s : BlockSetting = block_setting c.args.rules.now c.args.tables.now c.args.t.now in
    let names : List (ℕ × List ℕ) = map origin_view c.in_ok-echelon.field-0.origins.items in
    let same : c.in_ok-reduced.reduced ≡ c.in_ok-echelon.field-0.echelon = c.in_ok-reduced.ensures in
    let k : AreKept s c.in_ok-reduced.reduced names = subst (λ (e : Reduction). AreKept s e names) (sym same) c.in_ok-echelon.ensures.kept in
    let b : HasBefore s c.in_ok-reduced.reduced (length s.forms) =
    subst (HasBefore s c.in_ok-reduced.reduced) (sym (length-map c.args.rules.now.linears.items form))
    (subst (λ (e : Reduction). HasBefore s e (length c.args.rules.now.linears.items)) (sym same) c.in_ok-echelon.ensures.before) in
    let small : length c.args.tables.now.target ≤ 26 = omega (arith, c.requires.next.long, ap length c.counts.ensures.value, c.counts.ensures.few) in
    let pivots : ArePivots c.args.tables.now.p (kept c.in_ok-reduced.reduced) c.pivots.result.now =
    subst (λ p. ArePivots p (kept c.in_ok-reduced.reduced) c.pivots.result.now) k.field c.pivots.ensures.are in
    block-at (forms c.args.rules.now) c.args.tables.now c.requires.right.table c.requires.right.right.right
    c.requires.right.multilinear c.requires.right.high small c.args.t.now c.requires.next
    c.in_ok-reduced.reduced (spans-all s c.in_ok-reduced.reduced names k b) c.pivots.result.now pivots names (origins-kept s c.in_ok-reduced.reduced names k)
