use Rattle.std.proofs.Common.{◌≡◌, ◌∙◌, ℕ, List, length, sym, ap, subst, arith}
use Rattle.alb_rows.specs.Row.{IsRowOver, ColumnsBelow}
use Rattle.alb_block.specs.Asked.{block_setting}
use Rattle.alb_table.specs.Table.{origins_at}
use Rattle.alb_subst.specs.Sums.{HasEntries, instance_row}
use Rattle.alb_poly.specs.Consequence.{form}
use Rattle.alb_trace.specs.Origins.{HasOffered}
use Rattle.alb_trace.proofs.OfferedLemmas.{offered-none, offered-more, new_number}
use Rattle.alb_trace.proofs.OriginLemmas.{few-origins, count, identity-below, args-below, linearized, args-long, row-is}
use Rattle.alb_trace.proofs.ground.Ground.origin_rows.Goals as goal

pub loop-k-init : goal.loop-k-init
loop-k-init c =
    let e = c.new-echelon.ensures in
    offered-none (block_setting c.args.self.now.rules.now c.args.self.now.tables.now c.args.t.now) c.new-echelon.result (origins_at c.args.self.now.tables.now.parts c.args.t.now)
    (ap (λ r. r.p) e ∙ c.field.ensures) (ap (λ r. r.columns) e ∙ c.len.ensures.value ∙ ap length c.requires.columns_are) (ap (λ r. r.keeps_recipes) e) (ap (λ r. r.rows) e) (ap (λ r. r.offers) e)

pub index-f-requires : goal.index-f-requires
index-f-requires c =
    let l = identity-below c.args.self.now.rules.now c.args.self.now.tables.now c.requires.ground.right c.args.t.now c.requires.product c.origins-origins.result.now c.origins-origins.ensures
    c.loop-k.k c.index-origins-k.result c.loop-k-test.true c.index-origins-k.is in
    omega arith

pub row_of-requires : goal.row_of-requires
row_of-requires c = record {
  form = linearized c.args.self.now.rules.now c.args.self.now.tables.now c.requires.ground.right c.args.t.now c.requires.product c.origins-origins.result.now c.origins-origins.ensures
      c.loop-k.k c.index-origins-k.result c.loop-k-test.true c.index-origins-k.is c.index-f.result.now c.index-f.ensures c.requires.ground.rules;
  full = ap length c.as_slice.ensures.value
      ∙ args-long c.args.self.now.rules.now c.args.self.now.tables.now c.requires.ground.right c.args.t.now c.requires.product c.origins-origins.result.now c.origins-origins.ensures
      c.loop-k.k c.index-origins-k.result c.loop-k-test.true c.index-origins-k.is c.index-f.result.now c.index-f.ensures;
  numbers = rw c.as_slice.ensures.value
      (args-below c.args.self.now.rules.now c.args.self.now.tables.now c.requires.ground.right c.args.t.now c.requires.product c.origins-origins.result.now c.origins-origins.ensures
      c.loop-k.k c.index-origins-k.result c.loop-k-test.true c.index-origins-k.is);
}

pub overflow_cast-k : goal.overflow_cast-k
overflow_cast-k c =
    let n = count c.args.self.now.rules.now c.args.self.now.tables.now c.requires.ground.right c.args.t.now c.requires.product c.origins-origins.result.now c.origins-origins.ensures in
    let l = few-origins c.args.self.now.rules.now c.args.self.now.tables.now c.requires.ground.right c.args.t.now c.requires.product in
    omega arith

pub offer-requires : goal.offer-requires
offer-requires c = record {
  row_in = subst (λ (p : ℕ). IsRowOver p c.in_ok-row.row) (sym c.loop-k.invariant.field) c.in_ok-row.ensures.row;
  columns_in = subst (λ (n : ℕ). ColumnsBelow n c.in_ok-row.row) (ap length c.requires.columns_are ∙ sym c.loop-k.invariant.width) c.in_ok-row.ensures.columns;
  new_tag = λ _. new_number c.loop-k.echelon.offers c.loop-k.k c.loop-k.invariant.below;
}

pub loop-k-preserved : goal.loop-k-preserved
loop-k-preserved c =
    let entries = subst (λ (xs : List ℕ). HasEntries c.args.self.now.tables.now.p c.args.columns.now c.in_ok-row.row (instance_row c.args.self.now.tables.now.parts (form c.index-f.result.now) xs))
    c.as_slice.ensures.value c.in_ok-row.ensures.entries in
    let row = row-is c.args.self.now.rules.now c.args.self.now.tables.now c.requires.ground.right c.args.t.now c.requires.product c.origins-origins.result.now c.origins-origins.ensures
    c.loop-k.k c.index-origins-k.result c.loop-k-test.true c.index-origins-k.is c.index-f.result.now c.index-f.ensures
    c.args.columns.now c.in_ok-row.row c.requires.columns_are entries c.in_ok-row.ensures.columns in
    offered-more (block_setting c.args.self.now.rules.now c.args.self.now.tables.now c.args.t.now) c.loop-k.echelon c.in_ok-next.next (origins_at c.args.self.now.tables.now.parts c.args.t.now) c.loop-k.k
    c.in_ok-row.row c.loop-k.invariant row c.in_ok-next.ensures.span c.in_ok-next.ensures.offers c.in_ok-next.ensures.same

pub returns : goal.returns
returns c =
    let n = count c.args.self.now.rules.now c.args.self.now.tables.now c.requires.ground.right c.args.t.now c.requires.product c.origins-origins.result.now c.origins-origins.ensures in
    let e : c.loop-k.k ≡ length (origins_at c.args.self.now.tables.now.parts c.args.t.now) = omega arith in
    subst (λ (k : ℕ). HasOffered (block_setting c.args.self.now.rules.now c.args.self.now.tables.now c.args.t.now) c.loop-k.echelon (origins_at c.args.self.now.tables.now.parts c.args.t.now) k) e c.loop-k.invariant
