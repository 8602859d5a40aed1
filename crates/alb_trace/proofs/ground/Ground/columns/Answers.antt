use Rattle.std.proofs.Common.{◌≤◌, length, arith, subst, Err}
use Rattle.alb_table.specs.Table.{products}
use Rattle.alb_subst.specs.Columns.{OpensColumns}
use Rattle.alb_subst.specs.declared.error.ColumnsStop.{ColumnsStop}
use Rattle.alb_trace.proofs.OriginLemmas.{few-products}
use Rattle.alb_trace.proofs.ground.Ground.columns.Goals as goal

pub unreachable-requires : goal.unreachable-requires
unreachable-requires c =
    let few : length (products c.args.self.now.tables.now.parts c.args.t.now) ≤ 4096 = few-products c.args.self.now.rules.now c.args.self.now.tables.now c.requires.ground.right c.args.t.now c.requires.product in
    let h = subst (λ (e : ColumnsStop). OpensColumns c.args.self.now.tables.now.parts c.args.t.now (Err e)) c.in-Err-TooWide.field-0-is c.in-Err-TooWide.ensures in
    omega (arith, h.0, h.1)
