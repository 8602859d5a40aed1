use Rattle.std.proofs.Common.{◌<◌, get_or, arith}
use Rattle.alb_rows.proofs.RowLemmas.{IsAlone, alone_left, left_push}
use Rattle.alb_rows.proofs.merge.Merging.take_left.Goals as goal

pub lefts-preserved : goal.lefts-preserved
lefts-preserved c = record {
  within = omega arith;
  merged = λ p n residues m.
      let low : (get_or c.args.a.now c.lefts.self.taken (0, 0)).0 < c.column_at-end.result = omega (arith, c.from.ensures, c.if-from-end.true) in
      let alone : IsAlone c.args.a.now c.lefts.self.taken c.args.b.now c.args.k =
      alone_left c.args.a.now c.args.b.now c.lefts.self.taken c.args.k c.column_at-end.result c.lefts-test.true low c.column_at-end.ensures.within in
      rw c.in_ok-push.ensures.items
      (left_push p c.args.a.now n c.args.b.now c.lefts.self.taken c.args.k c.lefts.self.cells.items c.requires.a_row residues (c.lefts.invariant.merged p n residues m) alone);
}
