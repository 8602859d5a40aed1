use Rattle.std.proofs.Common.{◌<◌, ◌≢◌, length, get_or, arith}
use Rattle.std.proofs.lemmas.Result.{on_ok_weaker}
use Rattle.alb_rows.proofs.RowLemmas.{IsAlone, IsShared, merged_right, merged_both, alone_right}
use Rattle.alb_rows.proofs.merge.Merging.take_right.Goals as goal
use Rattle.alb_rows.proofs.merge.Merging.take_right.Goals.{else-at-a-via-then-at-a+else-a-at, else-at-a-via-else-at-a}

pub returns-then-a-at-clause-merged : goal.returns-then-a-at-clause-merged
returns-then-a-at-clause-merged c =
    let pushed = c.push_cell.ensures in
    let shared : IsShared c.args.a.now c.args.self.now.taken c.args.b.now c.args.k = record { left = c.if-at-a.true; right = c.requires.b_within; same = c.if-a-at.true } in
    on_ok_weaker c.push_cell.result
    (λ adds. merged_both _ _ _ _ _ _ _ _ _ _ c.requires.a_row c.requires.b_row c.requires.merged shared c.mul-y.ensures.value c.add.ensures.value adds pushed.row
    (pushed.residues _ c.add.ensures.residue c.requires.merged.residues))
    pushed.adds

pub returns-else-at-a-clause-merged : goal.returns-else-at-a-clause-merged
returns-else-at-a-clause-merged c =
    let pushed = c.push_cell-else-at-a.ensures in
    let other : c.args.self.now.taken < length c.args.a.now → (get_or c.args.a.now c.args.self.now.taken (0, 0)).0 ≢ (get_or c.args.b.now c.args.k (0, 0)).0 =
    elim c.else-at-a.branch [ else-at-a-via-then-at-a+else-a-at w ↦ λ l. w.if-a-at.false | else-at-a-via-else-at-a w ↦ λ l. absurd (omega (arith, w.if-at-a.false)) ] in
    let alone : IsAlone c.args.b.now c.args.k c.args.a.now c.args.self.now.taken = alone_right c.args.a.now c.args.b.now c.args.self.now.taken c.args.k c.requires.b_within c.requires.before other in
    on_ok_weaker c.push_cell-else-at-a.result
    (λ adds. merged_right _ _ _ _ _ _ _ _ _ c.requires.b_row c.requires.merged alone c.mul-y.ensures.value adds pushed.row
    (pushed.residues _ c.mul-y.ensures.residue c.requires.merged.residues))
    pushed.adds
