use Rattle.std.proofs.Common.{rules, ◌≡◌, ◌+◌, ◌%◌}
use Rattle.std.specs.Prelude.{Some, None, position, slice_index}
use Rattle.alb_table.specs.Table.{same_pair}
use Rattle.alb_subst.specs.Columns.{IsDistinct}
use Rattle.alb_subst.proofs.SumLemmas.{adds_left_out, adds_at}
use Rattle.alb_subst.proofs.sums.Space.add_pair.Goals as goal

pub returns-in-None-clause-adds : goal.returns-in-None-clause-adds
returns-in-None-clause-adds c =
    let h : position (λ z. same_pair (c.args.b, c.args.c) z) c.args.self.now.columns.now ≡ None = search rules in
    adds_left_out c.args.self.now.field.now c.args.self.now.columns.now c.args.sums.now c.args.x (c.args.b, c.args.c) h

pub returns-in-Some-clause-adds : goal.returns-in-Some-clause-adds
returns-in-Some-clause-adds c =
    let h : position (λ z. same_pair (c.args.b, c.args.c) z) c.args.self.now.columns.now ≡ Some c.in-Some.column = search rules in
    let d : IsDistinct c.args.self.now.columns.now = search rules in
    let e : c.add.result ≡ (slice_index c.args.sums.now c.in-Some.column + c.args.x) % c.args.self.now.field.now = search rules in
    adds_at c.args.self.now.field.now c.args.self.now.columns.now c.args.sums.now c.args.x c.in-Some.column c.add.result (c.args.b, c.args.c) d c.requires.len h e
