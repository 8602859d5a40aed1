use Rattle.std.proofs.Common.{rules, ◌≡◌, length}
use Rattle.std.specs.Prelude.{Some, None}
use Rattle.alb_table.specs.Table.{elems, entry_of}
use Rattle.alb_table.specs.Value.{IsBasisRow}
use Rattle.alb_table.proofs.ValueLemmas.{add_none, add_some}
use Rattle.alb_table.proofs.tables.Tables.add_product.Goals as goal

pub add_scaled-requires-clause-other_in : goal.add_scaled-requires-clause-other_in
add_scaled-requires-clause-other_in c =
    let v : IsBasisRow c.args.self.now.p (length (elems c.args.self.now.parts)) c.in-Some.e.now = search rules in
    rw c.field.ensures v.row.residues

pub returns-in-None-clause-value : goal.returns-in-None-clause-value
returns-in-None-clause-value c =
    let f : entry_of c.args.self.now.parts c.args.b c.args.c ≡ None = search rules in
    add_none c.args.self.now.p c.args.x c.args.self.now.parts c.args.b c.args.c c.args.acc.now f

pub returns-in_ok-add_scaled-in-Some-clause-value : goal.returns-in_ok-add_scaled-in-Some-clause-value
returns-in_ok-add_scaled-in-Some-clause-value c =
    let f : entry_of c.args.self.now.parts c.args.b c.args.c ≡ Some c.in-Some.e.now = search rules in
    add_some c.args.self.now.p c.args.x c.args.self.now.parts c.args.b c.args.c c.args.acc.now c.add_scaled.new.self c.in-Some.e.now f
    (rw c.field.ensures at c.in_ok-add_scaled-in-Some.ensures.vector)

pub returns-in_ok-add_scaled-in-Some-clause-row : goal.returns-in_ok-add_scaled-in-Some-clause-row
returns-in_ok-add_scaled-in-Some-clause-row c =
    let v : IsBasisRow c.args.self.now.p (length (elems c.args.self.now.parts)) c.in-Some.e.now = search rules in
    let e = c.in_ok-add_scaled-in-Some.ensures in
    record {
      row = record { row = e.row; residues = rw c.field.ensures at e.residues };
      below = e.columns (length (elems c.args.self.now.parts)) c.requires.row.below v.below;
    }
