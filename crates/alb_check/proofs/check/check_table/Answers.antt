use Rattle.std.proofs.Common.{◌<◌, List, true, false, sym, refl, subst}
use Rattle.std.specs.List.{All}
use Rattle.std.proofs.lemmas.Bool.{false≢true}
use Rattle.alb_poly.specs.Consequence.{forms}
use Rattle.alb_rows.specs.Row.{comb}
use Rattle.alb_check.specs.declared.raw.RawEntry.{RawEntry}
use Rattle.alb_check.specs.Raw.{raw}
use Rattle.alb_check.specs.TableAlgebra.{value}
use Rattle.alb_check.proofs.TableLemmas.{shaped}
use Rattle.alb_check.proofs.WalkLemmas.{zero_tells}
use Rattle.alb_check.proofs.CheckLemmas.{entry_numbers, table_nilpotent, table_satisfies, table_refutes, table_refutes_text}
use Rattle.alb_check.proofs.check.check_table.Goals as goal

pub products_of-requires-clause-numbers : goal.products_of-requires-clause-numbers
products_of-requires-clause-numbers c =
    let t = raw c.args.table.now in
    let right = shaped c.args.rules.now.target c.args.rules.now.field t (sym c.in_default.ensures) in
    subst (λ (es : List RawEntry). All (λ e. e.to < 4294967296) es) (sym c.deref.ensures.value) (entry_numbers c.args.rules.now.target c.args.rules.now.field t right)

pub returns-then-is_zero-clause-exact : goal.returns-then-is_zero-clause-exact
returns-then-is_zero-clause-exact c =
    let p = c.args.rules.now.field in
    let x = c.in_ok-value.value in
    let w = value (raw c.args.table.now) c.args.g.now in
    record {
      model = record { shape = sym c.in_default.ensures; zero = c.in_ok-try_identities.ensures };
      zero = (zero_tells true p (comb x) w (c.if-is_zero.ensures.vector p c.in_ok-value.ensures.row) c.in_ok-value.ensures.value).0 refl;
    }

pub returns-clause-exact : goal.returns-clause-exact
returns-clause-exact c =
    let p = c.args.rules.now.field in
    let x = c.in_ok-value.value in
    let w = value (raw c.args.table.now) c.args.g.now in
    record {
      model = record { shape = sym c.in_default.ensures; zero = c.in_ok-try_identities.ensures };
      is_value = c.in_ok-value.ensures.value;
      nonzero = λ z. false≢true ((zero_tells false p (comb x) w (c.if-is_zero.ensures.vector p c.in_ok-value.ensures.row) c.in_ok-value.ensures.value).1 z);
      residues = c.in_ok-value.ensures.row;
    }

pub returns-clause-nilpotent : goal.returns-clause-nilpotent
returns-clause-nilpotent c =
    table_nilpotent c.args.rules.now.field c.args.rules.now.target (forms c.args.rules.now) (raw c.args.table.now) c.requires.rules c.requires.raw (sym c.in_default.ensures)

pub returns-clause-satisfies : goal.returns-clause-satisfies
returns-clause-satisfies c =
    table_satisfies c.args.rules.now.field c.args.rules.now.target (forms c.args.rules.now) (raw c.args.table.now) c.requires.rules c.requires.raw (sym c.in_default.ensures)
    c.in_ok-try_identities.ensures

pub returns-clause-refutes : goal.returns-clause-refutes
returns-clause-refutes c =
    table_refutes c.args.rules.now.field c.args.rules.now.target (forms c.args.rules.now) (raw c.args.table.now) c.requires.rules c.requires.raw (sym c.in_default.ensures)
    c.in_ok-try_identities.ensures c.args.g.now
    (λ z. false≢true ((zero_tells false c.args.rules.now.field (comb c.in_ok-value.value) (value (raw c.args.table.now) c.args.g.now)
    (c.if-is_zero.ensures.vector c.args.rules.now.field c.in_ok-value.ensures.row) c.in_ok-value.ensures.value).1 z))

pub returns-clause-refutes_text : goal.returns-clause-refutes_text
returns-clause-refutes_text c =
    table_refutes_text c.args.rules.now.field c.args.rules.now.target (forms c.args.rules.now) (raw c.args.table.now) c.requires.rules c.requires.raw (sym c.in_default.ensures)
    c.in_ok-try_identities.ensures c.args.g.now
    (λ z. false≢true ((zero_tells false c.args.rules.now.field (comb c.in_ok-value.value) (value (raw c.args.table.now) c.args.g.now)
    (c.if-is_zero.ensures.vector c.args.rules.now.field c.in_ok-value.ensures.row) c.in_ok-value.ensures.value).1 z))
