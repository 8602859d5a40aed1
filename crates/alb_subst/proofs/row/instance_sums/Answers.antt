use Rattle.std.proofs.Common.{rules, ◌≡◌, ◌<◌, ◌∙◌, ◌++◌, sym, ap, subst, arith, length, take, drop, replicate, List, ℕ}
use Rattle.std.proofs.lemmas.List.{take_all, length-map}
use Rattle.gf_sums.specs.Sums.{scale}
use Rattle.alb_mono.specs.Listing.{Each}
use Rattle.alb_mono.specs.Tree.{tree}
use Rattle.alb_poly.specs.Consequence.{form}
use Rattle.alb_poly.specs.Terms.{terms}
use Rattle.alb_table.specs.Block.{image, spread}
use Rattle.alb_table.specs.Table.{table_product, elems}
use Rattle.alb_table.specs.Value.{IsBasisRow, vectors}
use Rattle.alb_rows.specs.Row.{Cells}
use Rattle.alb_subst.specs.Sums.{AddsAtColumns}
use Rattle.alb_subst.proofs.InstanceLemmas.{pair, unit_row, unit_vectors, positions_known, residue_known, adds_zeros, zero_residues, kept_whole, adds_term, adds_instance}
use Rattle.alb_linear.proofs.LinearLemmas.{each_from_all}
use Rattle.alb_subst.proofs.row.instance_sums.Goals as goal

pub loop-t-init : goal.loop-t-init
loop-t-init c =
    let z : c.in_ok-sums.sums.items ≡ replicate (length c.args.columns.now) 0 = search rules in
    let l : length c.in_ok-sums.sums.items ≡ length c.args.columns.now = search rules in
    record {
      len = l;
      residues = zero_residues c.args.tables.now.p (length c.args.columns.now) c.in_ok-sums.sums.items (let h = c.p.ensures.above_one in let e = c.field.ensures in omega (arith, h, e)) z;
      adds = adds_zeros c.args.tables.now.p c.args.columns.now (replicate (length c.args.columns.now) 0) c.in_ok-sums.sums.items z;
    }

pub add_term-requires-clause-vectors : goal.add_term-requires-clause-vectors
add_term-requires-clause-vectors c =
    let e = c.deref.ensures.value ∙ c.in_ok-rows.ensures in
    let h = c.p.ensures.above_one in let f = c.field.ensures in
    subst (λ (rs : List Cells). Each (IsBasisRow c.args.tables.now.p (length (elems c.args.tables.now.parts))) rs) (sym e)
    (unit_vectors c.args.tables.now.p (length (elems c.args.tables.now.parts)) c.args.tuple.now (omega (arith, h, f))
    (each_from_all (λ b. b < length (elems c.args.tables.now.parts)) c.args.tuple.now c.requires.numbers))

pub add_term-requires-clause-positions : goal.add_term-requires-clause-positions
add_term-requires-clause-positions c =
    let n : length c.deref.result.now ≡ c.args.f.now.degree = ap length (c.deref.ensures.value ∙ c.in_ok-rows.ensures) ∙ length-map c.args.tuple.now unit_row ∙ c.requires.full in
    positions_known (form c.args.f.now) c.terms-t-items.result.now c.loop-t.t-index (length c.deref.result.now) c.t-item.result c.requires.form.multilinear c.terms-t-items.ensures.value n
    c.loop-t-test.true c.t-item.is

pub add_term-requires-clause-residue : goal.add_term-requires-clause-residue
add_term-requires-clause-residue c =
    residue_known c.args.tables.now.p c.args.f.now.terms c.terms-t-items.result.now c.loop-t.t-index c.t-item.result c.requires.form.residues c.terms-t-items.ensures.value c.loop-t-test.true
    c.t-item.is

pub loop-t-preserved : goal.loop-t-preserved
loop-t-preserved c =
    let m : length c.deref_mut.result.now ≡ length c.loop-t.sums.items = ap length c.deref_mut.ensures.value in
    let a : length c.add_term.new.sums ≡ length c.loop-t.sums.items = c.add_term.auto.sums ∙ m in
    let w : take c.loop-t.sums.len (c.add_term.new.sums ++ drop (length c.add_term.new.sums) c.loop-t.sums.items) ≡ c.add_term.new.sums =
    kept_whole c.loop-t.sums.len c.loop-t.sums.items c.add_term.new.sums a (search rules) in
    let v = c.deref.ensures.value in
    let t = subst (λ (ys : List ℕ). AddsAtColumns c.args.tables.now.p c.args.columns.now ys c.add_term.new.sums (scale c.t-item.result.coef (image pair (table_product c.args.tables.now.parts) (vectors c.deref.result.now) (tree c.t-item.result.mono)))) c.deref_mut.ensures.value c.in_ok-add_term.ensures.adds in
    rw w (record {
      len = a ∙ c.loop-t.invariant.len;
      residues = c.in_ok-add_term.ensures.residues;
      adds = adds_term c.args.tables.now.p c.args.columns.now (replicate (length c.args.columns.now) 0) c.loop-t.sums.items c.add_term.new.sums
          (image pair (table_product c.args.tables.now.parts) (vectors c.in_ok-rows.rows.items)) c.terms-t-items.result.now c.loop-t.t-index c.t-item.result c.loop-t-test.true c.t-item.is
          c.loop-t.invariant.adds (rw v at t);
    })

pub returns-clause-adds : goal.returns-clause-adds
returns-clause-adds c =
    let e : terms (take c.loop-t.t-index c.terms-t-items.result.now) ≡ c.args.f.now.terms =
    ap terms (take_all c.loop-t.t-index c.terms-t-items.result.now (omega arith)) ∙ c.terms-t-items.ensures.value in
    adds_instance c.args.tables.now.p c.args.columns.now (replicate (length c.args.columns.now) 0) c.loop-t.sums.items c.args.tables.now.parts (form c.args.f.now) c.args.tuple.now c.in_ok-rows.rows.items
    c.requires.form.multilinear c.requires.full c.in_ok-rows.ensures
    (subst (λ g. AddsAtColumns c.args.tables.now.p c.args.columns.now (replicate (length c.args.columns.now) 0) c.loop-t.sums.items
    (spread (image pair (table_product c.args.tables.now.parts) (vectors c.in_ok-rows.rows.items)) g)) e c.loop-t.invariant.adds)
