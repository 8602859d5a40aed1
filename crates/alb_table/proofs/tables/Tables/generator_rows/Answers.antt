use Rattle.std.proofs.Common.{◌≡◌, ◌∙◌, ◌+◌, ◌≤◌, ◌++◌, ◌∷◌, [], ℕ, ap, arith, length, length-append}
use Rattle.alb_rows.specs.Row.{comb}
use Rattle.alb_table.specs.Table.{elems}
use Rattle.alb_table.specs.Value.{IsBasisRow, generator_vector}
use Rattle.alb_table.proofs.GeneratorLemmas.{above_one, gens_within, rows_more, rows_all, rows_each}
use Rattle.alb_table.proofs.tables.Tables.generator_rows.Goals as goal

pub loop-k-preserved : goal.loop-k-preserved
loop-k-preserved c =
    let n : ℕ = length (elems c.args.self.now.parts) in
    let t = c.target.ensures.table in
    let g : length c.counts-gens.result.now ≡ length c.args.self.now.target = ap length (c.counts-gens.ensures.value ∙ c.target.ensures.value) in
    let w : length c.args.self.now.target ≤ length (elems c.args.self.now.parts) = gens_within c.args.self.now t in
    let i : c.push.new.self.items ≡ c.loop-k.rows.items ++ c.in_ok-generator_row.field-0 ∷ [] = c.in_ok-push.ensures.items in
    let l : length c.push.new.self.items ≡ length c.loop-k.rows.items + 1 = ap length i ∙ length-append c.loop-k.rows.items (c.in_ok-generator_row.field-0 ∷ []) in
    let e : length c.loop-k.rows.items ≡ c.loop-k.k = c.loop-k.invariant.0 in
    let v : comb c.in_ok-generator_row.field-0 ≡ generator_vector (length c.args.self.now.target) c.loop-k.k = c.in_ok-generator_row.ensures.value ∙ ap (λ m. generator_vector m c.loop-k.k) g in
    let r : IsBasisRow c.args.self.now.p (length (elems c.args.self.now.parts)) c.in_ok-generator_row.field-0 =
    c.in_ok-generator_row.ensures.row c.args.self.now.p (length (elems c.args.self.now.parts)) (above_one c.args.self.now t) (omega arith) in (
      omega arith,
      rows_each (IsBasisRow c.args.self.now.p (length (elems c.args.self.now.parts))) c.loop-k.rows.items c.push.new.self.items c.in_ok-generator_row.field-0 c.loop-k.invariant.1 r i,
      rows_more (length c.args.self.now.target) c.loop-k.rows.items c.push.new.self.items c.in_ok-generator_row.field-0 c.loop-k.k e c.loop-k.invariant.2 v i,
    )

pub returns-clause-values : goal.returns-clause-values
returns-clause-values c =
    let g : length c.counts-gens.result.now ≡ length c.args.self.now.target = ap length (c.counts-gens.ensures.value ∙ c.target.ensures.value) in
    let f : length c.counts-gens.result.now ≤ 26 = c.counts-gens.ensures.few in
    let e : length c.loop-k.rows.items ≡ c.loop-k.k = c.loop-k.invariant.0 in
    rows_all (length c.args.self.now.target) c.loop-k.rows.items 26 (omega arith) (omega arith) (λ i l. c.loop-k.invariant.2 i (omega arith))
