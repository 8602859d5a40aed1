use Rattle.std.proofs.Common.{rules, ◌≡◌, ◌∙◌, sym, ap, ◌+◌, drop, map, arith, length, ◌∷◌}
use Rattle.std.proofs.lemmas.List.{drop_more}
use Rattle.alb_table.specs.Views.{view_of}
use Rattle.alb_table.proofs.PartLemmas.{first_here, first_step, elems_step}
use Rattle.alb_table.proofs.find.range_of.Goals as goal
use Rattle.alb_table.proofs.find.range_of.Goals.{Then-is_same, Else-is_same}

pub returns-then-is_same-clause-first : goal.returns-then-is_same-clause-first
returns-then-is_same-clause-first c =
    let q : (view_of c.index-parts-k.result).at ≡ c.args.t.now = search rules in
    let e : drop c.loop-k.k c.args.parts.now ≡ c.index-parts-k.result ∷ drop (c.loop-k.k + 1) c.args.parts.now =
    drop_more c.args.parts.now c.loop-k.k c.index-parts-k.result c.loop-k-test.true ∙ ap (λ a. a ∷ drop (c.loop-k.k + 1) c.args.parts.now) (sym c.index-parts-k.is) in
    let h = (first_here (view_of c.index-parts-k.result) (map view_of (drop (c.loop-k.k + 1) c.args.parts.now)) c.args.t.now q).0 in
    let i = rw (e, h) at c.loop-k.invariant.0 in
    omega (arith, i)

pub returns-then-is_same-clause-count : goal.returns-then-is_same-clause-count
returns-then-is_same-clause-count c =
    let q : (view_of c.index-parts-k.result).at ≡ c.args.t.now = search rules in
    let n : c.len-count.result ≡ length (view_of c.index-parts-k.result).basis = search rules in
    let e : drop c.loop-k.k c.args.parts.now ≡ c.index-parts-k.result ∷ drop (c.loop-k.k + 1) c.args.parts.now =
    drop_more c.args.parts.now c.loop-k.k c.index-parts-k.result c.loop-k-test.true ∙ ap (λ a. a ∷ drop (c.loop-k.k + 1) c.args.parts.now) (sym c.index-parts-k.is) in
    let h = (first_here (view_of c.index-parts-k.result) (map view_of (drop (c.loop-k.k + 1) c.args.parts.now)) c.args.t.now q).1 in
    n ∙ sym h ∙ (rw e at c.loop-k.invariant.1)

pub loop-k-preserved : goal.loop-k-preserved
loop-k-preserved c =
    let q : (view_of c.index-parts-k.result).at ≡ c.args.t.now → ⊥ = λ h. search rules in
    let n : c.len-count.result ≡ length (view_of c.index-parts-k.result).basis = search rules in
    let e : drop c.loop-k.k c.args.parts.now ≡ c.index-parts-k.result ∷ drop (c.loop-k.k + 1) c.args.parts.now =
    drop_more c.args.parts.now c.loop-k.k c.index-parts-k.result c.loop-k-test.true ∙ ap (λ a. a ∷ drop (c.loop-k.k + 1) c.args.parts.now) (sym c.index-parts-k.is) in
    let h = first_step (view_of c.index-parts-k.result) (map view_of (drop (c.loop-k.k + 1) c.args.parts.now)) c.args.t.now q in
    let l = elems_step (view_of c.index-parts-k.result) (map view_of (drop (c.loop-k.k + 1) c.args.parts.now)) in
    let i = rw (e, h.0) at c.loop-k.invariant.0 in
    let j = rw (e, l) at c.loop-k.invariant.2 in
    (omega (arith, i, n), sym h.1 ∙ (rw e at c.loop-k.invariant.1), omega (arith, j, n))
