use Rattle.std.proofs.Common.{rules, ◌≡◌, ◌∙◌, ◌≤◌, ◌+◌, ◌-◌, ◌/◌, sym, ap, arith, length, map}
use Rattle.alb_table.specs.declared.stored.Stored.{Stored}
use Rattle.alb_table.specs.Views.{view_of}
use Rattle.alb_table.proofs.FindLemmas.{halves_start, halves_found, halves_none, halves_step, length-arcs, type_arc, long_arc}
use Rattle.alb_table.proofs.RangeLemmas.{ats}
use Rattle.alb_table.proofs.find.find_part.Goals as goal

pub loop-low-init : goal.loop-low-init
loop-low-init c = halves_start (ats (map view_of c.args.parts.now)) c.args.t.now (length c.args.parts.now) (sym (length-arcs c.args.parts.now))

pub narrowed-next-requires-clause-long : goal.narrowed-next-requires-clause-long
narrowed-next-requires-clause-long c =
    let w : c.loop-low.high ≤ length (ats (map view_of c.args.parts.now)) = c.loop-low.invariant.within in
    let n : length (ats (map view_of c.args.parts.now)) ≡ length c.args.parts.now = length-arcs c.args.parts.now in
    ap (λ (s : Stored). length s.part.at) c.deref.ensures
    ∙ long_arc c.args.parts.now (length c.args.t.now) (c.loop-low.low + (c.loop-low.high - c.loop-low.low) / 2) c.index-parts-middle.result c.requires.long
    (omega arith) c.index-parts-middle.is

pub loop-low-preserved : goal.loop-low-preserved
loop-low-preserved c =
    let w : c.loop-low.high ≤ length (ats (map view_of c.args.parts.now)) = c.loop-low.invariant.within in
    let n : length (ats (map view_of c.args.parts.now)) ≡ length c.args.parts.now = length-arcs c.args.parts.now in
    let other : c.deref.result.now.part.at ≡ c.args.t.now → ⊥ = λ h. search rules in
    halves_step (ats (map view_of c.args.parts.now)) c.args.t.now c.deref.result.now.part.at c.loop-low.low c.loop-low.high
    (c.loop-low.low + (c.loop-low.high - c.loop-low.low) / 2) c.narrowed-next.result.0 c.narrowed-next.result.1 c.requires.ascends c.loop-low.invariant
    (omega arith) (omega arith)
    (type_arc c.args.parts.now (c.loop-low.low + (c.loop-low.high - c.loop-low.low) / 2) c.index-parts-middle.result (omega arith) c.index-parts-middle.is
    ∙ sym (ap (λ (s : Stored). s.part.at) c.deref.ensures)) other c.narrowed-next.ensures.less c.narrowed-next.ensures.rest

pub returns-then-is_same : goal.returns-then-is_same
returns-then-is_same c =
    let q : (view_of c.index-parts-middle.result).at ≡ c.args.t.now = search rules in
    sym (halves_found c.args.parts.now c.args.t.now c.loop-low.low c.loop-low.high (c.loop-low.low + (c.loop-low.high - c.loop-low.low) / 2)
    c.index-parts-middle.result c.loop-low.invariant (omega arith) (omega arith) c.requires.ascends c.index-parts-middle.is q)

pub returns : goal.returns
returns c = sym (halves_none c.args.parts.now c.args.t.now c.loop-low.low c.loop-low.high c.loop-low.invariant (omega arith))
