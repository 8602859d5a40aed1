use Rattle.std.proofs.Common.{rules, ◌≡◌, ℕ, ◌<◌, ◌≤◌, ◌∙◌, ◌++◌, List, length, sym, subst, arith}
use Rattle.std.proofs.lemmas.List.{take_all, length-map}
use Rattle.gf_sums.specs.Sums.{scale}
use Rattle.alb_mono.specs.Tree.{tree, Tree}
use Rattle.alb_poly.specs.Consequence.{forms}
use Rattle.alb_poly.specs.Terms.{term, terms}
use Rattle.alb_table.specs.Block.{spread}
use Rattle.alb_table.specs.Right.{IsWithinDegree}
use Rattle.alb_trace.specs.Adds.{item_times}
use Rattle.alb_trace.specs.Trace.{mono_less, PushesItems}
use Rattle.alb_trace.proofs.ProductLemmas.{pushes-nothing, pushes-term, term-is, term-holds}
use Rattle.alb_trace.proofs.PushLemmas.{pushes-item}
use Rattle.alb_trace.proofs.trace.Trace.add_monomials.Goals as goal

pub loop-term-init : goal.loop-term-init
loop-term-init c = pushes-nothing (forms c.args.ground.now.rules.now) c.args.ground.now.tables.now c.args.self.now c.args.sum.now.items.items c.requires.trace

pub monomial_line-requires-clause-trace : goal.monomial_line-requires-clause-trace
monomial_line-requires-clause-trace c = c.loop-term.invariant.trace

pub monomial_line-requires-clause-within : goal.monomial_line-requires-clause-within
monomial_line-requires-clause-within c =
    term-holds (λ (s : ℕ × Tree). IsWithinDegree c.args.ground.now.tables.now.target c.args.ground.now.tables.now.degree s.1) c.terms-term-items.result.now c.args.g.now c.loop-term.term-index c.term-item.result
    c.terms-term-items.ensures.value c.requires.within c.loop-term-test.true c.term-item.is

pub loop-term-preserved : goal.loop-term-preserved
loop-term-preserved c =
    let s : ℕ × Tree = term c.term-item.result in
    let l : c.loop-term.term-index < length (terms c.terms-term-items.result.now) = omega (arith, length-map c.terms-term-items.result.now term, c.loop-term-test.true) in
    let r = term-holds (λ (x : ℕ × Tree). x.0 < c.args.ground.now.tables.now.p) c.terms-term-items.result.now c.args.g.now c.loop-term.term-index c.term-item.result c.terms-term-items.ensures.value c.requires.residues c.loop-term-test.true c.term-item.is in
    let e = term-is c.terms-term-items.result.now c.loop-term.term-index c.term-item.result c.loop-term-test.true c.term-item.is in
    let q : c.add.new.self.items.items ≡ c.loop-term.sum.items.items ++ item_times c.term-item.result.coef c.in_ok-cited.cited = search rules in
    let one = pushes-item (forms c.args.ground.now.rules.now) c.args.ground.now.tables.now c.loop-term.self c.monomial_line.new.self c.loop-term.sum.items.items c.in_ok-cited.cited c.term-item.result.coef (mono_less c.args.ground.now.tables.now (tree c.term-item.result.mono)) r c.in_ok-cited.ensures in
    pushes-term (forms c.args.ground.now.rules.now) c.args.ground.now.tables.now c.args.self.now c.loop-term.self c.monomial_line.new.self c.args.sum.now.items.items c.loop-term.sum.items.items c.add.new.self.items.items
    (mono_less c.args.ground.now.tables.now) (terms c.terms-term-items.result.now) c.loop-term.term-index (term c.term-item.result) l c.loop-term.invariant
    (subst (λ (x : ℕ × Tree). PushesItems (forms c.args.ground.now.rules.now) c.args.ground.now.tables.now c.loop-term.self c.monomial_line.new.self c.loop-term.sum.items.items c.add.new.self.items.items (scale x.0 (mono_less c.args.ground.now.tables.now x.1))) e
    (subst (λ (xs : List (ℕ × ℕ)). PushesItems (forms c.args.ground.now.rules.now) c.args.ground.now.tables.now c.loop-term.self c.monomial_line.new.self c.loop-term.sum.items.items xs (scale s.0 (mono_less c.args.ground.now.tables.now s.1))) (sym q) one))

pub returns : goal.returns
returns c =
    let l : length (terms c.terms-term-items.result.now) ≤ c.loop-term.term-index = omega (arith, length-map c.terms-term-items.result.now term, c.loop-term-test.false) in
    let e = take_all c.loop-term.term-index (terms c.terms-term-items.result.now) l ∙ c.terms-term-items.ensures.value in
    subst (λ (f : List (ℕ × Tree)). PushesItems (forms c.args.ground.now.rules.now) c.args.ground.now.tables.now c.args.self.now c.loop-term.self c.args.sum.now.items.items c.loop-term.sum.items.items (spread (mono_less c.args.ground.now.tables.now) f)) e c.loop-term.invariant
