use Rattle.std.proofs.Common.{sym, subst, arith}
use Rattle.std.specs.Prelude.{All, IsTrue}
use Rattle.alb_mono.specs.Tree.{are_below}
use Rattle.alb_poly.specs.Poly.{Poly, AreResidues}
use Rattle.alb_poly.proofs.NormalLemmas.{normal-residues}
use Rattle.alb_linear.proofs.LinearLemmas.{all_from_each}
use Rattle.alb_sample.specs.Choice.{consequence}
use Rattle.alb_sample.proofs.PolyLemmas.{drawn-poly, drawn-state, polynomial-known, polynomial-residues}
use Rattle.alb_sample.proofs.polynomial.sample_poly.Goals as goal

pub with_element-requires-clause-residues : goal.with_element-requires-clause-residues
with_element-requires-clause-residues c = subst (AreResidues 251) (sym c.in_ok-g.ensures.value) (normal-residues 251 (consequence c.draw-choice.result) (omega arith))

pub returns-clause-value : goal.returns-clause-value
returns-clause-value c =
    drawn-poly c.args.tables.now c.args.k c.args.draws.now c.draw-choice.new.draws c.draw-choice.result c.type_of.result c.draw_element-element.result c.in_ok-g-2.g
    c.draw-choice.ensures.value c.draw-choice.ensures.state c.type_of.ensures c.draw_element-element.ensures.value
    (c.in_ok-g-2.ensures (consequence c.draw-choice.result) c.in_ok-g.ensures.value)

pub returns-clause-state : goal.returns-clause-state
returns-clause-state c =
    drawn-state c.args.tables.now c.args.k c.args.draws.now c.draw-choice.new.draws c.draw_element-element.new.draws c.draw-choice.result c.type_of.result
    c.draw-choice.ensures.value c.draw-choice.ensures.state c.type_of.ensures c.draw_element-element.ensures.state

pub returns-clause-residues : goal.returns-clause-residues
returns-clause-residues c = subst (AreResidues 251) (sym (returns-clause-value c)) (polynomial-residues c.args.tables.now c.args.k c.args.draws.now)

pub returns-clause-known : goal.returns-clause-known
returns-clause-known c = subst (λ (f : Poly). All (λ t. IsTrue (are_below 2 t.1)) f) (sym (returns-clause-value c))
    (all_from_each _ _ (polynomial-known c.args.tables.now c.requires.right c.args.k c.args.draws.now))
