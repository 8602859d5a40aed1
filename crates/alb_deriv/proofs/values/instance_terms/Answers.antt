use Rattle.std.proofs.Common.{◌≡◌, ◌∙◌, ◌<◌, ℕ, All, length, map, sym, ap, subst}
use Rattle.std.proofs.lemmas.Result.{IfOk-weaker}
use Rattle.alb_mono.specs.Listing.{Each}
use Rattle.alb_mono.specs.Tree.{tree}
use Rattle.alb_poly.specs.Consequence.{form}
use Rattle.alb_poly.specs.Instance.{fill, instance, IsMultilinear}
use Rattle.alb_poly.specs.Poly.{AreResidues, normal}
use Rattle.alb_poly.proofs.Multilinear.{all_from_each}
use Rattle.alb_linear.proofs.LinearLemmas.{position-terms, residues-reindex}
use Rattle.alb_deriv.specs.Answers.{IsPolyAtMost}
use Rattle.alb_deriv.specs.Numbered.{IsFit, read, said}
use Rattle.alb_deriv.proofs.ValueLemmas.{fit-from, residues-from, instance-read, same-length}
use Rattle.alb_deriv.proofs.values.instance_terms.Goals as goal

pub filled_terms-requires-clause-positions : goal.filled_terms-requires-clause-positions
filled_terms-requires-clause-positions c =
    let n = length c.deref.result.now in
    let full : n ≡ c.args.linear.now.degree =
    same-length c.all_numbers.new.numbers c.deref.result.now c.in_ok-ns.ns.items c.args.ms.now c.in_ok-ns.ensures.value c.deref.ensures.value ∙ c.requires.full in
    position-terms n c.terms.result.now c.args.linear.now.terms c.terms.ensures.value
    (subst (λ k. Each (λ t. IsMultilinear k t.1) c.args.linear.now.terms) (sym full) c.requires.linearized.multilinear)

pub collected-requires-clause-residues : goal.collected-requires-clause-residues
collected-requires-clause-residues c =
    let p = c.args.field.now in
    let b = c.filled_terms.new.numbers in
    let f = c.args.linear.now.terms in
    let is = instance-read c.all_numbers.new.numbers b c.deref.result.now c.in_ok-ns.ns.items c.args.ms.now c.terms.result.now f c.in_ok-list.list.items
    c.in_ok-ns.ensures.value c.deref.ensures.value c.terms.ensures.value c.in_ok-list.ensures.value in
    subst (All (λ (t : ℕ × ℕ). t.0 < p)) (sym c.deref-2.ensures.value)
    (residues-from p b c.in_ok-list.list.items (subst (AreResidues p) (sym is) (residues-reindex p (fill (map tree c.args.ms.now)) f c.requires.linearized.residues)))

pub returns-clause-value : goal.returns-clause-value
returns-clause-value c =
    let p = c.args.field.now in
    let b = c.filled_terms.new.numbers in
    let f = c.args.linear.now.terms in
    let is = instance-read c.all_numbers.new.numbers b c.deref.result.now c.in_ok-ns.ns.items c.args.ms.now c.terms.result.now f c.in_ok-list.list.items
    c.in_ok-ns.ensures.value c.deref.ensures.value c.terms.ensures.value c.in_ok-list.ensures.value in
    IfOk-weaker c.collected.result (λ g. said p b g ≡ said p b c.deref-2.result.now) (λ g. said p b g ≡ normal p (instance (form c.args.linear.now) (map tree c.args.ms.now)))
    (λ g e. e ∙ ap (normal p) (ap (read b) c.deref-2.ensures.value ∙ is))
    (c.collected.ensures.value b)

pub returns-clause-numbered : goal.returns-clause-numbered
returns-clause-numbered c = λ target fit.
    let b = c.filled_terms.new.numbers in
    let f = c.args.linear.now.terms in
    let list = c.in_ok-list.list.items in
    let is = instance-read c.all_numbers.new.numbers b c.deref.result.now c.in_ok-ns.ns.items c.args.ms.now c.terms.result.now f list
    c.in_ok-ns.ensures.value c.deref.ensures.value c.terms.ensures.value c.in_ok-list.ensures.value in
    c.collected.ensures.numbered target b c.len.ensures.different
    (subst (All (λ (t : ℕ × ℕ). IsFit target b t.1)) (sym c.deref-2.ensures.value)
    (all_from_each (λ (t : ℕ × ℕ). IsFit target b t.1) list (fit-from target b list c.in_ok-list.ensures.within (subst (IsPolyAtMost target) (sym is) fit))))
