use Rattle.std.proofs.Common.{◌≡◌, ℕ, List, get_or, length, sym, subst}
use Rattle.alb_mono.specs.Tree.{tree}
use Rattle.alb_mono.proofs.Leaves.{below_from_test}
use Rattle.alb_poly.specs.Consequence.{forms}
use Rattle.alb_deriv.specs.Numbered.{IsNumbered}
use Rattle.alb_deriv.proofs.LineLemmas.{place-found, table-positive}
use Rattle.alb_deriv.proofs.ValueLemmas.{numbered-small, beside-value, beside-numbered}
use Rattle.alb_deriv.proofs.values.times_value.Goals as goal

pub beside_value-requires-clause-small : goal.beside_value-requires-clause-small
beside_value-requires-clause-small c =
    let p = c.args.rules.now.field in
    let target = c.args.rules.now.target in
    let values = c.args.values.now in
    let i = c.in-Some.at in
    let f : List (ℕ × ℕ) = c.terms.result.now in
    let q = place-found (length values) c.args.k i c.in-Some.ensures in
    let own : f ≡ get_or values i f = subst (λ (x : List (ℕ × ℕ)). x ≡ get_or values i x) (sym c.terms.ensures) c.index-values-at.is in
    numbered-small p target c.args.numbers.now f c.requires.rules.low (subst (IsNumbered p target c.args.numbers.now) (sym own) (c.requires.numbered i f q.below))

pub returns-clause-value : goal.returns-clause-value
returns-clause-value c = λ gs e.
    let p = c.args.rules.now.field in
    let target = c.args.rules.now.target in
    let values = c.args.values.now in
    let i = c.in-Some.at in
    let f : List (ℕ × ℕ) = c.terms.result.now in
    let q = place-found (length values) c.args.k i c.in-Some.ensures in
    let own : f ≡ get_or values i f = subst (λ (x : List (ℕ × ℕ)). x ≡ get_or values i x) (sym c.terms.ensures) c.index-values-at.is in
    let n = subst (IsNumbered p target c.args.numbers.now) (sym own) (c.requires.numbered i f q.below) in
    beside-value p (table-positive p c.requires.rules.prime) target (forms c.args.rules.now) c.args.numbers.now c.beside_value.new.numbers gs values c.args.k i f
    (c.args.side, tree c.args.m.now) c.beside_value.result e q own n c.beside_value.ensures.value

pub returns-clause-numbered : goal.returns-clause-numbered
returns-clause-numbered c =
    let p = c.args.rules.now.field in
    let target = c.args.rules.now.target in
    let values = c.args.values.now in
    let i = c.in-Some.at in
    let f : List (ℕ × ℕ) = c.terms.result.now in
    let q = place-found (length values) c.args.k i c.in-Some.ensures in
    let own : f ≡ get_or values i f = subst (λ (x : List (ℕ × ℕ)). x ≡ get_or values i x) (sym c.terms.ensures) c.index-values-at.is in
    let n = subst (IsNumbered p target c.args.numbers.now) (sym own) (c.requires.numbered i f q.below) in
    beside-numbered p target c.args.numbers.now c.beside_value.new.numbers f (c.args.side, tree c.args.m.now) c.beside_value.result
    (below_from_test (length target) (tree c.args.m.now) c.requires.known) n c.beside_value.ensures.value
