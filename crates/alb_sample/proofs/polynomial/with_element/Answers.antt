use Rattle.std.proofs.Common.{◌<◌, ◌≡◌, ◌≤◌, ◌∙◌, ◌++◌, ◌∷◌, [], ℕ, length, sym, ap, subst, true}
use Rattle.std.specs.Prelude.{Option, IfSome}
use Rattle.std.proofs.lemmas.Result.{IfOk-weaker}
use Rattle.alb_mono.specs.Tree.{Tree, degree, are_below}
use Rattle.alb_poly.specs.Poly.{normal}
use Rattle.alb_table.specs.Table.{elems, mono_at}
use Rattle.alb_table.proofs.TableValues.{mono-degree, mono-letters}
use Rattle.alb_sample.specs.Problem.{sample_view}
use Rattle.alb_sample.specs.Sample.{element_poly}
use Rattle.alb_sample.proofs.PolyLemmas.{element-normal}
use Rattle.alb_sample.proofs.polynomial.with_element.Goals as goal

pub term-requires-clause-small : goal.term-requires-clause-small
term-requires-clause-small c =
    let l = subst (λ (o : Option ℕ). IfSome o (λ b. b < length (elems c.args.tables.now.parts))) c.in-Some.is c.requires.below in
    subst (λ (m : Tree). degree m ≤ 64) (sym c.in_ok-mono-in-Some.ensures) (mono-degree sample_view c.args.tables.now c.requires.right c.in-Some.b l)

pub term-requires-clause-known : goal.term-requires-clause-known
term-requires-clause-known c =
    let l = subst (λ (o : Option ℕ). IfSome o (λ b. b < length (elems c.args.tables.now.parts))) c.in-Some.is c.requires.below in
    subst (λ (m : Tree). are_below 26 m ≡ true) (sym c.in_ok-mono-in-Some.ensures) (mono-letters sample_view c.args.tables.now c.requires.right c.in-Some.b l)

pub returns-in_ok-one-in-Some : goal.returns-in_ok-one-in-Some
returns-in_ok-one-in-Some c f e =
    IfOk-weaker c.add.result _ _ (λ h is.
    is ∙ element-normal _ f c.args.g c.in_ok-one-in-Some.one (mono_at c.args.tables.now.parts c.in-Some.b) (c.field.ensures ∙ c.requires.right.field) e
    (c.in_ok-one-in-Some.ensures ∙ ap (λ (m : Tree). (1, m) ∷ []) c.in_ok-mono-in-Some.ensures)
    ∙ ap (λ (o : Option ℕ). normal 251 (f ++ element_poly c.args.tables.now o)) (sym c.in-Some.is)) c.add.ensures.value
