use Rattle.std.proofs.Common.{◌≡◌, ◌∙◌, ap, get_or, subst, List}
use Rattle.alb_table.specs.declared.part.Elem.{Elem}
use Rattle.alb_table.specs.Table.{elems, Table, IsTable}
use Rattle.alb_table.proofs.GridLemmas.{get_some}
use Rattle.alb_table.proofs.MonoLemmas.{elem_factors, elem_generator}
use Rattle.alb_table.proofs.tables.Tables.elem.Goals as goal

pub returns-clause-factors : goal.returns-clause-factors
returns-clause-factors c =
    let t : IsTable c.args.self.now = subst IsTable c.self.view_is c.self.invariant.table in
    let e : c.self.inside.store.elems.items ≡ elems c.args.self.now.parts = c.self.invariant.store.elements ∙ ap (λ (u : Table). elems u.parts) c.self.view_is in
    elem_factors c.args.self.now c.args.b c.index.result.now t c.requires
    (get_some (elems c.args.self.now.parts) c.args.b c.index.result.now c.requires
    (subst (λ (es : List Elem). c.index.result.now ≡ get_or es c.args.b c.index.result.now) e c.index.ensures))

pub returns-clause-generator : goal.returns-clause-generator
returns-clause-generator c =
    let t : IsTable c.args.self.now = subst IsTable c.self.view_is c.self.invariant.table in
    let e : c.self.inside.store.elems.items ≡ elems c.args.self.now.parts = c.self.invariant.store.elements ∙ ap (λ (u : Table). elems u.parts) c.self.view_is in
    elem_generator c.args.self.now c.args.b c.index.result.now t c.requires
    (get_some (elems c.args.self.now.parts) c.args.b c.index.result.now c.requires
    (subst (λ (es : List Elem). c.index.result.now ≡ get_or es c.args.b c.index.result.now) e c.index.ensures))
