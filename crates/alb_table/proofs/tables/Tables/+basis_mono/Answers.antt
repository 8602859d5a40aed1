use Rattle.std.proofs.Common.{rules, ◌≡◌, ◌∙◌, ◌<◌, sym, ap, arith}
use Rattle.std.proofs.lemmas.Result.{IfOk-weaker}
use Rattle.alb_mono.specs.Tree.{tree, node}
use Rattle.alb_table.specs.declared.part.Elem.TheVariants.{Gen, Prod}
use Rattle.alb_table.specs.Table.{mono_at, FactorsBelow}
use Rattle.alb_table.proofs.MonoLemmas.{mono_step}
use Rattle.alb_table.proofs.tables.Tables.+basis_mono.Goals as goal

pub basis_mono-requires : goal.basis_mono-requires
basis_mono-requires t c =
    let f : FactorsBelow c.args.b (Prod c.in-Prod.l c.in-Prod.r) = rw c.in-Prod.is at c.elem.ensures.factors in
    let a : c.in-Prod.l < c.args.b = f.0 in
    (search rules, omega arith)

pub basis_mono-requires-in-Prod : goal.basis_mono-requires-in-Prod
basis_mono-requires-in-Prod t c =
    let f : FactorsBelow c.args.b (Prod c.in-Prod.l c.in-Prod.r) = rw c.in-Prod.is at c.elem.ensures.factors in
    let a : c.in-Prod.r < c.args.b = f.1 in
    (search rules, omega arith)

pub returns-in-Gen : goal.returns-in-Gen
returns-in-Gen t c =
    sym (mono_step c.args.self.now c.args.b (Gen c.in-Gen.k) c.degree.ensures.table c.requires (rw c.in-Gen.is at c.elem.ensures.value))

pub returns-in_ok-right-in-Prod : goal.returns-in_ok-right-in-Prod
returns-in_ok-right-in-Prod t c =
    let s : mono_at c.args.self.now.parts c.args.b ≡ node (mono_at c.args.self.now.parts c.in-Prod.l) (mono_at c.args.self.now.parts c.in-Prod.r) =
    mono_step c.args.self.now c.args.b (Prod c.in-Prod.l c.in-Prod.r) c.degree.ensures.table c.requires (rw c.in-Prod.is at c.elem.ensures.value) in
    let q : node (tree c.in_ok-left-in-Prod.left) (tree c.in_ok-right-in-Prod.right) ≡ mono_at c.args.self.now.parts c.args.b =
    ap (λ x. node x (tree c.in_ok-right-in-Prod.right)) c.in_ok-left-in-Prod.ensures ∙ ap (node (mono_at c.args.self.now.parts c.in-Prod.l)) c.in_ok-right-in-Prod.ensures ∙ sym s in
    IfOk-weaker c.product.result _ _ (λ m e. e ∙ q) c.product.ensures
