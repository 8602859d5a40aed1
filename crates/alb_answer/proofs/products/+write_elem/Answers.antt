use Rattle.std.proofs.Common.{true, sym, codes}
use Rattle.alb_io.proofs.Writers.{Writes-exit, Writes-more, Writes-then}
use Rattle.alb_table.specs.declared.part.Elem.TheVariants.{Gen, Prod}
use Rattle.alb_table.specs.Table.{mono_at}
use Rattle.alb_table.proofs.MonoLemmas.{mono_step}
use Rattle.alb_print.specs.Text.{mono_text}
use Rattle.alb_answer.proofs.products.+write_elem.Goals as goal

pub returns-in_err-write_elem-in-Prod : goal.returns-in_err-write_elem-in-Prod
returns-in_err-write_elem-in-Prod g t c =
    let step = mono_step c.args.tables.now c.args.b (Prod c.in-Prod.left c.in-Prod.right) c.degree.ensures.table c.requires.number c.in-Prod.ensures.value in
    rw (step, c.if-not-inner.true) (Writes-exit _ _ c.from_residual.ensures.1 (Writes-more _ c.in_err-write_elem-in-Prod.ensures))

pub returns-then-not-inner : goal.returns-then-not-inner
returns-then-not-inner g t c =
    let step = mono_step c.args.tables.now c.args.b (Prod c.in-Prod.left c.in-Prod.right) c.degree.ensures.table c.requires.number c.in-Prod.ensures.value in
    rw (step, c.if-not-inner.true) (Writes-then c.in_ok-write_elem-in-Prod.ensures c.write_elem-then-not-inner.ensures)

pub returns-in_err-put_all-in-Prod : goal.returns-in_err-put_all-in-Prod
returns-in_err-put_all-in-Prod g t c =
    let step = mono_step c.args.tables.now c.args.b (Prod c.in-Prod.left c.in-Prod.right) c.degree.ensures.table c.requires.number c.in-Prod.ensures.value in
    rw (step, c.if-not-inner.false) (Writes-exit _ _ c.from_residual-in_err-put_all-in-Prod.ensures.1 (Writes-more _ c.in_err-put_all-in-Prod.ensures))

pub returns-in_err-write_elem-in-Prod-2 : goal.returns-in_err-write_elem-in-Prod-2
returns-in_err-write_elem-in-Prod-2 g t c =
    let step = mono_step c.args.tables.now c.args.b (Prod c.in-Prod.left c.in-Prod.right) c.degree.ensures.table c.requires.number c.in-Prod.ensures.value in
    let right = mono_text c.args.letters.now true (mono_at c.args.tables.now.parts c.in-Prod.right) in
    rw (step, c.if-not-inner.false)
    (Writes-exit _ _ c.from_residual-in_err-write_elem-in-Prod-2.ensures.1
    (Writes-then c.in_ok-put_all-in-Prod.ensures (Writes-more (codes ")") (Writes-more right c.in_err-write_elem-in-Prod-2.ensures))))

pub returns-in_err-write_elem-in-Prod-3 : goal.returns-in_err-write_elem-in-Prod-3
returns-in_err-write_elem-in-Prod-3 g t c =
    let step = mono_step c.args.tables.now c.args.b (Prod c.in-Prod.left c.in-Prod.right) c.degree.ensures.table c.requires.number c.in-Prod.ensures.value in
    rw (step, c.if-not-inner.false)
    (Writes-exit _ _ c.from_residual-in_err-write_elem-in-Prod-3.ensures.1
    (Writes-then c.in_ok-put_all-in-Prod.ensures
    (Writes-more (codes ")") (Writes-then c.in_ok-write_elem-in-Prod-2.ensures c.in_err-write_elem-in-Prod-3.ensures))))

pub returns-in_ok-write_elem-in-Prod-3 : goal.returns-in_ok-write_elem-in-Prod-3
returns-in_ok-write_elem-in-Prod-3 g t c =
    let step = mono_step c.args.tables.now c.args.b (Prod c.in-Prod.left c.in-Prod.right) c.degree.ensures.table c.requires.number c.in-Prod.ensures.value in
    rw (step, c.if-not-inner.false)
    (Writes-then c.in_ok-put_all-in-Prod.ensures
    (Writes-then (Writes-then c.in_ok-write_elem-in-Prod-2.ensures c.in_ok-write_elem-in-Prod-3.ensures) c.put_all-in-Prod-2.ensures))

pub returns-in-Gen : goal.returns-in-Gen
returns-in-Gen g t c =
    let step = mono_step c.args.tables.now c.args.b (Gen c.in-Gen.k) c.degree.ensures.table c.requires.number c.in-Gen.ensures.value in
    rw (step, sym c.letter.ensures) c.put_all.ensures
