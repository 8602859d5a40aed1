use Rattle.std.proofs.Common.{◌≡◌, [], ◌∷◌, codes, ap}
use Rattle.alb_io.proofs.Writers.{Writes-exit, Writes-more, Writes-text, Writes-then}
use Rattle.alb_print.specs.Text.{named}
use Rattle.alb_table.specs.Table.{dim_of, count_products, count_coefficients}
use Rattle.alb_sampling.proofs.sample.write_size.Goals as goal

pub returns-in_err-write_named : goal.returns-in_err-write_named
returns-in_err-write_named g c =
    let is : c.from.result ≡ dim_of c.args.tables.now.parts (4 ∷ 4 ∷ []) = cc in
    Writes-exit _ _ c.from_residual.ensures.1 (Writes-more _ (Writes-text (ap (named (codes ", dimension ")) is) c.in_err-write_named.ensures))

pub returns-in_err-write_named-2 : goal.returns-in_err-write_named-2
returns-in_err-write_named-2 g c =
    let is : c.from.result ≡ dim_of c.args.tables.now.parts (4 ∷ 4 ∷ []) = cc in
    Writes-exit _ _ c.from_residual-in_err-write_named-2.ensures.1
    (Writes-then (Writes-text (ap (named (codes ", dimension ")) is) c.in_ok-write_named.ensures)
    (Writes-more _ (Writes-text (ap (named (codes ", products ")) c.products.ensures) c.in_err-write_named-2.ensures)))

pub returns-in_err-write_named-3 : goal.returns-in_err-write_named-3
returns-in_err-write_named-3 g c =
    let is : c.from.result ≡ dim_of c.args.tables.now.parts (4 ∷ 4 ∷ []) = cc in
    Writes-exit _ _ c.from_residual-in_err-write_named-3.ensures.1
    (Writes-then (Writes-text (ap (named (codes ", dimension ")) is) c.in_ok-write_named.ensures)
    (Writes-then (Writes-text (ap (named (codes ", products ")) c.products.ensures) c.in_ok-write_named-2.ensures)
    (Writes-more _ (Writes-text (ap (named (codes ", coefficients ")) c.coefficients.ensures) c.in_err-write_named-3.ensures))))

pub returns : goal.returns
returns g c =
    let is : c.from.result ≡ dim_of c.args.tables.now.parts (4 ∷ 4 ∷ []) = cc in
    Writes-then (Writes-text (ap (named (codes ", dimension ")) is) c.in_ok-write_named.ensures)
    (Writes-then (Writes-text (ap (named (codes ", products ")) c.products.ensures) c.in_ok-write_named-2.ensures)
    (Writes-then (Writes-text (ap (named (codes ", coefficients ")) c.coefficients.ensures) c.in_ok-write_named-3.ensures) c.put_all.ensures))
