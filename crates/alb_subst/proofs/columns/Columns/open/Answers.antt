use Rattle.std.proofs.Common.{◌≡◌, ◌∙◌, ◌≤◌, sym, subst, ap, length, arith, List, ℕ, reverse}
use Rattle.gf_sums.specs.Sums.{total}
use Rattle.alb_mono.specs.Tree.{splits}
use Rattle.alb_table.specs.Table.{products, products_of}
use Rattle.alb_subst.specs.Columns.{IsDistinct}
use Rattle.alb_subst.specs.Products.{split_size}
use Rattle.alb_subst.proofs.ProductLemmas.{sizes-fit, length-products_of, distinct-reverse, distinct-products}
use Rattle.alb_subst.proofs.columns.Columns.open.Goals as goal

pub count_products-products-requires : goal.count_products-products-requires
count_products-products-requires c =
    let e : c.deref.result.now ≡ splits c.args.t.now = c.deref.ensures.value ∙ c.in_ok-pairs.ensures in
    rw e (sizes-fit c.args.tables.now.parts c.args.t.now c.degree.ensures.table.countable.elements)

pub returns-then-products-gt-MOST_PRODUCTS : goal.returns-then-products-gt-MOST_PRODUCTS
returns-then-products-gt-MOST_PRODUCTS c =
    let e : c.deref.result.now ≡ splits c.args.t.now = c.deref.ensures.value ∙ c.in_ok-pairs.ensures in (
      c.count_products-products.ensures ∙ ap (total (split_size c.args.tables.now.parts)) e ∙ sym (length-products_of c.args.tables.now.parts (splits c.args.t.now)),
      c.if-products-gt-MOST_PRODUCTS.true,
    )

pub numbered-requires-clause-distinct : goal.numbered-requires-clause-distinct
numbered-requires-clause-distinct c =
    let l : c.in_ok-list.list.items ≡ products c.args.tables.now.parts c.args.t.now =
    c.in_ok-list.ensures ∙ ap (products_of c.args.tables.now.parts) (c.deref-2.ensures.value ∙ c.in_ok-pairs.ensures) in
    subst (λ (xs : List (ℕ × ℕ)). IsDistinct (reverse xs)) (sym l)
    (distinct-reverse (products c.args.tables.now.parts c.args.t.now) (distinct-products c.args.tables.now.parts c.args.t.now))

pub numbered-requires-clause-few : goal.numbered-requires-clause-few
numbered-requires-clause-few c =
    let e : c.deref.result.now ≡ splits c.args.t.now = c.deref.ensures.value ∙ c.in_ok-pairs.ensures in
    let l : c.in_ok-list.list.items ≡ products c.args.tables.now.parts c.args.t.now =
    c.in_ok-list.ensures ∙ ap (products_of c.args.tables.now.parts) (c.deref-2.ensures.value ∙ c.in_ok-pairs.ensures) in
    let n : c.count_products-products.result ≡ length (products c.args.tables.now.parts c.args.t.now) =
    c.count_products-products.ensures ∙ ap (total (split_size c.args.tables.now.parts)) e ∙ sym (length-products_of c.args.tables.now.parts (splits c.args.t.now)) in
    let m : length c.in_ok-list.list.items ≡ length (products c.args.tables.now.parts c.args.t.now) = ap length l in
    let f : c.count_products-products.result ≤ 4096 = c.if-products-gt-MOST_PRODUCTS.false in
    omega arith
