use Rattle.std.proofs.Common.{◌≡◌, ◌∙◌, sym, ap}
use Rattle.gf_sums.specs.Sums.{total}
use Rattle.alb_mono.specs.Tree.{splits}
use Rattle.alb_subst.specs.Products.{split_size}
use Rattle.alb_subst.proofs.ProductLemmas.{sizes-fit, length-products_of}
use Rattle.alb_subst.proofs.products.count_of_type.Goals as goal

pub count_products-requires : goal.count_products-requires
count_products-requires c =
    let e : c.deref.result.now ≡ splits c.args.t.now = c.deref.ensures.value ∙ c.in_ok-pairs.ensures in
    rw e (sizes-fit c.args.tables.now.parts c.args.t.now c.degree.ensures.table.countable.elements)

pub returns : goal.returns
returns c =
    let e : c.deref.result.now ≡ splits c.args.t.now = c.deref.ensures.value ∙ c.in_ok-pairs.ensures in
    c.count_products.ensures ∙ ap (total (split_size c.args.tables.now.parts)) e ∙ sym (length-products_of c.args.tables.now.parts (splits c.args.t.now))
