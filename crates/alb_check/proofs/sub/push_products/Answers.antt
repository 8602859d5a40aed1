use Rattle.std.proofs.Common.{◌≡◌, ◌∙◌, ◌+◌, ◌++◌, ℕ, List, false, ap, sym, length, get_or, take, append-nil}
use Rattle.std.specs.List.{flat_map}
use Rattle.alb_check.specs.declared.raw.RawEntry.{RawEntry}
use Rattle.alb_check.proofs.sub.push_products.Goals.{then-le+in_ok-push_product, else-le}
use Rattle.std.proofs.lemmas.List.{length-map}
use Rattle.alb_mono.specs.Tree.{type_le, type_plus, rising, type_minus}
use Rattle.alb_mono.proofs.TypesListing.{length-minus}
use Rattle.alb_table.specs.Table.{elems, type_at}
use Rattle.alb_check.specs.SubTable.{number_of, product_entries}
use Rattle.alb_check.proofs.SubCode.{kept-at, piece-push, rest-fits, entry-equal}
use Rattle.alb_check.proofs.SubShape.{length-rising}
use Rattle.alb_check.proofs.sub.push_products.Goals as goal

pub type_at-requires-in-loop-right : goal.type_at-requires-in-loop-right
type_at-requires-in-loop-right c =
    (kept-at c.args.tables.now c.args.top.now c.deref-right-items.result.now c.loop-right.right-index (c.deref-right-items.ensures.value ∙ c.requires.elements) c.loop-right-test.true).below

pub le-requires : goal.le-requires
le-requires c =
    c.type_at-in-loop-right.ensures.long
    ∙ sym (ap length c.minus-rest.ensures ∙ length-minus c.args.top.now c.type_at.result.now (c.type_at.ensures.long ∙ sym c.requires.long) ∙ c.requires.long)

pub push_product-requires-clause-numbers : goal.push_product-requires-clause-numbers
push_product-requires-clause-numbers c =
    let t = c.args.tables.now in
    ap length (c.deref.ensures.value ∙ c.requires.numbers)
    ∙ length-map (rising 0 (length (elems t.parts))) (number_of t c.args.top.now) ∙ length-rising 0 (length (elems t.parts))

pub push_product-requires-clause-right : goal.push_product-requires-clause-right
push_product-requires-clause-right c =
    (kept-at c.args.tables.now c.args.top.now c.deref-right-items.result.now c.loop-right.right-index (c.deref-right-items.ensures.value ∙ c.requires.elements) c.loop-right-test.true).below

pub loop-right-preserved : goal.loop-right-preserved
loop-right-preserved c =
    let t = c.args.tables.now in
    let top = c.args.top.now in
    let left = c.args.left in
    let kept = c.args.kept.now in
    let xs : List ℕ = c.deref-right-items.result.now in
    let k = c.loop-right.right-index in
    let right : ℕ = get_or xs k 0 in
    let here = kept-at t top xs k (c.deref-right-items.ensures.value ∙ c.requires.elements) c.loop-right-test.true in
    let e : kept.elements.items ≡ xs = sym c.deref-right-items.ensures.value in
    let long : length (type_at t.parts left) ≡ length top = ap length (sym c.type_at.ensures.value) ∙ c.type_at.ensures.long ∙ sym c.requires.long in
    let long_right : length (type_at t.parts right) ≡ length top =
    ap length (sym c.type_at-in-loop-right.ensures.value) ∙ c.type_at-in-loop-right.ensures.long ∙ sym c.requires.long in
    let test : c.le.result ≡ type_le (type_plus (type_at t.parts left) (type_at t.parts right)) top =
    c.le.ensures ∙ ap (λ (w : List ℕ). type_le w c.minus-rest.result) c.type_at-in-loop-right.ensures.value
    ∙ ap (type_le (type_at t.parts right)) (c.minus-rest.ensures ∙ ap (type_minus top) c.type_at.ensures.value)
    ∙ rest-fits (type_at t.parts left) (type_at t.parts right) top long long_right c.requires.within in
    let more : (new : List RawEntry) → new ≡ c.loop-right.entries.items ++ product_entries t top left right →
    new ≡ c.args.entries.now.items ++ flat_map (product_entries t top left) (take (k + 1) kept.elements.items) = λ new n.
    piece-push (product_entries t top left) xs c.args.entries.now.items c.loop-right.entries.items new k 0 c.loop-right-test.true
    (c.loop-right.invariant ∙ ap (λ ys. c.args.entries.now.items ++ flat_map (product_entries t top left) (take k ys)) e) n
    ∙ ap (λ ys. c.args.entries.now.items ++ flat_map (product_entries t top left) (take (k + 1) ys)) (sym e) in
    elim c.if-le.branch [
      | then-le+in_ok-push_product w ↦ more c.if-le.entries.items
          (ap (λ v. v.items) w.entries-is ∙ w.in_ok-push_product.ensures
          ∙ ap (λ es. c.loop-right.entries.items ++ es)
          (entry-equal t top w.deref.result.now left right c.degree.ensures.table (w.deref.ensures.value ∙ c.requires.numbers) c.requires.left here.below
          (sym test ∙ w.if-le.true)))
      | else-le w ↦ let f : type_le (type_plus (type_at t.parts left) (type_at t.parts right)) top ≡ false = sym test ∙ w.if-le.false in
          more c.if-le.entries.items (ap (λ v. v.items) w.entries-is ∙ rw f (sym (append-nil c.loop-right.entries.items)))
    ]
