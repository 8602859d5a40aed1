use Rattle.std.proofs.Common.{◌≡◌, ◌<◌, length}
use Rattle.std.proofs.lemmas.Bool.{ltb-true}
use Rattle.alb_mono.specs.Tree.{tree}
use Rattle.alb_poly.specs.Poly.{normal}
use Rattle.alb_poly.proofs.Images.{value_of, images_small, image_itself, product_values}
use Rattle.alb_poly.proofs.substitution.+image.Goals as goal

pub mul-requires-clause-small : goal.mul-requires-clause-small
mul-requires-clause-small t c =
    let p = c.args.field.now in
    let us = c.args.images.now in
    let l : c.in_ok-left-in-Prod.left ≡ normal p (value_of us (tree c.in-Prod.left.value)) = rw c.deref.ensures at c.in_ok-left-in-Prod.ensures.value in
    let r : c.in_ok-right-in-Prod.right ≡ normal p (value_of us (tree c.in-Prod.right.value)) = rw c.deref-in-Prod.ensures at c.in_ok-right-in-Prod.ensures.value in
    let s = images_small p us (tree c.in-Prod.left.value) (tree c.in-Prod.right.value) (rw c.in-Prod.is at c.requires.small) in
    rw (l, r) s

pub returns-in-Gen-clause-value : goal.returns-in-Gen-clause-value
returns-in-Gen-clause-value t c =
    let p = c.args.field.now in
    let us = c.args.images.now in
    let k : c.in-Gen.k < length us = ltb-true c.in-Gen.k (length us) (rw c.in-Gen.is at c.requires.known) in
    let e = image_itself p us c.in-Gen.k c.index-images-k.result k c.index-images-k.is c.try_copy.ensures.descending c.requires.residues in
    rw c.in-Gen.is (rw (← e) c.try_copy.ensures.value)

pub returns-in_ok-right-in-Prod-clause-value : goal.returns-in_ok-right-in-Prod-clause-value
returns-in_ok-right-in-Prod-clause-value t c =
    let p = c.args.field.now in
    let us = c.args.images.now in
    let l : c.in_ok-left-in-Prod.left ≡ normal p (value_of us (tree c.in-Prod.left.value)) = rw c.deref.ensures at c.in_ok-left-in-Prod.ensures.value in
    let r : c.in_ok-right-in-Prod.right ≡ normal p (value_of us (tree c.in-Prod.right.value)) = rw c.deref-in-Prod.ensures at c.in_ok-right-in-Prod.ensures.value in
    let e = product_values p us (tree c.in-Prod.left.value) (tree c.in-Prod.right.value) c.in_ok-left-in-Prod.left c.in_ok-right-in-Prod.right c.requires.positive l r in
    rw c.in-Prod.is (rw e at c.mul.ensures.value)
