use Rattle.std.proofs.Common.{◌≡◌, ◌&&◌, ◌==◌, true, false, sym, rules, arith, ◌≢◌, ℕ}
use Rattle.std.proofs.lemmas.Bool.Decides.{nat_tests}
use Rattle.std.proofs.lemmas.List.Sorted.{IsPartitionPoint-from_clause}
use Rattle.alb_check.specs.Products.{is_pair_before}
use Rattle.alb_check.proofs.ProductLemmas.{is_pair, parted, at_end, at_pair, at_other}
use Rattle.alb_check.proofs.product.product_at.Goals as goal
use Rattle.alb_check.proofs.product.product_at.Goals.{else-x-left-via-then-x-left+else-x-right, else-x-left-via-else-x-left}

here : (a b i j : ℕ) → a ≡ i → b ≡ j → (a == i && b == j) ≡ true
here a b i j h k = grind (arith, nat_tests)

left_other : (a b i j : ℕ) → a ≢ i → (a == i && b == j) ≡ false
left_other a b i j h = grind (arith, nat_tests)

right_other : (a b i j : ℕ) → b ≢ j → (a == i && b == j) ≡ false
right_other a b i j h = grind (arith, nat_tests)

pub returns-in_default : goal.returns-in_default
returns-in_default c =
    let xs = c.args.products.now in
    let asc = c.requires.1.ascending in
    let point = IsPartitionPoint-from_clause (λ x. is_pair_before x.left x.right c.args.left c.args.right) xs c.partition_point-at.result
    c.partition_point-at.ensures.partitioned (parted xs c.args.left c.args.right asc) (λ a r q k. search rules) in
    at_end xs c.args.left c.args.right asc c.partition_point-at.result point c.in_default.ensures.lookup.3

pub returns-then-x-right : goal.returns-then-x-right
returns-then-x-right c =
    let xs = c.args.products.now in
    let asc = c.requires.1.ascending in
    let point = IsPartitionPoint-from_clause (λ x. is_pair_before x.left x.right c.args.left c.args.right) xs c.partition_point-at.result
    c.partition_point-at.ensures.partitioned (parted xs c.args.left c.args.right asc) (λ a r q k. search rules) in
    let l = c.in-Some.ensures.lookup.3 in
    sym (at_pair xs c.args.left c.args.right asc c.partition_point-at.result point c.in-Some.x.now l.0 (l.1 c.in-Some.x.now)
    (here c.in-Some.x.now.left c.in-Some.x.now.right c.args.left c.args.right c.if-x-left.true c.if-x-right.true))

pub returns-else-x-left : goal.returns-else-x-left
returns-else-x-left c =
    let xs = c.args.products.now in
    let asc = c.requires.1.ascending in
    let x = c.in-Some.x.now in
    let point = IsPartitionPoint-from_clause (λ x. is_pair_before x.left x.right c.args.left c.args.right) xs c.partition_point-at.result
    c.partition_point-at.ensures.partitioned (parted xs c.args.left c.args.right asc) (λ a r q k. search rules) in
    let l = c.in-Some.ensures.lookup.3 in
    let other : is_pair c.args.left c.args.right x ≡ false = elim c.else-x-left.branch [
      | else-x-left-via-then-x-left+else-x-right w ↦ right_other x.left x.right c.args.left c.args.right w.if-x-right.false
      | else-x-left-via-else-x-left w ↦ left_other x.left x.right c.args.left c.args.right w.if-x-left.false
    ] in
    at_other xs c.args.left c.args.right asc c.partition_point-at.result point x l.0 (l.1 x) other
