-- The laws of the order of monomials.
use Rattle.std.proofs.Common.{◌≡◌, ℕ, ◌<◌, sym, refl, ap, ◌∙◌, Ordering, sum, true}
use Rattle.std.proofs.lemmas.Bool.{false≢true, eqb-true}
use Rattle.std.specs.Cmp.{IsTotalOrder}
use Rattle.std.specs.Ordering.{nat_cmp, ordering_then, ordering_reverse}
use Rattle.std.specs.declared.cmp.Ordering.TheVariants.{Less, Equal, Greater}
use Rattle.std.proofs.lemmas.Cmp.{nat_cmp_total, on_total, then_total, back_total, nat_list_cmp_total, tied_itself, alike_right, ranked, by_ranked}
use Rattle.alb_mono.proofs.Both.{and_left, and_right}
use Rattle.alb_mono.proofs.Leaves.{sum-type_of}
use Rattle.alb_mono.specs.Tree.{Tree, leaf, node, degree, are_below, type_of, cmp_types, cmp_trees, cmp_monos, same_tree}

pub cmp_types_total : IsTotalOrder cmp_types
cmp_types_total = then_total (on_total sum nat_cmp_total) (back_total nat_list_cmp_total)

-- the answers at (x, y), (y, z) and (x, z) fit together
record Fits (a b c : Ordering) : Type 0 where
  first : a ≡ Equal → c ≡ b
  second : b ≡ Equal → c ≡ a
  both : a ≡ b → c ≡ a

-- by the first answers, where neither is `Equal`, and else by the second
Fits-then : (a b c a' b' c' : Ordering) → Fits a b c → Fits a' b' c' → Fits (ordering_then a a') (ordering_then b b') (ordering_then c c')
Fits-then Equal Equal c a' b' c' h k = rw (h.first refl) k
Fits-then Equal Less c a' b' c' h k = rw (h.first refl) (record { first = λ e. refl; second = λ e. cc; both = λ e. sym e })
Fits-then Equal Greater c a' b' c' h k = rw (h.first refl) (record { first = λ e. refl; second = λ e. cc; both = λ e. sym e })
Fits-then Less Equal c a' b' c' h k = rw (h.second refl) (record { first = λ e. cc; second = λ e. refl; both = λ e. refl })
Fits-then Greater Equal c a' b' c' h k = rw (h.second refl) (record { first = λ e. cc; second = λ e. refl; both = λ e. refl })
Fits-then Less Less c a' b' c' h k = rw (h.both refl) (record { first = λ e. cc; second = λ e. refl; both = λ e. refl })
Fits-then Greater Greater c a' b' c' h k = rw (h.both refl) (record { first = λ e. cc; second = λ e. refl; both = λ e. refl })
Fits-then Less Greater c a' b' c' h k = record { first = λ e. cc; second = λ e. cc; both = λ e. cc }
Fits-then Greater Less c a' b' c' h k = record { first = λ e. cc; second = λ e. cc; both = λ e. cc }

reverse-then : (a b : Ordering) → ordering_reverse (ordering_then a b) ≡ ordering_then (ordering_reverse a) (ordering_reverse b)
reverse-then Less b = refl
reverse-then Equal b = refl
reverse-then Greater b = refl

greater_flips : (a b : Ordering) → a ≡ ordering_reverse b → a ≡ Greater → b ≡ Less
greater_flips a Less e h = refl
greater_flips a Equal e h = cc
greater_flips a Greater e h = cc

less_flips : (a b : Ordering) → a ≡ ordering_reverse b → b ≡ Less → a ≡ Greater
less_flips a b e h = e ∙ ap ordering_reverse h

both_by : {K : Type 0} {R : K → K → Ordering} (o : IsTotalOrder R) (x y z : K) (a : Ordering) → R x y ≡ a → R y z ≡ a → R x z ≡ a
both_by o x y z Less h k = o.trans x y z h k
both_by o x y z Equal h k = o.congr x y z h ∙ k
both_by o x y z Greater h k =
    less_flips _ _ (o.antisymm x z) (o.trans z y x (greater_flips _ _ (o.antisymm y z) k) (greater_flips _ _ (o.antisymm x y) h))

fits_of : {K : Type 0} {R : K → K → Ordering} → IsTotalOrder R → (x y z : K) → Fits (R x y) (R y z) (R x z)
fits_of {R = R} o x y z = record {
  first = o.congr x y z;
  second = λ e. sym (alike_right o y z x e);
  both = λ e. both_by o x y z _ refl (sym e);
}

nat_same : (a b : ℕ) → nat_cmp a b ≡ Equal → a ≡ b
nat_same a b h = by_ranked (a < b) (a ≡ b) (b < a) (nat_cmp a b) (ranked a b _ refl) (λ e _. absurd (cc)) (λ _ q. q) (λ e _. absurd (cc))

antisymm : (x y : Tree) → cmp_trees x y ≡ ordering_reverse (cmp_trees y x)
antisymm (leaf a) (leaf b) = nat_cmp_total.antisymm a b
antisymm (leaf a) (node l r) = refl
antisymm (node l r) (leaf b) = refl
antisymm (node l r) (node m s) =
    simp (reverse-then, cmp_types_total.antisymm (type_of 26 l) (type_of 26 m), antisymm l m, antisymm r s)

tree_fits : (x y z : Tree) → Fits (cmp_trees x y) (cmp_trees y z) (cmp_trees x z)
tree_fits (leaf a) (leaf b) (leaf c) = fits_of nat_cmp_total a b c
tree_fits (leaf a) (leaf b) (node l r) = record { first = λ e. refl; second = λ e. cc; both = λ e. sym e }
tree_fits (leaf a) (node l r) (leaf b) = record { first = λ e. cc; second = λ e. cc; both = λ e. cc }
tree_fits (leaf a) (node l r) (node m s) = record { first = λ e. cc; second = λ e. refl; both = λ e. refl }
tree_fits (node l r) (leaf a) (leaf b) = record { first = λ e. cc; second = λ e. refl; both = λ e. refl }
tree_fits (node l r) (leaf a) (node m s) = record { first = λ e. cc; second = λ e. cc; both = λ e. cc }
tree_fits (node l r) (node m s) (leaf a) = record { first = λ e. refl; second = λ e. cc; both = λ e. sym e }
tree_fits (node l r) (node m s) (node n t) =
    Fits-then _ _ _ _ _ _ (fits_of cmp_types_total (type_of 26 l) (type_of 26 m) (type_of 26 n)) (Fits-then _ _ _ _ _ _ (tree_fits l m n) (tree_fits r s t))

pub cmp_trees_total : IsTotalOrder cmp_trees
cmp_trees_total = record {
  antisymm = antisymm;
  trans = λ x y z h k. (tree_fits x y z).both (h ∙ sym k) ∙ h;
  congr = λ x y z h. (tree_fits x y z).first h;
}

pub cmp_monos_total : IsTotalOrder cmp_monos
cmp_monos_total = then_total (on_total (type_of 26) cmp_types_total) cmp_trees_total

pub then_decided : (a b : Ordering) → (a ≡ Equal → ⊥) → ordering_then a b ≡ a
then_decided Less b h = refl
then_decided Equal b h = absurd (h refl)
then_decided Greater b h = refl

then_equal : (a b : Ordering) → ordering_then a b ≡ Equal → (a ≡ Equal) × (b ≡ Equal)
then_equal Less b h = absurd (cc)
then_equal Equal b h = (refl, h)
then_equal Greater b h = absurd (cc)

-- the order tells all monomials apart
pub trees_equal : (x y : Tree) → cmp_trees x y ≡ Equal → x ≡ y
trees_equal (leaf a) (leaf b) h = ap leaf (nat_same a b h)
trees_equal (leaf a) (node l r) h = absurd (cc)
trees_equal (node l r) (leaf b) h = absurd (cc)
trees_equal (node l r) (node m s) h =
    let e = then_equal _ _ h in
    let f = then_equal _ _ e.1 in
    let p = trees_equal l m f.0 in let q = trees_equal r s f.1 in cc

pub monos_equal : (x y : Tree) → cmp_monos x y ≡ Equal → x ≡ y
monos_equal x y h = trees_equal x y (then_equal _ _ h).1

-- a product is monotone on both sides, among monomials of one type
pub product_left : (m n x : Tree) → type_of 26 m ≡ type_of 26 n → cmp_trees m n ≡ Less → cmp_trees (node m x) (node n x) ≡ Less
product_left m n x t h = rw (t, tied_itself cmp_types_total (type_of 26 n), h)

pub product_right : (m n x : Tree) → type_of 26 m ≡ type_of 26 n → cmp_trees m n ≡ Less → cmp_trees (node x m) (node x n) ≡ Less
product_right m n x t h = rw (tied_itself cmp_types_total (type_of 26 x), tied_itself cmp_trees_total x, h)

-- the types of monomials of different degrees are in the order of their degrees
pub types-by_degree : (x y : Tree) → are_below 26 x ≡ true → are_below 26 y ≡ true → (nat_cmp (degree x) (degree y) ≡ Equal → ⊥) →
    cmp_types (type_of 26 x) (type_of 26 y) ≡ nat_cmp (degree x) (degree y)
types-by_degree x y h k ne =
    let e : nat_cmp (sum (type_of 26 x)) (sum (type_of 26 y)) ≡ nat_cmp (degree x) (degree y) = rw (sum-type_of 26 x h, sum-type_of 26 y k) in
    then_decided _ _ (λ q. ne (sym e ∙ q)) ∙ e

-- monomials that the test finds the same are the same
pub same_tree-sound : (x y : Tree) → same_tree x y ≡ true → x ≡ y
same_tree-sound (leaf a) (leaf b) h = ap leaf (eqb-true a b h)
same_tree-sound (leaf a) (node l r) h = absurd (false≢true h)
same_tree-sound (node l r) (leaf b) h = absurd (false≢true h)
same_tree-sound (node l r) (node m s) h =
    let p = same_tree-sound l m (and_left _ _ h) in let q = same_tree-sound r s (and_right _ _ h) in cc

-- products with the same left factor are in the order of their right ones
pub trees-same_left : (l m r s : Tree) → l ≡ m → cmp_trees (node l r) (node m s) ≡ cmp_trees r s
trees-same_left l m r s e = rw (e, tied_itself cmp_types_total (type_of 26 m), tied_itself cmp_trees_total m)

-- a monomial beside itself
pub monos-itself : (x y : Tree) → x ≡ y → cmp_monos x y ≡ Equal
monos-itself x y e = rw (e) (tied_itself cmp_monos_total y)
