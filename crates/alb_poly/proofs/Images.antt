-- Generators replaced by polynomials.
use Rattle.std.proofs.Common.{◌≡◌, ℕ, zero, suc, ◌+◌, ◌*◌, ◌<◌, ◌≤◌, true, List, [], ◌∷◌, length, max, get_or, sym, refl, ap, subst, ◌∙◌, arith, All}
use Rattle.std.specs.List.{flat_map}
use Rattle.std.proofs.lemmas.List.Elements.{All-nil, All-head, All-tail, All-append}
use Rattle.std.proofs.Math.Nat.{mul-le-mul_right}
use Rattle.gf_sums.proofs.Alike.{Alike, joined, scale-alike, flat-alike, multiply-alike}
use Rattle.alb_mono.proofs.Both.{and_left, and_right}
use Rattle.alb_mono.specs.Tree.{Tree, leaf, node, degree, are_below}
use Rattle.alb_poly.specs.Textbook.{evaluate, evaluate_poly, free_product}
use Rattle.alb_poly.specs.Poly.{normal, Poly, AreResidues, IsDescending, product, greatest_degree}
use Rattle.alb_poly.specs.Terms.{multiples}
use Rattle.alb_poly.proofs.NormalLemmas.{normal-alike, alike-normal, normal-degree, normal-canonical, descending-canonical}
use Rattle.alb_poly.proofs.Products.{product-degree_most, multiples-alike, multiples-residues}

-- the images of the generators
abbrev pub images_of : List Poly → ℕ → Poly
images_of us k = get_or us k []

-- the value of a monomial at polynomials
abbrev pub value_of : List Poly → Tree → Poly
value_of us m = evaluate free_product (images_of us) m

-- what is pushed for the terms of a polynomial
abbrev pub image_terms : ℕ → List Poly → Poly → Poly
image_terms p us f = flat_map (λ t. multiples p t.0 (normal p (value_of us t.1))) f

-- ---- degrees

most : List Poly → ℕ
most [] = 0
most (u ∷ us) = max (greatest_degree u) (most us)

most_at : (us : List Poly) (k : ℕ) → greatest_degree (images_of us k) ≤ most us
unfolding most
most_at [] k = omega arith
most_at (u ∷ us) zero = omega arith
most_at (u ∷ us) (suc k) = omega (arith, most_at us k)

most_times : (n : ℕ) (us : List Poly) → All (λ u. n * greatest_degree u ≤ 64) us → n * most us ≤ 64
unfolding most
most_times n [] h = omega arith
most_times n (u ∷ us) h =
    larger (greatest_degree u) (most us) n (All-head (λ u. n * greatest_degree u ≤ 64) u us h) (most_times n us (All-tail (λ u. n * greatest_degree u ≤ 64) u us h))
  where
    larger : (a b n : ℕ) → n * a ≤ 64 → n * b ≤ 64 → n * max a b ≤ 64
    larger a b n h k = grind arith

value_degree : (us : List Poly) (m : Tree) → greatest_degree (value_of us m) ≤ degree m * most us
value_degree us (leaf k) = omega (arith, most_at us k)
value_degree us (node l r) =
    omega (arith, product-degree_most (value_of us l) (value_of us r), value_degree us l, value_degree us r)

pub images_small : (p : ℕ) (us : List Poly) (l r : Tree) → All (λ u. degree (node l r) * greatest_degree u ≤ 64) us →
    greatest_degree (normal p (value_of us l)) + greatest_degree (normal p (value_of us r)) ≤ 64
images_small p us l r h =
    omega (arith, normal-degree p (value_of us l), normal-degree p (value_of us r), value_degree us l, value_degree us r, most_times (degree (node l r)) us h)

pub small_part : (m n : ℕ) (us : List Poly) → m ≤ n → All (λ u. n * greatest_degree u ≤ 64) us → All (λ u. m * greatest_degree u ≤ 64) us
small_part m n us h a k d l = omega (arith, a k d l, mul-le-mul_right (greatest_degree (get_or us k d)) h)

-- ---- letters

pub left_below : (n : ℕ) (l r : Tree) → are_below n (node l r) ≡ true → are_below n l ≡ true
left_below n l r h = and_left (are_below n l) (are_below n r) h

pub right_below : (n : ℕ) (l r : Tree) → are_below n (node l r) ≡ true → are_below n r ≡ true
right_below n l r h = and_right (are_below n l) (are_below n r) h

-- ---- values

read : (us : List Poly) (k : ℕ) (u d : Poly) → k < length us → u ≡ get_or us k u → u ≡ get_or us k d
read us k u d h e = e ∙ default us k u d h
  where
    default : (us : List Poly) (k : ℕ) (u d : Poly) → k < length us → get_or us k u ≡ get_or us k d
    default [] k u d h = absurd (omega arith)
    default (v ∷ us) zero u d h = refl
    default (v ∷ us) (suc k) u d h = default us k u d (omega arith)

-- an image is its own normal form
pub image_itself : (p : ℕ) (us : List Poly) (k : ℕ) (u : Poly) → k < length us → u ≡ get_or us k u → IsDescending u → All (λ u. AreResidues p u) us →
    u ≡ normal p (value_of us (leaf k))
image_itself p us k u h e d r =
    let q : u ≡ images_of us k = read us k u [] h e in
    let a : AreResidues p u = subst (λ v. AreResidues p v) (sym q) (r k [] h) in
    sym (normal-canonical p u (descending-canonical p u d a)) ∙ ap (normal p) q

pub product_values : (p : ℕ) (us : List Poly) (l r : Tree) (f g : Poly) → 0 < p → f ≡ normal p (value_of us l) → g ≡ normal p (value_of us r) →
    normal p (product f g) ≡ normal p (value_of us (node l r))
product_values p us l r f g pos h k =
    rw (h, k)
    (alike-normal p (product (normal p (value_of us l)) (normal p (value_of us r))) (value_of us (node l r)) pos
    (multiply-alike (λ l r. (1, node l r) ∷ []) (normal-alike p (value_of us l)) (normal-alike p (value_of us r))))

image_terms-alike : (p : ℕ) (us : List Poly) (f : Poly) → Alike p (image_terms p us f) (evaluate_poly free_product (images_of us) f)
image_terms-alike p us f =
    flat-alike _ _ f (λ t. joined (multiples-alike p t.0 (normal p (value_of us t.1))) (scale-alike t.0 (normal-alike p (value_of us t.1))))

pub image_terms-normal : (p : ℕ) (us : List Poly) (f : Poly) → AreResidues p f → normal p (image_terms p us f) ≡ normal p (evaluate_poly free_product (images_of us) f)
image_terms-normal p us [] r = refl
image_terms-normal p us (t ∷ f) r =
    let h : t.0 < p = All-head (λ t. t.0 < p) t f r in
    alike-normal p (image_terms p us (t ∷ f)) (evaluate_poly free_product (images_of us) (t ∷ f)) (omega arith) (image_terms-alike p us (t ∷ f))

pub image_terms-residues : (p : ℕ) (us : List Poly) (f : Poly) → AreResidues p f → AreResidues p (image_terms p us f)
image_terms-residues p us [] r = All-nil _
image_terms-residues p us (t ∷ f) r =
    let h : t.0 < p = All-head (λ t. t.0 < p) t f r in
    All-append (λ t. t.0 < p) (multiples p t.0 (normal p (value_of us t.1))) (image_terms p us f) (multiples-residues p t.0 (normal p (value_of us t.1)) (omega arith))
    (image_terms-residues p us f (All-tail (λ t. t.0 < p) t f r))
