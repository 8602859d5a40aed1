-- The product of two polynomials: its terms, and that none is lost over a field.
use Rattle.std.proofs.Common.{◌≡◌, ◌≢◌, ℕ, suc, ◌+◌, ◌*◌, ◌%◌, ◌<◌, ◌≤◌, List, [], ◌∷◌, ◌++◌, map, length, max, sym, refl, ap, subst, ◌∙◌, arith, length-append}
use Rattle.std.specs.List.{flat_map}
use Rattle.std.specs.declared.cmp.Ordering.{Ordering}
use Rattle.std.specs.declared.cmp.Ordering.TheVariants.{Less, Equal, Greater}
use Rattle.std.proofs.lemmas.Cmp.{tied_itself}
use Rattle.std.proofs.Math.Nat.{mod-lt}
use Rattle.gf_field.specs.Modular.{IsSameMod, IsPrime}
use Rattle.gf_field.proofs.Mod.{same, back, ◌⊙◌, plus, times, of_mod, residues, cancel_times}
use Rattle.gf_field.proofs.Table.{IsUnit-below_prime}
use Rattle.gf_sums.specs.Sums.{weigh, scale, AllBefore, IsCanonical}
use Rattle.gf_sums.proofs.Totals.{total-same, total-map, weigh-multiply, total-times}
use Rattle.gf_sums.proofs.Alike.{Alike, weigh-flat}
use Rattle.alb_mono.specs.Listing.{Each}
use Rattle.alb_mono.specs.Tree.{Tree, node, degree, cmp_monos}
use Rattle.alb_mono.proofs.Order.{cmp_monos_total}
use Rattle.alb_mono.proofs.ListingLemmas.{each-weaker, each-append}
use Rattle.std.proofs.lemmas.List.Elements.{All-nil, All-cons, All-head, All-tail, All-append}
use Rattle.alb_poly.specs.Poly.{Poly, product, greatest_degree, AreResidues, before, placed, put, normal}
use Rattle.alb_poly.specs.Terms.{term_product, products, multiples}
use Rattle.alb_poly.proofs.NormalLemmas.{not_zero, monos_equal, each-before, normal-each, alike-normal}

-- the products of a term with those of a list
abbrev pub row : ℕ × Tree → Poly → Poly
row s g = flat_map (λ t. scale (s.0 * t.0) ((1, node s.1 t.1) ∷ [])) g

-- ---- each term

pub row-each : (P : Tree → Type 0) (s : ℕ × Tree) (g : Poly) → Each (λ t. P (node s.1 t.1)) g → Each (λ t. P t.1) (row s g)
row-each P s [] h = tt
row-each P s (t ∷ g) h = (h.0, row-each P s g h.1)

pub product-each : (P : Tree → Type 0) (f g : Poly) → Each (λ s. Each (λ t. P (node s.1 t.1)) g) f → Each (λ t. P t.1) (product f g)
product-each P [] g h = tt
product-each P (s ∷ f) g h = each-append (λ t. P t.1) (row s g) (product f g) (row-each P s g h.0) (product-each P f g h.1)

each-any : {X : Type 0} (P : X → Type 0) (xs : List X) → ((x : X) → P x) → Each P xs
each-any P [] h = tt
each-any P (x ∷ xs) h = (h x, each-any P xs h)

-- ---- length and degree

row-length : (s : ℕ × Tree) (g : Poly) → length (row s g) ≡ length g
row-length s [] = refl
row-length s (t ∷ g) = ap suc (row-length s g)

pub product-length : (f g : Poly) → length (product f g) ≡ length f * length g
product-length [] g = omega arith
product-length (s ∷ f) g = omega (arith, length-append (row s g) (product f g), row-length s g, product-length f g)

pub degree-append : (f g : Poly) → greatest_degree (f ++ g) ≡ max (greatest_degree f) (greatest_degree g)
degree-append [] g = omega arith
degree-append (t ∷ f) g = omega (arith, degree-append f g)

row-degree : (s : ℕ × Tree) (g : Poly) → 0 < length g → greatest_degree (row s g) ≡ degree s.1 + greatest_degree g
row-degree s [] h = absurd (omega arith)
row-degree s (t ∷ []) h = omega arith
row-degree s (t ∷ u ∷ g) h = omega (arith, row-degree s (u ∷ g) (omega arith))

pub product-degree : (f g : Poly) → 0 < length f → 0 < length g → greatest_degree (product f g) ≡ greatest_degree f + greatest_degree g
product-degree [] g h k = absurd (omega arith)
product-degree (s ∷ []) g h k = omega (arith, degree-append (row s g) [], row-degree s g k)
product-degree (s ∷ t ∷ f) g h k =
    omega (arith, degree-append (row s g) (product (t ∷ f) g), row-degree s g k, product-degree (t ∷ f) g (omega arith) k)

product-none : (f : Poly) → product f [] ≡ []
product-none [] = refl
product-none (s ∷ f) = product-none f

pub product-degree_most : (f g : Poly) → greatest_degree (product f g) ≤ greatest_degree f + greatest_degree g
product-degree_most [] g = omega arith
product-degree_most (s ∷ f) [] = rw (product-none f) (omega arith)
product-degree_most (s ∷ f) (t ∷ g) = omega (arith, product-degree (s ∷ f) (t ∷ g) (omega arith) (omega arith))

-- ---- terms that no other one meets

-- the coefficients are not 0 modulo `p`, and the monomials differ
abbrev pub AreApart : ℕ → Poly → Type 0
AreApart p [] = Unit {0}
AreApart p (t ∷ f) = (0 < t.0 % p) × Each (λ u. t.1 ≢ u.1) f × AreApart p f

apart-append : (p : ℕ) (f g : Poly) → AreApart p f → AreApart p g → Each (λ t. Each (λ u. t.1 ≢ u.1) g) f → AreApart p (f ++ g)
apart-append p [] g a b h = b
apart-append p (t ∷ f) g a b h = (a.0, each-append (λ u. t.1 ≢ u.1) f g a.1 h.0, apart-append p f g a.2 b h.1)

before-more : (c : ℕ) (m : Tree) (f : Poly) → 0 < c → before c m f ≡ (c, m) ∷ f
before-more c m f h = rw (not_zero c h) refl

-- a new monomial makes the list longer
placed-more : (o : Ordering) (p c : ℕ) (m : Tree) (t : ℕ × Tree) (f others : Poly) → cmp_monos m t.1 ≡ o → 0 < c → m ≢ t.1 →
    length others ≡ suc (length f) → greatest_degree others ≡ max (degree m) (greatest_degree f) →
    (length (placed o p c m t f others) ≡ suc (suc (length f))) × (greatest_degree (placed o p c m t f others) ≡ max (degree m) (max (degree t.1) (greatest_degree f)))
placed-more Greater p c m t f others e pos ne h k = rw (before-more c m (t ∷ f) pos) (refl, refl)
placed-more Equal p c m t f others e pos ne h k = absurd (ne (monos_equal m t.1 e))
placed-more Less p c m t f others e pos ne h k = (omega arith, omega arith)

put-more : (p c : ℕ) (m : Tree) (f : Poly) → 0 < c → Each (λ u. m ≢ u.1) f →
    (length (put p c m f) ≡ suc (length f)) × (greatest_degree (put p c m f) ≡ max (degree m) (greatest_degree f))
put-more p c m [] pos h = rw (before-more c m [] pos) (refl, refl)
put-more p c m (t ∷ f) pos h =
    let more = put-more p c m f pos h.1 in
    placed-more (cmp_monos m t.1) p c m t f (put p c m f) refl pos h.0 more.0 more.1

pub normal-apart : (p : ℕ) (f : Poly) → AreApart p f → (length (normal p f) ≡ length f) × (greatest_degree (normal p f) ≡ greatest_degree f)
unfolding normal
normal-apart p [] h = (refl, refl)
normal-apart p (t ∷ f) h =
    let more = normal-apart p f h.2 in
    let new = put-more p (t.0 % p) t.1 (normal p f) h.0 (normal-each (λ m. t.1 ≢ m) p f h.1) in
    (omega arith, omega arith)

-- ---- products over a field

prime_times : (p a b : ℕ) → IsPrime p → 0 < a → a < p → 0 < b → b < p → 0 < (a * b) % p
prime_times p a b prime l h k j = positive ((a * b) % p) (λ e.
    let z : IsSameMod p (a * b) (a * 0) = back (of_mod (a * b)) ⊙ same (e ∙ omega arith) in
    let q : b ≡ 0 = residues j (omega arith) (cancel_times a (IsUnit-below_prime p a prime l h) z) in
    absurd (omega arith))
  where
    positive : (n : ℕ) → n ≢ 0 → 0 < n
    positive n h = omega arith

later-differs : (m n : Tree) → cmp_monos n m ≡ Less → m ≢ n
later-differs m n h e = let q : cmp_monos n m ≡ Equal = ap (cmp_monos n) e ∙ tied_itself cmp_monos_total n in absurd (cc)

right-differs : (l m n : Tree) → m ≢ n → node l m ≢ node l n
right-differs l m n h e = h (cc)

left-differs : (l m r s : Tree) → l ≢ m → node l r ≢ node m s
left-differs l m r s h e = h (cc)

later-each : (m : Tree) (f : Poly) → AllBefore cmp_monos m f → Each (λ u. m ≢ u.1) f
later-each m f h = each-weaker (λ t. cmp_monos t.1 m ≡ Less) (λ u. m ≢ u.1) f (λ u k. later-differs m u.1 k) (each-before m f h)

row-apart : (p : ℕ) (s : ℕ × Tree) (g : Poly) → IsPrime p → 0 < s.0 → s.0 < p → IsCanonical cmp_monos p g → AreApart p (row s g)
row-apart p s [] prime l h k = tt
row-apart p s (t ∷ g) prime l h k = (
  (let e : s.0 * t.0 * 1 ≡ s.0 * t.0 = omega arith in subst (λ n. 0 < n % p) (sym e) (prime_times p s.0 t.0 prime l h k.0 k.1)),
  row-each (λ m. node s.1 t.1 ≢ m) s g (each-weaker (λ u. t.1 ≢ u.1) _ g (λ u ne. right-differs s.1 t.1 u.1 ne) (later-each t.1 g k.2)),
  row-apart p s g prime l h k.3,
)

pub product-apart : (p : ℕ) (f g : Poly) → IsPrime p → IsCanonical cmp_monos p f → IsCanonical cmp_monos p g → AreApart p (product f g)
product-apart p [] g prime h k = tt
product-apart p (s ∷ f) g prime h k =
    apart-append p (row s g) (product f g) (row-apart p s g prime h.0 h.1 k) (product-apart p f g prime h.3 k)
    (row-each (λ m. Each (λ u. m ≢ u.1) (product f g)) s g (each-any _ g (λ t.
    product-each (λ m. node s.1 t.1 ≢ m) f g (each-weaker (λ u. s.1 ≢ u.1) _ f
    (λ u ne. each-any _ g (λ v. left-differs s.1 u.1 t.1 v.1 ne)) (later-each s.1 f h.2)))))

-- over a field the product has a term for each two
pub normal-product-length : (p : ℕ) (f g : Poly) → IsPrime p → IsCanonical cmp_monos p f → IsCanonical cmp_monos p g →
    length (normal p (product f g)) ≡ length f * length g
normal-product-length p f g prime h k = (normal-apart p (product f g) (product-apart p f g prime h k)).0 ∙ product-length f g

-- and its degree is the sum of the degrees
pub normal-product-degree : (p : ℕ) (f g : Poly) → IsPrime p → IsCanonical cmp_monos p f → IsCanonical cmp_monos p g → 0 < length f → 0 < length g →
    greatest_degree (normal p (product f g)) ≡ greatest_degree f + greatest_degree g
normal-product-degree p f g prime h k l m = (normal-apart p (product f g) (product-apart p f g prime h k)).1 ∙ product-degree f g l m

-- ---- the terms that are computed

row-alike : (p : ℕ) (w : Tree → ℕ) (s : ℕ × Tree) (g : Poly) → IsSameMod p (weigh w (map (term_product p s) g)) (s.0 * weigh (λ m. weigh w ((1, node s.1 m) ∷ [])) g)
row-alike p w s g =
    same (total-map _ _ g)
    ⊙ total-same _ _ g (λ t. times (of_mod (s.0 * t.0)) (same {a = w (node s.1 t.1)} refl) ⊙ same (grind arith))
    ⊙ same (total-times s.0 (λ t. t.0 * weigh w ((1, node s.1 t.1) ∷ [])) g)

pub products-alike : (p : ℕ) (f g : Poly) → Alike p (products p f g) (product f g)
products-alike p f g = record {
  at = λ w.
      same (weigh-flat w _ f) ⊙ total-same _ _ f (λ s. row-alike p w s g) ⊙ same (sym (weigh-multiply (λ l r. (1, node l r) ∷ []) w f g));
}

pub products-normal : (p : ℕ) (f g : Poly) → AreResidues p f → normal p (products p f g) ≡ normal p (product f g)
products-normal p [] g r = refl
products-normal p (s ∷ f) g r =
    let h : s.0 < p = All-head (λ t. t.0 < p) s f r in
    alike-normal p (products p (s ∷ f) g) (product (s ∷ f) g) (omega arith) (products-alike p (s ∷ f) g)

row-residues : (p : ℕ) (s : ℕ × Tree) (g : Poly) → 0 < p → AreResidues p (map (term_product p s) g)
row-residues p s [] h = All-nil _
row-residues p s (t ∷ g) h = All-cons (λ t. t.0 < p) _ _ (mod-lt (s.0 * t.0) h) (row-residues p s g h)

pub products-residues : (p : ℕ) (f g : Poly) → AreResidues p f → AreResidues p (products p f g)
products-residues p [] g r = All-nil _
products-residues p (s ∷ f) g r =
    let h : s.0 < p = All-head (λ t. t.0 < p) s f r in
    All-append (λ t. t.0 < p) (map (term_product p s) g) (products p f g) (row-residues p s g (omega arith))
    (products-residues p f g (All-tail (λ t. t.0 < p) s f r))

multiples-weigh : (p c : ℕ) (w : Tree → ℕ) (f : Poly) → IsSameMod p (weigh w (multiples p c f)) (weigh w (scale c f))
multiples-weigh p c w [] = same refl
multiples-weigh p c w (t ∷ f) = plus (times (of_mod (c * t.0)) (same {a = w t.1} refl)) (multiples-weigh p c w f)

pub multiples-alike : (p c : ℕ) (f : Poly) → Alike p (multiples p c f) (scale c f)
multiples-alike p c f = record { at = λ w. multiples-weigh p c w f }

pub multiples-residues : (p c : ℕ) (f : Poly) → 0 < p → AreResidues p (multiples p c f)
multiples-residues p c [] h = All-nil _
multiples-residues p c (t ∷ f) h = All-cons (λ t. t.0 < p) _ _ (mod-lt (c * t.0) h) (multiples-residues p c f h)

pub multiples-normal : (p c : ℕ) (f : Poly) → 0 < p → normal p (multiples p c f) ≡ normal p (scale c f)
multiples-normal p c f h = alike-normal p (multiples p c f) (scale c f) h (multiples-alike p c f)
