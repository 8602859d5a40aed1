-- The normal form of a polynomial is canonical, has the same coefficients, and is determined by them.
use Rattle.std.proofs.Common.{All, ◌≡◌, ℕ, suc, ◌+◌, ◌*◌, ◌%◌, ◌<◌, ◌≤◌, false, [], ◌∷◌, ◌++◌, length, sym, refl, ap, subst, ◌∙◌, arith, inl, inr}
use Rattle.std.specs.Prelude.{◌==◌}
use Rattle.std.specs.Ordering.{ordering_then, ordering_reverse}
use Rattle.std.specs.declared.cmp.Ordering.{Ordering}
use Rattle.std.specs.declared.cmp.Ordering.TheVariants.{Less, Equal, Greater}
use Rattle.std.proofs.lemmas.Bool.{cases_Bool, eqb-true}
use Rattle.std.proofs.lemmas.Bool.Decides.{nat_tests}
use Rattle.std.proofs.lemmas.List.Elements.{All-cons, All-head, All-tail, All-nil}
use Rattle.std.proofs.Math.Nat.{mod-eq_of_lt, mod-lt}
use Rattle.gf_field.specs.Modular.{IsSameMod}
use Rattle.gf_field.proofs.Mod.{same, ◌⊙◌, plus, times, of_mod}
use Rattle.gf_sums.specs.Sums.{weigh, AllBefore, IsCanonical}
use Rattle.gf_sums.proofs.Alike.{Alike, itself, turned, joined, append-alike}
use Rattle.gf_sums.proofs.Canonical.{canonical-unique}
use Rattle.alb_mono.specs.Listing.{Each}
use Rattle.alb_mono.specs.Tree.{Tree, degree, type_of, cmp_types, cmp_trees, cmp_monos, same_tree}
use Rattle.alb_mono.proofs.Order.{cmp_monos_total, trees_equal}
use Rattle.alb_poly.specs.Poly.{Poly, IsSamePoly, AreResidues, greatest_degree, IsDescending, before, placed, put, normal}
use Rattle.alb_poly.proofs.Consequence.{tree_tells, alike_poly, poly_alike}
use Rattle.alb_poly.proofs.Multilinear.{each_from_all, all_from_each}

-- ---- the order

both_equal : (a b : Ordering) → ordering_then a b ≡ Equal → b ≡ Equal
both_equal Less b h = absurd (cc)
both_equal Equal b h = h
both_equal Greater b h = absurd (cc)

-- monomials that tie are one
pub monos_equal : (m n : Tree) → cmp_monos m n ≡ Equal → m ≡ n
monos_equal m n h = trees_equal m n (both_equal (cmp_types (type_of 26 m) (type_of 26 n)) (cmp_trees m n) h)

pub greater_less : (m n : Tree) → cmp_monos m n ≡ Greater → cmp_monos n m ≡ Less
greater_less m n h = cmp_monos_total.antisymm n m ∙ ap ordering_reverse h

pub less_greater : (m n : Tree) → cmp_monos m n ≡ Less → cmp_monos n m ≡ Greater
less_greater m n h = cmp_monos_total.antisymm n m ∙ ap ordering_reverse h

pub not_zero : (c : ℕ) → 0 < c → (c == 0) ≡ false
not_zero c h = grind (arith, nat_tests)

-- ---- lists in which all monomials come before one

pub all-before : (i : Tree) (f : Poly) → Each (λ t. cmp_monos t.1 i ≡ Less) f → AllBefore cmp_monos i f
all-before i [] h = tt
all-before i (t ∷ f) h = (h.0, all-before i f h.1)

pub each-before : (i : Tree) (f : Poly) → AllBefore cmp_monos i f → Each (λ t. cmp_monos t.1 i ≡ Less) f
each-before i [] h = tt
each-before i (t ∷ f) h = (h.0, each-before i f h.1)

pub before-trans : (i j : Tree) (f : Poly) → cmp_monos i j ≡ Less → AllBefore cmp_monos i f → AllBefore cmp_monos j f
before-trans i j [] h k = tt
before-trans i j (t ∷ f) h k = (cmp_monos_total.trans t.1 i j k.0 h, before-trans i j f h k.1)

-- ---- what holds of each monomial

before-each : (P : Tree → Type 0) (c : ℕ) (m : Tree) (f : Poly) → P m → Each (λ t. P t.1) f → Each (λ t. P t.1) (before c m f)
before-each P c m f h a = elim (cases_Bool (c == 0)) [ inl e ↦ rw e a | inr e ↦ rw e (h, a) ]

placed-each : (P : Tree → Type 0) (o : Ordering) (p c : ℕ) (m : Tree) (t : ℕ × Tree) (f others : Poly) →
    P m → P t.1 → Each (λ t. P t.1) f → Each (λ t. P t.1) others → Each (λ t. P t.1) (placed o p c m t f others)
placed-each P Greater p c m t f others h k a b = before-each P c m (t ∷ f) h (k, a)
placed-each P Equal p c m t f others h k a b = before-each P ((c + t.0) % p) m f h a
placed-each P Less p c m t f others h k a b = (k, b)

pub put-each : (P : Tree → Type 0) (p c : ℕ) (m : Tree) (f : Poly) → P m → Each (λ t. P t.1) f → Each (λ t. P t.1) (put p c m f)
put-each P p c m [] h a = before-each P c m [] h tt
put-each P p c m (t ∷ f) h a = placed-each P (cmp_monos m t.1) p c m t f (put p c m f) h a.0 a.1 (put-each P p c m f h a.1)

-- each monomial of the normal form is one of the polynomial
pub normal-each : (P : Tree → Type 0) (p : ℕ) (f : Poly) → Each (λ t. P t.1) f → Each (λ t. P t.1) (normal p f)
unfolding normal
normal-each P p [] h = tt
normal-each P p (t ∷ f) h = put-each P p (t.0 % p) t.1 (normal p f) h.0 (normal-each P p f h.1)

pub normal-all : (P : Tree → Type 0) (p : ℕ) (f : Poly) → All (λ t. P t.1) f → All (λ t. P t.1) (normal p f)
normal-all P p f h = all_from_each (λ t. P t.1) (normal p f) (normal-each P p f (each_from_all (λ t. P t.1) f h))

-- ---- the normal form is canonical

before-canonical : (p c : ℕ) (m : Tree) (f : Poly) → c < p → AllBefore cmp_monos m f → IsCanonical cmp_monos p f → IsCanonical cmp_monos p (before c m f)
before-canonical p c m f small a k = elim (cases_Bool (c == 0)) [
  | inl e ↦ rw e k
  | inr e ↦ rw e (grind (arith, nat_tests), small, a, k)
]

placed-canonical : (o : Ordering) (p c : ℕ) (m : Tree) (t : ℕ × Tree) (f others : Poly) → cmp_monos m t.1 ≡ o → c < p → IsCanonical cmp_monos p (t ∷ f) →
    (cmp_monos m t.1 ≡ Less → AllBefore cmp_monos t.1 others) → IsCanonical cmp_monos p others → IsCanonical cmp_monos p (placed o p c m t f others)
placed-canonical Greater p c m t f others e small k a b =
    let h = greater_less m t.1 e in before-canonical p c m (t ∷ f) small (h, before-trans t.1 m f h k.2) k
placed-canonical Equal p c m t f others e small k a b =
    before-canonical p ((c + t.0) % p) m f (mod-lt (c + t.0) (omega arith)) (subst (λ n. AllBefore cmp_monos n f) (sym (monos_equal m t.1 e)) k.2) k.3
placed-canonical Less p c m t f others e small k a b = (k.0, k.1, a e, b)

pub put-canonical : (p c : ℕ) (m : Tree) (f : Poly) → c < p → IsCanonical cmp_monos p f → IsCanonical cmp_monos p (put p c m f)
put-canonical p c m [] small k = before-canonical p c m [] small tt tt
put-canonical p c m (t ∷ f) small k =
    placed-canonical (cmp_monos m t.1) p c m t f (put p c m f) refl small k
    (λ e. all-before t.1 (put p c m f) (put-each (λ n. cmp_monos n t.1 ≡ Less) p c m f e (each-before t.1 f k.2)))
    (put-canonical p c m f small k.3)

pub canonical-normal : (p : ℕ) (f : Poly) → 0 < p → IsCanonical cmp_monos p (normal p f)
unfolding normal
canonical-normal p [] pos = tt
canonical-normal p (t ∷ f) pos = put-canonical p (t.0 % p) t.1 (normal p f) (mod-lt t.0 pos) (canonical-normal p f pos)

-- ---- the coefficients

before-weigh : (w : Tree → ℕ) (c : ℕ) (m : Tree) (f : Poly) → weigh w (before c m f) ≡ c * w m + weigh w f
before-weigh w c m f = elim (cases_Bool (c == 0)) [
  | inl e ↦ rw e (let q : c ≡ 0 = eqb-true c 0 e in rw q (omega arith))
  | inr e ↦ rw e refl
]

placed-weigh : (w : Tree → ℕ) (o : Ordering) (p c : ℕ) (m : Tree) (t : ℕ × Tree) (f others : Poly) → cmp_monos m t.1 ≡ o →
    IsSameMod p (weigh w others) (c * w m + weigh w f) → IsSameMod p (weigh w (placed o p c m t f others)) (c * w m + (t.0 * w t.1 + weigh w f))
placed-weigh w Greater p c m t f others e h = same (before-weigh w c m (t ∷ f))
placed-weigh w Equal p c m t f others e h =
    let q : w m ≡ w t.1 = ap w (monos_equal m t.1 e) in
    same (before-weigh w ((c + t.0) % p) m f)
    ⊙ plus (times (of_mod (c + t.0)) (same {a = w m} refl)) (same {a = weigh w f} refl)
    ⊙ same (omega (arith, ap (λ z. t.0 * z) q))
placed-weigh w Less p c m t f others e h = plus (same {a = t.0 * w t.1} refl) h ⊙ same (omega arith)

pub put-weigh : (w : Tree → ℕ) (p c : ℕ) (m : Tree) (f : Poly) → IsSameMod p (weigh w (put p c m f)) (c * w m + weigh w f)
put-weigh w p c m [] = same (before-weigh w c m [])
put-weigh w p c m (t ∷ f) = placed-weigh w (cmp_monos m t.1) p c m t f (put p c m f) refl (put-weigh w p c m f)

normal-weigh : (w : Tree → ℕ) (p : ℕ) (f : Poly) → IsSameMod p (weigh w (normal p f)) (weigh w f)
unfolding normal
normal-weigh w p [] = same refl
normal-weigh w p (t ∷ f) =
    put-weigh w p (t.0 % p) t.1 (normal p f) ⊙ plus (times (of_mod t.0) (same {a = w t.1} refl)) (normal-weigh w p f)

pub normal-alike : (p : ℕ) (f : Poly) → Alike p (normal p f) f
normal-alike p f = record { at = λ w. normal-weigh w p f }

pub normal-same : (p : ℕ) (f : Poly) → IsSamePoly p (normal p f) f
normal-same p f = poly_alike (normal-alike p f)

-- ---- what determines the normal form

-- a canonical list with the same coefficients is the normal form
pub canonical-is-normal : (p : ℕ) (f g : Poly) → 0 < p → IsCanonical cmp_monos p g → IsSamePoly p g f → g ≡ normal p f
canonical-is-normal p f g pos c h =
    canonical-unique cmp_monos cmp_monos_total same_tree tree_tells monos_equal g (normal p f) c (canonical-normal p f pos)
    (poly_alike (joined (alike_poly h) (turned (normal-alike p f))))

pub alike-is-normal : (p : ℕ) (f g : Poly) → 0 < p → IsCanonical cmp_monos p g → Alike p g f → g ≡ normal p f
alike-is-normal p f g pos c h = canonical-is-normal p f g pos c (poly_alike h)

-- polynomials with the same coefficients have one normal form
pub same-normal : (p : ℕ) (f g : Poly) → 0 < p → IsSamePoly p f g → normal p f ≡ normal p g
same-normal p f g pos h =
    alike-is-normal p g (normal p f) pos (canonical-normal p f pos) (joined (normal-alike p f) (alike_poly h))

pub alike-normal : (p : ℕ) (f g : Poly) → 0 < p → Alike p f g → normal p f ≡ normal p g
alike-normal p f g pos h = same-normal p f g pos (poly_alike h)

pub normal-normal : (p : ℕ) (f : Poly) → 0 < p → normal p (normal p f) ≡ normal p f
normal-normal p f pos = alike-normal p (normal p f) f pos (normal-alike p f)

pub normal-append-left : (p : ℕ) (f g : Poly) → 0 < p → normal p (normal p f ++ g) ≡ normal p (f ++ g)
normal-append-left p f g pos = alike-normal p (normal p f ++ g) (f ++ g) pos (append-alike (normal-alike p f) (itself g))

pub normal-append-right : (p : ℕ) (f g : Poly) → 0 < p → normal p (f ++ normal p g) ≡ normal p (f ++ g)
normal-append-right p f g pos = alike-normal p (f ++ normal p g) (f ++ g) pos (append-alike (itself f) (normal-alike p g))

-- a canonical list is its own normal form
pub normal-canonical : (p : ℕ) (f : Poly) → IsCanonical cmp_monos p f → normal p f ≡ f
unfolding normal
normal-canonical p [] h = refl
normal-canonical p (t ∷ []) h = rw (mod-eq_of_lt h.1, not_zero t.0 h.0) refl
normal-canonical p (t ∷ u ∷ f) h =
    let g : cmp_monos t.1 u.1 ≡ Greater = less_greater u.1 t.1 h.2.0 in
    ap (put p (t.0 % p) t.1) (normal-canonical p (u ∷ f) h.3) ∙ rw (mod-eq_of_lt h.1, g, not_zero t.0 h.0) refl

-- ---- descending lists of residues

pub canonical-descending : (p : ℕ) (f : Poly) → IsCanonical cmp_monos p f → IsDescending f
canonical-descending p [] h = tt
canonical-descending p (t ∷ f) h = (h.0, h.2, canonical-descending p f h.3)

pub canonical-residues : (p : ℕ) (f : Poly) → IsCanonical cmp_monos p f → AreResidues p f
canonical-residues p [] h = All-nil _
canonical-residues p (t ∷ f) h = All-cons (λ t. t.0 < p) t f h.1 (canonical-residues p f h.3)

pub descending-canonical : (p : ℕ) (f : Poly) → IsDescending f → AreResidues p f → IsCanonical cmp_monos p f
descending-canonical p [] h r = tt
descending-canonical p (t ∷ f) h r = (h.0, All-head (λ t. t.0 < p) t f r, h.1, descending-canonical p f h.2 (All-tail (λ t. t.0 < p) t f r))

pub normal-residues : (p : ℕ) (f : Poly) → 0 < p → AreResidues p (normal p f)
normal-residues p f pos = canonical-residues p (normal p f) (canonical-normal p f pos)

pub normal-descending : (p : ℕ) (f : Poly) → 0 < p → IsDescending (normal p f)
normal-descending p f pos = canonical-descending p (normal p f) (canonical-normal p f pos)

-- of residues, also where there are none
pub residues-normal : (p : ℕ) (f : Poly) → AreResidues p f → AreResidues p (normal p f)
unfolding normal
residues-normal p [] r = All-nil _
residues-normal p (t ∷ f) r =
    let h : t.0 < p = All-head (λ t. t.0 < p) t f r in normal-residues p (t ∷ f) (omega arith)

pub descending-normal : (p : ℕ) (f : Poly) → AreResidues p f → IsDescending (normal p f)
unfolding normal
descending-normal p [] r = tt
descending-normal p (t ∷ f) r =
    let h : t.0 < p = All-head (λ t. t.0 < p) t f r in normal-descending p (t ∷ f) (omega arith)

-- ---- length and degree

before-length : (c : ℕ) (m : Tree) (f : Poly) → length (before c m f) ≤ suc (length f)
before-length c m f = elim (cases_Bool (c == 0)) [ inl e ↦ rw e (omega arith) | inr e ↦ rw e (omega arith) ]

placed-length : (o : Ordering) (p c : ℕ) (m : Tree) (t : ℕ × Tree) (f others : Poly) → length others ≤ suc (length f) →
    length (placed o p c m t f others) ≤ suc (suc (length f))
placed-length Greater p c m t f others h = before-length c m (t ∷ f)
placed-length Equal p c m t f others h = omega (arith, before-length ((c + t.0) % p) m f)
placed-length Less p c m t f others h = omega arith

put-length : (p c : ℕ) (m : Tree) (f : Poly) → length (put p c m f) ≤ suc (length f)
put-length p c m [] = before-length c m []
put-length p c m (t ∷ f) = placed-length (cmp_monos m t.1) p c m t f (put p c m f) (put-length p c m f)

pub normal-length : (p : ℕ) (f : Poly) → length (normal p f) ≤ length f
unfolding normal
normal-length p [] = omega arith
normal-length p (t ∷ f) = omega (arith, put-length p (t.0 % p) t.1 (normal p f), normal-length p f)

pub degree-each : (n : ℕ) (f : Poly) → Each (λ t. degree t.1 ≤ n) f → greatest_degree f ≤ n
degree-each n [] h = omega arith
degree-each n (t ∷ f) h = omega (arith, h.0, degree-each n f h.1)

pub each-degree : (n : ℕ) (f : Poly) → greatest_degree f ≤ n → Each (λ t. degree t.1 ≤ n) f
each-degree n [] h = tt
each-degree n (t ∷ f) h = (omega arith, each-degree n f (omega arith))

pub normal-degree : (p : ℕ) (f : Poly) → greatest_degree (normal p f) ≤ greatest_degree f
normal-degree p f =
    degree-each (greatest_degree f) (normal p f) (normal-each (λ m. degree m ≤ greatest_degree f) p f (each-degree (greatest_degree f) f (omega arith)))
