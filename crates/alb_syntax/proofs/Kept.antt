-- The polynomials that are read: in the kept order, over the field, and of at most 65,536 terms.
use Rattle.std.proofs.Common.{◌≡◌, ℕ, zero, suc, ◌+◌, ◌-◌, ◌*◌, ◌%◌, ◌<◌, ◌≤◌, ◌^◌, true, false, List, [], ◌∷◌, ◌++◌, length, IfOk, Result, Ok, Err, refl, sym, ap, subst, ◌∙◌, arith, inl, inr}
use Rattle.std.specs.Prelude.{nat_lt, ◌==◌}
use Rattle.std.specs.List.{list_any, list_all}
use Rattle.std.proofs.lemmas.Bool.{cases_Bool, eqb-true, le-ltb, lt-ltb, ltb-true, ltb-false}
use Rattle.std.proofs.lemmas.List.{nil_from_length}
use Rattle.gf_field.specs.Modular.{IsInTable, primes, is_in_table}
use Rattle.gf_field.proofs.Mod.{of_mod}
use Rattle.gf_field.proofs.Table.{IsPrime-from_table}
use Rattle.gf_sums.specs.Sums.{scale}
use Rattle.gf_sums.proofs.Alike.{scales-alike}
use Rattle.alb_mono.specs.Tree.{tree, Tree, degree}
use Rattle.alb_poly.specs.declared.term.Term.{Term}
use Rattle.alb_poly.specs.Terms.{terms}
use Rattle.alb_poly.specs.Poly.{Poly, AreResidues, generator, product, greatest_degree, normal}
use Rattle.alb_poly.proofs.NormalLemmas.{canonical-normal, canonical-residues, alike-normal, normal-length, normal-append-right}
use Rattle.alb_poly.proofs.Products.{normal-product-length, normal-product-degree}
use Rattle.alb_syntax.specs.declared.error.SyntaxError.{SyntaxError}
use Rattle.alb_syntax.specs.declared.error.SyntaxError.TheVariants as errors
use Rattle.alb_syntax.specs.Gives.{Gives}
use Rattle.alb_syntax.specs.Reading.{IsCanonicalPoly, limited, sum, difference, times, multiple}

-- ---- the field

pub table-above_one : (p : ℕ) → IsInTable p → 1 < p
table-above_one p h = (IsPrime-from_table p h).above_one

below_word : (xs : List ℕ) (p : ℕ) → list_all (λ q. nat_lt q 65536) xs ≡ true → list_any (λ q. q == p) xs ≡ true → p < 2 ^ 16
below_word [] p h k = absurd cc
below_word (x ∷ xs) p h k = elim (cases_Bool (nat_lt x 65536)) [
  | inr n ↦ absurd (let z = rw n at h in cc)
  | inl s ↦ elim (cases_Bool (x == p)) [
    | inl e ↦ subst (λ y. y < 2 ^ 16) (eqb-true x p e) (ltb-true x 65536 s)
    | inr e ↦ below_word xs p (rw s at h) (rw e at k)
  ]
]

primes_below : list_all (λ q. nat_lt q 65536) primes ≡ true
unfolding primes
primes_below = refl

pub table-small : (p : ℕ) → IsInTable p → p < 2 ^ 16
unfolding is_in_table
table-small p h = below_word primes p primes_below h

-- ---- what is kept

pub kept-residues : (p : ℕ) (f : Poly) → IsCanonicalPoly p f → AreResidues p f
kept-residues p f h = canonical-residues p f h.canonical

pub kept-above_one : (p : ℕ) (f : Poly) → IsCanonicalPoly p f → 1 < p
kept-above_one p f h = table-above_one p h.listed

pub kept-nil : (p : ℕ) → IsInTable p → IsCanonicalPoly p []
kept-nil p h = record { listed = h; canonical = tt; few = omega arith }

pub kept-generator : (p k : ℕ) → IsInTable p → IsCanonicalPoly p (generator k)
kept-generator p k h = record { listed = h; canonical = (omega arith, table-above_one p h, tt, tt); few = omega arith }

pub kept-normal : (p : ℕ) (f : Poly) → IsInTable p → length (normal p f) ≤ 65536 → IsCanonicalPoly p (normal p f)
kept-normal p f h few = record { listed = h; canonical = canonical-normal p f (omega (arith, table-above_one p h)); few = few }

length-scale : (c : ℕ) (f : Poly) → length (scale c f) ≡ length f
length-scale c [] = refl
length-scale c (t ∷ f) = omega (arith, length-scale c f)

pub kept-multiple : (p n : ℕ) (f : Poly) → IsCanonicalPoly p f → IsCanonicalPoly p (multiple p n f)
unfolding multiple
kept-multiple p n f h = kept-normal p (scale n f) h.listed (omega (arith, normal-length p (scale n f), length-scale n f, h.few))

-- a multiple counts modulo p
pub multiple-mod : (p n : ℕ) (f : Poly) → 1 < p → normal p (scale (n % p) f) ≡ multiple p n f
unfolding multiple
multiple-mod p n f one = alike-normal p (scale (n % p) f) (scale n f) (omega arith) (scales-alike f (of_mod n))

-- ---- limits

-- the terms of a polynomial are of degree at most 64
pub terms-low : (ts : List Term) → list_any (λ t. nat_lt 64 (degree t.1)) (terms ts) ≡ false
terms-low [] = refl
terms-low (t ∷ ts) = let h = t.small in rw (le-ltb 64 (degree (tree t.mono)) h) (terms-low ts)

pub within-few : (place : ℕ) (f : Poly) → list_any (λ t. nat_lt 64 (degree t.1)) f ≡ false → length f ≤ 65536 → limited place f ≡ Ok f
unfolding limited
within-few place f low few = rw (low, le-ltb 65536 (length f) few) refl

pub within-many : (place : ℕ) (f : Poly) → list_any (λ t. nat_lt 64 (degree t.1)) f ≡ false → 65536 < length f → limited place f ≡ Err (errors.TooManyTerms place)
unfolding limited
within-many place f low many = rw (low, lt-ltb 65536 (length f) many) refl

-- a sum or difference that was made, and then counted
pub counted-kept : (p : ℕ) (f h : Poly) (r : Result Poly SyntaxError) → IsInTable p → h ≡ normal p f → IfOk r (λ x. x ≡ h) → IfOk r (λ x. length x ≤ 65536) → IfOk r (λ x. IsCanonicalPoly p x)
counted-kept p f h (Ok x) listed e same few = subst (IsCanonicalPoly p) (sym (same ∙ e)) (kept-normal p f listed (subst (λ y. length y ≤ 65536) (same ∙ e) few))
counted-kept p f h (Err d) listed e same few = tt

pub sum-counted : (p place : ℕ) (f g h : Poly) (r : Result Poly SyntaxError) → h ≡ normal p (f ++ g) → Gives (λ x. x) r (limited place h) → Gives (λ x. x) r (sum p place f g)
unfolding sum
sum-counted p place f g h r e given = subst (λ y. Gives (λ x. x) r (limited place y)) e given

pub difference-counted : (p place : ℕ) (f g t h : Poly) (r : Result Poly SyntaxError) → 1 < p → t ≡ multiple p (p - 1) g → h ≡ normal p (f ++ t) → Gives (λ x. x) r (limited place h)
    → Gives (λ x. x) r (difference p place f g)
unfolding difference multiple
difference-counted p place f g t h r one turned e given =
    let q : h ≡ normal p (f ++ scale (p - 1) g) = e ∙ ap (λ y. normal p (f ++ y)) turned ∙ normal-append-right p f (scale (p - 1) g) (omega arith) in
    subst (λ y. Gives (λ x. x) r (limited place y)) q given

pub length-terms : (ts : List Term) → length (terms ts) ≡ length ts
length-terms [] = refl
length-terms (t ∷ ts) = omega (arith, length-terms ts)

-- what the terms say of the polynomial
pub poly-low : (ts : List Term) (f : Poly) → terms ts ≡ f → list_any (λ t. nat_lt 64 (degree t.1)) f ≡ false
poly-low ts f e = subst (λ f. list_any (λ t. nat_lt 64 (degree t.1)) f ≡ false) e (terms-low ts)

pub poly-length : (ts : List Term) (f : Poly) → terms ts ≡ f → length ts ≡ length f
poly-length ts f e = sym (length-terms ts) ∙ ap (length {A = ℕ × Tree}) e

-- ---- products

any-high : (f : Poly) → 64 < greatest_degree f → list_any (λ t. nat_lt 64 (degree t.1)) f ≡ true
any-high [] h = absurd (omega arith)
any-high (t ∷ f) h = elim (cases_Bool (nat_lt 64 (degree t.1))) [
  | inl e ↦ rw e refl
  | inr e ↦ rw e (any-high f (let k : degree t.1 ≤ 64 = ltb-false 64 (degree t.1) e in omega arith))
]

pub none-high : (f : Poly) → greatest_degree f ≤ 64 → list_any (λ t. nat_lt 64 (degree t.1)) f ≡ false
none-high [] h = refl
none-high (t ∷ f) h = rw (le-ltb 64 (degree t.1) (omega arith)) (none-high f (omega arith))

both-some : (m n : ℕ) → 0 < m * n → (0 < m) × (0 < n)
both-some zero n h = absurd (omega arith)
both-some (suc m) zero h = absurd (omega arith)
both-some (suc m) (suc n) h = (omega arith, omega arith)

module _ (p place : ℕ) (f g : Poly) (left : IsCanonicalPoly p f) (right : IsCanonicalPoly p g) where
  product_terms : length (normal p (product f g)) ≡ length f * length g
  product_terms = normal-product-length p f g (IsPrime-from_table p left.listed) left.canonical right.canonical

  product_degree : 0 < length f * length g → greatest_degree (normal p (product f g)) ≡ greatest_degree f + greatest_degree g
  product_degree h =
      let both = both-some (length f) (length g) h in normal-product-degree p f g (IsPrime-from_table p left.listed) left.canonical right.canonical both.0 both.1

  pub times-zero : length f * length g ≡ 0 → times p place f g ≡ Ok []
  unfolding times limited
  times-zero h = rw (nil_from_length (normal p (product f g)) (product_terms ∙ h)) refl

  pub times-high : 0 < length f * length g → 64 < greatest_degree f + greatest_degree g → times p place f g ≡ Err (errors.TooHigh place)
  unfolding times limited
  times-high h k = rw (any-high (normal p (product f g)) (omega (arith, product_degree h))) refl

  pub times-many : greatest_degree f + greatest_degree g ≤ 64 → 65536 < length f * length g → times p place f g ≡ Err (errors.TooManyTerms place)
  unfolding times
  times-many h k =
      within-many place (normal p (product f g)) (none-high (normal p (product f g)) (omega (arith, product_degree (omega arith)))) (omega (arith, product_terms))

  pub times-within : 0 < length f * length g → greatest_degree f + greatest_degree g ≤ 64 → length f * length g ≤ 65536 → times p place f g ≡ Ok (normal p (product f g))
  unfolding times
  times-within h k few =
      within-few place (normal p (product f g)) (none-high (normal p (product f g)) (omega (arith, product_degree h))) (omega (arith, product_terms))

  pub times-kept : length f * length g ≤ 65536 → IsCanonicalPoly p (normal p (product f g))
  times-kept few = kept-normal p (product f g) left.listed (omega (arith, product_terms))

  -- the number of terms, as the program counts them
  pub counts : (ts us : List Term) → terms ts ≡ f → terms us ≡ g → length ts * length us ≡ length f * length g
  counts ts us d e = λ i. poly-length ts f d i * poly-length us g e i

-- ---- what a caller is told

pub ok-residues : (p : ℕ) (r : Result Poly SyntaxError) → IfOk r (λ f. IsCanonicalPoly p f) → IfOk r (λ f. AreResidues p f)
ok-residues p (Ok f) h = kept-residues p f h
ok-residues p (Err e) h = tt

pub ok-few : (p : ℕ) (r : Result Poly SyntaxError) → IfOk r (λ f. IsCanonicalPoly p f) → IfOk r (λ f. length f ≤ 65536)
ok-few p (Ok f) h = h.few
ok-few p (Err e) h = tt
