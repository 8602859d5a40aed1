-- Lines within the target have polynomials within it.
use Rattle.std.proofs.Common.{◌≡◌, ◌⊎◌, suc, ℕ, ◌+◌, ◌%◌, ◌<◌, ◌≤◌, Bool, true, false, not, IsTrue, List, [], ◌∷◌, map, length, sum, All, sym, refl, ap, ◌∙◌, subst, arith, inl, inr}
use Rattle.std.specs.Prelude.{◌==◌, ◌&&◌}
use Rattle.std.specs.List.{list_any}
use Rattle.std.proofs.Math.Nat.{mod-eq_of_lt}
use Rattle.std.proofs.lemmas.Bool.{cases_Bool, false≢true}
use Rattle.std.proofs.lemmas.Bool.Decides.{nat_tests}
use Rattle.gf_sums.specs.Sums.{total, coefficient, IsCanonical}
use Rattle.gf_sums.proofs.Totals.{total-equal}
use Rattle.alb_mono.specs.Listing.{Each}
use Rattle.alb_mono.specs.Tree.{Tree, degree, count, listed, type_of, type_le, AreBelow, are_below, same_tree, cmp_monos, tree}
use Rattle.alb_mono.specs.declared.mono.Mono.{Mono}
use Rattle.alb_mono.specs.declared.side.Side.{Side}
use Rattle.alb_mono.specs.declared.side.Side.TheVariants.{Left, Right}
use Rattle.alb_mono.proofs.Leaves.{below_from_test}
use Rattle.alb_poly.specs.Poly.{Poly, normal}
use Rattle.alb_poly.specs.Consequence.{beside}
use Rattle.alb_poly.specs.Instance.{IsAtMost, fill, leaves, total_from, Form, instance, IsMultilinear, IsMultilinearForm}
use Rattle.alb_poly.proofs.AtMost.{run-plus_both, degree-counts, run-at_most}
use Rattle.alb_poly.proofs.Multilinear.{each-map, leaves-multilinear, past, past-below, none_past}
use Rattle.alb_poly.proofs.NormalLemmas.{normal-each, normal-same, canonical-normal}
use Rattle.alb_poly.proofs.Parts.{count-leaves, listed-equal}
use Rattle.alb_poly.proofs.Terms.{canonical-coefficients}
use Rattle.alb_poly.proofs.Consequence.{tree_tells}
use Rattle.alb_deriv.specs.Derivation.{are_within, AreAllBelow, passes_target}
use Rattle.alb_deriv.specs.Answers.{IsPolyAtMost}

-- ---- the monomials of a line

pub all_below : (n : ℕ) (ms : List Mono) → All (λ m. IsTrue (are_below n (tree m))) ms → AreAllBelow n (map tree ms)
all_below n [] h = tt
all_below n (m ∷ ms) h = (below_from_test n (tree m) (h 0 m (omega arith)), all_below n ms (λ k d l. h (suc k) d (omega arith)))

total_past : (n : ℕ) (ms : List Tree) → AreAllBelow n ms → total (leaves (past n)) ms ≡ 0
total_past n [] h = refl
total_past n (m ∷ ms) h = omega (arith, past-below n m h.0, total_past n ms h.1)

degrees-counts : (n : ℕ) (ms : List Tree) → AreAllBelow n ms → total degree ms ≤ total_from (λ g. total (λ m. count g m) ms) 0 n
degrees-counts n [] h = omega arith
degrees-counts n (m ∷ ms) h =
    omega (arith, degree-counts n m h.0, degrees-counts n ms h.1, run-plus_both (λ g. count g m) (λ g. total (λ x. count g x) ms) 0 n)

-- monomials whose types together are within the target have no more degree than it
pub within-degree : (target : List ℕ) (ms : List Tree) → AreAllBelow (length target) ms → are_within target ms ≡ true → total degree ms ≤ sum target
within-degree target ms b h = omega (arith, degrees-counts (length target) ms b, run-at_most (λ g. total (λ m. count g m) ms) 0 target h)

-- ---- instances

filled : (target : List ℕ) (ms : List Tree) (m : Tree) → IsMultilinear (length ms) m → AreAllBelow (length target) ms → are_within target ms ≡ true → IsAtMost target (fill ms m)
unfolding type_of
filled target ms m h b w = record {
  below = none_past (length target) (fill ms m) (leaves-multilinear (past (length target)) ms m h ∙ total_past (length target) ms b);
  counts = subst (λ ts. IsTrue (type_le ts target)) (sym (listed-equal _ _ 0 (length target) (λ g.
      count-leaves g (fill ms m) ∙ leaves-multilinear _ ms m h ∙ total-equal _ _ ms (λ x. sym (count-leaves g x))))) w;
}

pub instance-fit : (target : List ℕ) (f : Form) (ms : List Tree) → IsMultilinearForm f → length ms ≡ f.degree → AreAllBelow (length target) ms → are_within target ms ≡ true →
    IsPolyAtMost target (instance f ms)
instance-fit target f ms h n b w =
    each-map (λ t. IsMultilinear f.degree t.1) (λ t. IsAtMost target t.1) _ f.terms (λ t k. filled target ms t.1 (subst (λ d. IsMultilinear d t.1) (sym n) k) b w) h

-- ---- products

pub pair_at_most : (target : List ℕ) (s : Side × Tree) (m : Tree) → AreBelow (length target) s.1 → AreBelow (length target) m →
    type_le (listed (λ g. count g m + count g s.1) 0 (length target)) target ≡ true → IsAtMost target (beside s m)
unfolding type_of
pair_at_most target (Left, x) m b c h = record {
  below = (b, c);
  counts = subst (λ ts. IsTrue (type_le ts target)) (listed-equal _ _ 0 (length target) (λ g. omega arith)) h;
}
pair_at_most target (Right, x) m b c h = record { below = (c, b); counts = h }

pub pair_type : (target : List ℕ) (s : Side × Tree) (m : Tree) →
    type_le (type_of (length target) (beside s m)) target ≡ type_le (listed (λ g. count g m + count g s.1) 0 (length target)) target
unfolding type_of
pair_type target (Left, x) m = ap (λ ts. type_le ts target) (listed-equal _ _ 0 (length target) (λ g. omega arith))
pair_type target (Right, x) m = refl

-- ---- terms that pass the target

pub none-any : {X : Type 0} (q : X → Bool) (xs : List X) → list_any q xs ≡ false → Each (λ x. q x ≡ false) xs
none-any q [] h = tt
none-any q (x ∷ xs) h = elim (cases_Bool (q x)) [
  | inl e ↦ absurd (false≢true (sym (rw e at h)))
  | inr e ↦ (e, none-any q xs (rw e at h))
]

pub any-none : {X : Type 0} (q : X → Bool) (xs : List X) → Each (λ x. q x ≡ false) xs → list_any q xs ≡ false
any-none q [] h = refl
any-none q (x ∷ xs) h = rw (h.0, any-none q xs h.1) refl

-- whether a monomial passes the target
abbrev pub passes : List ℕ → Tree → Bool
passes target m = not (type_le (type_of (length target) m) target)

pub absent-or : (P : Tree → Type 0) (f : Poly) (m : Tree) → Each (λ t. P t.1) f → P m ⊎ (coefficient same_tree f m ≡ 0)
absent-or P [] m h = inr refl
absent-or P (t ∷ f) m h = elim (cases_Bool (same_tree t.1 m)) [
  | inl e ↦ inl (subst P (tree_tells.sound t.1 m e) h.0)
  | inr e ↦ elim (absent-or P f m h.1) [ inl a ↦ inl a | inr z ↦ inr (rw e (omega (arith, z))) ]
]

and_none : (a : Bool) → (a && false) ≡ false
and_none true = refl
and_none false = refl

-- a coefficient and a test, where the coefficient is not 0
counted_kept : (c p : ℕ) (b : Bool) → 0 < c → c < p → (not (c % p == 0) && b) ≡ false → b ≡ false
counted_kept c p b pos small h =
    let e : (c == 0) ≡ false = grind (arith, nat_tests) in rw (mod-eq_of_lt small, e) at h

module _ (p : ℕ) (pos : 0 < p) (target : List ℕ) (f : Poly) where
  -- the test of the definition at a monomial
  counted : Tree → Bool
  counted m = not (coefficient same_tree f m % p == 0) && passes target m

  -- what is kept passes where it is counted
  kept-none : (g : Poly) → IsCanonical cmp_monos p g → Each (λ t. coefficient same_tree (normal p f) t.1 ≡ t.0) g → Each (λ t. counted t.1 ≡ false) g →
      Each (λ t. passes target t.1 ≡ false) g
  unfolding counted
  kept-none [] c h k = tt
  kept-none (t ∷ g) c h k =
      let e : coefficient same_tree f t.1 % p ≡ t.0 % p = sym (normal-same p f t.1).same ∙ ap (λ x. x % p) h.0 in
      (counted_kept t.0 p (passes target t.1) c.0 c.1 (rw e at k.0), kept-none g c.3 h.1 k.1)

  uncounted : (m : Tree) → Each (λ t. passes target t.1 ≡ false) (normal p f) → counted m ≡ false
  unfolding counted
  uncounted m h = elim (absent-or (λ x. passes target x ≡ false) (normal p f) m h) [
    | inl e ↦ rw e (and_none _)
    | inr z ↦ (let e : coefficient same_tree f m % p ≡ 0 % p = sym (normal-same p f m).same ∙ ap (λ x. x % p) z in
        rw (e, mod-eq_of_lt pos) refl)
  ]

  all_uncounted : (g : Poly) → Each (λ t. passes target t.1 ≡ false) (normal p f) → Each (λ t. counted t.1 ≡ false) g
  all_uncounted [] h = tt
  all_uncounted (t ∷ g) h = (uncounted t.1 h, all_uncounted g h)

  -- a polynomial passes the target exactly where a term of its normal form does
  pub passes-normal : passes_target p target f ≡ list_any (λ t. passes target t.1) (normal p f)
  unfolding counted
  passes-normal = elim (cases_Bool (list_any (λ t. passes target t.1) (normal p f))) [
    | inr e ↦ any-none (λ t. counted t.1) f (all_uncounted f (none-any (λ t. passes target t.1) (normal p f) e)) ∙ sym e
    | inl e ↦ elim (cases_Bool (passes_target p target f)) [
      | inl a ↦ a ∙ sym e
      | inr a ↦ (let c = canonical-normal p f pos in
          let none = any-none (λ t. passes target t.1) (normal p f)
          (kept-none (normal p f) c (canonical-coefficients p (normal p f) c) (normal-each (λ m. counted m ≡ false) p f (none-any (λ t. counted t.1) f a))) in
          absurd (false≢true (sym none ∙ e)))
    ]
  ]
