-- The polynomials of single lines.
use Rattle.std.proofs.Common.{◌≡◌, ℕ, zero, suc, ◌+◌, ◌-◌, ◌*◌, ◌<◌, ◌≤◌, Bool, true, false, IsTrue, List, [], ◌∷◌, ◌++◌, map, length, All, get_or, sym, refl, ap, ◌∙◌, subst, arith, inl, inr, Some, None, sum, take}
use Rattle.std.specs.Prelude.{if◌then◌else◌, sum_by, ◌||◌, not}
use Rattle.std.specs.List.{flat_map, list_any}
use Rattle.std.proofs.lemmas.List.{take_more, append-nil, get_or-map, length-map}
use Rattle.std.proofs.lemmas.List.Concat.{flat_map-append}
use Rattle.std.proofs.lemmas.Bool.{cases_Bool, false≢true}
use Rattle.std.proofs.lemmas.Bool.Decides.{nat_tests}
use Rattle.std.proofs.lemmas.List.Sums.{sum_by-cons}
use Rattle.gf_field.specs.Modular.{IsSameMod}
use Rattle.gf_field.proofs.Mod.{same, plus, times, of_mod}
use Rattle.gf_sums.specs.Sums.{total, weigh, scale, reindex, IsCanonical}
use Rattle.gf_sums.proofs.Alike.{Alike, joined, scale-alike, append-alike, reindex-alike}
use Rattle.alb_mono.proofs.Both.{and_left, and_right}
use Rattle.alb_mono.specs.Listing.{Each}
use Rattle.alb_mono.specs.Tree.{Tree, leaf, node, degree, are_below, AreBelow, count, listed, type_le, cmp_monos, tree}
use Rattle.alb_mono.specs.declared.mono.Mono.{Mono}
use Rattle.alb_mono.specs.declared.side.Side.{Side}
use Rattle.alb_poly.proofs.Consequence.{alike_poly, poly_alike}
use Rattle.alb_poly.specs.Poly.{Poly, IsSamePoly, AreResidues, normal}
use Rattle.gf_field.specs.Modular.{IsInTable}
use Rattle.gf_field.proofs.Table.{IsPrime-from_table}
use Rattle.alb_poly.specs.Terms.{multiples}
use Rattle.alb_poly.specs.Instance.{Form}
use Rattle.alb_poly.specs.Consequence.{beside, form_at, form}
use Rattle.alb_poly.specs.declared.rules.Linear.{Linear}
use Rattle.alb_poly.proofs.Parts.{each_at}
use Rattle.alb_poly.proofs.NormalLemmas.{normal-alike, alike-is-normal, canonical-normal, descending-canonical, canonical-descending, canonical-residues}
use Rattle.alb_poly.proofs.Falling.{descending-beside}
use Rattle.alb_linear.specs.Identity.{IsLinearized}
use Rattle.alb_deriv.specs.Derivation.{Times, Sum, OutOfType, fault, line_value, is_no_place, are_within, earlier}
use Rattle.alb_nodes.specs.Nodes.{at}
use Rattle.alb_deriv.specs.Answers.{IsPolyAtMost}
use Rattle.alb_deriv.specs.Numbered.{read}
use Rattle.alb_deriv.proofs.Fits.{passes, passes-normal, pair_type, pair_at_most, all_below, within-degree}

-- what a place that was found says
pub record IsPlace (n i k : ℕ) : Type 0 where
  pub tested : is_no_place n i ≡ false
  pub is : k ≡ i - 1
  pub below : k < n

pub place-found : (n i k : ℕ) → Some k ≡ (if is_no_place n i then None else Some (i - 1)) → IsPlace n i k
place-found n i k h = elim (cases_Bool (is_no_place n i)) [
  | inl e ↦ absurd (let q : Some k ≡ None = h ∙ rw e in cc)
  | inr e ↦ (let q : Some k ≡ Some (i - 1) = h ∙ rw e in
      let same : k ≡ i - 1 = cc in
      let l : i - 1 < n = grind (arith, nat_tests) in
      record { tested = e; is = same; below = omega arith })
]

pub form-at : (xs : List Linear) (k : ℕ) (x : Linear) → k < length xs → x ≡ get_or xs k x → form_at (map form xs) k ≡ form x
form-at xs k x l e = get_or-map form xs k x _ l ∙ ap form (sym e)

pub linearized_at : (p : ℕ) (fs : List Form) (k : ℕ) → Each (IsLinearized p) fs → IsLinearized p (form_at fs k)
linearized_at p fs k h = each_at (IsLinearized p) fs k (record { degree = 0; terms = [] }) (record { residues = λ i d l. absurd (omega arith); multilinear = tt }) h

pub linearized_of : (p : ℕ) (xs : List Linear) (k : ℕ) (x : Linear) → k < length xs → x ≡ get_or xs k x → Each (IsLinearized p) (map form xs) → IsLinearized p (form x)
linearized_of p xs k x l e h = subst (IsLinearized p) (form-at xs k x l e) (linearized_at p (map form xs) k h)

sum-total : (ms : List Mono) → sum_by (λ m. degree (tree m)) ms ≡ total degree (map tree ms)
sum-total [] = refl
sum-total (m ∷ ms) = sum_by-cons (λ x. degree (tree x)) m ms ∙ ap (λ n. degree (tree m) + n) (sum-total ms)

-- monomials within a target of low degree have low degree together
pub low-together : (target : List ℕ) (ms : List Mono) → sum target ≤ 12 → All (λ m. IsTrue (are_below (length target) (tree m))) ms → are_within target (map tree ms) ≡ true →
    sum_by (λ m. degree (tree m)) ms ≤ 64
low-together target ms low b h = omega (arith, sum-total ms, within-degree target (map tree ms) (all_below (length target) ms b) h)

or_none : (a b : Bool) → (a || b) ≡ false → (a ≡ false) × (b ≡ false)
or_none true b h = absurd (false≢true (sym h))
or_none false b h = (refl, h)

not_false : (a : Bool) → not a ≡ false → a ≡ true
not_false true h = refl
not_false false h = absurd (false≢true (sym h))

pub below-more : (n k : ℕ) (m : Tree) → n ≤ k → IsTrue (are_below n m) → IsTrue (are_below k m)
below-more n k (leaf i) l h = grind (arith, nat_tests)
below-more n k (node a b) l h =
    let x : are_below k a ≡ true = below-more n k a l (and_left _ _ h) in
    let y : are_below k b ≡ true = below-more n k b l (and_right _ _ h) in rw (x, y) refl

pub below-26 : (n : ℕ) (ms : List Mono) → n ≤ 26 → All (λ m. IsTrue (are_below n (tree m))) ms → All (λ m. IsTrue (are_below 26 (tree m))) ms
below-26 n ms l h = λ k d q. below-more n 26 (tree (get_or ms k d)) l (h k d q)

-- ---- products

pub passed-none : (target : List ℕ) (s : Side × Tree) (ts : List Tree) (f : List (ℕ × ℕ)) →
    ((k : ℕ) → k < length f → type_le (listed (λ g. count g (at ts (get_or f k (0, 0)).1) + count g s.1) 0 (length target)) target ≡ true) →
    list_any (λ t. passes target t.1) (reindex (beside s) (read ts f)) ≡ false
passed-none target s ts [] h = refl
passed-none target s ts (t ∷ f) h =
    rw (pair_type target s (at ts t.1), h 0 (omega arith)) (passed-none target s ts f (λ k l. h (suc k) (omega arith)))

or_true : (a : Bool) → (a || true) ≡ true
or_true true = refl
or_true false = refl

pub passed-some : (target : List ℕ) (s : Side × Tree) (ts : List Tree) (f : List (ℕ × ℕ)) (k : ℕ) → k < length f →
    type_le (listed (λ g. count g (at ts (get_or f k (0, 0)).1) + count g s.1) 0 (length target)) target ≡ false →
    list_any (λ t. passes target t.1) (reindex (beside s) (read ts f)) ≡ true
passed-some target s ts [] k l h = absurd (omega arith)
passed-some target s ts (t ∷ f) zero l h = rw (pair_type target s (at ts t.1), h) refl
passed-some target s ts (t ∷ f) (suc k) l h = rw (passed-some target s ts f k (omega arith) h) (or_true _)

pub residues-reindex : (p : ℕ) (h : Tree → Tree) (f : Poly) → AreResidues p f → AreResidues p (reindex h f)
residues-reindex p h [] r k d l = absurd (omega arith)
residues-reindex p h (t ∷ f) r zero d l = r 0 t (omega arith)
residues-reindex p h (t ∷ f) r (suc k) d l = residues-reindex p h f (λ j e q. r (suc j) e (omega arith)) k d (omega arith)

pub canonical-beside : (p : ℕ) (s : Side × Tree) (f : Poly) → IsCanonical cmp_monos p f → IsCanonical cmp_monos p (reindex (beside s) f)
canonical-beside p s f h =
    descending-canonical p (reindex (beside s) f) (descending-beside s.0 s.1 f (canonical-descending p f h)) (residues-reindex p (beside s) f (canonical-residues p f h))

-- a monomial beside a normal form
pub normal-beside : (p : ℕ) (s : Side × Tree) (f : Poly) → 0 < p → reindex (beside s) (normal p f) ≡ normal p (reindex (beside s) f)
normal-beside p s f pos =
    alike-is-normal p (reindex (beside s) f) (reindex (beside s) (normal p f)) pos (canonical-beside p s (normal p f) (canonical-normal p f pos)) (reindex-alike (beside s) (normal-alike p f))

-- the value of an earlier line
pub earlier-value : (p : ℕ) (gs values : List Poly) (k at : ℕ) (f : Poly) → values ≡ map (normal p) gs → IsPlace (length values) k at → f ≡ get_or values at f → f ≡ normal p (earlier gs k)
earlier-value p gs values k at f e q h =
    let l : at < length gs = omega (arith, q.below, ap length e, length-map gs (normal p)) in
    h ∙ ap (λ vs. get_or vs at f) e ∙ get_or-map (normal p) gs at [] f l ∙ ap (λ j. normal p (get_or gs j [])) q.is

same_place : (p : ℕ) (gs values : List Poly) → values ≡ map (normal p) gs → length values ≡ length gs
same_place p gs values e = ap length e ∙ length-map gs (normal p)

multiples-weigh : (w : Tree → ℕ) (p c : ℕ) (f : Poly) → IsSameMod p (weigh w (multiples p c f)) (weigh w (scale c f))
multiples-weigh w p c [] = same refl
multiples-weigh w p c (t ∷ f) = plus (times (of_mod (c * t.0)) (same {a = w t.1} refl)) (multiples-weigh w p c f)

-- multiples with their residues are multiples
pub multiples-alike : (p c : ℕ) (f : Poly) → Alike p (multiples p c f) (scale c f)
multiples-alike p c f = record { at = λ w. multiples-weigh w p c f }

module _ (p : ℕ) (pos : 0 < p) (target : List ℕ) (fs : List Form) where
  pub times-judged : (gs values : List Poly) (k at : ℕ) (f : Poly) (s : Side × Tree) → values ≡ map (normal p) gs → IsPlace (length values) k at → f ≡ get_or values at f →
      (fault p target fs gs (Times k s) ≡ (if list_any (λ t. passes target t.1) (reindex (beside s) f) then Some OutOfType else None))
      × (reindex (beside s) f ≡ normal p (line_value fs gs (Times k s)))
  times-judged gs values k at f s e q h =
      let tested : is_no_place (length gs) k ≡ false = subst (λ n. is_no_place n k ≡ false) (same_place p gs values e) q.tested in
      let value : reindex (beside s) f ≡ normal p (reindex (beside s) (earlier gs k)) =
      ap (reindex (beside s)) (earlier-value p gs values k at f e q h) ∙ normal-beside p s (earlier gs k) pos in
      (rw (tested, passes-normal p pos target (reindex (beside s) (earlier gs k)), ← value) refl, value)

  -- one more multiple
  pub sum-more : (gs : List Poly) (cs : List (ℕ × ℕ)) (i : ℕ) (c : ℕ × ℕ) (now more f : Poly) → i < length cs → c ≡ get_or cs i c → f ≡ normal p (earlier gs c.1) →
      IsSamePoly p now (line_value fs gs (Sum (take i cs))) → IsSamePoly p more (now ++ multiples p c.0 f) → IsSamePoly p more (line_value fs gs (Sum (take (i + 1) cs)))
  sum-more gs cs i c now more f l e v h k =
      let g : ℕ × ℕ → Poly = λ d. scale d.0 (earlier gs d.1) in
      let grown : flat_map g (take (i + 1) cs) ≡ flat_map g (take i cs) ++ scale c.0 (earlier gs c.1) =
      ap (flat_map g) (take_more cs i c l) ∙ flat_map-append g (take i cs) (get_or cs i c ∷ []) ∙ ap (λ y. flat_map g (take i cs) ++ y) (append-nil (g (get_or cs i c)) ∙ ap g (sym e)) in
      let own : Alike p f (earlier gs c.1) = subst (λ y. Alike p y (earlier gs c.1)) (sym v) (normal-alike p (earlier gs c.1)) in
      subst (λ y. IsSamePoly p more y) (sym grown)
      (poly_alike (joined (alike_poly k) (append-alike (alike_poly h) (joined (multiples-alike p c.0 f) (scale-alike c.0 own)))))

pub beside-fit : (target : List ℕ) (s : Side × Tree) (f : Poly) → AreBelow (length target) s.1 → IsPolyAtMost target f → list_any (λ t. passes target t.1) (reindex (beside s) f) ≡ false →
    IsPolyAtMost target (reindex (beside s) f)
beside-fit target s [] b h k = tt
beside-fit target s (t ∷ f) b h k =
    let a = or_none _ _ k in
    let q : type_le (listed (λ g. count g t.1 + count g s.1) 0 (length target)) target ≡ true = sym (pair_type target s t.1) ∙ not_false _ a.0 in
    (pair_at_most target s t.1 b h.0.below q, beside-fit target s f b h.1 a.1)

pub table-positive : (p : ℕ) → IsInTable p → 0 < p
table-positive p h = omega (arith, (IsPrime-from_table p h).above_one)

pub table-one : (p : ℕ) → IsInTable p → 1 < p
table-one p h = omega (arith, (IsPrime-from_table p h).above_one)

pub normal-nil : (p : ℕ) → normal p [] ≡ []
unfolding normal
normal-nil p = refl
