-- A polynomial is a consequence exactly where each of its homogeneous parts is.
use Rattle.std.proofs.Common.{◌≡◌, ℕ, zero, suc, ◌+◌, ◌≤◌, Bool, true, false, not, List, [], ◌∷◌, ◌++◌, length, sym, refl, ap, ◌∙◌, subst, arith, inl, inr}
use Rattle.std.proofs.lemmas.Bool.{cases_Bool, false≢true}
use Rattle.gf_sums.specs.Sums.{weigh}
use Rattle.gf_sums.proofs.Totals.{weigh-append}
use Rattle.gf_sums.proofs.Alike.{Alike, equal}
use Rattle.alb_mono.specs.Listing.{Each}
use Rattle.alb_mono.specs.Tree.{Tree, leaf, node, type_of, AreBelow}
use Rattle.alb_mono.proofs.Leaves.{length-type_of}
use Rattle.alb_poly.specs.Poly.{Poly, has_type, part, list_eq}
use Rattle.alb_poly.specs.Instance.{HasType, IsHomogeneous, Form}
use Rattle.alb_poly.specs.Consequence.{AreMultilinear, item_value, IsConsequence, IsConsequenceOfType}
use Rattle.alb_poly.specs.Laws.{PartsDecide, TypesAreTested}
use Rattle.alb_poly.proofs.Multilinear.{each-from}
use Rattle.alb_poly.proofs.Consequence.{poly_alike, consequence-same, consequence-zero, consequence-append}
use Rattle.alb_poly.proofs.Kept.{keep, Passes, Kept, item-each, consequence-kept}
use Rattle.alb_poly.proofs.Types.{list_eq-itself, list_eq-sound, test_from_below, has_type-sound, has_type-whole, has_type-of, has_type-is, has_type-counts}

pub types-are-tested : TypesAreTested
types-are-tested e m = (has_type-sound e m, has_type-whole e m)

-- ---- the parts of a consequence

pub part-consequence : (p : ℕ) (fs : List Form) (e : List ℕ) (g : Poly) → AreMultilinear fs → IsConsequence p fs g → IsConsequenceOfType p fs e (part e g)
part-consequence p fs e g multi c =
    let k : Kept p fs (has_type e) g = consequence-kept p fs multi (has_type e) (has_type-counts e) g c in
    record {
      items = k.items;
      are = k.are;
      types = each-from (Passes fs (has_type e)) (λ it. IsHomogeneous e (item_value fs it)) k.items
          (λ it h. item-each (HasType e) fs it (each-from _ _ _ (λ t q. has_type-sound e _ q) h)) k.pass;
      same = poly_alike k.alike;
    }

-- ---- the sum of the parts

-- the terms of other types
abbrev others : List ℕ → Poly → Poly
others e f = keep (λ m. not (has_type e m)) f

-- what a test keeps, and what it does not
split-keep : {p : ℕ} (q : Tree → Bool) (f : Poly) → Alike p (keep q f ++ keep (λ m. not (q m)) f) f
split-keep q f = equal _ _ (λ w. weigh-append w (keep q f) (keep (λ m. not (q m)) f) ∙ weigh-split w q f)
  where
    weigh-split : (w : Tree → ℕ) (q : Tree → Bool) (f : Poly) → weigh w (keep q f) + weigh w (keep (λ m. not (q m)) f) ≡ weigh w f
    weigh-split w q [] = omega arith
    weigh-split w q (t ∷ f) = elim (cases_Bool (q t.1)) [
      | inl b ↦ rw b (omega (arith, weigh-split w q f))
      | inr b ↦ rw b (omega (arith, weigh-split w q f))
    ]

length-keep : (q : Tree → Bool) (f : Poly) → length (keep q f) ≤ length f
length-keep q [] = omega arith
length-keep q (t ∷ f) = elim (cases_Bool (q t.1)) [ inl b ↦ rw b (omega (arith, length-keep q f)) | inr b ↦ rw b (omega (arith, length-keep q f)) ]

each-keep : (P : Tree → Type 0) (q : Tree → Bool) (f : Poly) → Each (λ t. P t.1) f → Each (λ t. P t.1) (keep q f)
each-keep P q [] h = tt
each-keep P q (t ∷ f) h = elim (cases_Bool (q t.1)) [ inl b ↦ rw b (h.0, each-keep P q f h.1) | inr b ↦ rw b (each-keep P q f h.1) ]

-- a second test keeps nothing of what fails the first, or the same as of the whole
keep-none : (q r : Tree → Bool) (f : Poly) → ((m : Tree) → r m ≡ true → q m ≡ true) → keep r (keep (λ m. not (q m)) f) ≡ []
keep-none q r [] h = refl
keep-none q r (t ∷ f) h = elim (cases_Bool (q t.1)) [
  | inl b ↦ rw b (keep-none q r f h)
  | inr b ↦ rw b (elim (cases_Bool (r t.1)) [ inl k ↦ absurd (false≢true (sym b ∙ h t.1 k)) | inr k ↦ rw k (keep-none q r f h) ])
]

keep-rest : (q r : Tree → Bool) (f : Poly) → ((m : Tree) → r m ≡ true → q m ≡ false) → keep r (keep (λ m. not (q m)) f) ≡ keep r f
keep-rest q r [] h = refl
keep-rest q r (t ∷ f) h = elim (cases_Bool (r t.1)) [
  | inl k ↦ rw (h t.1 k, k) (ap (λ g. t ∷ g) (keep-rest q r f h))
  | inr k ↦ elim (cases_Bool (q t.1)) [ inl b ↦ rw (b, k) (keep-rest q r f h) | inr b ↦ rw (b, k) (keep-rest q r f h) ]
]

-- above every generator
bound : Tree → ℕ
bound (leaf k) = suc k
bound (node l r) = bound l + bound r

bound_poly : Poly → ℕ
bound_poly [] = 0
bound_poly (t ∷ f) = bound t.1 + bound_poly f

below-bound : (n : ℕ) (m : Tree) → bound m ≤ n → AreBelow n m
unfolding bound
below-bound n (leaf k) h = omega arith
below-bound n (node l r) h = (below-bound n l (omega arith), below-bound n r (omega arith))

below-poly : (n : ℕ) (f : Poly) → bound_poly f ≤ n → Each (λ t. AreBelow n t.1) f
unfolding bound_poly
below-poly n [] h = tt
below-poly n (t ∷ f) h = (below-bound n t.1 (omega arith), below-poly n f (omega arith))

module _ (p : ℕ) (fs : List Form) (n : ℕ) where
  abbrev PartsAre : Poly → Type 0
  PartsAre f = (e : List ℕ) → length e ≡ n → IsConsequence p fs (part e f)

  -- the parts of the terms of other types
  parts-others : (e : List ℕ) (f : Poly) → length e ≡ n → PartsAre f → PartsAre (others e f)
  parts-others e f l h d k = elim (cases_Bool (list_eq d e)) [
    | inl q ↦ subst (IsConsequence p fs) (sym (keep-none (has_type e) (has_type d) f (λ m r. subst (λ c. has_type c m ≡ true) (list_eq-sound d e q) r))) (consequence-zero p fs)
    | inr q ↦ subst (IsConsequence p fs) (sym (keep-rest (has_type e) (has_type d) f (λ m r. differs d e m k l q r))) (h d k)
  ]
    where
      differs : (d e : List ℕ) (m : Tree) → length d ≡ n → length e ≡ n → list_eq d e ≡ false → has_type d m ≡ true → has_type e m ≡ false
      differs d e m k l q r = elim (cases_Bool (has_type e m)) [
        | inl s ↦ absurd (false≢true (sym q ∙ ap (λ c. list_eq c e) (sym (has_type-is n d m k r) ∙ has_type-is n e m l s) ∙ list_eq-itself e))
        | inr s ↦ s
      ]

  whole-within : (k : ℕ) (f : Poly) → length f ≤ k → Each (λ t. AreBelow n t.1) f → PartsAre f → IsConsequence p fs f
  whole-within k [] s b h = consequence-zero p fs
  whole-within zero (t ∷ f) s b h = absurd (omega arith)
  whole-within (suc k) (t ∷ f) s b h =
      let e : List ℕ = type_of n t.1 in
      let l : length e ≡ n = length-type_of n t.1 in
      let here : has_type e t.1 ≡ true = has_type-of n e t.1 l (test_from_below n t.1 b.0) refl in
      let rest : others e (t ∷ f) ≡ others e f = rw here refl in
      consequence-same p fs (poly_alike (split-keep (has_type e) (t ∷ f)))
      (consequence-append p fs (h e l)
      (subst (IsConsequence p fs) (sym rest)
      (whole-within k (others e f) (omega (arith, length-keep (λ m. not (has_type e m)) f)) (each-keep (AreBelow n) (λ m. not (has_type e m)) f b.1)
      (subst PartsAre rest (parts-others e (t ∷ f) l h)))))

pub parts-decide : PartsDecide
parts-decide p fs g multi = (
  λ c e. part-consequence p fs e g multi c,
  λ h. whole-within p fs (bound_poly g) (length g) g (omega arith) (below-poly (bound_poly g) g (omega arith))
      (λ e l. let c : IsConsequenceOfType p fs e (part e g) = h e in record { items = c.items; are = c.are; same = c.same }),
)
