-- The algebra of the basis monomials of some types: it satisfies the identities, and tells what is no consequence.
use Rattle.std.proofs.Common.{◌≡◌, ℕ, ◌*◌, ◌<◌, ◌≤◌, Bool, true, false, ◌&&◌, List, [], ◌∷◌, length, get_or, sum, sym, refl, ap, ◌∙◌, subst, arith, inl, inr}
use Rattle.std.specs.Bool.{if◌then◌else◌}
use Rattle.std.specs.Prelude.{nat_le}
use Rattle.std.specs.List.{flat_map}
use Rattle.std.proofs.lemmas.Bool.{cases_Bool, false≢true}
use Rattle.std.proofs.lemmas.Bool.Decides.{nat_tests}
use Rattle.std.proofs.lemmas.List.Elements.{filter-append}
use Rattle.gf_field.proofs.Mod.{same, ◌⊙◌}
use Rattle.gf_sums.specs.Sums.{Comb, weigh, scale, multiply, coefficient}
use Rattle.gf_sums.proofs.Totals.{weigh-equal}
use Rattle.gf_sums.proofs.Alike.{Alike, equal, turned, joined, weigh-reindex}
use Rattle.alb_mono.specs.Listing.{Each}
use Rattle.alb_mono.specs.Tree.{Tree, leaf, node, degree, type_of, type_le, are_below, same_tree}
use Rattle.alb_mono.proofs.Both.{and_left, and_right}
use Rattle.alb_mono.proofs.Leaves.{below_from_test, length-type_of}
use Rattle.alb_poly.specs.Textbook.{evaluate, evaluate_poly, unit}
use Rattle.alb_poly.specs.Poly.{Poly}
use Rattle.alb_poly.specs.Instance.{Form, fill, instance, IsMultilinear}
use Rattle.alb_poly.specs.Consequence.{form_at, IsConsequence, AreMultilinear}
use Rattle.alb_poly.proofs.Multilinear.{each-from, multilinear-below}
use Rattle.alb_poly.proofs.Parts.{multilinear_at}
use Rattle.alb_poly.proofs.Consequence.{itself', tree_tells, poly_alike, consequence-instance}
use Rattle.alb_table.specs.Right.{SameType, IsZeroAt, mono_value, poly_value, IsBasis, IsPart, IsTypeTo, IsWithinDegree}
use Rattle.alb_table.specs.Block.{spread}
use Rattle.alb_table.proofs.Bases.{IsTable}
use Rattle.alb_table.proofs.Types.{type-node, type-turned, type-listed}
use Rattle.alb_table.proofs.Coefficients.{keep, filter-each, coefficient-kept}
use Rattle.alb_table.proofs.Kept.{consequence-keep}
use Rattle.alb_table.proofs.Within.{test_from_below, below-same, le-factor}
use Rattle.alb_table.proofs.Values.{value-stands, value-normal, consequence-value, value-consequence, each-scale}
use Rattle.alb_table.proofs.Spans.{weigh-spread, spread-each}
use Rattle.alb_table.proofs.Image.{evaluate-fill, evaluate-alike, filter-all}
use Rattle.alb_table.proofs.Right.{degree-type}
use Rattle.alb_check.proofs.TableLemmas.{le_sum}

-- the entries of the products that pass, where another one is zero
abbrev pub cut : (Tree → Bool) → (Tree → Tree → Poly) → Tree → Tree → Poly
cut passes entry b c = if passes (node b c) then entry b c else []

-- a generator, or zero
abbrev pub cut_unit : (Tree → Bool) → ℕ → Poly
cut_unit passes k = if passes (leaf k) then unit (leaf k) else []

-- the value in the smaller algebra
abbrev pub cut_value : (Tree → Bool) → (Tree → Tree → Poly) → Poly → Poly
cut_value passes entry g = evaluate_poly (cut passes entry) (cut_unit passes) g

-- a test of types: the factors of what passes pass, and it is within the table
pub record IsCut (passes : Tree → Bool) (Within : Tree → Type 0) : Type 0 where
  pub left : (l r : Tree) → passes (node l r) ≡ true → passes l ≡ true
  pub right : (l r : Tree) → passes (node l r) ≡ true → passes r ≡ true
  pub respects : (x y : Tree) → SameType x y → passes x ≡ passes y
  pub inside : (x : Tree) → passes x ≡ true → Within x

module _ {I J K : Type 0} (P : I → Type 0) (Q : J → Type 0) (prod prod' : I → J → Comb K) (equal : (i : I) (j : J) → P i → Q j → prod i j ≡ prod' i j) where
  multiply-one : (c : ℕ) (i : I) (g : Comb J) → P i → Each (λ t. Q t.1) g → flat_map (λ t. scale (c * t.0) (prod i t.1)) g ≡ flat_map (λ t. scale (c * t.0) (prod' i t.1)) g
  multiply-one c i [] a b = refl
  multiply-one c i (t ∷ g) a b = rw (equal i t.1 a b.0, multiply-one c i g a b.1)

  multiply-equal : (f : Comb I) (g : Comb J) → Each (λ t. P t.1) f → Each (λ t. Q t.1) g → multiply prod f g ≡ multiply prod' f g
  multiply-equal [] g a b = refl
  multiply-equal (s ∷ f) g a b = rw (multiply-one s.0 s.1 g a.0 b, multiply-equal f g a.1 b)

flat-nothing : {X Y : Type 0} (xs : List X) → flat_map {X = X} {A = Y} (λ x. []) xs ≡ []
flat-nothing [] = refl
flat-nothing (x ∷ xs) = flat-nothing xs

nothing-right : {I J K : Type 0} (prod : I → J → Comb K) (f : Comb I) → multiply prod f [] ≡ []
nothing-right prod [] = refl
nothing-right prod (s ∷ f) = nothing-right prod f

multiply-nothing : {I J K : Type 0} (f : Comb I) (g : Comb J) → multiply {K = K} (λ i j. []) f g ≡ []
multiply-nothing [] g = refl
multiply-nothing {K = K} (s ∷ f) g = rw (flat-nothing {Y = ℕ × K} g) (multiply-nothing f g)

module _ (p : ℕ) (pos : 0 < p) (fs : List Form) (multi : AreMultilinear fs) (Within : Tree → Type 0) (entry : Tree → Tree → Poly)
    (table : IsTable p fs Within (IsBasis p fs Within) entry) (passes : Tree → Bool) (is_cut : IsCut passes Within) where
  abbrev value_cut : Tree → Poly
  value_cut m = evaluate (cut passes entry) (cut_unit passes) m

  parts : (m : Tree) → passes m ≡ true → Each (λ t. IsPart (IsBasis p fs Within) m t.1) (mono_value entry m)
  parts m h = (value-stands p pos fs Within (IsBasis p fs Within) entry table m (is_cut.inside m h)).parts

  -- what passes keeps its value
  pub cut-kept : (m : Tree) → passes m ≡ true → value_cut m ≡ mono_value entry m
  cut-kept (leaf k) h = rw h
  cut-kept (node l r) h =
      let hl = is_cut.left l r h in
      let hr = is_cut.right l r h in
      rw (cut-kept l hl, cut-kept r hr)
      (multiply-equal (IsPart (IsBasis p fs Within) l) (IsPart (IsBasis p fs Within) r) (cut passes entry) entry
      (λ x y a b. let e : passes (node x y) ≡ true = is_cut.respects (node x y) (node l r) (type-node a.type b.type) ∙ h in rw e)
      (mono_value entry l) (mono_value entry r) (parts l hl) (parts r hr))

  -- and another monomial has the value zero
  pub cut-gone : (m : Tree) → passes m ≡ false → value_cut m ≡ []
  cut-gone (leaf k) h = rw h
  cut-gone (node l r) h = elim (cases_Bool (passes l)) [
    | inr nl ↦ rw (cut-gone l nl)
    | inl hl ↦ (elim (cases_Bool (passes r)) [
      | inr nr ↦ rw (cut-gone r nr) (nothing-right (cut passes entry) (value_cut l))
      | inl hr ↦ rw (cut-kept l hl, cut-kept r hr)
          (multiply-equal (IsPart (IsBasis p fs Within) l) (IsPart (IsBasis p fs Within) r) (cut passes entry) (λ x y. [])
          (λ x y a b. let e : passes (node x y) ≡ false = is_cut.respects (node x y) (node l r) (type-node a.type b.type) ∙ h in rw e)
          (mono_value entry l) (mono_value entry r) (parts l hl) (parts r hr)
          ∙ multiply-nothing (mono_value entry l) (mono_value entry r))
    ])
  ]

  -- the value of a polynomial is that of its part that passes
  pub cut-value : (g : Poly) → cut_value passes entry g ≡ poly_value entry (keep passes g)
  cut-value [] = refl
  cut-value (t ∷ g) = elim (cases_Bool (passes t.1)) [
    | inl h ↦ rw h (rw (cut-kept t.1 h, cut-value g))
    | inr n ↦ rw n (rw (cut-gone t.1 n) (cut-value g))
  ]

  kept_within : (g : Poly) → Each (λ t. Within t.1) (keep passes g)
  kept_within g = each-from _ _ (keep passes g) (λ t h. is_cut.inside t.1 h) (filter-each (λ t. passes t.1) g)

  -- it is zero exactly where that part is a consequence
  pub cut-consequence : (g : Poly) → Alike p (cut_value passes entry g) [] → IsConsequence p fs (keep passes g)
  cut-consequence g h = value-consequence p pos fs multi Within entry table (keep passes g) (kept_within g) (subst (λ x. Alike p x []) (cut-value g) h)

  pub consequence-cut : (g : Poly) → IsConsequence p fs g → Alike p (cut_value passes entry g) []
  consequence-cut g c = subst (λ x. Alike p x []) (sym (cut-value g))
      (consequence-value p pos fs multi Within entry table (keep passes g) (kept_within g) (consequence-keep p fs multi passes is_cut.respects g c))

  -- every form is zero at basis monomials that pass
  pub cut-satisfies : (i : ℕ) (bs : List Tree) → i < length fs → length bs ≡ (form_at fs i).degree →
      ((k : ℕ) → k < length bs → IsBasis p fs Within (get_or bs k (leaf k)) × (passes (get_or bs k (leaf k)) ≡ true)) →
      Alike p (evaluate_poly (cut passes entry) (λ k. unit (get_or bs k (leaf k))) (form_at fs i).terms) []
  cut-satisfies i bs h len a =
      let f : Form = form_at fs i in
      let g : Poly = instance f bs in
      joined (turned (joined (moved g refl) (spread-each (IsMultilinear f.degree) _ _ f.terms (λ t m.
      evaluate-alike (cut passes entry) _ _ f.degree t (multilinear-below f.degree t m) (λ k l.
      let q = a k (let e : length bs ≡ f.degree = len in omega arith) in
      joined (itself' _ _ (cut-kept (get_or bs k (leaf k)) q.1)) (value-normal p pos fs multi Within entry table (get_or bs k (leaf k)) q.0))) (multilinear_at fs i multi))))
      (consequence-cut g (consequence-instance p fs i bs h len))
    where
      moved : (g : Poly) → instance (form_at fs i) bs ≡ g →
          Alike p (cut_value passes entry g) (spread (λ t. evaluate (cut passes entry) (λ k. value_cut (get_or bs k (leaf k))) t) (form_at fs i).terms)
      moved g e = rw (← e) (equal _ _ (λ w.
          weigh-spread w value_cut (instance (form_at fs i) bs)
          ∙ weigh-reindex _ (fill bs) (form_at fs i).terms
          ∙ weigh-equal _ _ (form_at fs i).terms (λ t. ap (weigh w) (evaluate-fill (cut passes entry) (cut_unit passes) bs t))
          ∙ sym (weigh-spread w (λ t. evaluate (cut passes entry) (λ k. value_cut (get_or bs k (leaf k))) t) (form_at fs i).terms)))

  kept_all : (m : Tree) → passes m ≡ true → (f : Poly) → Each (λ t. IsPart (IsBasis p fs Within) m t.1) f → keep passes f ≡ f
  kept_all m h f a = filter-all (λ t. passes t.1) f (each-from _ _ f (λ t k. is_cut.respects t.1 m k.type ∙ h) a)

  kept_none : (m : Tree) → passes m ≡ false → (f : Poly) → Each (λ t. IsPart (IsBasis p fs Within) m t.1) f → keep passes f ≡ []
  kept_none m h [] a = refl
  kept_none m h (t ∷ f) a = let e : passes t.1 ≡ false = is_cut.respects t.1 m a.0.type ∙ h in rw e (kept_none m h f a.1)

  scaled_parts : (m : Tree) (c : ℕ) → Within m → Each (λ t. IsPart (IsBasis p fs Within) m t.1) (scale c (mono_value entry m))
  scaled_parts m c w = each-scale (IsPart (IsBasis p fs Within) m) c (mono_value entry m) (value-stands p pos fs Within (IsBasis p fs Within) entry table m w).parts

  -- the value in the smaller algebra is the part of the value that passes
  pub cut-part : (g : Poly) → Each (λ t. Within t.1) g → cut_value passes entry g ≡ keep passes (poly_value entry g)
  cut-part [] a = refl
  cut-part (t ∷ g) a =
      sym (filter-append (λ u. passes u.1) (scale t.0 (mono_value entry t.1)) (poly_value entry g) ∙ elim (cases_Bool (passes t.1)) [
        | inl h ↦ rw (kept_all t.1 h (scale t.0 (mono_value entry t.1)) (scaled_parts t.1 t.0 a.0), cut-kept t.1 h, cut-part g a.1)
        | inr n ↦ rw (kept_none t.1 n (scale t.0 (mono_value entry t.1)) (scaled_parts t.1 t.0 a.0), cut-gone t.1 n, cut-part g a.1)
      ])

  -- so it is not zero where the value has a monomial that passes
  pub cut-nonzero : (g : Poly) → Each (λ t. Within t.1) g → (x : Tree) → passes x ≡ true → (IsZeroAt p (poly_value entry g) x → ⊥) →
      Alike p (cut_value passes entry g) [] → ⊥
  cut-nonzero g a x h n z = n
      (same (sym (coefficient-kept same_tree tree_tells passes (poly_value entry g) x h)) ⊙ same (ap (λ f. coefficient same_tree f x) (sym (cut-part g a))) ⊙ poly_alike z x)

-- ---- the types at most a type of the table

abbrev pub passes_type : List ℕ → Tree → Bool
passes_type top m = are_below (length top) m && type_le (type_of (length top) m) top

le_trans : (xs ys zs : List ℕ) → length xs ≡ length ys → type_le xs ys ≡ true → type_le ys zs ≡ true → type_le xs zs ≡ true
le_trans [] ys zs e h k = refl
le_trans (x ∷ xs) [] zs e h k = absurd (omega arith)
le_trans (x ∷ xs) (y ∷ ys) [] e h k = refl
le_trans (x ∷ xs) (y ∷ ys) (z ∷ zs) e h k =
    let hr : Bool = type_le xs ys in
    let kr : Bool = type_le ys zs in
    let a : nat_le x y ≡ true = and_left (nat_le x y) hr h in
    let b : nat_le y z ≡ true = and_left (nat_le y z) kr k in
    let c : nat_le x z ≡ true = grind (arith, nat_tests) in
    rw c (le_trans xs ys zs (omega arith) (and_right (nat_le x y) hr h) (and_right (nat_le y z) kr k))

below_test-same : (n : ℕ) (x y : Tree) → SameType x y → are_below n x ≡ are_below n y
below_test-same n x y s = elim (cases_Bool (are_below n x)) [
  | inl a ↦ a ∙ sym (test_from_below n y (below-same n x y s (below_from_test n x a)))
  | inr a ↦ (elim (cases_Bool (are_below n y)) [
    | inl b ↦ absurd (false≢true (sym a ∙ test_from_below n x (below-same n y x (type-turned s) (below_from_test n y b))))
    | inr b ↦ a ∙ sym b
  ])
]

-- what passes has at most the degree of the type
pub passes-degree : (top : List ℕ) (x : Tree) → passes_type top x ≡ true → degree x ≤ sum top
passes-degree top x h =
    let b : are_below (length top) x ≡ true = and_left (are_below (length top) x) (type_le (type_of (length top) x) top) h in
    let l : type_le (type_of (length top) x) top ≡ true = and_right (are_below (length top) x) (type_le (type_of (length top) x) top) h in
    omega (arith, degree-type (length top) x (below_from_test (length top) x b), le_sum (type_of (length top) x) top (length-type_of (length top) x) l)

pub types-cut : (target : List ℕ) (d : ℕ) (top : List ℕ) → IsTypeTo target d top → IsCut (passes_type top) (IsWithinDegree target d)
types-cut target d top ty = record {
  left = λ l r h. let n = length top in
      rw (and_left (are_below n l) (are_below n r) (below (node l r) h)) (le-factor n (node l r) l top (λ j. omega arith) (le (node l r) h));
  right = λ l r h. let n = length top in
      rw (and_right (are_below n l) (are_below n r) (below (node l r) h)) (le-factor n (node l r) r top (λ j. omega arith) (le (node l r) h));
  respects = λ x y s. rw (below_test-same (length top) x y s, type-listed (length top) x y s);
  inside = λ x h.
      let o : length (type_of (length top) x) ≡ length top = length-type_of (length top) x in
      record {
        below = subst (λ n. are_below n x ≡ true) ty.counts (below x h);
        type = subst (λ n. type_le (type_of n x) target ≡ true) ty.counts (le_trans (type_of (length top) x) top target o (le x h) ty.le);
        degree = omega (arith, degree-type (length top) x (below_from_test (length top) x (below x h)), le_sum (type_of (length top) x) top o (le x h), ty.degree);
      };
}
  where
    below : (x : Tree) → passes_type top x ≡ true → are_below (length top) x ≡ true
    below x h = and_left (are_below (length top) x) (type_le (type_of (length top) x) top) h

    le : (x : Tree) → passes_type top x ≡ true → type_le (type_of (length top) x) top ≡ true
    le x h = and_right (are_below (length top) x) (type_le (type_of (length top) x) top) h
