-- The images of a block's consequences are the combinations of the rows.
use Rattle.std.proofs.Common.{◌≡◌, ℕ, zero, suc, ◌+◌, ◌*◌, ◌<◌, ◌≤◌, Bool, true, false, List, [], ◌∷◌, length, get_or, sym, refl, ap, ◌∙◌, subst, arith, inl, inr, ◌⊎◌, eqb}
use Rattle.std.specs.List.{filter}
use Rattle.std.proofs.lemmas.List.{get_or_past}
use Rattle.std.proofs.lemmas.Bool.{cases_eq}
use Rattle.std.proofs.lemmas.Bool.Decides.{nat_tests}
use Rattle.gf_field.proofs.Mod.{same, ◌⊙◌}
use Rattle.alb_mono.specs.Tree.{Tree, leaf, node, count, AreBelow}
use Rattle.gf_sums.specs.Sums.{total, Comb, weigh, scale, reindex}
use Rattle.gf_sums.proofs.Totals.{total-equal, weigh-append, weigh-scale, weigh-equal}
use Rattle.alb_poly.specs.Textbook.{evaluate, unit}
use Rattle.alb_problem.proofs.Evaluate.{weigh-swap}
use Rattle.alb_poly.specs.Instance.{total_from, fill, Form, instance, IsMultilinear, IsMultilinearForm}
use Rattle.gf_sums.proofs.Alike.{Alike, equal, itself, turned, joined, weigh-reindex, multiply-alike}
use Rattle.alb_poly.specs.Poly.{Poly}
use Rattle.alb_mono.specs.declared.side.Side.{Side}
use Rattle.alb_mono.specs.declared.side.Side.TheVariants.{Left, Right}
use Rattle.alb_poly.specs.Consequence.{beside, within, form_at, Item, IsItem, AreItems, item_value, IsConsequence, AreMultilinear}
use Rattle.alb_mono.specs.Listing.{Each}
use Rattle.alb_poly.proofs.Multilinear.{each-from, each-map, each-flat, leaves-multilinear, multilinear-below}
use Rattle.alb_poly.proofs.Parts.{multilinear_at, count-leaves, weigh-each}
use Rattle.alb_poly.proofs.Consequence.{itself', consequence-zero, consequence-append, consequence-scale, value, weigh-item, alike_poly, poly_alike, consequence-instance}
use Rattle.alb_table.specs.Right.{SameType, IsCongruent, AreHigh, mono_value, poly_value, IsBasis, IsPart}
use Rattle.alb_table.proofs.Types.{type-turned, type-node, same_type, same_type-whole, same_type-sound, same_type-respects}
use Rattle.alb_table.proofs.Coefficients.{keep}
use Rattle.alb_problem.proofs.FormValue.{count-multilinear}
use Rattle.alb_table.proofs.Kept.{Passes, Kept, consequence-kept}
use Rattle.alb_table.proofs.Congruent.{weigh-outer, congruent-alike, congruent-joined, congruent-product, congruent-scale, congruent-flat}
use Rattle.alb_table.proofs.Bases.{IsTable, IsNext, IsBlock, IsTuple}
use Rattle.alb_table.specs.Block.{image, spread, block_image, InNamedSpan, tuple_row}
use Rattle.alb_table.proofs.Values.{each-scale, each-both, value-stands, units-alike, consequence-value, value-normal}
use Rattle.alb_table.proofs.Spans.{weigh-spread, spread-alike, spread-append, spread-scale, spread-each, span-alike, span-zero, span-append, span-scale, span-one, row_at, rows-span}

pub high-at : (fs : List Form) (k : ℕ) → AreHigh fs → k < length fs → 2 ≤ (form_at fs k).degree
high-at [] k a l = absurd (omega arith)
high-at (f ∷ fs) zero a l = a.0
high-at (f ∷ fs) (suc k) a l = high-at fs k a.1 (omega arith)

-- ---- values of filled monomials

pub evaluate-fill : {I : Type 0} (prod : I → I → Comb I) (v : ℕ → Comb I) (ms : List Tree) (u : Tree) →
    evaluate prod v (fill ms u) ≡ evaluate prod (λ k. evaluate prod v (get_or ms k (leaf k))) u
evaluate-fill prod v ms (leaf k) = refl
evaluate-fill prod v ms (node l r) = rw (evaluate-fill prod v ms l, evaluate-fill prod v ms r)

pub evaluate-alike : {I : Type 0} {p : ℕ} (prod : I → I → Comb I) (u v : ℕ → Comb I) (n : ℕ) (t : Tree) → AreBelow n t →
    ((k : ℕ) → k < n → Alike p (u k) (v k)) → Alike p (evaluate prod u t) (evaluate prod v t)
evaluate-alike prod u v n (leaf k) b h = h k b
evaluate-alike prod u v n (node l r) b h = multiply-alike prod (evaluate-alike prod u v n l b.0 h) (evaluate-alike prod u v n r b.1 h)

pub image-alike : {I K : Type 0} {p : ℕ} (pair : I → I → K) (prod : I → I → Comb I) (u v : ℕ → Comb I) (n : ℕ) (t : Tree) → AreBelow n t →
    ((k : ℕ) → k < n → Alike p (u k) (v k)) → Alike p (image pair prod u t) (image pair prod v t)
image-alike pair prod u v n (leaf k) b h = itself []
image-alike pair prod u v n (node l r) b h =
    multiply-alike (λ i j. (1, pair i j) ∷ []) (evaluate-alike prod u v n l b.0 h) (evaluate-alike prod u v n r b.1 h)

pub high_node : (n : ℕ) (k : ℕ) → 2 ≤ n → IsMultilinear n (leaf k) → ⊥
high_node n k h m = absurd (omega (arith, m (λ _. 1), run-ones 0 n))
  where
    run-ones : (k n : ℕ) → total_from (λ _. 1) k n ≡ n
    run-ones k zero = refl
    run-ones k (suc n) = omega (arith, run-ones (suc k) n)

image-fill : {I K : Type 0} (pair : I → I → K) (prod : I → I → Comb I) (v : ℕ → Comb I) (ms : List Tree) (n : ℕ) (t : Tree) → 2 ≤ n → IsMultilinear n t →
    image pair prod v (fill ms t) ≡ image pair prod (λ k. evaluate prod v (get_or ms k (leaf k))) t
image-fill pair prod v ms n (leaf k) h m = absurd (high_node n k h m)
image-fill pair prod v ms n (node l r) h m = rw (evaluate-fill prod v ms l, evaluate-fill prod v ms r)

-- ---- types of filled monomials

type-fill : (ms bs : List Tree) (n : ℕ) (t : Tree) → AreBelow n t → ((k : ℕ) → k < n → SameType (get_or bs k (leaf k)) (get_or ms k (leaf k))) →
    SameType (fill bs t) (fill ms t)
type-fill ms bs n (leaf k) b h = h k b
type-fill ms bs n (node l r) b h = type-node (type-fill ms bs n l b.0 h) (type-fill ms bs n r b.1 h)

-- the types of a tuple add up to that of the filled monomial
pub count-fill : (ms : List Tree) (t : Tree) (g : ℕ) → IsMultilinear (length ms) t → count g (fill ms t) ≡ total (count g) ms
count-fill ms t g m = count-leaves g (fill ms t) ∙ leaves-multilinear _ ms t m ∙ total-equal _ _ ms (λ a. sym (count-leaves g a))

-- ---- a context: the last step by itself

last_step : Side × Tree → List (Side × Tree) → Side × Tree
last_step s [] = s
last_step s (t ∷ c) = last_step t c

before_last : Side × Tree → List (Side × Tree) → List (Side × Tree)
before_last s [] = []
before_last s (t ∷ c) = s ∷ before_last t c

within-last : (s : Side × Tree) (c : List (Side × Tree)) (x : Tree) → within (s ∷ c) x ≡ beside (last_step s c) (within (before_last s c) x)
unfolding last_step before_last
within-last s [] x = refl
within-last s (t ∷ c) x = within-last t c (beside s x)

-- ---- lists

pub filter-all : {X : Type 0} (q : X → Bool) (xs : List X) → Each (λ x. q x ≡ true) xs → filter q xs ≡ xs
filter-all q [] a = refl
filter-all q (x ∷ xs) a = rw (a.0, filter-all q xs a.1)

-- a list is empty, or something is as its first element
first_or : (P : Tree → Type 0) (f : Poly) → Each (λ t. P t.1) f → (f ≡ []) ⊎ ((x : Tree) × P x)
first_or P [] a = inl refl
first_or P (t ∷ f) a = inr (t.1, a.0)

-- `b k` and so on, `n` of them
abbrev tuple_list : (ℕ → Tree) → ℕ → ℕ → List Tree
tuple_list b k zero = []
tuple_list b k (suc n) = b k ∷ tuple_list b (suc k) n

length-tuple_list : (b : ℕ → Tree) (k n : ℕ) → length (tuple_list b k n) ≡ n
length-tuple_list b k zero = refl
length-tuple_list b k (suc n) = ap suc (length-tuple_list b (suc k) n)

get-tuple_list : (b : ℕ → Tree) (k n j : ℕ) (d : Tree) → j < n → get_or (tuple_list b k n) j d ≡ b (k + j)
get-tuple_list b k zero j d h = absurd (omega arith)
get-tuple_list b k (suc n) zero d h = let e : k ≡ k + 0 = omega arith in ap b e
get-tuple_list b k (suc n) (suc j) d h = let e : suc k + j ≡ k + suc j = omega arith in get-tuple_list b (suc k) n j d (omega arith) ∙ ap b e

each-tuple_list : (P : Tree → Type 0) (b : ℕ → Tree) (k n : ℕ) → ((j : ℕ) → j < k + n → P (b j)) → Each P (tuple_list b k n)
each-tuple_list P b k zero h = tt
each-tuple_list P b k (suc n) h = (h k (omega arith), each-tuple_list P b (suc k) n (λ j l. h j (omega arith)))

pub spread-spread : {I J K : Type 0} {p : ℕ} (h : J → Comb K) (g : I → Comb J) (f : Comb I) → Alike p (spread h (spread g f)) (spread (λ i. spread h (g i)) f)
spread-spread h g f = equal _ _ (λ w.
    weigh-spread w h (spread g f) ∙ weigh-spread _ g f ∙ weigh-equal _ _ f (λ i. sym (weigh-spread w h (g i))) ∙ sym (weigh-spread w (λ i. spread h (g i)) f))

inside_beside : (Within : Tree → Type 0) (u : Side × Tree) (y : Tree) → IsNext Within (beside u y) → Within y
inside_beside Within (Left, m) y h = h.1
inside_beside Within (Right, m) y h = h.0

-- what a consequence of one type and an element of the span have to do with one another
pub record IsImage (p : ℕ) (fs : List Form) (z : Tree) (entry : Tree → Tree → Poly) (x : Poly) : Type 0 where
  pub polynomial : Poly
  pub consequence : IsConsequence p fs polynomial
  pub types : Each (λ t. SameType t.1 z) polynomial
  pub alike : Alike p x (block_image entry polynomial)

module _ (p : ℕ) (pos : 0 < p) (fs : List Form) (multi : AreMultilinear fs) (high : AreHigh fs) (Within : Tree → Type 0) (entry : Tree → Tree → Poly)
    (table : IsTable p fs Within (IsBasis p fs Within) entry) (z : Tree) (block : IsBlock Within z) where
  abbrev Base : Tree → Type 0
  Base x = IsBasis p fs Within x

  image-mono : (m : Tree) → IsNext Within m → IsCongruent p fs (unit m) (image node entry (λ k. unit (leaf k)) m)
  image-mono (leaf k) h = absurd h
  image-mono (node l r) h = congruent-joined p fs pos (congruent-alike p fs pos (equal _ _ (λ w. omega arith)))
      (congruent-product p fs pos (value-stands p pos fs Within Base entry table l h.0).congruent (value-stands p pos fs Within Base entry table r h.1).congruent)

  -- a polynomial of the block less its image is a consequence
  pub image-congruent : (g : Poly) → Each (λ t. IsNext Within t.1) g → IsCongruent p fs g (block_image entry g)
  image-congruent g a = congruent-joined p fs pos (congruent-alike p fs pos (units-alike g))
      (congruent-flat p fs pos (λ t. IsNext Within t.1) _ _ g (λ t h. congruent-scale p fs pos t.0 (image-mono t.1 h)) a)

  -- the image of a product with a fixed monomial, by the value of the other factor
  weigh-beside : (s : Side × Tree) (h : Poly) (w : Tree → ℕ) → (u : Tree → ℕ) × (weigh w (block_image entry (reindex (beside s) h)) ≡ weigh u (poly_value entry h))
  weigh-beside (Right, m) h w = (
    λ a. weigh (λ c. w (node a c)) (mono_value entry m),
    weigh-spread w (image node entry (λ k. unit (leaf k))) (reindex (beside (Right, m)) h)
        ∙ weigh-reindex _ (beside (Right, m)) h
        ∙ weigh-equal _ _ h (λ i. weigh-outer node w (mono_value entry i) (mono_value entry m))
        ∙ sym (weigh-spread _ (mono_value entry) h),
  )
  weigh-beside (Left, m) h w = (
    λ c. weigh (λ a. w (node a c)) (mono_value entry m),
    weigh-spread w (image node entry (λ k. unit (leaf k))) (reindex (beside (Left, m)) h)
        ∙ weigh-reindex _ (beside (Left, m)) h
        ∙ weigh-equal _ _ h (λ i. weigh-outer node w (mono_value entry m) (mono_value entry i) ∙ weigh-swap (λ a c. w (node a c)) (mono_value entry m) (mono_value entry i))
        ∙ sym (weigh-spread _ (mono_value entry) h),
  )

  -- a consequence within the table, in a context, has the image zero
  beside-vanishes : (s : Side × Tree) (h : Poly) → Each (λ t. Within t.1) h → IsConsequence p fs h → Alike p (block_image entry (reindex (beside s) h)) []
  beside-vanishes s h a c = record {
    at = λ w. let b = weigh-beside s h w in
        same b.1 ⊙ (consequence-value p pos fs multi Within entry table h a c).at b.0;
  }

  context-vanishes : (coef form : ℕ) (args : List Tree) (s : Side × Tree) (c : List (Side × Tree)) →
      IsItem fs (record { coef = coef; form = form; args = args; context = s ∷ c }) →
      Each (λ t. SameType (within (s ∷ c) (fill args t.1)) z) (form_at fs form).terms →
      Alike p (block_image entry (item_value fs (record { coef = coef; form = form; args = args; context = s ∷ c }))) []
  context-vanishes coef form args s c h a =
      let it : Item = record { coef = coef; form = form; args = args; context = s ∷ c } in
      let inner : Item = record { coef = coef; form = form; args = args; context = before_last s c } in
      let u : Side × Tree = last_step s c in
      let moved : Alike p (item_value fs it) (reindex (beside u) (item_value fs inner)) = equal _ _ (λ w.
      weigh-item fs w it
      ∙ ap (λ n. coef * n) (weigh-equal _ _ (form_at fs form).terms (λ m. ap w (within-last s c (fill args m))))
      ∙ sym (weigh-reindex w (beside u) (item_value fs inner) ∙ weigh-item fs (λ m. w (beside u m)) inner)) in
      let inside : (x : Tree) → SameType (within (s ∷ c) (fill args x)) z → Within (within (before_last s c) (fill args x)) =
      λ x q. inside_beside Within u _ (subst (IsNext Within) (within-last s c (fill args x)) (block.next (within (s ∷ c) (fill args x)) q)) in
      let all : Each (λ t. Within t.1) (item_value fs inner) =
      each-scale Within coef _ (each-map (λ t. Within (within (before_last s c) t.1)) (λ t. Within t.1) _ (instance (form_at fs form) args) (λ t q. q)
      (each-map (λ t. SameType (within (s ∷ c) (fill args t.1)) z) (λ t. Within (within (before_last s c) t.1)) _ (form_at fs form).terms (λ t q. inside t.1 q) a)) in
      let known : IsConsequence p fs (item_value fs inner) = record {
        items = inner ∷ [];
        are = (record { named = h.named; full = h.full }, tt);
        same = poly_alike (equal _ _ (λ w. omega (arith, weigh-append w (item_value fs inner) [])));
      } in
      joined (spread-alike _ moved) (beside-vanishes u (item_value fs inner) all known)

  -- ---- an instance without a context

  filled_within : (ms : List Tree) (t : Tree) (k : ℕ) → Within (fill ms t) → 0 < count k t → Within (get_or ms k (leaf k))
  filled_within ms (leaf j) k h c = elim (cases_eq j k) [
    | inl e ↦ subst (λ i. Within (get_or ms i (leaf i))) e h
    | inr e ↦ let q : eqb j k ≡ false = grind (arith, nat_tests) in absurd (omega (arith, rw q at c))
  ]
  filled_within ms (node l r) k h c = elim (cases_eq (count k l) 0) [
    | inl e ↦ filled_within ms r k (table.closed.right (fill ms l) (fill ms r) h) (omega arith)
    | inr e ↦ filled_within ms l k (table.closed.left (fill ms l) (fill ms r) h) (omega arith)
  ]

  argument_within : (ms : List Tree) (n : ℕ) (t : Tree) (k : ℕ) → 2 ≤ n → IsMultilinear n t → k < n → IsNext Within (fill ms t) → Within (get_or ms k (leaf k))
  argument_within ms n (leaf j) k h m l w = absurd (high_node n j h m)
  argument_within ms n (node a b) k h m l w =
      let c : count k (node a b) ≡ 1 = count-multilinear n k (node a b) m l in
      elim (cases_eq (count k a) 0) [
        | inl e ↦ filled_within ms b k w.1 (omega arith)
        | inr e ↦ filled_within ms a k w.0 (omega arith)
      ]

  form_high : (i : ℕ) → i < length fs → 2 ≤ (form_at fs i).degree
  form_high i h = high-at fs i high h

  form_multilinear : (i : ℕ) → IsMultilinearForm (form_at fs i)
  form_multilinear i = multilinear_at fs i multi

  -- the image of an instance is the row at the values of its monomials
  instance-row : (i : ℕ) (ms : List Tree) → i < length fs →
      Alike p (block_image entry (instance (form_at fs i) ms)) (row_at node entry (λ k. mono_value entry (get_or ms k (leaf k))) (form_at fs i))
  instance-row i ms h = let f = form_at fs i in equal _ _ (λ w.
      weigh-spread w (image node entry (λ k. unit (leaf k))) (instance f ms)
      ∙ weigh-reindex _ (fill ms) f.terms
      ∙ weigh-each (IsMultilinear f.degree) _ _ f.terms (λ t m. ap (weigh w) (image-fill node entry (λ k. unit (leaf k)) ms f.degree t (form_high i h) m)) (form_multilinear i)
      ∙ sym (weigh-spread w (image node entry (λ k. mono_value entry (get_or ms k (leaf k)))) f.terms))

  -- rows at vectors that are alike are alike
  row-alike : (f : Form) (u v : ℕ → Poly) → IsMultilinearForm f → ((k : ℕ) → k < f.degree → Alike p (u k) (v k)) → Alike p (row_at node entry u f) (row_at node entry v f)
  row-alike f u v m h = spread-each (IsMultilinear f.degree) _ _ f.terms (λ t q. image-alike node entry u v f.degree t (multilinear-below f.degree t q) h) m

  tuple-named : (i : ℕ) (ms : List Tree) (b : ℕ → Tree) (t : Tree) → i < length fs → length ms ≡ (form_at fs i).degree → IsMultilinear (form_at fs i).degree t → SameType (fill ms t) z →
      ((k : ℕ) → k < (form_at fs i).degree → IsPart Base (get_or ms k (leaf k)) (b k)) → IsTuple fs Base z (i, tuple_list b 0 (form_at fs i).degree)
  tuple-named i ms b t h len m s fits =
      let n : ℕ = (form_at fs i).degree in
      let bs : List Tree = tuple_list b 0 n in
      let e : (k : ℕ) → k < n → get_or bs k (leaf k) ≡ b k = λ k l. get-tuple_list b 0 n k (leaf k) l ∙ (let q : 0 + k ≡ k = omega arith in ap b q) in
      record {
        form = h;
        full = length-tuple_list b 0 n;
        basis = each-tuple_list Base b 0 n (λ j l. (fits j (omega arith)).basis);
        types = λ g. sym (count-fill bs t g (subst (λ j. IsMultilinear j t) (sym (length-tuple_list b 0 n)) m))
            ∙ (type-fill ms bs n t (multilinear-below n t m) (λ k l. subst (λ x. SameType x (get_or ms k (leaf k))) (sym (e k l)) (fits k l).type)).counts g ∙ s.counts g;
      }

  pub instance-spans : (i : ℕ) (ms : List Tree) → i < length fs → length ms ≡ (form_at fs i).degree → Each (λ t. SameType (fill ms t.1) z) (form_at fs i).terms →
      InNamedSpan p (IsTuple fs Base z) (tuple_row fs entry) (block_image entry (instance (form_at fs i) ms))
  instance-spans i ms h len a =
      let f : Form = form_at fs i in
      span-alike p (IsTuple fs Base z) (tuple_row fs entry) (turned (instance-row i ms h))
      (elim (first_or (λ t. IsMultilinear f.degree t × SameType (fill ms t) z) f.terms
      (each-both (λ t. IsMultilinear f.degree t.1) (λ t. SameType (fill ms t.1) z) _ f.terms (λ t m s. (m, s)) (form_multilinear i) a)) [
        | inl e ↦ rw e (span-zero p (IsTuple fs Base z) (tuple_row fs entry))
        | inr t ↦
            rows-span node entry p (IsTuple fs Base z) (tuple_row fs entry) f (form_multilinear i) (λ k b. IsPart Base (get_or ms k (leaf k)) b)
            (λ b fits. span-alike p (IsTuple fs Base z) (tuple_row fs entry)
            (row-alike f _ _ (form_multilinear i) (λ k l. itself' _ _ (ap unit (get-tuple_list b 0 f.degree k (leaf k) l ∙ (let q : 0 + k ≡ k = omega arith in ap b q)))))
            (span-one p (IsTuple fs Base z) (tuple_row fs entry) (i, tuple_list b 0 f.degree) (tuple-named i ms b t.0 h len t.1.0 t.1.1 fits)))
            f.degree (λ k. mono_value entry (get_or ms k (leaf k))) (omega arith)
            (λ k l. (value-stands p pos fs Within Base entry table (get_or ms k (leaf k))
            (argument_within ms f.degree t.0 k (form_high i h) t.1.0 l (block.next (fill ms t.0) t.1.1))).parts)
            (λ j l. (leaf j, ap (mono_value entry) (get_or_past ms j (leaf j) (omega arith)), λ q. absurd (omega arith)))
      ])

  -- ---- the span of the rows is the set of images

  item-spans : (coef form : ℕ) (args : List Tree) (context : List (Side × Tree)) →
      IsItem fs (record { coef = coef; form = form; args = args; context = context }) →
      Each (λ t. SameType (within context (fill args t.1)) z) (form_at fs form).terms →
      InNamedSpan p (IsTuple fs Base z) (tuple_row fs entry) (block_image entry (item_value fs (record { coef = coef; form = form; args = args; context = context })))
  item-spans coef form args [] h a =
      let it : Item = record { coef = coef; form = form; args = args; context = [] } in
      span-alike p (IsTuple fs Base z) (tuple_row fs entry)
      (turned (joined (spread-alike _ {f = item_value fs it} {g = scale coef (instance (form_at fs form) args)}
      (equal _ _ (λ w. weigh-item fs w it ∙ sym (weigh-scale w coef (instance (form_at fs form) args) ∙ ap (λ n. coef * n) (weigh-reindex w (fill args) (form_at fs form).terms)))))
      (spread-scale _ coef (instance (form_at fs form) args))))
      (span-scale p (IsTuple fs Base z) (tuple_row fs entry) coef (instance-spans form args h.named h.full a))
  item-spans coef form args (s ∷ c) h a =
      span-alike p (IsTuple fs Base z) (tuple_row fs entry) (turned (context-vanishes coef form args s c h a)) (span-zero p (IsTuple fs Base z) (tuple_row fs entry))

  items-span : (its : List Item) → AreItems fs its → Each (Passes fs (same_type z)) its →
      InNamedSpan p (IsTuple fs Base z) (tuple_row fs entry) (block_image entry (value fs its))
  items-span [] h a = span-zero p (IsTuple fs Base z) (tuple_row fs entry)
  items-span (it ∷ its) h a =
      span-alike p (IsTuple fs Base z) (tuple_row fs entry) (turned (spread-append _ (item_value fs it) (value fs its)))
      (span-append p (IsTuple fs Base z) (tuple_row fs entry)
      (item-spans it.coef it.form it.args it.context h.0
      (each-from _ _ (form_at fs it.form).terms (λ t q. type-turned (same_type-sound z _ q)) a.0))
      (items-span its h.1 a.1))

  -- the image of a consequence of the block is a combination of rows
  pub image-spans : (g : Poly) → IsConsequence p fs g → Each (λ t. SameType t.1 z) g → InNamedSpan p (IsTuple fs Base z) (tuple_row fs entry) (block_image entry g)
  image-spans g c a =
      let k : Kept p fs (same_type z) g = consequence-kept p fs multi (same_type z) (same_type-respects z) g c in
      let e : keep (same_type z) g ≡ g = filter-all (λ t. same_type z t.1) g (each-from _ _ g (λ t q. same_type-whole z t.1 (type-turned q)) a) in
      span-alike p (IsTuple fs Base z) (tuple_row fs entry)
      (spread-alike _ (turned (subst (λ f. Alike p f (value fs k.items)) e k.alike)))
      (items-span k.items k.are k.pass)

  -- a row is the image of the instance
  pub tuple-image : (name : ℕ × List Tree) → IsTuple fs Base z name → Alike p (tuple_row fs entry name) (block_image entry (instance (form_at fs name.0) name.1))
  tuple-image name h = turned (joined (instance-row name.0 name.1 h.form)
      (row-alike (form_at fs name.0) _ _ (form_multilinear name.0) (λ k l.
      value-normal p pos fs multi Within entry table (get_or name.1 k (leaf k)) (in_list name.1 k (leaf k) h.basis (omega (arith, h.full))))))
    where
      in_list : (ms : List Tree) (k : ℕ) (d : Tree) → Each Base ms → k < length ms → Base (get_or ms k d)
      in_list [] k d a l = absurd (omega arith)
      in_list (m ∷ ms) zero d a l = a.0
      in_list (m ∷ ms) (suc k) d a l = in_list ms k d a.1 (omega arith)

  tuple_polynomial : ℕ × List Tree → Poly
  tuple_polynomial name = instance (form_at fs name.0) name.1

  tuple-types : (name : ℕ × List Tree) → IsTuple fs Base z name → Each (λ t. SameType t.1 z) (tuple_polynomial name)
  unfolding tuple_polynomial
  tuple-types name h = each-map (λ t. IsMultilinear (form_at fs name.0).degree t.1) (λ t. SameType t.1 z) _ (form_at fs name.0).terms
      (λ t m. record { counts = λ g. count-fill name.1 t.1 g (subst (λ j. IsMultilinear j t.1) (sym h.full) m) ∙ h.types g }) (form_multilinear name.0)

  sum-consequence : (items : Comb (ℕ × List Tree)) → Each (λ t. IsTuple fs Base z t.1) items → IsConsequence p fs (spread tuple_polynomial items)
  unfolding tuple_polynomial
  sum-consequence [] a = consequence-zero p fs
  sum-consequence (t ∷ items) a =
      consequence-append p fs (consequence-scale p fs t.0 (consequence-instance p fs t.1.0 t.1.1 a.0.form a.0.full)) (sum-consequence items a.1)

  -- an element of the span is the image of a consequence of the block
  pub span-image : (x : Poly) → InNamedSpan p (IsTuple fs Base z) (tuple_row fs entry) x → IsImage p fs z entry x
  unfolding tuple_polynomial
  span-image x s = record {
    polynomial = spread tuple_polynomial s.items;
    consequence = sum-consequence s.items s.named;
    types = each-flat (λ t. IsTuple fs Base z t.1) (λ t. SameType t.1 z) _ s.items (λ t h. each-scale (λ m. SameType m z) t.0 _ (tuple-types t.1 h)) s.named;
    alike = joined (alike_poly s.gives) (joined (spread-each (IsTuple fs Base z) _ _ s.items tuple-image s.named) (turned (spread-spread _ tuple_polynomial s.items)));
  }
