-- Recipes follow each step on the rows, since both are sums of vectors.
use Rattle.std.proofs.Common.{◌≡◌, ◌≢◌, ℕ, zero, suc, ◌+◌, ◌*◌, ◌%◌, ◌<◌, ◌⊎◌, inl, inr, List, [], ◌∷◌, ◌++◌, refl, arith, subst, sym, ap, ◌∙◌, length, get_or, set, nat_eq}
use Rattle.std.specs.Bool.{if◌then◌else◌}
use Rattle.std.specs.List.{All, AllPairs}
use Rattle.std.proofs.lemmas.Bool.{cases_eq, cases_lt, cases_order, eq-eqb, ne_eqb}
use Rattle.std.proofs.lemmas.List.{length_push, get_or_push, get_or_append_left, get_or_past, length-set, get_or-set_same, get_or-set_other, get_or_read, get_or_default, get_or-map, length-map}
use Rattle.std.proofs.Math.Nat.{mod-eq_of_lt}
use Rattle.gf_field.specs.Modular.{IsSameMod}
use Rattle.gf_field.proofs.Mod.{same, back, ◌⊙◌, plus, times}
use Rattle.gf_sums.specs.Sums.{weigh, scale}
use Rattle.gf_sums.proofs.Totals.{numbers-tell, weigh-zero, weigh-append, weigh-scale, weigh-same, coefficient-weigh}
use Rattle.alb_rows.specs.Row.{Cells, comb, entry, AreSameVector, IsRow, IsRowOver}
use Rattle.alb_rows.specs.Span.{Same, IsReducedRow}
use Rattle.alb_rows.proofs.RowLemmas.{entry_residue, entry_found}
use Rattle.alb_rows.proofs.SpanLemmas.{span_same}
use Rattle.alb_reduce.specs.Reduction.{IsNewTag, IsTag, row_with, offered}
use Rattle.alb_reduce.specs.Echelon.{Agrees, AllAgree, RecipesFollow, AreRecipes}

-- ---- steps

weight_sum : (p c : ℕ) (w : ℕ → ℕ) (a b a' : Cells) → AreSameVector p (comb a') (comb a ++ scale c (comb b)) →
    IsSameMod p (weigh w (comb a')) (weigh w (comb a) + c * weigh w (comb b))
weight_sum p c w a b a' h =
    weigh-same nat_eq numbers-tell (comb a') (comb a ++ scale c (comb b)) h w
    ⊙ same (weigh-append w (comb a) (scale c (comb b)) ∙ ap (λ n. weigh w (comb a) + n) (weigh-scale w c (comb b)))

weight_times : (p c : ℕ) (w : ℕ → ℕ) (a a' : Cells) → AreSameVector p (comb a') (scale c (comb a)) → IsSameMod p (weigh w (comb a')) (c * weigh w (comb a))
weight_times p c w a a' h = weigh-same nat_eq numbers-tell (comb a') (scale c (comb a)) h w ⊙ same (weigh-scale w c (comb a))

pub agrees_sum : (p c : ℕ) (w u : ℕ → ℕ) (r b r' q d q' : Cells) → AreSameVector p (comb r') (comb r ++ scale c (comb b)) →
    AreSameVector p (comb q') (comb q ++ scale c (comb d)) → Agrees p w u d b → Agrees p w u q r → Agrees p w u q' r'
agrees_sum p c w u r b r' q d q' h g by old =
    weight_sum p c w q d q' g ⊙ plus old (times (same {a = c} refl) by) ⊙ back (weight_sum p c u r b r' h)

pub agrees_times : (p c : ℕ) (w u : ℕ → ℕ) (r r' q q' : Cells) → AreSameVector p (comb r') (scale c (comb r)) → AreSameVector p (comb q') (scale c (comb q)) →
    Agrees p w u q r → Agrees p w u q' r'
agrees_times p c w u r r' q q' h g old = weight_times p c w q q' g ⊙ times (same {a = c} refl) old ⊙ back (weight_times p c u r r' h)

pub all_agree_set : (p : ℕ) (w u : ℕ → ℕ) (recipes rows : List Cells) (k : ℕ) (q r : Cells) → k < length recipes → k < length rows → AllAgree p w u recipes rows →
    Agrees p w u q r → AllAgree p w u (set recipes k q) (set rows k r)
all_agree_set p w u recipes rows k q r lq lr h g l = elim (cases_eq l k) [
  | inl e ↦ rw (e, get_or-set_same recipes k q [] lq, get_or-set_same rows k r [] lr) g
  | inr ne ↦ rw (get_or-set_other recipes k l q [] ne, get_or-set_other rows k l r [] ne) (h l)
]

pub all_agree_push : (p : ℕ) (w u : ℕ → ℕ) (recipes rows : List Cells) (q r : Cells) → length recipes ≡ length rows → AllAgree p w u recipes rows →
    Agrees p w u q r → AllAgree p w u (recipes ++ q ∷ []) (rows ++ r ∷ [])
all_agree_push p w u recipes rows q r long h g l = elim (cases_order l (length rows)) [
  | inl e ↦ rw (e, get_or_push recipes q [] (length rows) long, get_or_push rows r [] (length rows) refl) g
  | inr (inl lt) ↦ rw (get_or_append_left recipes (q ∷ []) [] l (omega arith), get_or_append_left rows (r ∷ []) [] l lt) (h l)
  | inr (inr gt) ↦ rw (get_or_past (recipes ++ q ∷ []) l [] (omega (arith, length_push recipes q)), get_or_past (rows ++ r ∷ []) l [] (omega (arith, length_push rows r))) (same refl)
]

pub follow_none : (p : ℕ) (d b : Cells) (recipes rows : List Cells) → All (IsRowOver p) recipes → RecipesFollow p d b recipes rows recipes rows
follow_none p d b recipes rows h = record { long = refl; residues = h; agree = λ w u by old. old }

pub follow_more : (p : ℕ) (d b : Cells) (recipes0 rows0 recipes rows : List Cells) (k : ℕ) (y x q r : Cells) → RecipesFollow p d b recipes0 rows0 recipes rows →
    k < length recipes → k < length rows → y ≡ get_or recipes k y → x ≡ get_or rows k x → IsRowOver p q →
    ((w u : ℕ → ℕ) → Agrees p w u d b → Agrees p w u y x → Agrees p w u q r) → RecipesFollow p d b recipes0 rows0 (set recipes k q) (set rows k r)
follow_more p d b recipes0 rows0 recipes rows k y x q r f lq lr ry rx over step = record {
  long = length-set recipes k q ∙ f.long;
  residues = λ l e h. elim (cases_eq l k) [
    | inl same_place ↦ rw (same_place, get_or-set_same recipes k q e lq) over
    | inr ne ↦ rw (get_or-set_other recipes k l q e ne) (f.residues l e (omega (arith, length-set recipes k q)))
  ];
  agree = λ w u by old.
      let now = f.agree w u by old in
      all_agree_set p w u recipes rows k q r lq lr now (step w u by (rw (get_or_read recipes k y lq ry [], get_or_read rows k x lr rx []) (now k)));
}

-- ---- offers

row_with_other : (offers : List (ℕ × Cells)) (tag t : ℕ) (row : Cells) → tag ≢ t → row_with (offers ++ (tag, row) ∷ []) t ≡ row_with offers t
row_with_other [] tag t row ne = rw (ne_eqb tag t ne) refl
row_with_other (o ∷ offers) tag t row ne = rw (row_with_other offers tag t row ne) refl

row_with_new : (offers : List (ℕ × Cells)) (tag : ℕ) (row : Cells) → IsNewTag offers tag → row_with (offers ++ (tag, row) ∷ []) tag ≡ row
row_with_new [] tag row h = rw (eq-eqb tag tag refl) refl
row_with_new (o ∷ offers) tag row h =
    rw (ne_eqb o.0 tag (h 0 o (omega arith))) (row_with_new offers tag row (λ k d l. h (suc k) d (omega arith)))

-- a tag that is new among more offers is new among fewer, and is not the last
new_before : (offers : List (ℕ × Cells)) (o : ℕ × Cells) (t : ℕ) → IsNewTag (offers ++ o ∷ []) t → IsNewTag offers t
new_before offers o t h k d l =
    subst (λ (x : ℕ × Cells). x.0 ≢ t) (get_or_append_left offers (o ∷ []) d k l) (h k d (omega (arith, length_push offers o)))

new_last : (offers : List (ℕ × Cells)) (o : ℕ × Cells) (t : ℕ) → IsNewTag (offers ++ o ∷ []) t → o.0 ≢ t
new_last offers o t h =
    subst (λ (x : ℕ × Cells). x.0 ≢ t) (get_or_push offers o o (length offers) refl) (h (length offers) o (omega (arith, length_push offers o)))

-- a tag is that of an offer, or new
tag_or_new : (offers : List (ℕ × Cells)) (t : ℕ) → IsTag offers t ⊎ IsNewTag offers t
tag_or_new [] t = inr (λ k d l. absurd (omega arith))
tag_or_new (o ∷ offers) t = elim (cases_eq o.0 t) [
  | inl e ↦ inl (0, omega arith, e)
  | inr ne ↦ elim (tag_or_new offers t) [
    | inl w ↦ inl (suc w.0, omega (arith, w.1), w.2)
    | inr h ↦ inr (all_cons ne h)
  ]
]
  where
    all_cons : o.0 ≢ t → IsNewTag offers t → IsNewTag (o ∷ offers) t
    all_cons ne h zero d l = ne
    all_cons ne h (suc k) d l = h k d (omega arith)

-- where the entry is 0 there is no cell
no_cell : (xs : Cells) (t : ℕ) → IsRow xs → entry xs t ≡ 0 → All (λ cell. cell.0 ≢ t) xs
no_cell xs t h z k d l =
    rw (get_or_default xs k d (0, 0) l)
    (λ e. h.nonzero k (0, 0) l (sym (entry_found xs k t h l e) ∙ z))

weights_other : (xs : Cells) (t : ℕ) (v w : ℕ → ℕ) → All (λ cell. cell.0 ≢ t) xs → ((s : ℕ) → t ≢ s → v s ≡ w s) → weigh v (comb xs) ≡ weigh w (comb xs)
weights_other [] t v w h e = refl
weights_other (x ∷ xs) t v w h e =
    rw (e x.0 (λ q. h 0 x (omega arith) (sym q)), weights_other xs t v w (λ k d l. h (suc k) d (omega arith)) e) refl

-- the row at a place is one over the field, also past the end
row_at : (p : ℕ) (rows : List Cells) (k : ℕ) → All (IsRowOver p) rows → IsRowOver p (get_or rows k [])
row_at p rows k h = elim (cases_lt k (length rows)) [
  | inl l ↦ h k [] l
  | inr g ↦ rw (get_or_past rows k [] g) (record { row = record { ascending = λ i j d l m. absurd (omega arith); nonzero = λ i d l. absurd (omega arith) }; residues = λ i d l. absurd (omega arith) })
]

-- more offers leave the recipes as they are
pub recipes_old : (p : ℕ) (offers : List (ℕ × Cells)) (tag : ℕ) (row : Cells) (recipes rows : List Cells) → All (IsRowOver p) recipes → IsNewTag offers tag →
    AreRecipes p offers recipes rows → AreRecipes p (offers ++ (tag, row) ∷ []) recipes rows
recipes_old p offers tag row recipes rows over new h = record {
  gives = λ k j.
      ap (λ n. n % p) (weights_other (get_or recipes k []) tag _ _ (no_cell (get_or recipes k []) tag (row_at p recipes k over).row (h.tags k tag new))
      (λ s ne. ap (λ (r : Cells). entry r j) (row_with_other offers tag s row ne)))
      ∙ h.gives k j;
  tags = λ k t n. h.tags k t (new_before offers (tag, row) t n);
}

-- the weight that is 1 at one index
abbrev pub at_one : ℕ → ℕ → ℕ
at_one j i = if nat_eq i j then 1 else 0

entry_weight : (xs : Cells) (j : ℕ) → entry xs j ≡ weigh (at_one j) (comb xs)
entry_weight xs j = coefficient-weigh nat_eq numbers-tell (comb xs) j

-- recipes as agreement at weights, and back
values_agree : (p : ℕ) (offers : List (ℕ × Cells)) (recipes rows : List Cells) (j : ℕ) → AreRecipes p offers recipes rows →
    AllAgree p (λ t. offered offers t j) (at_one j) recipes rows
values_agree p offers recipes rows j h k = record { same = h.gives k j ∙ ap (λ n. n % p) (entry_weight (get_or rows k []) j) }

others_agree : (p : ℕ) (offers : List (ℕ × Cells)) (recipes rows : List Cells) (t : ℕ) → IsNewTag offers t → AreRecipes p offers recipes rows →
    AllAgree p (at_one t) (λ i. 0) recipes rows
others_agree p offers recipes rows t n h k =
    same (sym (entry_weight (get_or recipes k []) t) ∙ h.tags k t n ∙ sym (weigh-zero (comb (get_or rows k []))))

recipes_from : (p : ℕ) (offers : List (ℕ × Cells)) (recipes rows : List Cells) → 0 < p → All (IsRowOver p) recipes →
    ((j : ℕ) → AllAgree p (λ t. offered offers t j) (at_one j) recipes rows) → ((t : ℕ) → IsNewTag offers t → AllAgree p (at_one t) (λ i. 0) recipes rows) →
    AreRecipes p offers recipes rows
recipes_from p offers recipes rows pos over values others = record {
  gives = λ k j. (values j k).same ∙ ap (λ n. n % p) (sym (entry_weight (get_or rows k []) j));
  tags = λ k t n.
      let r = row_at p recipes k over in
      sym (mod-eq_of_lt (entry_residue p (get_or recipes k []) t pos r.row r.residues))
      ∙ ap (λ m. m % p) (entry_weight (get_or recipes k []) t) ∙ (others t n k).same
      ∙ ap (λ m. m % p) (weigh-zero (comb (get_or rows k []))) ∙ zero_mod p;
}
  where
    zero_mod : (q : ℕ) → 0 % q ≡ 0
    zero_mod q = grind arith

-- a step from the offered row, whose recipe is its tag
pub recipes_more : (p : ℕ) (offers : List (ℕ × Cells)) (tag : ℕ) (row first : Cells) (recipes rows recipes' rows' : List Cells) → 0 < p →
    All (IsRowOver p) recipes → All (IsRowOver p) recipes' → IsNewTag offers tag → first ≡ (tag, 1) ∷ [] → AreRecipes p offers recipes rows →
    ((w u : ℕ → ℕ) → AllAgree p w u recipes rows → Agrees p w u first row → AllAgree p w u recipes' rows') →
    AreRecipes p (offers ++ (tag, row) ∷ []) recipes' rows'
recipes_more p offers tag row first recipes rows recipes' rows' pos over over' new is h step =
    let now : AreRecipes p (offers ++ (tag, row) ∷ []) recipes rows = recipes_old p offers tag row recipes rows over new h in
    recipes_from p (offers ++ (tag, row) ∷ []) recipes' rows' pos over'
    (λ j. step (λ t. offered (offers ++ (tag, row) ∷ []) t j) (at_one j) (values_agree p (offers ++ (tag, row) ∷ []) recipes rows j now)
    (same (start (λ t. offered (offers ++ (tag, row) ∷ []) t j) ∙ ap (λ (r : Cells). entry r j) (row_with_new offers tag row new) ∙ entry_weight row j)))
    (λ t n. step (at_one t) (λ i. 0) (others_agree p (offers ++ (tag, row) ∷ []) recipes rows t n now)
    (same (start (at_one t) ∙ rw (ne_eqb tag t (new_last offers (tag, row) t n)) refl ∙ sym (weigh-zero (comb row)))))
  where
    start : (w : ℕ → ℕ) → weigh w (comb first) ≡ w tag
    start w = rw is (omega arith)

-- ---- what a recipe says

pub reduced_same : {K : Type 0} (p : ℕ) (f : K → ℕ → ℕ) (c : ℕ) (v w : ℕ → ℕ) → Same p v w → IsReducedRow p f c w → IsReducedRow p f c v
reduced_same p f c v w e h = record {
  in_span = span_same p f w v (λ j. sym (e j)) h.in_span;
  one = e c ∙ h.one;
  others = λ d is ne. e d ∙ h.others d is ne;
}

pub recipe_tags : (offers : List (ℕ × Cells)) (xs : Cells) → IsRow xs → ((t : ℕ) → IsNewTag offers t → entry xs t ≡ 0) → All (λ t. IsTag offers t.1) (comb xs)
recipe_tags offers xs h none k d l =
    let f : ℕ × ℕ → ℕ × ℕ = λ cell. (cell.1, cell.0) in
    let lk : k < length xs = simp length-map at l in
    rw (get_or-map f xs k (0, 0) d lk) (elim (tag_or_new offers (get_or xs k (0, 0)).0) [
      | inl w ↦ w
      | inr n ↦ absurd (no_cell xs (get_or xs k (0, 0)).0 h (none (get_or xs k (0, 0)).0 n) k (0, 0) lk refl)
    ])

-- what holds of the residues of cells holds of coefficients
pub recipe_residues : (P : ℕ → Type 0) (xs : Cells) → All (λ cell. P cell.1) xs → All (λ t. P t.0) (comb xs)
recipe_residues P xs h k d l =
    let f : ℕ × ℕ → ℕ × ℕ = λ cell. (cell.1, cell.0) in
    let lk : k < length xs = simp length-map at l in
    rw (get_or-map f xs k (0, 0) d lk) (h k (0, 0) lk)

pub recipe_ascending : (xs : Cells) → IsRow xs → AllPairs (λ s t. s.1 < t.1) (comb xs)
recipe_ascending xs h i j d l m =
    let f : ℕ × ℕ → ℕ × ℕ = λ cell. (cell.1, cell.0) in
    let lj : j < length xs = simp length-map at m in
    rw (get_or-map f xs i (0, 0) d (omega arith), get_or-map f xs j (0, 0) d lj) (h.ascending i j (0, 0) l lj)
