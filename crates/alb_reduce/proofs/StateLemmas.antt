-- What the calls say of the kept rows, with their recipes.
use Rattle.std.proofs.Common.{◌≡◌, ◌≢◌, ℕ, ◌%◌, ◌<◌, ◌==◌, List, [], ◌∷◌, ◌++◌, refl, Bool, arith, subst, sym, ap, ◌∙◌, inl, inr, length, get_or, map}
use Rattle.std.specs.Prelude.{◌↔◌}
use Rattle.std.specs.Bool.{if◌then◌else◌, IsTrue}
use Rattle.std.specs.Int.{from_bool}
use Rattle.std.specs.List.{All}
use Rattle.std.proofs.lemmas.Bool.{cases_Bool}
use Rattle.std.proofs.lemmas.List.{get_or_default, get_or-map, length-map}
use Rattle.std.proofs.lemmas.List.Elements.{All-push}
use Rattle.std.proofs.Math.Nat.{mod-eq_of_lt}
use Rattle.gf_sums.specs.Sums.{Comb}
use Rattle.alb_rows.specs.Row.{Cells, ColumnsBelow, comb, entry, IsRowOver, RowLeadsWith}
use Rattle.alb_rows.specs.Span.{combination, InSpan, IsPivot, IsReducedRow, ArePivots, rows_of, SameSpan}
use Rattle.alb_rows.proofs.RowLemmas.{entry_residue, entry_past, below_from_entries}
use Rattle.alb_reduce.specs.Reduction.{Reduction, IsNewTag, IsRecipe, offered}
use Rattle.alb_reduce.specs.declared.kept.Kept.{Kept}
use Rattle.alb_reduce.specs.declared.echelon.Offered.{Offered}
use Rattle.alb_reduce.specs.declared.echelon.Offered.TheVariants.{Dependent, Pivot}
use Rattle.alb_reduce.specs.Echelon.{kept_rows, HasSameRows, IsEchelon, IsCleared, Keeps, NewPivot, IsNarrow, AreKeptRows, Agrees, AllAgree, IsState, IsForm}
use Rattle.alb_reduce.proofs.DiagonalLemmas.{zero_mod, add_zero_right, diagonal_each, diagonal_row}
use Rattle.alb_reduce.proofs.EchelonLemmas.{span_zero_at, pivot_below, kept_more, positive, dependent, span_dependent}
use Rattle.alb_reduce.proofs.RecipeLemmas.{recipes_old, recipes_more, reduced_same, recipe_tags, recipe_residues, recipe_ascending}

-- ---- columns

zero_entry : (p : ℕ) (xs : Cells) (j : ℕ) → 0 < p → IsRowOver p xs → entry xs j % p ≡ 0 → entry xs j ≡ 0
zero_entry p xs j pos h z = sym (mod-eq_of_lt (entry_residue p xs j pos h.row h.residues)) ∙ z

pub reduced_below : (p columns : ℕ) (pivots : List ℕ) (rows : List Cells) (row w : Cells) → AreKeptRows p columns pivots rows → ColumnsBelow columns row →
    IsCleared p pivots rows row w → ColumnsBelow columns w
reduced_below p columns pivots rows row w h narrow d =
    below_from_entries columns w d.residues.row (λ j le. zero_entry p w j (positive h.echelon.above) d.residues
    (sym (add_zero_right p (entry w j) (d.differs.difference j) (span_zero_at p (rows_of rows) d.differs.difference j d.differs.in_span (λ k. h.narrow k j le)))
    ∙ sym (d.differs.sum j) ∙ ap (λ n. n % p) (entry_past row columns j narrow le) ∙ zero_mod p))

pub pivots_below : (p columns : ℕ) (rows : List Cells) (ps : List ℕ) → IsNarrow p columns rows → ArePivots p (rows_of rows) ps → All (λ c. c < columns) ps
pivots_below p columns rows ps narrow a k d l =
    rw (get_or_default ps k d 0 l) (pivot_below p columns rows (get_or ps k 0) narrow (a.each k l))

pub row_below : (p columns : ℕ) (pivots : List ℕ) (rows : List Cells) (k : ℕ) → AreKeptRows p columns pivots rows → k < length rows → ColumnsBelow columns (get_or rows k [])
row_below p columns pivots rows k h l =
    let over : IsRowOver p (get_or rows k []) = h.echelon.residues k [] l in
    below_from_entries columns (get_or rows k []) over.row (λ j le. zero_entry p (get_or rows k []) j (positive h.echelon.above) over (h.narrow k j le))

-- ---- pivots

pub found_pivot : (p : ℕ) (order : List ℕ) (rows : List Cells) (c k : ℕ) → IsEchelon p order rows → k < length order → get_or order k 0 ≡ c → IsPivot p (rows_of rows) c
found_pivot p order rows c k h l e =
    subst (λ (n : ℕ). IsPivot p (rows_of rows) n) e (diagonal_each p (length order) (λ i. get_or order i 0) (rows_of rows) k h.above h.diagonal l)

pub row_leads : (p : ℕ) (order : List ℕ) (rows : List Cells) (c k : ℕ) (x : Cells) → IsEchelon p order rows → k < length order → get_or order k 0 ≡ c →
    x ≡ get_or rows k [] → RowLeadsWith x (c, 1)
row_leads p order rows c k x h l e is =
    let pos : 0 < p = positive h.above in
    let over : IsRowOver p (get_or rows k []) = h.residues k [] (omega (arith, h.long, l)) in
    let one : entry (get_or rows k []) (get_or order k 0) ≡ 1 =
    sym (mod-eq_of_lt (entry_residue p (get_or rows k []) (get_or order k 0) pos over.row over.residues)) ∙ h.diagonal.one k l ∙ mod-eq_of_lt h.above in
    rw (is, ← e)
    (record {
      entry_is = one;
      nonzero = λ z. absurd (omega arith);
      before = λ j lt. zero_entry p (get_or rows k []) j pos over (h.diagonal.before k j l lt);
    })

-- ---- what an offer leaves

pub first_recipe : (keeps : Bool) (n tag : ℕ) (recipe : Cells) → n ≡ from_bool keeps → recipe ≡ (if n == 0 then [] else (tag, n) ∷ []) → IsTrue keeps → recipe ≡ (tag, 1) ∷ []
first_recipe keeps n tag recipe e h t =
    let one : n ≡ 1 = e ∙ rw t refl in
    h ∙ rw one refl

pub state_dependent : (p columns : ℕ) (keeps : Bool) (pivots : List ℕ) (rows recipes : List Cells) (offers offers' : List (ℕ × Cells)) (tag : ℕ) (row : Cells) →
    IsState p columns keeps pivots rows recipes offers → offers' ≡ (if keeps then offers ++ (tag, row) ∷ [] else offers) → (IsTrue keeps → IsNewTag offers tag) →
    IsState p columns keeps pivots rows recipes offers'
state_dependent p columns keeps pivots rows recipes offers offers' tag row s e new = record {
  kept = s.kept;
  long = s.long;
  residues = s.residues;
  recipes_are = λ t.
      let is : offers' ≡ offers ++ (tag, row) ∷ [] = e ∙ rw t refl in
      rw is (recipes_old p offers tag row recipes rows s.residues (new t) (s.recipes_are t));
}

pub state_pivot : (p columns : ℕ) (keeps : Bool) (pivots : List ℕ) (rows recipes : List Cells) (offers offers' : List (ℕ × Cells)) (tag c : ℕ) (row first : Cells)
    (rows' recipes' : List Cells) →
    IsState p columns keeps pivots rows recipes offers → offers' ≡ (if keeps then offers ++ (tag, row) ∷ [] else offers) → (IsTrue keeps → IsNewTag offers tag) →
    ColumnsBelow columns row → (IsTrue keeps → first ≡ (tag, 1) ∷ []) → NewPivot p pivots rows row c rows' → length recipes' ≡ length rows' → All (IsRowOver p) recipes' →
    ((w u : ℕ → ℕ) → AllAgree p w u recipes rows → Agrees p w u first row → AllAgree p w u recipes' rows') →
    IsState p columns keeps (pivots ++ c ∷ []) rows' recipes' offers'
state_pivot p columns keeps pivots rows recipes offers offers' tag c row first rows' recipes' s e new narrow is h long over step = record {
  kept = kept_more p columns pivots rows row c rows' s.kept narrow h;
  long = long;
  residues = over;
  recipes_are = λ t.
      let more : offers' ≡ offers ++ (tag, row) ∷ [] = e ∙ rw t refl in
      rw more
      (recipes_more p offers tag row first recipes rows recipes' rows' (positive s.kept.echelon.above) s.residues over (new t) (is t) (s.recipes_are t) step);
}

-- what is kept after an offer is a state again
pub state_after : (p columns : ℕ) (keeps : Bool) (old new : Kept) (offers offers' : List (ℕ × Cells)) (tag : ℕ) (row first : Cells) (o : Offered) →
    IsState p columns keeps old.pivots.items (kept_rows old) old.recipes.items offers → offers' ≡ (if keeps then offers ++ (tag, row) ∷ [] else offers) →
    (IsTrue keeps → IsNewTag offers tag) → ColumnsBelow columns row → (IsTrue keeps → first ≡ (tag, 1) ∷ []) → Keeps p old new row first o →
    IsState p columns keeps new.pivots.items (kept_rows new) new.recipes.items offers'
state_after p columns keeps old new offers offers' tag row first Dependent s e fresh narrow is k =
    subst (λ (ps : List ℕ). IsState p columns keeps ps (kept_rows new) new.recipes.items offers') (sym k.same.pivots)
    (subst (λ (rows : List Cells). IsState p columns keeps old.pivots.items rows new.recipes.items offers') (sym k.same.rows)
    (subst (λ (recipes : List Cells). IsState p columns keeps old.pivots.items (kept_rows old) recipes offers') (sym k.same.recipes)
    (state_dependent p columns keeps old.pivots.items (kept_rows old) old.recipes.items offers offers' tag row s e fresh)))
state_after p columns keeps old new offers offers' tag row first (Pivot c) s e fresh narrow is k =
    subst (λ (ps : List ℕ). IsState p columns keeps ps (kept_rows new) new.recipes.items offers') (sym k.pivots)
    (state_pivot p columns keeps old.pivots.items (kept_rows old) old.recipes.items offers offers' tag c row first (kept_rows new) new.recipes.items
    s e fresh narrow is k.rows k.long k.residues k.agree)

pub span_after : (p : ℕ) (old new : Kept) (row first : Cells) (o : Offered) → Keeps p old new row first o →
    SameSpan p (rows_of (kept_rows new)) (rows_of (row ∷ kept_rows old))
span_after p old new row first Dependent k =
    subst (λ (rows : List Cells). SameSpan p (rows_of rows) (rows_of (row ∷ kept_rows old))) (sym k.same.rows)
    (span_dependent p (kept_rows old) row (dependent p old.pivots.items (kept_rows old) row k.cleared))
span_after p old new row first (Pivot c) k = k.rows.span

pub dependent_after : (p : ℕ) (old new : Kept) (row first : Cells) (o : Offered) → Keeps p old new row first o →
    (o ≡ Dependent) ↔ InSpan p (rows_of (kept_rows old)) (entry row)
dependent_after p old new row first Dependent k = (λ e. dependent p old.pivots.items (kept_rows old) row k.cleared, λ s. refl)
dependent_after p old new row first (Pivot c) k = (λ e. absurd cc, λ s. absurd (k.rows.outside s))

pub new_after : (p : ℕ) (old new : Kept) (row first : Cells) (o : Offered) (c : ℕ) → o ≡ Pivot c → Keeps p old new row first o →
    NewPivot p old.pivots.items (kept_rows old) row c (kept_rows new)
new_after p old new row first Dependent c e k = absurd cc
new_after p old new row first (Pivot d) c e k =
    let same : d ≡ c = cc in
    subst (λ (n : ℕ). NewPivot p old.pivots.items (kept_rows old) row n (kept_rows new)) same k.rows

-- rows that are the same before an offer, and after it
pub keeps_from_same : (p : ℕ) (old mid new : Kept) (row first : Cells) (o : Offered) → HasSameRows old mid → Keeps p mid new row first o → Keeps p old new row first o
keeps_from_same p old mid new row first Dependent h k = record {
  same = record { pivots = k.same.pivots ∙ h.pivots; rows = k.same.rows ∙ h.rows; recipes = k.same.recipes ∙ h.recipes };
  cleared = subst (λ (ps : List ℕ). IsCleared p ps (kept_rows old) row []) h.pivots
      (subst (λ (rows : List Cells). IsCleared p mid.pivots.items rows row []) h.rows k.cleared);
}
keeps_from_same p old mid new row first (Pivot c) h k = record {
  pivots = k.pivots ∙ ap (λ (ps : List ℕ). ps ++ c ∷ []) h.pivots;
  rows = subst (λ (ps : List ℕ). NewPivot p ps (kept_rows old) row c (kept_rows new)) h.pivots
      (subst (λ (rows : List Cells). NewPivot p mid.pivots.items rows row c (kept_rows new)) h.rows k.rows);
  long = k.long;
  residues = k.residues;
  agree = λ w u all by.
      k.agree w u
      (subst (λ (rows : List Cells). AllAgree p w u mid.recipes.items rows) (sym h.rows)
      (subst (λ (recipes : List Cells). AllAgree p w u recipes (kept_rows old)) (sym h.recipes) all)) by;
}

-- ---- what a recipe is

-- there is a list of items for each pivot
pub items_long : {V : Type 0} (p columns : ℕ) (keeps : Bool) (pivots order : List ℕ) (rows : List Cells) (items : V → Comb ℕ) (vs : List V) (offers : List (ℕ × Cells)) (k : ℕ) →
    IsForm p columns keeps pivots order rows (map items vs) offers → k < length order → k < length vs
items_long p columns keeps pivots order rows items vs offers k f l =
    let long : length (map items vs) ≡ length (map comb f.recipes) = ap length f.items_are in
    omega (arith, l, length-map vs items, long, length-map f.recipes comb, f.state.long, f.state.kept.echelon.long)

pub form_recipe : (r : Reduction) (pivots order : List ℕ) (items : List (Comb ℕ)) (column k : ℕ) (x : Comb ℕ) →
    IsForm r.p r.columns r.keeps_recipes pivots order r.rows items r.offers → IsTrue r.keeps_recipes → k < length order → get_or order k 0 ≡ column →
    x ≡ get_or items k [] → IsRecipe r column x
form_recipe r pivots order items column k x f keeps l e read =
    let recipe : Cells = get_or f.recipes k [] in
    let lk : k < length f.recipes = omega (arith, f.state.long, f.state.kept.echelon.long, l) in
    let is : x ≡ comb recipe = read ∙ ap (λ (xs : List (Comb ℕ)). get_or xs k []) f.items_are ∙ get_or-map comb f.recipes k [] [] lk in
    let over : IsRowOver r.p recipe = f.state.residues k [] lk in
    let are = f.state.recipes_are keeps in
    rw is
    (record {
      gives =
          reduced_same r.p (rows_of r.rows) column (combination (offered r.offers) (comb recipe)) (rows_of r.rows k) (are.gives k)
          (subst (λ (n : ℕ). IsReducedRow r.p (rows_of r.rows) n (rows_of r.rows k)) e
          (diagonal_row r.p (length order) (λ i. get_or order i 0) (rows_of r.rows) k f.state.kept.echelon.diagonal l));
      tags = recipe_tags r.offers recipe over.row (λ t n. are.tags k t n);
      residues = recipe_residues (λ n. n < r.p) recipe over.residues;
      nonzero = recipe_residues (λ n. n ≢ 0) recipe over.row.nonzero;
      ascending = recipe_ascending recipe over.row;
    })

-- ---- tags in order

-- where the tags of all offers are below n, so they are with n offered
pub tags_below : (n m : ℕ) (row : Cells) (keeps : Bool) (offers offers' : List (ℕ × Cells)) → All (λ o. o.0 < n) offers →
    offers' ≡ (if keeps then offers ++ (n, row) ∷ [] else offers) → n < m → All (λ o. o.0 < m) offers'
tags_below n m row keeps offers offers' h e lt = rw e (elim (cases_Bool keeps) [
  | inl t ↦ rw t (All-push (λ o. o.0 < m) offers (n, row) (λ k d l. more (h k d l)) lt)
  | inr f ↦ rw f (λ k d l. more (h k d l))
])
  where
    more : {a : ℕ} → a < n → a < m
    more l = omega arith
