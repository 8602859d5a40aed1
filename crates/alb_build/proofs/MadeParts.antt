-- Each block has its part.
use Rattle.std.proofs.Common.{◌≡◌, ℕ, zero, suc, ◌+◌, ◌*◌, ◌-◌, ◌%◌, ◌<◌, ◌≤◌, Bool, true, false, List, [], ◌∷◌, map, length, get_or, reverse, drop, sym, refl, ap, ◌∙◌, subst, arith, inl, inr, ◌⊎◌}
use Rattle.std.specs.Prelude.{◌↔◌, IsTrue}
use Rattle.std.specs.List.{Contains}
use Rattle.std.proofs.lemmas.List.{get_or_default, length-reverse}
use Rattle.std.proofs.lemmas.Nat.{mod_below}
use Rattle.gf_field.specs.Modular.{IsSameMod}
use Rattle.gf_field.proofs.Mod.{same, of_mod, plus, ◌⊙◌}
use Rattle.alb_mono.specs.Listing.{Each}
use Rattle.alb_mono.specs.Tree.{rising, IsTypeWithin}
use Rattle.alb_poly.specs.Instance.{Form}
use Rattle.alb_poly.specs.Consequence.{AreMultilinear}
use Rattle.alb_rows.specs.Row.{Cells}
use Rattle.alb_rows.specs.Span.{IsPivot}
use Rattle.alb_rows.proofs.SpanLemmas.{difference_zero}
use Rattle.alb_reduce.specs.Reduction.{Reduction, kept}
use Rattle.alb_reduce.specs.Echelon.{AreKeptRows}
use Rattle.alb_reduce.proofs.DiagonalLemmas.{zero_mod}
use Rattle.alb_reduce.proofs.EchelonLemmas.{positive, no_pivot, found_row}
use Rattle.alb_reduce.proofs.StateLemmas.{found_pivot, row_leads, row_below}
use Rattle.alb_table.specs.Table.{PartView, elems, wide, Table, IsTable, count_products}
use Rattle.alb_table.specs.Right.{AreHigh}
use Rattle.alb_table.specs.RightTable.{IsRightTable}
use Rattle.alb_table.proofs.PartLemmas.{elems_step}
use Rattle.alb_block.specs.View.{BlockView}
use Rattle.alb_block.proofs.Existence.{HasBlock, block-exists}
use Rattle.alb_block.proofs.Reductions.{contains-or}
use Rattle.alb_build.specs.Part.{AreFree, IsNewEntry, AreNegated, IsPartMade, ArePartsOf, numbers_from, elements_of}
use Rattle.alb_build.specs.Next.{AreBlocks}
use Rattle.alb_build.proofs.EntryRows.{new-free, new-pivot}
use Rattle.alb_build.proofs.Numbering.{length-numbers, elements-few}

-- ---- lists by their places

run-long : {X : Type 0} (f : ℕ → X) (a n : ℕ) → length (map f (rising a n)) ≡ n
run-long f a zero = refl
run-long f a (suc n) = ap suc (run-long f (suc a) n)

run-at : {X : Type 0} (f : ℕ → X) (a n k : ℕ) (d : X) → k < n → get_or (map f (rising a n)) k d ≡ f (a + k)
run-at f a zero k d l = absurd (omega arith)
run-at f a (suc n) zero d l = let z : a ≡ a + 0 = omega arith in ap f z
run-at f a (suc n) (suc k) d l = let z : suc a + k ≡ a + suc k = omega arith in run-at f (suc a) n k d (omega arith) ∙ ap f z

-- the value at each place below n
abbrev listed_to : {X : Type 0} → (ℕ → X) → ℕ → List X
listed_to f n = map f (rising 0 n)

listed-at : {X : Type 0} (f : ℕ → X) (n k : ℕ) (d : X) → k < n → get_or (listed_to f n) k d ≡ f k
listed-at f n k d l = let z : 0 + k ≡ k = omega arith in run-at f 0 n k d l ∙ ap f z

-- ---- what is free

-- whether the second of the two holds
abbrev is_second : {A B : Type 0} → A ⊎ B → Bool
is_second (inl a) = false
is_second (inr b) = true

second-true : {A B : Type 0} (o : A ⊎ B) → is_second o ≡ true → B
second-true (inl a) e = absurd (cc)
second-true (inr b) e = b

second-false : {A B : Type 0} (o : A ⊎ B) → is_second o ≡ false → A
second-false (inl a) e = a
second-false (inr b) e = absurd (cc)

second-is : {A B : Type 0} (o : A ⊎ B) → (A → ⊥) → is_second o ≡ true
second-is (inl a) n = absurd (n a)
second-is (inr b) n = refl

-- for each of n products, ascending, whether it is no pivot
abbrev free_of : List ℕ → ℕ → List Bool
free_of order n = listed_to (λ k. is_second (contains-or order (n - 1 - k))) n

module _ (r : Reduction) (n : ℕ) (order : List ℕ) (k : AreKeptRows r.p n order r.rows) where
  has-pivot : (c : ℕ) → Contains order c → IsPivot r.p (kept r) c
  has-pivot c h = found_pivot r.p order r.rows c h.0 k.echelon h.1 (get_or_default order h.0 0 c h.1 ∙ h.2)

  not-pivot : (c : ℕ) → (Contains order c → ⊥) → IsPivot r.p (kept r) c → ⊥
  not-pivot c none v = no_pivot r.p order r.rows c k.echelon (λ i l e. none (i, l, get_or_default order i c 0 l ∙ e)) v

  are-free : (m : ℕ) → AreFree r m (free_of order m)
  are-free m = record {
    full = run-long (λ i. is_second (contains-or order (m - 1 - i))) 0 m;
    each = λ i l. subst (λ b. IsTrue b ↔ (IsPivot r.p (kept r) (m - 1 - i) → ⊥)) (sym (listed-at (λ i. is_second (contains-or order (m - 1 - i))) m i false l)) (
      λ e. not-pivot (m - 1 - i) (second-true (contains-or order (m - 1 - i)) e),
      λ none. second-is (contains-or order (m - 1 - i)) (λ h. none (has-pivot (m - 1 - i) h)),
    );
    pivot = λ i l e. has-pivot (m - 1 - i)
        (second-false (contains-or order (m - 1 - i)) (sym (listed-at (λ i. is_second (contains-or order (m - 1 - i))) m i false l) ∙ e));
  }

-- ---- entries

-- the cell of an entry for a cell of a reduced row
abbrev negated : ℕ → List ℕ → ℕ × ℕ → ℕ × ℕ
negated p numbers cell = (get_or numbers (length numbers - 1 - cell.0) 0, ((p - 1) * cell.1) % p)

negative : (p c : ℕ) → 0 < p → IsSameMod p (((p - 1) * c) % p + c) 0
negative p c pos =
    let z : (p - 1) * c + c ≡ c + (p - 1) * c = omega arith in
    let d : IsSameMod p (c + (p - 1) * c) 0 = record { same = difference_zero p (p - 1) c c (omega arith) refl ∙ sym (zero_mod p) } in
    plus (of_mod ((p - 1) * c)) (same {a = c} refl) ⊙ same z ⊙ d

are-negated : (p : ℕ) (numbers : List ℕ) (cs : Cells) → 0 < p → AreNegated p numbers cs (map (negated p numbers) cs)
are-negated p numbers [] pos = tt
are-negated p numbers (c ∷ cs) pos =
    (record { number = refl; negative = negative p c.1 pos; residue = mod_below ((p - 1) * c.1) p pos }, are-negated p numbers cs pos)

-- the entry of the product at k, which stands in `order` or is free
abbrev entry_made : (r : Reduction) (order numbers : List ℕ) (k : ℕ) → Contains order (length numbers - 1 - k) ⊎ (Contains order (length numbers - 1 - k) → ⊥) → Cells
entry_made r order numbers k (inl h) = map (negated r.p numbers) (reverse (drop 1 (get_or r.rows h.0 [])))
entry_made r order numbers k (inr none) = (get_or numbers k 0, 1) ∷ []

new-entry_made : (r : Reduction) (n : ℕ) (order numbers : List ℕ) (k : ℕ) → AreKeptRows r.p r.columns order r.rows → r.columns ≡ n → length numbers ≡ n →
    (o : Contains order (length numbers - 1 - k) ⊎ (Contains order (length numbers - 1 - k) → ⊥)) → IsNewEntry r numbers k (entry_made r order numbers k o)
new-entry_made r n order numbers k h w e (inl c) =
    let column : ℕ = length numbers - 1 - k in
    let row : Cells = get_or r.rows c.0 [] in
    let at : get_or order c.0 0 ≡ column = get_or_default order c.0 0 column c.1 ∙ c.2 in
    let l : c.0 < length r.rows = omega (arith, h.echelon.long, c.1) in
    new-pivot r n numbers k column row (map (negated r.p numbers) (reverse (drop 1 row))) refl
    (has-pivot r r.columns order h column c)
    (found_row r.p order r.rows column c.0 row h.echelon c.1 at (get_or_default r.rows c.0 [] row l))
    (row_leads r.p order r.rows column c.0 row h.echelon c.1 at refl)
    (h.echelon.residues c.0 [] l) (row_below r.p r.columns order r.rows c.0 h l)
    (are-negated r.p numbers (reverse (drop 1 row)) (positive h.echelon.above))
new-entry_made r n order numbers k h w e (inr none) =
    new-free r numbers k (length numbers - 1 - k) ((get_or numbers k 0, 1) ∷ []) refl (not-pivot r r.columns order h (length numbers - 1 - k) none) refl

-- THE PART of a block
part-made : (first : ℕ) (b : BlockView) (order : List ℕ) → AreKeptRows b.reduced.p b.reduced.columns order b.reduced.rows → b.reduced.columns ≡ length b.columns →
    (q : PartView) × IsPartMade first b q
part-made first b order h w =
    let free : List Bool = free_of order (length b.columns) in
    let numbers : List ℕ = numbers_from first free in
    let long : length numbers ≡ length b.columns = length-numbers first free ∙ run-long (λ i. is_second (contains-or order (length b.columns - 1 - i))) 0 (length b.columns) in
    let at : ℕ → Cells = λ k. entry_made b.reduced order numbers k (contains-or order (length numbers - 1 - k)) in (
      record { at = b.at; basis = elements_of (reverse b.columns) free; entries = listed_to at (length numbers); origins = b.origins },
      record {
        at = refl;
        origins = refl;
        free = free;
        are_free = are-free b.reduced b.reduced.columns order h (length b.columns);
        basis = refl;
        entries = record {
          full = run-long at 0 (length numbers);
          each = λ k l. subst (IsNewEntry b.reduced numbers k) (sym (listed-at at (length numbers) k [] l))
              (new-entry_made b.reduced (length b.columns) order numbers k h w long (contains-or order (length numbers - 1 - k)));
        };
      },
    )

-- ---- all types

-- blocks of types with their parts, whose first basis element has the number n
pub record HasParts (fs : List Form) (t : Table) (ws : List (List ℕ)) (n : ℕ) : Type 0 where
  pub blocks : List BlockView
  pub parts : List PartView
  pub are_blocks : AreBlocks fs t ws blocks
  pub are_parts : ArePartsOf n blocks parts

-- EACH TYPE of the next degree of a right table, none of which has too many products, has its block and its part
pub parts-exist : (fs : List Form) (t : Table) (ws : List (List ℕ)) (n : ℕ) → IsTable t → IsRightTable fs t → AreMultilinear fs → AreHigh fs →
    Each (IsTypeWithin t.target (t.degree + 1)) ws → Each (λ w. wide t w ≤ 4096) ws → HasParts fs t ws n
parts-exist fs t [] n tab right multi high ty few = record { blocks = []; parts = []; are_blocks = tt; are_parts = tt }
parts-exist fs t (w ∷ ws) n tab right multi high ty few =
    let b : HasBlock fs t w = block-exists fs t w tab right multi high ty.0 few.0 in
    let q = part-made n b.view b.order b.kept b.block.width in
    let r = parts-exist fs t ws (n + length q.0.basis) tab right multi high ty.1 few.1 in
    record {
      blocks = b.view ∷ r.blocks;
      parts = q.0 ∷ r.parts;
      are_blocks = (record { block = b.block; meaning = b.meaning }, r.are_blocks);
      are_parts = (q.1, r.are_parts);
    }

-- they have at most as many basis elements as products
pub made-few : (bs : List BlockView) (qs : List PartView) (n : ℕ) → ArePartsOf n bs qs → length (elems qs) ≤ count_products qs
made-few [] [] n m = omega arith
made-few [] (q ∷ qs) n m = absurd m
made-few (b ∷ bs) [] n m = absurd m
made-few (b ∷ bs) (q ∷ qs) n m =
    let e : length (elems (q ∷ qs)) ≡ length q.basis + length (elems qs) = elems_step q qs in
    let f : length q.basis ≡ length (elements_of (reverse b.columns) m.0.free) = ap length m.0.basis in
    let l : length q.entries ≡ length b.columns = m.0.entries.full ∙ length-numbers n m.0.free ∙ m.0.are_free.full in
    omega (arith, elements-few (reverse b.columns) m.0.free, length-reverse b.columns, made-few bs qs (n + length q.basis) m.1)
