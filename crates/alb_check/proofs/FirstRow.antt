-- The first column of a value is a basis element of the first type of the normal form.
use Rattle.std.proofs.Common.{◌≡◌, ℕ, suc, ◌+◌, ◌-◌, ◌%◌, ◌<◌, ◌≤◌, ◌⊎◌, true, false, List, [], ◌∷◌, length, get_or, nat_eq, sym, refl, ap, ◌∙◌, subst, arith, inl, inr}
use Rattle.std.specs.List.{All, AllPairs}
use Rattle.std.specs.declared.cmp.Ordering.TheVariants.{Less, Equal, Greater}
use Rattle.std.proofs.Math.Nat.{mod-eq_of_lt}
use Rattle.std.proofs.lemmas.Bool.Decides.{nat_tests}
use Rattle.std.proofs.lemmas.Cmp.{tied_itself}
use Rattle.gf_field.specs.Modular.{IsSameMod}
use Rattle.gf_field.proofs.Mod.{same, back, ◌⊙◌}
use Rattle.gf_sums.specs.Sums.{Comb, coefficient, reindex}
use Rattle.gf_sums.proofs.Alike.{Alike, reindex-alike}
use Rattle.alb_mono.specs.Listing.{Each, Ascends}
use Rattle.alb_mono.specs.Tree.{Tree, leaf, node, AreBelow, type_of, cmp_types, same_tree}
use Rattle.alb_mono.proofs.Leaves.{below_from_test}
use Rattle.alb_mono.proofs.ListingLemmas.{each-member}
use Rattle.alb_mono.proofs.Order.{cmp_types_total}
use Rattle.alb_poly.specs.Textbook.{evaluate, evaluate_poly, unit}
use Rattle.alb_poly.specs.Poly.{Poly}
use Rattle.alb_poly.specs.Instance.{Form}
use Rattle.alb_poly.proofs.Consequence.{tree_tells, poly_alike}
use Rattle.alb_poly.proofs.Multilinear.{each-from}
use Rattle.alb_rows.specs.Row.{Cells, comb, AreSameVector}
use Rattle.alb_table.specs.Table.{table_product, PartView, elems, type_at, monos, mono_at, Table, IsTable}
use Rattle.alb_table.specs.Right.{IsZeroAt, IsRight, IsTypeTo, IsWithinDegree, poly_value}
use Rattle.alb_table.specs.RightTable.{basis_monos, mono_entry}
use Rattle.alb_table.specs.Value.{IsBasisRow, generator_vector, table_value}
use Rattle.alb_table.proofs.Coefficients.{each-coefficient, greater-turned}
use Rattle.alb_table.proofs.Numbers.{value-by_numbers, coefficient-reindex}
use Rattle.alb_table.proofs.PartLemmas.{elems_step}
use Rattle.alb_table.proofs.RangeLemmas.{ats, type_first, type_later, type_in}
use Rattle.alb_table.proofs.RightTables.{number-type, numbered, type-to}
use Rattle.alb_table.proofs.TableLemmas.{types_ascend}
use Rattle.alb_check.specs.SubTable.{IsFirstType}
use Rattle.alb_check.proofs.SubValue.{monos-apart}
use Rattle.alb_check.proofs.VectorLemmas.{vector_alike}

-- ---- values at vectors for the generators

module _ (prod : ℕ → ℕ → Comb ℕ) (v w : ℕ → Comb ℕ) (n : ℕ) (equal : (k : ℕ) → k < n → v k ≡ w k) where
  evaluate-below : (m : Tree) → AreBelow n m → evaluate prod v m ≡ evaluate prod w m
  evaluate-below (leaf k) b = equal k b
  evaluate-below (node l r) b = rw (evaluate-below l b.0, evaluate-below r b.1)

  poly-below : (g : Poly) → Each (λ t. AreBelow n t.1) g → evaluate_poly prod v g ≡ evaluate_poly prod w g
  poly-below [] b = refl
  poly-below (t ∷ g) b = rw (evaluate-below t.1 b.0, poly-below g b.1)

generator-unit : (n k : ℕ) → k < n → generator_vector n k ≡ unit k
generator-unit n k h = grind (arith, nat_tests)

-- ---- types ascend with the numbers

both_less : (u w : List ℕ) → cmp_types u w ≡ Less → cmp_types w u ≡ Less → ⊥
both_less u w h k = let g : cmp_types w u ≡ Greater = greater-turned cmp_types_total u w h in absurd (cc)

types-rise : (parts : List PartView) (b c : ℕ) → Ascends cmp_types (ats parts) → b ≤ c → c < length (elems parts) →
    (type_at parts b ≡ type_at parts c) ⊎ (cmp_types (type_at parts b) (type_at parts c) ≡ Less)
types-rise [] b c a l h = absurd (omega arith)
types-rise (q ∷ qs) b c a l h =
    let n : length (elems (q ∷ qs)) ≡ length q.basis + length (elems qs) = elems_step q qs in
    elim (side c (length q.basis)) [
      | inl s ↦ inl (type_first q qs b (omega arith) ∙ sym (type_first q qs c s))
      | inr s ↦
          let k : c - length q.basis < length (elems qs) = omega arith in
          elim (side b (length q.basis)) [
            | inl r ↦ inr (rw (type_first q qs b r, type_later q qs c s)
                (each-member (λ y. cmp_types q.at y ≡ Less) (ats qs) (type_at qs (c - length q.basis)) a.0 (type_in qs (c - length q.basis) k)))
            | inr r ↦ rw (type_later q qs b r, type_later q qs c s) (types-rise qs (b - length q.basis) (c - length q.basis) a.1 (omega arith) k)
          ]
    ]
  where
    side : (a b : ℕ) → (a < b) ⊎ (b ≤ a)
    side a b = grind arith

-- ---- rows

-- later columns of a row are greater
columns-above : (x : ℕ × ℕ) (cells : Cells) (n : ℕ) → AllPairs (λ a b. a.0 < b.0) (x ∷ cells) → All (λ cell. cell.0 < n) (x ∷ cells) →
    Each (λ s. (x.0 ≤ s.1) × (s.1 < n)) (comb (x ∷ cells))
columns-above x cells n p a = ((omega arith, a 0 x (omega arith)), later cells (λ k d l. (p 0 (suc k) d (omega arith) (omega arith), a (suc k) d (omega arith))))
  where
    later : (cells : Cells) → ((k : ℕ) (d : ℕ × ℕ) → k < length cells → (x.0 < (get_or cells k d).0) × ((get_or cells k d).0 < n)) →
        Each (λ s. (x.0 ≤ s.1) × (s.1 < n)) (comb cells)
    later [] h = tt
    later (y ∷ cells) h = let l = (h 0 y (omega arith)).0 in ((omega (arith, l), (h 0 y (omega arith)).1), later cells (λ k d l. h (suc k) d (omega arith)))

-- the coefficient at a column where no cell is
coefficient-none : (f : Comb ℕ) (i : ℕ) → Each (λ s. nat_eq s.1 i ≡ false) f → coefficient (λ i j. nat_eq i j) f i ≡ 0
coefficient-none [] i h = refl
coefficient-none (s ∷ f) i h = rw h.0 (omega (arith, coefficient-none f i h.1))

coefficient-first : (x : ℕ × ℕ) (cells : Cells) → AllPairs (λ a b. a.0 < b.0) (x ∷ cells) → coefficient (λ i j. nat_eq i j) (comb (x ∷ cells)) x.0 ≡ x.1
coefficient-first x cells p =
    let e : nat_eq x.0 x.0 ≡ true = itself_eq x.0 in
    rw e (omega (arith, coefficient-none (comb cells) x.0 (later cells (λ k d l. p 0 (suc k) d (omega arith) (omega arith)))))
  where
    itself_eq : (i : ℕ) → nat_eq i i ≡ true
    itself_eq i = grind (arith, nat_tests)

    above : (i j : ℕ) → i < j → nat_eq j i ≡ false
    above i j h = grind (arith, nat_tests)

    later : (cells : Cells) → ((k : ℕ) (d : ℕ × ℕ) → k < length cells → x.0 < (get_or cells k d).0) → Each (λ s. nat_eq s.1 x.0 ≡ false) (comb cells)
    later [] h = tt
    later (y ∷ cells) h = (above x.0 y.0 (h 0 y (omega arith)), later cells (λ k d l. h (suc k) d (omega arith)))

module _ (fs : List Form) (t : Table) (tab : IsTable t) (right : IsRight t.p fs t.target t.degree (basis_monos t.parts) (mono_entry t.parts)) where
  -- the value over monomials
  pub value-monos : (g : Poly) → Each (λ s. IsWithinDegree t.target t.degree s.1) g → reindex (mono_at t.parts) (table_value t g) ≡ poly_value (mono_entry t.parts) g
  value-monos g inside =
      let below : Each (λ s. AreBelow (length t.target) s.1) g = each-from _ _ g (λ s w. below_from_test (length t.target) s.1 w.below) inside in
      ap (reindex (mono_at t.parts)) (poly-below (table_product t.parts) (generator_vector (length t.target)) (λ k. unit k) (length t.target)
      (generator-unit (length t.target)) g below)
      ∙ value-by_numbers (length t.target) (monos t.parts) (table_product t.parts) (numbered fs t tab right) g below

  mono-type : (b : ℕ) → b < length (elems t.parts) → type_of (length t.target) (mono_at t.parts b) ≡ type_at t.parts b
  mono-type b h = let o = number-type fs t tab right b h in ap (λ n. type_of n (mono_at t.parts b)) (sym (type-to fs t tab right b h).counts) ∙ o.counts

  -- The type of the first column of a row that is the value of a polynomial is a type of the table, and the first type of the
  -- normal form.
  pub row-first : (g : Poly) (x : ℕ × ℕ) (cells : Cells) → Each (λ s. IsWithinDegree t.target t.degree s.1) g → IsBasisRow t.p (length (elems t.parts)) (x ∷ cells) →
      AreSameVector t.p (comb (x ∷ cells)) (table_value t g) →
      IsTypeTo t.target t.degree (type_at t.parts x.0) × IsFirstType t.p (type_at t.parts x.0) (poly_value (mono_entry t.parts) g)
  row-first g x cells inside is value =
      let h : x.0 < length (elems t.parts) = is.below 0 x (omega arith) in
      let above : Each (λ s. (x.0 ≤ s.1) × (s.1 < length (elems t.parts))) (comb (x ∷ cells)) = columns-above x cells (length (elems t.parts)) is.row.row.ascending is.below in
      let below : Each (λ s. s.1 < length (elems t.parts)) (comb (x ∷ cells)) = each-from _ _ (comb (x ∷ cells)) (λ s k. k.1) above in
      let alike : Alike t.p (reindex (mono_at t.parts) (comb (x ∷ cells))) (poly_value (mono_entry t.parts) g) =
      subst (Alike t.p (reindex (mono_at t.parts) (comb (x ∷ cells)))) (value-monos g inside) (reindex-alike (mono_at t.parts) (vector_alike {f = comb (x ∷ cells)} {g = table_value t g} value)) in
      let ty = type-to fs t tab right x.0 h in (
        ty,
        record {
          monomial = mono_at t.parts x.0;
          type = number-type fs t tab right x.0 h;
          nonzero = λ z. nonzero (poly_alike alike (mono_at t.parts x.0) ⊙ z) below h;
          first = λ y k l. elim (each-coefficient same_tree tree_tells IsLater (reindex (mono_at t.parts) (comb (x ∷ cells))) y (laters (comb (x ∷ cells)) above)) [
            | inr z ↦ k (back (poly_alike alike y) ⊙ same z)
            | inl m ↦ earlier y m (subst (λ k. cmp_types (type_of k y) (type_at t.parts x.0) ≡ Less) ty.counts l)
          ];
        },
      )
    where
      nonzero : IsZeroAt t.p (reindex (mono_at t.parts) (comb (x ∷ cells))) (mono_at t.parts x.0) → Each (λ s. s.1 < length (elems t.parts)) (comb (x ∷ cells)) →
          x.0 < length (elems t.parts) → ⊥
      nonzero z b h =
          let e : coefficient same_tree (reindex (mono_at t.parts) (comb (x ∷ cells))) (mono_at t.parts x.0) ≡ x.1 =
          coefficient-reindex (λ i. i < length (elems t.parts)) (λ i j. nat_eq i j) same_tree (mono_at t.parts) (monos-apart fs t tab right) (comb (x ∷ cells)) x.0 h b
          ∙ coefficient-first x cells is.row.row.ascending in
          let r : x.1 < t.p = is.row.residues 0 x (omega arith) in
          let m : x.1 % t.p ≡ x.1 = mod-eq_of_lt r in
          let o : 0 % t.p ≡ 0 = mod-eq_of_lt (omega arith) in
          let q : IsSameMod t.p x.1 0 = subst (λ k. IsSameMod t.p k 0) e z in
          is.row.row.nonzero 0 x (omega arith) (sym m ∙ q.same ∙ o)

      -- a basis monomial whose number is not below that of the first column
      IsLater : Tree → Type 0
      IsLater y = (b : ℕ) × (x.0 ≤ b) × (b < length (elems t.parts)) × (mono_at t.parts b ≡ y)

      laters : (f : Comb ℕ) → Each (λ s. (x.0 ≤ s.1) × (s.1 < length (elems t.parts))) f → Each (λ s. IsLater s.1) (reindex (mono_at t.parts) f)
      laters [] a = tt
      laters (s ∷ f) a = ((s.1, a.0.0, a.0.1, refl), laters f a.1)

      earlier : (y : Tree) → IsLater y → cmp_types (type_of (length t.target) y) (type_at t.parts x.0) ≡ Less → ⊥
      earlier y m l =
          let e : type_of (length t.target) y ≡ type_at t.parts m.0 = ap (type_of (length t.target)) (sym m.3) ∙ mono-type m.0 m.2 in
          let k : cmp_types (type_at t.parts m.0) (type_at t.parts x.0) ≡ Less = ap (λ w. cmp_types w (type_at t.parts x.0)) (sym e) ∙ l in
          elim (types-rise t.parts x.0 m.0 (types_ascend t tab) m.1 m.2) [
            | inl q ↦
                let s : cmp_types (type_at t.parts x.0) (type_at t.parts x.0) ≡ Less = ap (λ w. cmp_types w (type_at t.parts x.0)) q ∙ k in
                let i : cmp_types (type_at t.parts x.0) (type_at t.parts x.0) ≡ Equal = tied_itself cmp_types_total (type_at t.parts x.0) in
                absurd (cc)
            | inr q ↦ both_less (type_at t.parts x.0) (type_at t.parts m.0) q k
          ]
