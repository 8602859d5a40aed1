-- The row of an instance, term by term.
use Rattle.std.proofs.Common.{◌≡◌, ◌≢◌, ℕ, zero, suc, ◌+◌, ◌<◌, ◌==◌, true, false, inl, inr, drop, add-one, List, [], ◌∷◌, ◌++◌, map, length, take, get_or, replicate, sym, refl, ap, ◌∙◌, arith, subst, append-nil}
use Rattle.std.specs.Prelude.{slice_index, slice_index_or, if◌then◌else◌}
use Rattle.std.proofs.lemmas.Bool.{cases_Bool}
use Rattle.std.proofs.lemmas.Bool.Decides.{nat_tests}
use Rattle.std.specs.List.{All}
use Rattle.std.proofs.lemmas.List.{take_more, map-append, get_or-map, length-map, get_or-replicate}
use Rattle.std.proofs.Math.ListN.{length-replicate}
use Rattle.std.proofs.lemmas.List.Concat.{flat_map-append}
use Rattle.std.proofs.lemmas.List.Elements.{All-cons, All-nil}
use Rattle.std.proofs.lemmas.List.Kept.{AllPairs-cons}
use Rattle.gf_field.specs.Modular.{IsSameMod}
use Rattle.gf_field.proofs.Mod.{same, ◌⊙◌}
use Rattle.gf_sums.specs.Sums.{Comb, coefficient, scale}
use Rattle.gf_sums.proofs.Alike.{scale-alike, multiply-alike}
use Rattle.alb_mono.specs.Listing.{Each}
use Rattle.alb_mono.specs.Tree.{Tree, leaf, node, AreBelow, are_below}
use Rattle.alb_poly.specs.Textbook.{evaluate, unit}
use Rattle.alb_poly.specs.Instance.{Form, IsMultilinear, IsMultilinearForm}
use Rattle.alb_poly.specs.Poly.{Poly}
use Rattle.alb_poly.specs.Terms.{term, terms}
use Rattle.alb_poly.specs.declared.term.Term.{Term}
use Rattle.alb_poly.proofs.Multilinear.{multilinear-below, each-from}
use Rattle.alb_linear.proofs.LinearLemmas.{test_from_below}
use Rattle.alb_rows.specs.Row.{Cells, comb, entry, AreSameVector}
use Rattle.alb_rows.specs.Merge.{at_column}
use Rattle.alb_rows.proofs.RowLemmas.{written_back}
use Rattle.alb_table.specs.Table.{same_pair, PartView, table_product}
use Rattle.alb_table.specs.Value.{IsBasisRow, vectors}
use Rattle.alb_table.specs.Right.{outer}
use Rattle.alb_table.specs.Block.{image, spread}
use Rattle.alb_table.proofs.ValueLemmas.{vector-alike, evaluate-below}
use Rattle.alb_subst.specs.Columns.{pair_at}
use Rattle.alb_subst.specs.Sums.{AddsAtColumns, HasEntries, instance_row}
use Rattle.alb_subst.proofs.SumLemmas.{adds_alike, adds_equal, adds_then, adds_none}

abbrev pub pair : ℕ → ℕ → ℕ × ℕ
pair b c = (b, c)

-- a product, by the values of its factors
pub adds_product : (p : ℕ) (columns : List (ℕ × ℕ)) (old new : List ℕ) (x : ℕ) (prod : ℕ → ℕ → Comb ℕ) (v : ℕ → Comb ℕ) (l r : Tree) (f g : Comb ℕ) →
    AreSameVector p f (evaluate prod v l) → AreSameVector p g (evaluate prod v r) → AddsAtColumns p columns old new (scale x (outer pair f g)) →
    AddsAtColumns p columns old new (scale x (image pair prod v (node l r)))
adds_product p columns old new x prod v l r f g h k a =
    adds_alike p columns old new _ _ (scale-alike x (multiply-alike (λ b c. (1, pair b c) ∷ []) (vector-alike h) (vector-alike k))) a

-- one more term
pub adds_term : (p : ℕ) (columns : List (ℕ × ℕ)) (start old new : List ℕ) (h : Tree → Comb (ℕ × ℕ)) (ts : List Term) (k : ℕ) (t : Term) → k < length ts → t ≡ get_or ts k t →
    AddsAtColumns p columns start old (spread h (terms (take k ts))) → AddsAtColumns p columns old new (scale (term t).0 (h (term t).1)) →
    AddsAtColumns p columns start new (spread h (terms (take (k + 1) ts)))
adds_term p columns start old new h ts k t l e a b =
    let s : terms (take (k + 1) ts) ≡ terms (take k ts) ++ term t ∷ [] =
    ap terms (take_more ts k t l ∙ ap (λ x. take k ts ++ x ∷ []) (sym e)) ∙ map-append term (take k ts) (t ∷ []) in
    let q : spread h (terms (take k ts)) ++ scale (term t).0 (h (term t).1) ≡ spread h (terms (take (k + 1) ts)) =
    sym (ap (spread h) s ∙ flat_map-append (λ z. scale z.0 (h z.1)) (terms (take k ts)) (term t ∷ [])
    ∙ ap (λ f. spread h (terms (take k ts)) ++ f) (append-nil (scale (term t).0 (h (term t).1)))) in
    adds_equal p columns start new _ _ q (adds_then p columns start old new _ _ a b)

-- ---- the vectors of a tuple

abbrev pub unit_row : ℕ → Cells
unit_row b = (b, 1) ∷ []

unit_vector : (p n b : ℕ) → 1 < p → b < n → IsBasisRow p n (unit_row b)
unit_vector p n b h l = record {
  row = record {
    row = record {
      ascending = AllPairs-cons (λ (x y : ℕ × ℕ). x.0 < y.0) (b, 1) [] (All-nil _) (λ i k d u v. absurd (omega arith));
      nonzero = All-cons (λ (cell : ℕ × ℕ). cell.1 ≢ 0) (b, 1) [] (λ e. absurd (omega arith)) (All-nil _);
    };
    residues = All-cons (λ (cell : ℕ × ℕ). cell.1 < p) (b, 1) [] h (All-nil _);
  };
  below = All-cons (λ (cell : ℕ × ℕ). cell.0 < n) (b, 1) [] l (All-nil _);
}

pub unit_vectors : (p n : ℕ) (tuple : List ℕ) → 1 < p → Each (λ b. b < n) tuple → Each (IsBasisRow p n) (map unit_row tuple)
unit_vectors p n [] h l = tt
unit_vectors p n (b ∷ tuple) h l = (unit_vector p n b h l.0, unit_vectors p n tuple h l.1)

units-at : (tuple : List ℕ) (k : ℕ) → k < length tuple → vectors (map unit_row tuple) k ≡ unit (slice_index_or tuple k 0)
units-at tuple k l = ap comb (get_or-map unit_row tuple k 0 [] l)

-- ---- values at the positions of a form

image-below : (prod : ℕ → ℕ → Comb ℕ) (v w : ℕ → Comb ℕ) (n : ℕ) (m : Tree) → ((k : ℕ) → k < n → v k ≡ w k) → AreBelow n m → image pair prod v m ≡ image pair prod w m
image-below prod v w n (leaf k) h b = refl
image-below prod v w n (node l r) h b = rw (evaluate-below prod v w n l h b.0, evaluate-below prod v w n r h b.1) refl

spread-below : (prod : ℕ → ℕ → Comb ℕ) (v w : ℕ → Comb ℕ) (n : ℕ) (f : Poly) → ((k : ℕ) → k < n → v k ≡ w k) → Each (λ t. AreBelow n t.1) f →
    spread (image pair prod v) f ≡ spread (image pair prod w) f
spread-below prod v w n [] h b = refl
spread-below prod v w n (t ∷ f) h b = rw (image-below prod v w n t.1 h b.0, spread-below prod v w n f h b.1) refl

terms-below : (f : Form) → IsMultilinearForm f → Each (λ t. AreBelow f.degree t.1) f.terms
terms-below f m = each-from (λ t. IsMultilinear f.degree t.1) (λ t. AreBelow f.degree t.1) f.terms (λ t k. multilinear-below f.degree t.1 k) m

-- the sum over the terms is the row of the instance
pub adds_instance : (p : ℕ) (columns : List (ℕ × ℕ)) (old new : List ℕ) (parts : List PartView) (f : Form) (tuple : List ℕ) (rows : List Cells) → IsMultilinearForm f →
    length tuple ≡ f.degree → rows ≡ map unit_row tuple → AddsAtColumns p columns old new (spread (image pair (table_product parts) (vectors rows)) f.terms) →
    AddsAtColumns p columns old new (instance_row parts f tuple)
adds_instance p columns old new parts f tuple rows m l e a =
    adds_equal p columns old new _ _
    (spread-below (table_product parts) (vectors rows) (λ k. unit (slice_index_or tuple k 0)) f.degree f.terms
    (λ k h. ap (λ rs. vectors rs k) e ∙ units-at tuple k (omega arith)) (terms-below f m)) a

each-item : {X : Type 0} (P : X → Type 0) (xs : List X) (k : ℕ) (x : X) → Each P xs → k < length xs → x ≡ get_or xs k x → P x
each-item P [] k x h l e = absurd (omega arith)
each-item P (y ∷ xs) zero x h l e = subst P (sym e) h.0
each-item P (y ∷ xs) (suc k) x h l e = each-item P xs k x h.1 (omega arith) e

each-terms : (P : ℕ × Tree → Type 0) (ts : List Term) (k : ℕ) (t : Term) → Each P (terms ts) → k < length ts → t ≡ get_or ts k t → P (term t)
each-terms P [] k t h l e = absurd (omega arith)
each-terms P (s ∷ ts) zero t h l e = subst (λ z. P (term z)) (sym e) h.0
each-terms P (s ∷ ts) (suc k) t h l e = each-terms P ts k t h.1 (omega arith) e

-- the positions of a term are those of the tuple
pub positions_known : (f : Form) (ts : List Term) (k n : ℕ) (t : Term) → IsMultilinearForm f → terms ts ≡ f.terms → n ≡ f.degree → k < length ts → t ≡ get_or ts k t →
    are_below n (term t).1 ≡ true
positions_known f ts k n t m e d l i =
    test_from_below n (term t).1 (each-terms (λ z. AreBelow n z.1) ts k t (subst (Each (λ z. AreBelow n z.1)) (sym e) (subst (λ j. Each (λ z. AreBelow j z.1) f.terms) (sym d) (terms-below f m))) l i)

pub residue_known : (p : ℕ) (f : Poly) (ts : List Term) (k : ℕ) (t : Term) → All (λ z. z.0 < p) f → terms ts ≡ f → k < length ts → t ≡ get_or ts k t → (term t).0 < p
residue_known p f ts k t a e l i =
    let m : k < length f = omega (arith, ap length e, length-map ts term) in
    subst (λ z. z.0 < p) (ap (λ g. get_or g k (term t)) (sym e) ∙ get_or-map term ts k t (term t) l ∙ ap term (sym i)) (a k (term t) m)

-- ---- the row of the sums

-- what was added to zeros is what the row has
pub has_entries : (p : ℕ) (columns : List (ℕ × ℕ)) (new : List ℕ) (row : Cells) (f : Comb (ℕ × ℕ)) → AddsAtColumns p columns (replicate (length columns) 0) new f →
    ((j : ℕ) → IsSameMod p (entry row j) (slice_index new j)) → HasEntries p columns row f
has_entries p columns new row f a h j l =
    h j ⊙ a.at j l ⊙ same (ap (λ n. n + coefficient same_pair f (pair_at columns j)) (get_or-replicate (length columns) j 0 0 l) ∙ omega arith)

-- ---- cells of residues

take-index : (sums : List ℕ) (k j : ℕ) → k < length sums → slice_index (take (suc k) sums) j ≡ slice_index (take k sums) j + (if k == j then slice_index sums k else 0)
take-index [] k j l = absurd (omega arith)
take-index (s ∷ sums) zero zero l = omega arith
take-index (s ∷ sums) zero (suc j) l = let e : (0 == suc j) ≡ false = grind (arith, nat_tests) in rw e refl
take-index (s ∷ sums) (suc k) zero l = let e : (suc k == 0) ≡ false = grind (arith, nat_tests) in rw e (omega arith)
take-index (s ∷ sums) (suc k) (suc j) l =
    let e : (suc k == suc j) ≡ (k == j) = same_test k j in
    rw e (take-index sums k j (omega arith))
  where
    same_test : (k j : ℕ) → (suc k == suc j) ≡ (k == j)
    same_test k j = elim (cases_Bool (k == j)) [
      | inl e ↦ let f : (suc k == suc j) ≡ true = (let g : (k == j) ≡ true = e in grind (arith, nat_tests)) in f ∙ sym e
      | inr e ↦ let f : (suc k == suc j) ≡ false = (let g : (k == j) ≡ false = e in grind (arith, nat_tests)) in f ∙ sym e
    ]

pub cells_more : (sums : List ℕ) (old new : Cells) (k x : ℕ) → k < length sums → x ≡ slice_index sums k → ((j : ℕ) → entry old j ≡ slice_index (take k sums) j) →
    ((j : ℕ) → entry new j ≡ entry old j + at_column k x j) → (j : ℕ) → entry new j ≡ slice_index (take (k + 1) sums) j
cells_more sums old new k x l e h n j =
    n j ∙ ap (λ m. m + (if k == j then x else 0)) (h j) ∙ ap (λ y. slice_index (take k sums) j + (if k == j then y else 0)) e ∙ rw add-one (sym (take-index sums k j l))

-- ---- the loop over the terms

-- nothing has been added to zeros
pub adds_zeros : (p : ℕ) (columns : List (ℕ × ℕ)) (xs ys : List ℕ) → ys ≡ xs → AddsAtColumns p columns xs ys []
adds_zeros p columns xs ys e = subst (λ zs. AddsAtColumns p columns xs zs []) (sym e) (adds_none p columns xs)

pub zero_residues : (p n : ℕ) (ys : List ℕ) → 0 < p → ys ≡ replicate n 0 → All (λ y. y < p) ys
zero_residues p n ys h e = subst (λ zs. All (λ y. y < p) zs) (sym e) (λ k d l. (let m : k < n = omega (arith, length-replicate {A = ℕ} n 0) in rw (get_or-replicate n k 0 d m) h))

-- what a term adds through a slice of a list
pub kept_whole : (n : ℕ) (xs ys : List ℕ) → length ys ≡ length xs → length xs ≡ n → take n (ys ++ drop (length ys) xs) ≡ ys
kept_whole n xs ys e l = written_back n xs ys ys refl (e ∙ l)
