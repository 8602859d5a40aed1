-- Instances over numbers are instances over monomials, with the same rows.
use Rattle.std.proofs.Common.{◌≡◌, ℕ, zero, suc, ◌+◌, ◌<◌, true, false, eqb, List, [], ◌∷◌, map, length, get_or, replicate, sym, refl, ap, ◌∙◌, subst, arith, inl, inr}
use Rattle.std.specs.List.{All}
use Rattle.std.proofs.lemmas.List.{length-map}
use Rattle.std.proofs.lemmas.Bool.{cases_Bool, cases_order, eq-eqb}
use Rattle.std.proofs.lemmas.Bool.Decides.{nat_tests}
use Rattle.gf_sums.specs.Sums.{Comb, total, scale, reindex, multiply}
use Rattle.alb_mono.specs.Listing.{Each}
use Rattle.alb_mono.specs.Tree.{Tree, leaf, node, count, listed, type_of, type_plus, same_tree, AreBelow}
use Rattle.alb_poly.specs.Textbook.{evaluate, unit}
use Rattle.alb_poly.specs.Poly.{Poly}
use Rattle.alb_poly.specs.Instance.{Form, IsMultilinearForm}
use Rattle.alb_poly.proofs.Consequence.{tree_tells}
use Rattle.alb_poly.proofs.Multilinear.{each-append, each-from, multilinear-below}
use Rattle.alb_table.specs.Table.{same_pair, elems, type_at, monos, mono_at, table_product, Table, IsTable}
use Rattle.alb_table.specs.Right.{IsBasisTo, IsRight, basis_mono, entry_by}
use Rattle.alb_table.specs.RightTable.{basis_monos, mono_entry, instance_at}
use Rattle.alb_table.specs.Block.{image, spread, form_row, IsTupleAt}
use Rattle.alb_table.specs.Columns.{vector_of}
use Rattle.alb_table.proofs.Values.{each-multiply, each-scale}
use Rattle.alb_table.proofs.Numbers.{evaluate-each, images-reindex, coefficient-reindex, entry-respects}
use Rattle.alb_table.proofs.RightTables.{length-monos, number-type, number-basis, basis-number, numbers-differ, numbered, type-to}
use Rattle.alb_subst.specs.Tuples.{type_sum}
use Rattle.alb_subst.specs.Sums.{instance_row}
use Rattle.alb_block.specs.Instances.{BlockSetting, IsInstance, vector_over}
use Rattle.alb_linear.proofs.LinearLemmas.{each_from_all, all_from_each}
use Rattle.alb_block.proofs.ColumnLemmas.{pair_mono}

-- ---- the types of a tuple

listed-plus : (f g : ℕ → ℕ) (k n : ℕ) → type_plus (listed f k n) (listed g k n) ≡ listed (λ i. f i + g i) k n
listed-plus f g k zero = refl
listed-plus f g k (suc n) = ap (λ xs. (f k + g k) ∷ xs) (listed-plus f g (suc k) n)

listed-zero : (k n : ℕ) → listed (λ _. 0) k n ≡ replicate n 0
listed-zero k zero = refl
listed-zero k (suc n) = ap (λ xs. 0 ∷ xs) (listed-zero (suc k) n)

map_get : (f : ℕ → Tree) (xs : List ℕ) (k d : ℕ) (e : Tree) → k < length xs → get_or (map f xs) k e ≡ f (get_or xs k d)
map_get f [] k d e l = absurd (omega arith)
map_get f (x ∷ xs) zero d e l = refl
map_get f (x ∷ xs) (suc k) d e l = map_get f xs k d e (omega arith)

each_get : (P : ℕ → Type 0) (xs : List ℕ) (k d : ℕ) → Each P xs → k < length xs → P (get_or xs k d)
each_get P [] k d a l = absurd (omega arith)
each_get P (x ∷ xs) zero d a l = a.0
each_get P (x ∷ xs) (suc k) d a l = each_get P xs k d a.1 (omega arith)

eqb_turned : (a b : ℕ) → eqb a b ≡ eqb b a
eqb_turned a b = grind (arith, nat_tests)

-- each pair of a product of two combinations has an index of each
each-outer : {I : Type 0} (P : I → Type 0) (f g : Comb I) → Each (λ t. P t.1) f → Each (λ t. P t.1) g →
    Each (λ (t : ℕ × (I × I)). P t.1.0 × P t.1.1) (multiply (λ i j. (1, (i, j)) ∷ []) f g)
each-outer P f g a b = each-multiply P P (λ q. P q.0 × P q.1) (λ i j. (1, (i, j)) ∷ []) f g (λ i j h k. ((h, k), tt)) a b

module _ (fs : List Form) (t : Table) (tab : IsTable t) (right : IsRight t.p fs t.target t.degree (basis_monos t.parts) (mono_entry t.parts)) where
  abbrev pub size : ℕ
  size = length (elems t.parts)

  one-type : (b : ℕ) → b < size → listed (λ g. count g (mono_at t.parts b)) 0 (length t.target) ≡ type_at t.parts b
  unfolding type_of
  one-type b h = ap (λ n. type_of n (mono_at t.parts b)) (sym (type-to fs t tab right b h).counts) ∙ (number-type fs t tab right b h).counts

  -- the types of the numbers add up to those of the monomials
  sum-types : (x : List ℕ) → Each (λ b. b < size) x → listed (λ g. total (count g) (map (mono_at t.parts) x)) 0 (length t.target) ≡ type_sum t.parts (length t.target) x
  sum-types [] a = listed-zero 0 (length t.target)
  sum-types (b ∷ bs) a =
      sym (listed-plus (λ g. count g (mono_at t.parts b)) (λ g. total (count g) (map (mono_at t.parts) bs)) 0 (length t.target))
      ∙ ap (λ z. type_plus z (listed (λ g. total (count g) (map (mono_at t.parts) bs)) 0 (length t.target))) (one-type b a.0)
      ∙ ap (type_plus (type_at t.parts b)) (sum-types bs a.1)

  pub numbers-each : (x : List ℕ) → All (λ b. b < size) x → Each (λ b. b < size) x
  numbers-each x h = each_from_all (λ b. b < size) x h

  basis-each : (x : List ℕ) → Each (λ b. b < size) x → Each (IsBasisTo t.p fs t.target t.degree) (map (mono_at t.parts) x)
  basis-each [] a = tt
  basis-each (b ∷ bs) a = (number-basis fs t tab right b a.0, basis-each bs a.1)

  -- the numbers of basis monomials
  record Numbers (ms : List Tree) : Type 0 where
    numbers : List ℕ
    below : Each (λ b. b < size) numbers
    are : map (mono_at t.parts) numbers ≡ ms

  numbers-of : (ms : List Tree) → Each (IsBasisTo t.p fs t.target t.degree) ms → Numbers ms
  numbers-of [] a = record { numbers = []; below = tt; are = refl }
  numbers-of (m ∷ ms) a =
      let b = basis-number fs t tab right m a.0 in
      let w = numbers-of ms a.1 in
      record { numbers = b.0 ∷ w.numbers; below = (b.1, w.below); are = ap (λ x. x ∷ map (mono_at t.parts) w.numbers) b.2 ∙ ap (λ xs. m ∷ xs) w.are }

  module _ (w : List ℕ) (long : length w ≡ length t.target) where
    abbrev pub here : BlockSetting
    here = record { p = t.p; forms = fs; parts = t.parts; at = w }

    -- an instance over numbers is one over monomials
    pub instance-tuple : (name : ℕ × List ℕ) → IsInstance here name → IsTupleAt t.p fs t.target t.degree w (instance_at t.parts name)
    instance-tuple name h = record {
      form = h.form;
      full = length-map name.1 (mono_at t.parts) ∙ h.tuple.long;
      basis = basis-each name.1 (numbers-each name.1 h.tuple.numbers);
      types = ap (listed (λ g. total (count g) (map (mono_at t.parts) name.1)) 0) long ∙ sum-types name.1 (numbers-each name.1 h.tuple.numbers)
          ∙ ap (λ n. type_sum t.parts n name.1) (sym long) ∙ h.tuple.types;
    }

    -- and the converse
    pub record HasNumbers (name : ℕ × List Tree) : Type 0 where
      pub number : ℕ × List ℕ
      pub instance : IsInstance here number
      pub same : instance_at t.parts number ≡ name

    pub tuple-instance : (name : ℕ × List Tree) → IsTupleAt t.p fs t.target t.degree w name → HasNumbers name
    tuple-instance name h =
        let n = numbers-of name.1 h.basis in
        record {
          number = (name.0, n.numbers);
          instance = record {
            form = h.form;
            tuple = record {
              long = sym (length-map n.numbers (mono_at t.parts)) ∙ ap length n.are ∙ h.full;
              numbers = all_from_each (λ b. b < size) n.numbers n.below;
              types = ap (λ k. type_sum t.parts k n.numbers) long ∙ sym (sum-types n.numbers n.below)
                  ∙ ap (λ ms. listed (λ g. total (count g) ms) 0 (length t.target)) n.are
                  ∙ ap (listed (λ g. total (count g) name.1) 0) (sym long) ∙ h.types;
            };
          };
          same = ap (λ ms. (name.0, ms)) n.are;
        }

  -- ---- rows

  abbrev pub InTable : ℕ → Type 0
  InTable b = b < length (monos t.parts)

  same-mono : (a b : ℕ) → InTable a → InTable b → same_tree (mono_at t.parts a) (mono_at t.parts b) ≡ eqb a b
  same-mono a b h k = elim (cases_order a b) [
    | inl e ↦ rw e (tree_tells.whole (mono_at t.parts b) ∙ sym (eq-eqb b b refl))
    | inr n ↦ (elim n [
      | inl l ↦ (let q : eqb a b ≡ false = grind (arith, nat_tests) in numbers-differ fs t tab right a b l (omega (arith, k, length-monos t.parts)) ∙ sym q)
      | inr m ↦ (let q : eqb a b ≡ false = grind (arith, nat_tests) in same-turned (mono_at t.parts a) (mono_at t.parts b) (numbers-differ fs t tab right b a m (omega (arith, h, length-monos t.parts))) ∙ sym q)
    ])
  ]
    where
      same-turned : (x y : Tree) → same_tree y x ≡ false → same_tree x y ≡ false
      same-turned x y f = elim (cases_Bool (same_tree x y)) [
        | inr g ↦ g
        | inl s ↦ (let e : x ≡ y = tree_tells.sound x y s in let s' : same_tree y x ≡ true = subst (λ z. same_tree z x ≡ true) e (tree_tells.whole x) in absurd (cc))
      ]

  same-pairs : (q r : ℕ × ℕ) → InTable q.0 × InTable q.1 → InTable r.0 × InTable r.1 → same_tree (pair_mono t.parts q) (pair_mono t.parts r) ≡ same_pair q r
  same-pairs q r a b = rw (same-mono q.0 r.0 a.0 b.0, same-mono q.1 r.1 a.1 b.1) refl

  -- the indices of a row are numbers of the table
  module _ (b : ℕ → ℕ) (n : ℕ) (known : (k : ℕ) → k < n → InTable (b k)) where
    values-in : (m : Tree) → AreBelow n m → Each (λ s. InTable s.1) (evaluate (table_product t.parts) (λ k. unit (b k)) m)
    values-in m h =
        evaluate-each InTable (basis_mono (monos t.parts)) (table_product t.parts) (entry_by (monos t.parts) (table_product t.parts)) (numbered fs t tab right).entries
        (entry-respects (length t.target) (monos t.parts) (table_product t.parts) (numbered fs t tab right))
        (λ k. unit (b k)) (λ k. unit (basis_mono (monos t.parts) (b k))) n (λ k l. (known k l, tt)) (λ k l. refl) m h

    image-in : (m : Tree) → AreBelow n m → Each (λ (s : ℕ × (ℕ × ℕ)). InTable s.1.0 × InTable s.1.1) (image (λ i j. (i, j)) (table_product t.parts) (λ k. unit (b k)) m)
    image-in (leaf k) h = tt
    image-in (node l r) h = each-outer InTable (evaluate (table_product t.parts) (λ k. unit (b k)) l) (evaluate (table_product t.parts) (λ k. unit (b k)) r) (values-in l h.0) (values-in r h.1)

    images-in : (f : Poly) → Each (λ s. AreBelow n s.1) f → Each (λ (s : ℕ × (ℕ × ℕ)). InTable s.1.0 × InTable s.1.1) (spread (image (λ i j. (i, j)) (table_product t.parts) (λ k. unit (b k))) f)
    images-in [] a = tt
    images-in (s ∷ f) a =
        each-append (λ (s : ℕ × (ℕ × ℕ)). InTable s.1.0 × InTable s.1.1) (scale s.0 (image (λ i j. (i, j)) (table_product t.parts) (λ k. unit (b k)) s.1)) (spread (image (λ i j. (i, j)) (table_product t.parts) (λ k. unit (b k))) f)
        (each-scale (λ q. InTable q.0 × InTable q.1) s.0 (image (λ i j. (i, j)) (table_product t.parts) (λ k. unit (b k)) s.1) (image-in s.1 a.0)) (images-in f a.1)

  known : (x : List ℕ) → Each (λ b. b < size) x → (k : ℕ) → k < length x → InTable (get_or x k 0)
  known x a k l = omega (arith, each_get (λ b. b < size) x k 0 a l, length-monos t.parts)

  pub row-in : (f : Form) (x : List ℕ) → IsMultilinearForm f → Each (λ b. b < size) x → length x ≡ f.degree →
      Each (λ (s : ℕ × (ℕ × ℕ)). InTable s.1.0 × InTable s.1.1) (instance_row t.parts f x)
  row-in f x m a e = images-in (λ k. get_or x k 0) f.degree (λ k l. known x a k (omega (arith, e))) f.terms
      (each-from _ _ f.terms (λ s q. multilinear-below f.degree s.1 q) m)

  -- the row over pairs is the row over monomials
  pub row-monos : (f : Form) (x : List ℕ) → IsMultilinearForm f → Each (λ b. b < size) x → length x ≡ f.degree →
      reindex (pair_mono t.parts) (instance_row t.parts f x) ≡ form_row node (mono_entry t.parts) (λ k. get_or (map (mono_at t.parts) x) k (leaf k)) f
  row-monos f x m a e =
      images-reindex InTable (basis_mono (monos t.parts)) (table_product t.parts) (entry_by (monos t.parts) (table_product t.parts)) (numbered fs t tab right).entries
      (entry-respects (length t.target) (monos t.parts) (table_product t.parts) (numbered fs t tab right))
      (λ k. unit (get_or x k 0)) (λ k. unit (get_or (map (mono_at t.parts) x) k (leaf k))) f.degree
      (λ k l. (known x a k (omega (arith, e)), tt)) (λ k l. ap unit (sym (map_get (mono_at t.parts) x k 0 (leaf k) (omega (arith, e)))))
      (λ i j. (i, j)) node (pair_mono t.parts) (λ i j. refl) f.terms (each-from _ _ f.terms (λ s q. multilinear-below f.degree s.1 q) m)

  pub vector-pairs : (cols : List (ℕ × ℕ)) (f : Comb (ℕ × ℕ)) (j : ℕ) → Each (λ q. InTable q.0 × InTable q.1) cols → Each (λ (s : ℕ × (ℕ × ℕ)). InTable s.1.0 × InTable s.1.1) f →
      vector_of (map (pair_mono t.parts) cols) (reindex (pair_mono t.parts) f) j ≡ vector_over cols f j
  vector-pairs [] f j a b = refl
  vector-pairs (q ∷ cols) f zero a b =
      coefficient-reindex (λ q. InTable q.0 × InTable q.1) same_pair same_tree (pair_mono t.parts) same-pairs f q a.0 b
  vector-pairs (q ∷ cols) f (suc j) a b = vector-pairs cols f j a.1 b
