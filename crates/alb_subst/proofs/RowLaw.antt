-- Exchanging two numbers in a run leaves the row as it is, so each row is that of a tuple that never falls within a run.
use Rattle.std.proofs.Common.{◌≡◌, ℕ, zero, suc, ◌+◌, ◌<◌, ◌==◌, Bool, true, false, List, [], ◌∷◌, length, get_or, sym, refl, ap, ◌∙◌, subst, arith, inl, inr}
use Rattle.std.specs.Prelude.{◌||◌, not, nat_le}
use Rattle.std.proofs.lemmas.Bool.{cases_Bool, false≢true}
use Rattle.std.proofs.lemmas.Bool.Decides.{nat_tests}
use Rattle.gf_sums.specs.Sums.{Comb, reindex}
use Rattle.gf_sums.proofs.Alike.{Alike, itself, joined, alike-same, same-alike}
use Rattle.alb_mono.specs.Listing.{Each}
use Rattle.alb_mono.specs.Tree.{Tree, leaf, node, type_plus, same_tree}
use Rattle.alb_poly.specs.Textbook.{evaluate, unit}
use Rattle.alb_poly.specs.Instance.{Form}
use Rattle.alb_poly.proofs.Consequence.{tree_tells}
use Rattle.alb_poly.proofs.Multilinear.{each_from_all, all_from_each}
use Rattle.alb_linear.specs.Runs.{exchanged, with_exchanged, AreExchangeable, goes_on, AreRuns}
use Rattle.alb_rows.proofs.SpanLemmas.{span_one, span_same}
use Rattle.alb_table.specs.Table.{same_pair, PartView, elems, type_at, table_product}
use Rattle.alb_table.specs.Block.{image, spread}
use Rattle.alb_table.proofs.Spans.{spread-alike, row-equal}
use Rattle.alb_subst.specs.Sums.{instance_row}
use Rattle.alb_subst.specs.Tuples.{IsTupleOf, type_sum, rises_within, IsLeastTuple}
use Rattle.alb_subst.specs.Laws.{MayBeExchanged, row_vector, all_rows, least_rows, LeastRowsSpanAll}
use Rattle.alb_subst.proofs.SumLemmas.{pairs_tell}

-- the numbers at the place j and the next one exchanged
abbrev pub exchange : ℕ → List ℕ → List ℕ
exchange j [] = []
exchange zero (a ∷ []) = a ∷ []
exchange zero (a ∷ b ∷ x) = b ∷ a ∷ x
exchange (suc j) (a ∷ x) = a ∷ exchange j x

length-exchange : (j : ℕ) (x : List ℕ) → length (exchange j x) ≡ length x
length-exchange zero [] = refl
length-exchange (suc j) [] = refl
length-exchange zero (a ∷ []) = refl
length-exchange zero (a ∷ b ∷ x) = refl
length-exchange (suc j) (a ∷ x) = ap suc (length-exchange j x)

each-exchange : (P : ℕ → Type 0) (j : ℕ) (x : List ℕ) → Each P x → Each P (exchange j x)
each-exchange P zero [] h = tt
each-exchange P (suc j) [] h = tt
each-exchange P zero (a ∷ []) h = h
each-exchange P zero (a ∷ b ∷ x) h = (h.1.0, (h.0, h.1.1))
each-exchange P (suc j) (a ∷ x) h = (h.0, each-exchange P j x h.1)

plus-turned : (x y : List ℕ) → type_plus x y ≡ type_plus y x
plus-turned [] [] = refl
plus-turned [] (b ∷ y) = refl
plus-turned (a ∷ x) [] = refl
plus-turned (a ∷ x) (b ∷ y) = let e : a + b ≡ b + a = omega arith in rw (e, plus-turned x y) refl

plus-exchanged : (x y z : List ℕ) → type_plus x (type_plus y z) ≡ type_plus y (type_plus x z)
plus-exchanged [] y z = refl
plus-exchanged (a ∷ x) [] z = refl
plus-exchanged (a ∷ x) (b ∷ y) [] = plus-turned (a ∷ x) (b ∷ y)
plus-exchanged (a ∷ x) (b ∷ y) (c ∷ z) = let e : a + (b + c) ≡ b + (a + c) = omega arith in rw (e, plus-exchanged x y z) refl

sum-exchange : (parts : List PartView) (n j : ℕ) (x : List ℕ) → type_sum parts n (exchange j x) ≡ type_sum parts n x
sum-exchange parts n zero [] = refl
sum-exchange parts n (suc j) [] = refl
sum-exchange parts n zero (a ∷ []) = refl
sum-exchange parts n zero (a ∷ b ∷ x) = plus-exchanged (type_at parts b) (type_at parts a) (type_sum parts n x)
sum-exchange parts n (suc j) (a ∷ x) = ap (type_plus (type_at parts a)) (sum-exchange parts n j x)

exchange-tuple : (parts : List PartView) (n : ℕ) (t : List ℕ) (j : ℕ) (x : List ℕ) → IsTupleOf parts n t x → IsTupleOf parts n t (exchange j x)
exchange-tuple parts n t j x h = record {
  long = length-exchange j x ∙ h.long;
  numbers = all_from_each (λ b. b < length (elems parts)) (exchange j x)
      (each-exchange (λ b. b < length (elems parts)) j x (each_from_all (λ b. b < length (elems parts)) x h.numbers));
  types = sum-exchange parts (length t) j x ∙ h.types;
}

-- ---- the row

exchanged-suc : (j k : ℕ) → exchanged (suc j) (suc k) ≡ suc (exchanged j k)
exchanged-suc j k =
    let a : (suc k == suc j) ≡ (k == j) = grind (arith, nat_tests) in
    let b : (suc k == suc (suc j)) ≡ (k == suc j) = grind (arith, nat_tests) in
    rw (a, b) (elim (cases_Bool (k == j)) [
      | inl e ↦ rw e refl
      | inr e ↦ rw e (elim (cases_Bool (k == suc j)) [ inl q ↦ rw q refl | inr q ↦ rw q refl ])
    ])

exchanged-later : (k : ℕ) → exchanged 0 (suc (suc k)) ≡ suc (suc k)
exchanged-later k =
    let a : (suc (suc k) == 0) ≡ false = grind (arith, nat_tests) in
    let b : (suc (suc k) == 1) ≡ false = grind (arith, nat_tests) in
    rw (a, b) refl

exchanged-first : (j : ℕ) → exchanged (suc j) 0 ≡ 0
exchanged-first j =
    let a : (0 == suc j) ≡ false = grind (arith, nat_tests) in
    let b : (0 == suc (suc j)) ≡ false = grind (arith, nat_tests) in
    rw (a, b) refl

get-exchange : (j k : ℕ) (x : List ℕ) → suc j < length x → get_or (exchange j x) k 0 ≡ get_or x (exchanged j k) 0
get-exchange j k [] l = absurd (omega arith)
get-exchange zero k (a ∷ []) l = absurd (omega arith)
get-exchange zero zero (a ∷ b ∷ x) l = refl
get-exchange zero (suc zero) (a ∷ b ∷ x) l = refl
get-exchange zero (suc (suc k)) (a ∷ b ∷ x) l = sym (ap (λ i. get_or (a ∷ b ∷ x) i 0) (exchanged-later k))
get-exchange (suc j) zero (a ∷ x) l = sym (ap (λ i. get_or (a ∷ x) i 0) (exchanged-first j))
get-exchange (suc j) (suc k) (a ∷ x) l = get-exchange j k x (omega arith) ∙ sym (ap (λ i. get_or (a ∷ x) i 0) (exchanged-suc j k))

module _ {I K : Type 0} (pair : I → I → K) (prod : I → I → Comb I) (v : ℕ → Comb I) (j : ℕ) where
  evaluate-exchanged : (m : Tree) → evaluate prod (λ k. v (exchanged j k)) m ≡ evaluate prod v (with_exchanged j m)
  evaluate-exchanged (leaf k) = refl
  evaluate-exchanged (node l r) = rw (evaluate-exchanged l, evaluate-exchanged r) refl

  image-exchanged : (m : Tree) → image pair prod (λ k. v (exchanged j k)) m ≡ image pair prod v (with_exchanged j m)
  image-exchanged (leaf k) = refl
  image-exchanged (node l r) = rw (evaluate-exchanged l, evaluate-exchanged r) refl

  row-exchanged : (f : Comb Tree) → spread (image pair prod (λ k. v (exchanged j k))) f ≡ spread (image pair prod v) (reindex (with_exchanged j) f)
  row-exchanged [] = refl
  row-exchanged (t ∷ f) = rw (image-exchanged t.1, row-exchanged f) refl

-- THE ROW at a tuple with two numbers exchanged
exchange-row : (p : ℕ) (parts : List PartView) (f : Form) (j : ℕ) (x : List ℕ) → suc j < length x → AreExchangeable p f j →
    Alike p (instance_row parts f (exchange j x)) (instance_row parts f x)
exchange-row p parts f j x l h =
    let pair : ℕ → ℕ → ℕ × ℕ = λ b c. (b, c) in
    let v : ℕ → Comb ℕ = λ k. unit (get_or x k 0) in
    let e : instance_row parts f (exchange j x) ≡ spread (image pair (table_product parts) v) (reindex (with_exchanged j) f.terms) =
    row-equal pair (table_product parts) (λ k. unit (get_or (exchange j x) k 0)) (λ k. v (exchanged j k)) f.terms (λ k. ap unit (get-exchange j k x l))
    ∙ row-exchanged pair (table_product parts) v j f.terms in
    subst (λ z. Alike p z (instance_row parts f x)) (sym e)
    (spread-alike (image pair (table_product parts) v) (alike-same same_tree tree_tells h))

-- ---- sorting by exchanges

-- the sum of the sums of the first numbers
abbrev pub weight : ℕ → List ℕ → ℕ
weight acc [] = 0
weight acc (a ∷ x) = (acc + a) + weight (acc + a) x

-- two neighbours in a run that fall
record Falls (runs : List ℕ) (k : ℕ) (x : List ℕ) : Type 0 where
  place : ℕ
  within : suc place < length x
  goes : goes_on runs (suc (k + place)) ≡ true
  less : (acc : ℕ) → weight acc (exchange place x) < weight acc x

falls : (runs : List ℕ) (k : ℕ) (x : List ℕ) → rises_within runs k x ≡ false → Falls runs k x
falls runs k [] h = absurd (false≢true (sym h))
falls runs k (a ∷ []) h = absurd (false≢true (sym h))
falls runs k (a ∷ b ∷ x) h = elim (cases_Bool (not (goes_on runs (suc k)) || nat_le a b)) [
  | inr e ↦ (
      let g = both (goes_on runs (suc k)) (nat_le a b) e in
      let q : k + 0 ≡ k = omega arith in
      let l : b < a = (let n : nat_le a b ≡ false = g.1 in grind (arith, nat_tests)) in
      record {
        place = 0;
        within = omega arith;
        goes = ap (λ i. goes_on runs (suc i)) q ∙ g.0;
        less = λ acc. (let s : acc + b + a ≡ acc + a + b = omega arith in let w : weight (acc + b + a) x ≡ weight (acc + a + b) x = ap (λ i. weight i x) s in omega arith);
      })
  | inl e ↦ (
      let w : Falls runs (suc k) (b ∷ x) = falls runs (suc k) (b ∷ x) (rw e at h) in
      let q : suc k + w.place ≡ k + suc w.place = omega arith in
      let within : suc w.place < length (b ∷ x) = w.within in
      record {
        place = suc w.place;
        within = omega arith;
        goes = ap (λ i. goes_on runs (suc i)) (sym q) ∙ w.goes;
        less = λ acc. (let i : weight (acc + a) (exchange w.place (b ∷ x)) < weight (acc + a) (b ∷ x) = w.less (acc + a) in omega arith);
      })
]
  where
    both : (g c : Bool) → (not g || c) ≡ false → (g ≡ true) × (c ≡ false)
    both true false h = (refl, refl)
    both true true h = absurd (false≢true (sym h))
    both false c h = absurd (false≢true (sym h))

-- a tuple that never falls, with the same row
pub record LeastOf (p : ℕ) (parts : List PartView) (f : Form) (t runs x : List ℕ) : Type 0 where
  pub least : List ℕ
  pub is : IsLeastTuple parts f.degree t runs least
  pub same : Alike p (instance_row parts f least) (instance_row parts f x)

sorted : (p : ℕ) (parts : List PartView) (f : Form) (t runs : List ℕ) → MayBeExchanged p f runs → (n : ℕ) (x : List ℕ) → weight 0 x < n → IsTupleOf parts f.degree t x →
    LeastOf p parts f t runs x
sorted p parts f t runs r zero x l h = absurd (omega arith)
sorted p parts f t runs r (suc n) x l h = elim (cases_Bool (rises_within runs 0 x)) [
  | inl e ↦ record { least = x; is = record { tuple = h; rises = e }; same = itself (instance_row parts f x) }
  | inr e ↦ (
      let w : Falls runs 0 x = falls runs 0 x e in
      let z : 0 + w.place ≡ w.place = omega arith in
      let u : suc w.place < f.degree = subst (λ m. suc w.place < m) h.long w.within in
      let g : goes_on runs (suc w.place) ≡ true = ap (λ i. goes_on runs (suc i)) (sym z) ∙ w.goes in
      let d : weight 0 (exchange w.place x) < weight 0 x = w.less 0 in
      let y : LeastOf p parts f t runs (exchange w.place x) =
      sorted p parts f t runs r n (exchange w.place x) (omega arith) (exchange-tuple parts f.degree t w.place x h) in
      record {
        least = y.least;
        is = y.is;
        same = joined y.same (exchange-row p parts f w.place x w.within (r w.place u g));
      })
]

pub least-of : (p : ℕ) (parts : List PartView) (f : Form) (t runs x : List ℕ) → MayBeExchanged p f runs → IsTupleOf parts f.degree t x → LeastOf p parts f t runs x
least-of p parts f t runs x r h = sorted p parts f t runs r (suc (weight 0 x)) x (omega arith) h

pub may-exchange : (p : ℕ) (f : Form) (runs : List ℕ) → AreRuns p f runs → MayBeExchanged p f runs
may-exchange p f runs r j l g = (r.joined j l).0 g

-- THE LAW
pub least-rows-span-all : LeastRowsSpanAll
least-rows-span-all p parts f t runs columns r = record {
  into = λ k. span_one p (all_rows parts f t columns) (k.0, k.1.tuple);
  back = λ k. (let w : LeastOf p parts f t runs k.0 = least-of p parts f t runs k.0 (may-exchange p f runs r) k.1 in
      span_same p (least_rows parts f t runs columns) (row_vector parts f columns w.least) (row_vector parts f columns k.0)
      (λ j. (same-alike same_pair pairs_tell w.same (get_or columns j (0, 0))).same) (span_one p (least_rows parts f t runs columns) (w.least, w.is)));
}
