-- Steps of the loops that make the part of a block.
use Rattle.std.proofs.Common.{◌≡◌, ℕ, zero, suc, ◌+◌, ◌-◌, ◌<◌, ◌≤◌, Bool, true, false, List, [], ◌∷◌, ◌++◌, length, get_or, reverse, drop, take, sym, refl, ap, ◌∙◌, subst, arith, append_assoc}
use Rattle.std.specs.Prelude.{Some, slice_get}
use Rattle.std.proofs.lemmas.List.{append-nil, length-reverse, get_or-reverse, take_all}
use Rattle.alb_rows.specs.Row.{Cells}
use Rattle.alb_table.specs.declared.part.Elem.{Elem}
use Rattle.alb_table.specs.declared.part.Elem.TheVariants.{Prod}
use Rattle.alb_build.specs.Part.{elements_of, IsNegatedCell, AreNegated}
use Rattle.alb_table.proofs.MonoLemmas.{get_of_some}

-- ---- the negated cells

pub negated-more : (p : ℕ) (numbers : List ℕ) (cs es : Cells) (c e : ℕ × ℕ) → AreNegated p numbers cs es → IsNegatedCell p numbers c e → AreNegated p numbers (cs ++ c ∷ []) (es ++ e ∷ [])
negated-more p numbers [] [] c e a n = (n, tt)
negated-more p numbers [] (x ∷ es) c e a n = absurd a
negated-more p numbers (x ∷ cs) [] c e a n = absurd a
negated-more p numbers (x ∷ cs) (y ∷ es) c e a n = (a.0, negated-more p numbers cs es c e a.1 n)

-- ---- the elements

pub elements-true : (qs : List (ℕ × ℕ)) (bs : List Bool) (k : ℕ) (q : ℕ × ℕ) → k < length bs → length qs ≡ length bs → get_or qs k q ≡ q → get_or bs k false ≡ true →
    elements_of (drop k qs) (drop k bs) ≡ Prod q.0 q.1 ∷ elements_of (drop (suc k) qs) (drop (suc k) bs)
elements-true [] [] k q l e g h = absurd (omega arith)
elements-true [] (b ∷ bs) k q l e g h = absurd (omega arith)
elements-true (x ∷ qs) [] k q l e g h = absurd (omega arith)
elements-true (x ∷ qs) (true ∷ bs) zero q l e g h = ap (λ y. Prod y.0 y.1 ∷ elements_of qs bs) g
elements-true (x ∷ qs) (false ∷ bs) zero q l e g h = absurd (cc)
elements-true (x ∷ qs) (b ∷ bs) (suc k) q l e g h = elements-true qs bs k q (omega arith) (omega arith) g h

pub elements-false : (qs : List (ℕ × ℕ)) (bs : List Bool) (k : ℕ) → k < length bs → length qs ≡ length bs → get_or bs k false ≡ false →
    elements_of (drop k qs) (drop k bs) ≡ elements_of (drop (suc k) qs) (drop (suc k) bs)
elements-false [] [] k l e h = absurd (omega arith)
elements-false [] (b ∷ bs) k l e h = absurd (omega arith)
elements-false (x ∷ qs) [] k l e h = absurd (omega arith)
elements-false (x ∷ qs) (true ∷ bs) zero l e h = absurd (cc)
elements-false (x ∷ qs) (false ∷ bs) zero l e h = refl
elements-false (x ∷ qs) (b ∷ bs) (suc k) l e h = elements-false qs bs k (omega arith) (omega arith) h

-- a free product becomes a basis element
pub basis-true : (out new : List Elem) (columns : List (ℕ × ℕ)) (bs : List Bool) (k n : ℕ) (q : ℕ × ℕ) → n ≡ length columns → k < n → length bs ≡ length columns →
    slice_get columns (n - 1 - k) ≡ Some q → get_or bs k false ≡ true → new ≡ out ++ Prod q.0 q.1 ∷ [] →
    out ++ elements_of (drop k (reverse columns)) (drop k bs) ≡ elements_of (reverse columns) bs →
    new ++ elements_of (drop (k + 1) (reverse columns)) (drop (k + 1) bs) ≡ elements_of (reverse columns) bs
basis-true out new columns bs k n q e l f g t w i =
    let m : length (reverse columns) ≡ length columns = length-reverse columns in
    let z : n - 1 - k ≡ length columns - 1 - k = omega arith in
    let y : get_or (reverse columns) k q ≡ q = get_or-reverse columns k q (omega arith) ∙ ap (λ j. get_or columns j q) (sym z) ∙ get_of_some columns (n - 1 - k) q q g in
    let a : suc k ≡ k + 1 = omega arith in
    subst (λ j. new ++ elements_of (drop j (reverse columns)) (drop j bs) ≡ elements_of (reverse columns) bs) a
    (ap (λ xs. xs ++ elements_of (drop (suc k) (reverse columns)) (drop (suc k) bs)) w
    ∙ append_assoc out (Prod q.0 q.1 ∷ []) (elements_of (drop (suc k) (reverse columns)) (drop (suc k) bs))
    ∙ ap (λ xs. out ++ xs) (sym (elements-true (reverse columns) bs k q (omega arith) (omega arith) y t))
    ∙ i)

-- a pivot does not
pub basis-false : (out : List Elem) (columns : List (ℕ × ℕ)) (bs : List Bool) (k n : ℕ) → n ≡ length columns → k < n → length bs ≡ length columns → get_or bs k false ≡ false →
    out ++ elements_of (drop k (reverse columns)) (drop k bs) ≡ elements_of (reverse columns) bs →
    out ++ elements_of (drop (k + 1) (reverse columns)) (drop (k + 1) bs) ≡ elements_of (reverse columns) bs
basis-false out columns bs k n e l f t i =
    let m : length (reverse columns) ≡ length columns = length-reverse columns in
    let a : suc k ≡ k + 1 = omega arith in
    subst (λ j. out ++ elements_of (drop j (reverse columns)) (drop j bs) ≡ elements_of (reverse columns) bs) a
    (ap (λ xs. out ++ xs) (sym (elements-false (reverse columns) bs k (omega arith) (omega arith) t)) ∙ i)

-- all products are passed
pub basis-all : (out : List Elem) (columns : List (ℕ × ℕ)) (bs : List Bool) (k : ℕ) → length columns ≤ k →
    out ++ elements_of (drop k (reverse columns)) (drop k bs) ≡ elements_of (reverse columns) bs → out ≡ elements_of (reverse columns) bs
basis-all out columns bs k l i =
    let m : length (reverse columns) ≡ length columns = length-reverse columns in
    let d : drop k (reverse columns) ≡ [] = none (reverse columns) k (omega arith) in
    sym (append-nil out) ∙ ap (λ xs. out ++ elements_of xs (drop k bs)) (sym d) ∙ i
  where
    none : (xs : List (ℕ × ℕ)) (k : ℕ) → length xs ≤ k → drop k xs ≡ []
    none [] zero l = refl
    none [] (suc k) l = refl
    none (x ∷ xs) zero l = absurd (omega arith)
    none (x ∷ xs) (suc k) l = none xs k (omega arith)

-- one more cell, from the end
pub cell-more : (p : ℕ) (numbers : List ℕ) (row out new : Cells) (k : ℕ) (c e : ℕ × ℕ) → 1 ≤ k → k < length row → c ≡ get_or row (length row - k) (0, 0) →
    new ≡ out ++ e ∷ [] → IsNegatedCell p numbers c e → AreNegated p numbers (take (k - 1) (reverse (drop 1 row))) out → AreNegated p numbers (take (k + 1 - 1) (reverse (drop 1 row))) new
cell-more p numbers [] out new k c e a l g w n i = absurd (omega arith)
cell-more p numbers (x ∷ xs) out new k c e a l g w n i =
    let m : length (reverse xs) ≡ length xs = length-reverse xs in
    let s : length (x ∷ xs) - k ≡ suc (length xs - k) = omega arith in
    let z : length xs - 1 - (k - 1) ≡ length xs - k = omega arith in
    let y : get_or (reverse xs) (k - 1) (0, 0) ≡ c = get_or-reverse xs (k - 1) (0, 0) (omega arith) ∙ ap (λ j. get_or xs j (0, 0)) z ∙ sym (g ∙ ap (λ j. get_or (x ∷ xs) j (0, 0)) s) in
    let t : take (k + 1 - 1) (reverse xs) ≡ take (k - 1) (reverse xs) ++ c ∷ [] = take-one (reverse xs) (k - 1) (k + 1 - 1) c (omega arith) (omega arith) y in
    subst (AreNegated p numbers (take (k + 1 - 1) (reverse xs))) (sym w)
    (subst (λ cs. AreNegated p numbers cs (out ++ e ∷ [])) (sym t) (negated-more p numbers (take (k - 1) (reverse xs)) out c e i n))
  where
    take-one : (ys : Cells) (i j : ℕ) (d : ℕ × ℕ) → j ≡ suc i → i < length ys → get_or ys i (0, 0) ≡ d → take j ys ≡ take i ys ++ d ∷ []
    take-one [] i j d e l g = absurd (omega arith)
    take-one (y ∷ ys) zero j d e l g = rw e (ap (λ z. z ∷ []) g)
    take-one (y ∷ ys) (suc i) j d e l g = rw e (ap (λ zs. y ∷ zs) (take-one ys i (suc i) d refl (omega arith) g))

-- all cells are passed
pub cells-all : (p : ℕ) (numbers : List ℕ) (row out : Cells) (k : ℕ) → length row ≤ k → AreNegated p numbers (take (k - 1) (reverse (drop 1 row))) out →
    AreNegated p numbers (reverse (drop 1 row)) out
cells-all p numbers [] out k l i = subst (λ cs. AreNegated p numbers cs out) (take_all (k - 1) [] (omega arith)) i
cells-all p numbers (x ∷ xs) out k l i =
    let m : length (reverse xs) ≡ length xs = length-reverse xs in
    subst (λ cs. AreNegated p numbers cs out) (take_all (k - 1) (reverse xs) (omega arith)) i
