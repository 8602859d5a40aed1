-- The rules of identities, term by term.
use Rattle.std.proofs.Common.{◌≡◌, ◌≢◌, ℕ, zero, suc, ◌+◌, ◌<◌, ◌≤◌, true, List, [], ◌∷◌, ◌++◌, drop, length, get_or, sum, Some, sym, refl, ap, ◌∙◌, arith, drop-cons, add-one, append_assoc, inl, inr}
use Rattle.std.proofs.lemmas.Bool.{cases_Bool}
use Rattle.std.proofs.lemmas.List.{length-append}
use Rattle.alb_mono.specs.Tree.{Tree, type_of}
use Rattle.alb_poly.specs.Poly.{Poly, list_eq}
use Rattle.alb_linear.specs.Identity.{leading_type, other_term, type_fault, identity_fault, Zero, variables}
use Rattle.alb_poly.proofs.Multilinear.{sum_cons}
pub use Rattle.alb_poly.proofs.Types.{list_eq-itself, list_eq-sound}

other_same : (e : List ℕ) (t : ℕ × Tree) (f : Poly) → type_of 26 t.1 ≡ e → other_term e (t ∷ f) ≡ other_term e f
other_same e t f h = let q : list_eq (type_of 26 t.1) e ≡ true = ap (λ z. list_eq z e) h ∙ list_eq-itself e in rw q

other_here : (e : List ℕ) (t : ℕ × Tree) (f : Poly) → type_of 26 t.1 ≢ e → other_term e (t ∷ f) ≡ Some t.1
other_here e t f h = elim (cases_Bool (list_eq (type_of 26 t.1) e)) [
  | inl q ↦ absurd (h (list_eq-sound _ _ q))
  | inr q ↦ rw q
]

pub other-leading : (t : ℕ × Tree) (f : Poly) → other_term (type_of 26 t.1) (t ∷ f) ≡ other_term (type_of 26 t.1) f
other-leading t f = other_same (type_of 26 t.1) t f refl

-- one more term of the type
pub other_more : (e : List ℕ) (f : Poly) (k : ℕ) (t : ℕ × Tree) → k < length f → t ≡ get_or f k t → type_of 26 t.1 ≡ e →
    other_term e f ≡ other_term e (drop k f) → other_term e f ≡ other_term e (drop (k + 1) f)
other_more e f k t h q s i = i ∙ ap (other_term e) (drop-cons f k t h ∙ ap (λ u. u ∷ drop (suc k) f) (sym q)) ∙ other_same e t (drop (suc k) f) s ∙ ap (λ n. other_term e (drop n f)) (sym (add-one k))

-- the first term of another type
pub other_found : (e : List ℕ) (f : Poly) (k : ℕ) (t : ℕ × Tree) → k < length f → t ≡ get_or f k t → type_of 26 t.1 ≢ e →
    other_term e f ≡ other_term e (drop k f) → other_term e f ≡ Some t.1
other_found e f k t h q s i = i ∙ ap (other_term e) (drop-cons f k t h ∙ ap (λ u. u ∷ drop (suc k) f) (sym q)) ∙ other_here e t (drop (suc k) f) s

-- the fault of a polynomial that is not zero
pub fault-nonzero : (f : Poly) → 0 < length f → identity_fault f ≡ type_fault (leading_type f) (other_term (leading_type f) f)
fault-nonzero [] h = absurd (omega arith)
fault-nonzero (t ∷ f) h = ap (type_fault (type_of 26 t.1)) (sym (other_same (type_of 26 t.1) t f refl))

pub fault-zero : (f : Poly) → length f ≡ 0 → identity_fault f ≡ Some Zero
fault-zero [] h = refl
fault-zero (t ∷ f) h = absurd (omega arith)

-- as many variables as the degree at most
pub length-variables : (k : ℕ) (e : List ℕ) → length (variables k e) ≤ sum e
length-variables k [] = omega arith
length-variables k (zero ∷ e) = omega (arith, length-variables (suc k) e, sum_cons zero e)
length-variables k (suc n ∷ e) = omega (arith, length-variables (suc k) e, sum_cons (suc n) e)

variables_none : (k : ℕ) (e : List ℕ) (n : ℕ) → n ≡ 0 → variables k (n ∷ e) ≡ variables (suc k) e
variables_none k e n h = rw h

variables_one : (k : ℕ) (e : List ℕ) (n : ℕ) → 0 < n → variables k (n ∷ e) ≡ (k, n) ∷ variables (suc k) e
variables_one k e zero h = absurd (omega arith)
variables_one k e (suc n) h = refl

split_at : (e : List ℕ) (k n : ℕ) → k < length e → n ≡ get_or e k n → variables k (drop k e) ≡ variables k (n ∷ drop (suc k) e)
split_at e k n h q = ap (variables k) (drop-cons e k n h ∙ ap (λ u. u ∷ drop (suc k) e) (sym q))

-- a letter that does not occur
pub variables_skip : (e : List ℕ) (k n : ℕ) (found : List (ℕ × ℕ)) → k < length e → n ≡ get_or e k n → n ≡ 0 →
    found ++ variables k (drop k e) ≡ variables 0 e → found ++ variables (k + 1) (drop (k + 1) e) ≡ variables 0 e
variables_skip e k n found h q z i =
    rw add-one (ap (λ v. found ++ v) (sym (split_at e k n h q ∙ variables_none k (drop (suc k) e) n z)) ∙ i)

-- a letter that occurs
pub variables_more : (e : List ℕ) (k n : ℕ) (found next : List (ℕ × ℕ)) → k < length e → n ≡ get_or e k n → 0 < n →
    found ++ variables k (drop k e) ≡ variables 0 e → next ≡ found ++ (k, n) ∷ [] → next ++ variables (k + 1) (drop (k + 1) e) ≡ variables 0 e
variables_more e k n found next h q z i g =
    rw (add-one, g) (append_assoc found ((k, n) ∷ []) (variables (suc k) (drop (suc k) e))
    ∙ ap (λ v. found ++ v) (sym (split_at e k n h q ∙ variables_one k (drop (suc k) e) n z)) ∙ i)

-- there is room for one more letter
pub variables_room : (e : List ℕ) (k n : ℕ) (found : List (ℕ × ℕ)) → k < length e → n ≡ get_or e k n → 0 < n → sum e ≤ 8 →
    found ++ variables k (drop k e) ≡ variables 0 e → length found < 8
variables_room e k n found h q z s i =
    omega (arith, length-append found (variables k (drop k e)), ap length i, length-variables 0 e, ap length (split_at e k n h q ∙ variables_one k (drop (suc k) e) n z))
