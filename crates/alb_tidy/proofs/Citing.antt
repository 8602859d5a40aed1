-- What lines cite, before and after they have new numbers.
use Rattle.std.proofs.Common.{◌≡◌, ℕ, zero, suc, ◌+◌, ◌-◌, ◌<◌, ◌≤◌, Bool, true, false, ◌||◌, List, [], ◌∷◌, ◌++◌, length, map, get_or, refl, sym, ap, ◌∙◌, subst, arith, inl, inr, None, eqb-true, eq-eqb, length-append}
use Rattle.std.specs.Bool.{◌==◌}
use Rattle.std.specs.List.{list_any}
use Rattle.std.proofs.lemmas.Bool.{cases_Bool, false≢true, or_left, or_right}
use Rattle.std.proofs.lemmas.Bool.Decides.{nat_tests}
use Rattle.std.proofs.Math.ListN.{get_or-append}
use Rattle.alb_mono.specs.Listing.{Each}
use Rattle.alb_poly.specs.Poly.{Poly}
use Rattle.alb_poly.specs.Instance.{Form}
use Rattle.alb_poly.proofs.Multilinear.{each-from}
use Rattle.alb_deriv.specs.Derivation.{Line, Instance, Times, Sum, line_value, fault, is_no_place, AreSound}
use Rattle.alb_deriv.proofs.Derived.{none_if}
use Rattle.alb_deriv.proofs.Fits.{none-any}
use Rattle.alb_deriv.proofs.Limited.{place_positive}
use Rattle.alb_tidy.specs.Tidy.{line_at, cites}
use Rattle.alb_tidy.specs.Cites.{IsNumber, CitesWithin, AreOrdered, new_number, renumbered_items, renumbered}

-- ---- the items of a sum

cites-item : List (ℕ × ℕ) → ℕ → Bool
cites-item cs k = list_any (λ c. c.1 == k) cs

items-within : (n : ℕ) (cs : List (ℕ × ℕ)) (k : ℕ) → Each (λ c. IsNumber n c.1) cs → cites-item cs k ≡ true → IsNumber n k
unfolding cites-item
items-within n [] k h e = absurd (false≢true e)
items-within n (c ∷ cs) k h e = elim (cases_Bool (c.1 == k)) [
  | inl q ↦ subst (IsNumber n) (eqb-true c.1 k q) h.0
  | inr q ↦ items-within n cs k h.1 (rw q at e)
]

within-items : (P : ℕ → Type 0) (cs : List (ℕ × ℕ)) → ((k : ℕ) → cites-item cs k ≡ true → P k) → Each (λ c. P c.1) cs
unfolding cites-item
within-items P [] h = tt
within-items P (c ∷ cs) h = (
  h c.1 (or_left (c.1 == c.1) _ (eq-eqb c.1 c.1 refl)),
  within-items P cs (λ k e. h k (or_right (c.1 == k) _ e)),
)

items-renumbered : (places : List ℕ) (cs : List (ℕ × ℕ)) (k : ℕ) → cites-item cs k ≡ true → cites-item (renumbered_items places cs) (new_number places k) ≡ true
unfolding cites-item
items-renumbered places [] k e = absurd (false≢true e)
items-renumbered places (c ∷ cs) k e = elim (cases_Bool (c.1 == k)) [
  | inl q ↦ or_left (new_number places c.1 == new_number places k) _ (eq-eqb _ _ (ap (new_number places) (eqb-true c.1 k q)))
  | inr q ↦ or_right (new_number places c.1 == new_number places k) _ (items-renumbered places cs k (rw q at e))
]

items-same : (xs ys : List ℕ) (cs : List (ℕ × ℕ)) → ((k : ℕ) → cites-item cs k ≡ true → new_number xs k ≡ new_number ys k) → renumbered_items xs cs ≡ renumbered_items ys cs
unfolding cites-item
items-same xs ys [] h = refl
items-same xs ys (c ∷ cs) h = λ i.
    (c.0, h c.1 (or_left (c.1 == c.1) _ (eq-eqb c.1 c.1 refl)) i) ∷ items-same xs ys cs (λ k e. h k (or_right (c.1 == k) _ e)) i

-- ---- lines

-- a cited number is one of those within
pub cites-within : (n : ℕ) (l : Line) (k : ℕ) → CitesWithin n l → cites l k ≡ true → IsNumber n k
unfolding cites-item
cites-within n (Instance i ms) k h e = absurd (false≢true e)
cites-within n (Times j s) k h e = subst (IsNumber n) (eqb-true j k e) h
cites-within n (Sum cs) k h e = items-within n cs k h e

-- a line with new numbers cites those
pub renumbered-within : (n : ℕ) (places : List ℕ) (l : Line) → ((k : ℕ) → cites l k ≡ true → IsNumber n (new_number places k)) → CitesWithin n (renumbered places l)
unfolding cites-item
renumbered-within n places (Instance i ms) h = tt
renumbered-within n places (Times j s) h = h j (eq-eqb j j refl)
renumbered-within n places (Sum cs) h = each-new cs (within-items (λ k. IsNumber n (new_number places k)) cs h)
  where
    each-new : (cs : List (ℕ × ℕ)) → Each (λ c. IsNumber n (new_number places c.1)) cs → Each (λ c. IsNumber n c.1) (renumbered_items places cs)
    each-new [] a = tt
    each-new (c ∷ cs) a = (a.0, each-new cs a.1)

pub renumbered-cites : (places : List ℕ) (l : Line) (k : ℕ) → cites l k ≡ true → cites (renumbered places l) (new_number places k) ≡ true
unfolding cites-item
renumbered-cites places (Instance i ms) k e = absurd (false≢true e)
renumbered-cites places (Times j s) k e = eq-eqb _ _ (ap (new_number places) (eqb-true j k e))
renumbered-cites places (Sum cs) k e = items-renumbered places cs k e

-- new numbers of what is cited decide
pub renumbered-same : (xs ys : List ℕ) (l : Line) → ((k : ℕ) → cites l k ≡ true → new_number xs k ≡ new_number ys k) → renumbered xs l ≡ renumbered ys l
unfolding cites-item
renumbered-same xs ys (Instance i ms) h = refl
renumbered-same xs ys (Times j s) h = λ i. Times (h j (eq-eqb j j refl) i) s
renumbered-same xs ys (Sum cs) h = ap Sum (items-same xs ys cs h)

-- one more number leaves the earlier ones
pub number-kept : (places : List ℕ) (n k : ℕ) → IsNumber (length places) k → new_number (places ++ n ∷ []) k ≡ new_number places k
number-kept places n k h = get_or-append places (n ∷ []) 0 (k - 1) (omega (arith, h.above, h.among))

pub renumbered-kept : (places : List ℕ) (n m : ℕ) (l : Line) → CitesWithin m l → m ≤ length places → renumbered (places ++ n ∷ []) l ≡ renumbered places l
renumbered-kept places n m l h le =
    renumbered-same (places ++ n ∷ []) places l (λ k e.
    let w = cites-within m l k h e in number-kept places n k (record { above = w.above; among = omega (arith, w.among) }))

-- more numbers are within
pub within-more : (m n : ℕ) (l : Line) → m ≤ n → CitesWithin m l → CitesWithin n l
within-more m n (Instance i ms) le h = tt
within-more m n (Times j s) le h = record { above = h.above; among = omega (arith, h.among) }
within-more m n (Sum cs) le h = each-from _ _ cs (λ c w. record { above = w.above; among = omega (arith, w.among) }) h

-- ---- lines without a fault cite earlier ones

number-of : (n k : ℕ) → is_no_place n k ≡ false → IsNumber n k
number-of n k e = let q = place_positive n k e in record { above = q.0; among = q.1 }

pub fault-within : (p : ℕ) (target : List ℕ) (fs : List Form) (gs : List Poly) (l : Line) → fault p target fs gs l ≡ None → CitesWithin (length gs) l
fault-within p target fs gs (Instance i ms) e = tt
fault-within p target fs gs (Times k s) e = number-of (length gs) k (none_if (is_no_place (length gs) k) _ _ e).0
fault-within p target fs gs (Sum cs) e =
    each-from _ _ cs (λ c q. number-of (length gs) c.1 q) (none-any (λ c. is_no_place (length gs) c.1) cs (none_if (list_any (λ c. is_no_place (length gs) c.1) cs) _ _ e).0)

sound-within : (p : ℕ) (target : List ℕ) (fs : List Form) (gs : List Poly) (ls : List Line) → AreSound p target fs gs ls → (k : ℕ) → k < length ls → CitesWithin (length gs + k) (line_at ls k)
sound-within p target fs gs [] h k l = absurd (omega arith)
sound-within p target fs gs (x ∷ ls) h zero l = let e : length gs ≡ length gs + 0 = omega arith in subst (λ n. CitesWithin n x) e (fault-within p target fs gs x h.0)
sound-within p target fs gs (x ∷ ls) h (suc k) l =
    let v : Poly = line_value fs gs x in
    let e : length (gs ++ v ∷ []) + k ≡ length gs + suc k = omega (arith, length-append gs (v ∷ [])) in
    subst (λ n. CitesWithin n (line_at ls k)) e (sound-within p target fs (gs ++ v ∷ []) ls h.1 k (omega arith))

pub sound-ordered : (p : ℕ) (target : List ℕ) (fs : List Form) (ls : List Line) → AreSound p target fs [] ls → AreOrdered ls
sound-ordered p target fs ls h k l =
    let z : length {A = Poly} [] + k ≡ k = omega arith in
    subst (λ n. CitesWithin n (line_at ls k)) z (sound-within p target fs [] ls h k l)
