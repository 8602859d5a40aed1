-- The tuples that come after the first one.
use Rattle.std.proofs.Common.{◌≡◌, ℕ, ◌+◌, ◌^◌, ◌<◌, ◌≤◌, length, true, false, List, [], ◌∷◌, ◌++◌, sym, refl, ap, ◌∙◌, arith, subst, inl, inr}
use Rattle.std.proofs.lemmas.Bool.{cases_Bool}
use Rattle.std.proofs.lemmas.Bool.Decides.{nat_tests}
use Rattle.std.specs.Prelude.{Bool}
use Rattle.std.specs.Ordering.{nat_cmp}
use Rattle.std.specs.declared.cmp.Ordering.TheVariants.{Less, Equal}
use Rattle.alb_mono.specs.Listing.{Each, IsIn, Ascends}
use Rattle.alb_mono.proofs.ListingLemmas.{each-member, in-right}
use Rattle.alb_poly.specs.Poly.{list_eq}
use Rattle.alb_linear.proofs.IdentityLemmas.{list_eq-itself, list_eq-sound}
use Rattle.alb_subst.specs.Tuples.{cmp_tuples}
use Rattle.alb_subst.specs.declared.range.Range.{Range}
use Rattle.alb_subst.specs.Ranges.{after, Next, Last, Heads, tuples, to_come, IsGoing, RisesFrom, AddsUp}
use Rattle.alb_subst.proofs.TuplesListing.{IsTuple, tuples-listing}

tuple-equal : (x : List ℕ) → cmp_tuples x x ≡ Equal
tuple-equal [] = refl
tuple-equal (a ∷ x) = let e : nat_cmp a a ≡ Equal = grind (arith, nat_tests) in rw e (tuple-equal x)

tuples-differ : (x y : List ℕ) → cmp_tuples y x ≡ Less → list_eq y x ≡ false
tuples-differ x y h = elim (cases_Bool (list_eq y x)) [
  | inr e ↦ e
  | inl e ↦ absurd (let q : y ≡ x = list_eq-sound y x e in let k : Equal ≡ Less = sym (tuple-equal x) ∙ ap (λ z. cmp_tuples z x) (sym q) ∙ h in cc)
]

pub after-front : (front : List (List ℕ)) (x : List ℕ) (back : List (List ℕ)) → Ascends cmp_tuples (front ++ x ∷ back) → after x (front ++ x ∷ back) ≡ back
after-front [] x back a = rw (list_eq-itself x) refl
after-front (y ∷ front) x back a =
    let l : cmp_tuples y x ≡ Less = each-member (λ z. cmp_tuples y z ≡ Less) (front ++ x ∷ back) x a.0 (in-right x front (x ∷ back) (inl refl)) in
    rw (tuples-differ x y l) (after-front front x back a.1)

regrouped : (front : List (List ℕ)) (x y : List ℕ) (back : List (List ℕ)) → front ++ x ∷ y ∷ back ≡ (front ++ x ∷ []) ++ y ∷ back
regrouped [] x y back = refl
regrouped (z ∷ front) x y back = ap (λ zs. z ∷ zs) (regrouped front x y back)

-- where y comes next, what follows x is y and what follows y
pub after-next : (ts : List (List ℕ)) (x y : List ℕ) → Ascends cmp_tuples ts → Next ts x y → after x ts ≡ y ∷ after y ts
after-next ts x y a n =
    let e : after x ts ≡ y ∷ n.back = ap (after x) n.is ∙ after-front n.front x (y ∷ n.back) (subst (Ascends cmp_tuples) n.is a) in
    let s : ts ≡ (n.front ++ x ∷ []) ++ y ∷ n.back = n.is ∙ regrouped n.front x y n.back in
    let f : after y ts ≡ n.back = ap (after y) s ∙ after-front (n.front ++ x ∷ []) y n.back (subst (Ascends cmp_tuples) s a) in
    e ∙ ap (λ zs. y ∷ zs) (sym f)

pub after-last : (ts : List (List ℕ)) (x : List ℕ) → Ascends cmp_tuples ts → Last ts x → after x ts ≡ []
after-last ts x a n = ap (after x) n.is ∙ after-front n.front x [] (subst (Ascends cmp_tuples) n.is a)

pub in-next : (ts : List (List ℕ)) (x y : List ℕ) → Next ts x y → IsIn y ts
in-next ts x y n = subst (IsIn y) (sym n.is) (in-right y n.front (x ∷ y ∷ n.back) (inr (inl refl)))

pub head-in : (ts : List (List ℕ)) (x : List ℕ) → Heads ts x → IsIn x ts
head-in ts x h = subst (IsIn x) (sym h.is) (inl refl)

pub head-all : (ts : List (List ℕ)) (x : List ℕ) → Heads ts x → x ∷ after x ts ≡ ts
head-all ts x h = ap (λ zs. x ∷ after x zs) h.is ∙ rw (list_eq-itself x) (sym h.is)

-- ---- the enumeration

-- the first tuple, if there is one, begins the list
pub opened : (rs : List Range) (t current : List ℕ) (n m : ℕ) (more : Bool) → length current ≡ n → m ≡ n → (more ≡ true → Heads (tuples rs m t) current) →
    (more ≡ false → tuples rs m t ≡ []) → to_come rs t current more ≡ tuples rs n t
opened rs t current n m true l e f g =
    let h : Heads (tuples rs n t) current = subst (λ k. Heads (tuples rs k t) current) e (f refl) in
    ap (λ k. current ∷ after current (tuples rs k t)) l ∙ head-all (tuples rs n t) current h
opened rs t current n m false l e f g = sym (ap (λ k. tuples rs k t) (sym e) ∙ g refl)

pub going_first : (rs : List Range) (t current : List ℕ) (n m : ℕ) (more : Bool) → RisesFrom 0 rs → Each (λ (s : Range). length s.at ≡ length t) rs →
    Each (λ (s : Range). s.first + s.count < 2 ^ 32) rs → length current ≡ n → n ≤ 8 → m ≡ n → (more ≡ true → Heads (tuples rs m t) current) → IsGoing rs t current more
going_first rs t current n m more r l f e s h k = record {
  rises = r;
  long = l;
  fit = f;
  few = omega arith;
  tuple = λ b. let g : m ≡ length current = omega arith in subst (λ j. IsIn current (tuples rs j t)) g (head-in (tuples rs m t) current (k b));
}

-- the tuple that comes adds up
pub comes : (rs : List Range) (t current : List ℕ) → IsGoing rs t current true → AddsUp rs current t
comes rs t current g = (each-member (IsTuple rs (length current) t) (tuples rs (length current) t) current (tuples-listing rs (length current) t g.rises).each (g.tuple refl)).adds_up

pub gone_on : (rs : List Range) (t current new : List ℕ) (m : ℕ) (more : Bool) → IsGoing rs t current true → m ≡ length current → length new ≡ length current →
    (more ≡ true → Next (tuples rs m t) current new) → (more ≡ false → Last (tuples rs m t) current) →
    (to_come rs t current true ≡ current ∷ to_come rs t new more) × IsGoing rs t new more
gone_on rs t current new m true g e l f h =
    let a = (tuples-listing rs (length current) t g.rises).ascends in
    let n : Next (tuples rs (length current) t) current new = subst (λ k. Next (tuples rs k t) current new) e (f refl) in
    let s : after current (tuples rs (length current) t) ≡ new ∷ after new (tuples rs (length current) t) = after-next (tuples rs (length current) t) current new a n in (
      ap (λ ts. current ∷ ts) (s ∙ ap (λ k. new ∷ after new (tuples rs k t)) (sym l)),
      record {
        rises = g.rises;
        long = g.long;
        fit = g.fit;
        few = subst (λ k. k ≤ 8) (sym l) g.few;
        tuple = λ b. subst (λ k. IsIn new (tuples rs k t)) (sym l) (in-next (tuples rs (length current) t) current new n);
      },
    )
gone_on rs t current new m false g e l f h =
    let a = (tuples-listing rs (length current) t g.rises).ascends in
    let n : Last (tuples rs (length current) t) current = subst (λ k. Last (tuples rs k t) current) e (h refl) in (
      ap (λ ts. current ∷ ts) (after-last (tuples rs (length current) t) current a n),
      record { rises = g.rises; long = g.long; fit = g.fit; few = subst (λ k. k ≤ 8) (sym l) g.few; tuple = λ b. absurd (cc) },
    )
