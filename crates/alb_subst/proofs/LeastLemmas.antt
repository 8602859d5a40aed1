-- Tuples whose numbers never fall within a run.
use Rattle.std.proofs.Common.{◌≡◌, ℕ, zero, suc, ◌<◌, ◌≤◌, Bool, true, false, List, [], ◌∷◌, length, drop, get_or, sym, refl, ap, ◌∙◌, subst, arith, inl, inr}
use Rattle.std.specs.List.{filter}
use Rattle.std.specs.Prelude.{◌&&◌, ◌||◌, not, nat_le, nat_lt, Result, Ok, Err, IfOk}
use Rattle.std.specs.declared.cmp.Ordering.{Ordering}
use Rattle.std.specs.declared.cmp.Ordering.TheVariants.{Less}
use Rattle.std.proofs.lemmas.Bool.{cases_Bool, false≢true}
use Rattle.std.proofs.lemmas.Bool.Decides.{nat_tests}
use Rattle.alb_mono.specs.Listing.{Each, IsIn, Ascends}
use Rattle.alb_mono.proofs.ListingLemmas.{each-weaker}
use Rattle.alb_linear.specs.Runs.{goes_on}
use Rattle.alb_table.specs.Table.{PartView}
use Rattle.alb_subst.specs.Tuples.{IsTupleOf, AreTuples, rises_within, IsLeastTuple, AreLeastTuples, cmp_tuples}

-- ---- a list filtered

module _ {X : Type 0} (test : X → Bool) where
  pub each-filter : (P : X → Type 0) (xs : List X) → Each P xs → Each P (filter test xs)
  each-filter P [] h = tt
  each-filter P (x ∷ xs) h = elim (cases_Bool (test x)) [
    | inl e ↦ rw e (h.0, each-filter P xs h.1)
    | inr e ↦ rw e (each-filter P xs h.1)
  ]

  pub ascends-filter : (order : X → X → Ordering) (xs : List X) → Ascends order xs → Ascends order (filter test xs)
  ascends-filter order [] h = tt
  ascends-filter order (x ∷ xs) h = elim (cases_Bool (test x)) [
    | inl e ↦ rw e (each-filter (λ y. order x y ≡ Less) xs h.0, ascends-filter order xs h.1)
    | inr e ↦ rw e (ascends-filter order xs h.1)
  ]

  pub filter-passes : (P : X → Type 0) (xs : List X) → Each P xs → Each (λ x. P x × (test x ≡ true)) (filter test xs)
  filter-passes P [] h = tt
  filter-passes P (x ∷ xs) h = elim (cases_Bool (test x)) [
    | inl e ↦ rw e ((h.0, e), filter-passes P xs h.1)
    | inr e ↦ rw e (filter-passes P xs h.1)
  ]

  pub in-filter : (x : X) (xs : List X) → test x ≡ true → IsIn x xs → IsIn x (filter test xs)
  in-filter x [] t h = absurd h
  in-filter x (y ∷ xs) t (inl e) = (let q : test y ≡ true = subst (λ z. test z ≡ true) e t in rw q (inl e))
  in-filter x (y ∷ xs) t (inr h) = elim (cases_Bool (test y)) [
    | inl e ↦ rw e (inr (in-filter x xs t h))
    | inr e ↦ rw e (in-filter x xs t h)
  ]

-- ---- listings

-- of all tuples those that never fall
pub least-listing : (parts : List PartView) (n : ℕ) (t runs : List ℕ) (xs : List (List ℕ)) → AreTuples parts n t xs →
    AreLeastTuples parts n t runs (filter (rises_within runs 0) xs)
least-listing parts n t runs xs a = record {
  ascends = ascends-filter (rises_within runs 0) cmp_tuples xs a.ascends;
  each = each-weaker (λ x. IsTupleOf parts n t x × (rises_within runs 0 x ≡ true)) (IsLeastTuple parts n t runs) (filter (rises_within runs 0) xs)
      (λ x h. record { tuple = h.0; rises = h.1 }) (filter-passes (rises_within runs 0) (IsTupleOf parts n t) xs a.each);
  all = λ x h. in-filter (rises_within runs 0) x xs h.rises (a.all x h.tuple);
}

no-runs : (k : ℕ) (x : List ℕ) → rises_within [] k x ≡ true
no-runs k [] = refl
no-runs k (a ∷ []) = refl
no-runs k (a ∷ b ∷ x) = no-runs (suc k) (b ∷ x)

-- without runs they are all tuples
pub all-listing : (parts : List PartView) (n : ℕ) (t : List ℕ) (xs : List (List ℕ)) → AreLeastTuples parts n t [] xs → AreTuples parts n t xs
all-listing parts n t xs a = record {
  ascends = a.ascends;
  each = each-weaker (IsLeastTuple parts n t []) (IsTupleOf parts n t) xs (λ x h. h.tuple) a.each;
  all = λ x h. a.all x (record { tuple = h; rises = no-runs 0 x });
}

-- ---- the test

two-more : (x : List ℕ) (k a b : ℕ) → suc k < length x → a ≡ get_or x k 0 → b ≡ get_or x (suc k) 0 → drop k x ≡ a ∷ b ∷ drop (suc (suc k)) x
two-more [] k a b l e f = absurd (omega arith)
two-more (c ∷ []) k a b l e f = absurd (omega arith)
two-more (c ∷ d ∷ x) zero a b l e f = (λ i. sym e i ∷ sym f i ∷ x)
two-more (c ∷ d ∷ x) (suc k) a b l e f = two-more (d ∷ x) k a b (omega arith) e f

one-more : (x : List ℕ) (k b : ℕ) → suc k < length x → b ≡ get_or x (suc k) 0 → drop (suc k) x ≡ b ∷ drop (suc (suc k)) x
one-more [] k b l f = absurd (omega arith)
one-more (c ∷ []) k b l f = absurd (omega arith)
one-more (c ∷ d ∷ x) zero b l f = (λ i. sym f i ∷ x)
one-more (c ∷ d ∷ x) (suc k) b l f = one-more (d ∷ x) k b (omega arith) f

-- two neighbours
falls_here : (runs x : List ℕ) (k a b : ℕ) (g : Bool) → suc k < length x → a ≡ get_or x k 0 → b ≡ get_or x (suc k) 0 → g ≡ goes_on runs (suc k) →
    (g && nat_lt b a) ≡ true → rises_within runs k (drop k x) ≡ false
falls_here runs x k a b g l e f q h =
    ap (rises_within runs k) (two-more x k a b l e f) ∙ ap (λ z. (not z || nat_le a b) && rises_within runs (suc k) (b ∷ drop (suc (suc k)) x)) (sym q) ∙ fall g (nat_lt b a) h refl
  where
    fall : (g c : Bool) → (g && c) ≡ true → c ≡ nat_lt b a → ((not g || nat_le a b) && rises_within runs (suc k) (b ∷ drop (suc (suc k)) x)) ≡ false
    fall false c h q = absurd (false≢true h)
    fall true false h q = absurd (false≢true h)
    fall true true h q = let n : nat_le a b ≡ false = grind (arith, nat_tests) in rw n refl

rises_on : (runs x : List ℕ) (k a b : ℕ) (g : Bool) → suc k < length x → a ≡ get_or x k 0 → b ≡ get_or x (suc k) 0 → g ≡ goes_on runs (suc k) →
    (g && nat_lt b a) ≡ false → rises_within runs (suc k) (drop (suc k) x) ≡ rises_within runs k (drop k x)
rises_on runs x k a b g l e f q h =
    ap (rises_within runs (suc k)) (one-more x k b l f)
    ∙ sym (ap (rises_within runs k) (two-more x k a b l e f) ∙ ap (λ z. (not z || nat_le a b) && rises_within runs (suc k) (b ∷ drop (suc (suc k)) x)) (sym q)
    ∙ on g (nat_lt b a) (rises_within runs (suc k) (b ∷ drop (suc (suc k)) x)) h refl)
  where
    on : (g c r : Bool) → (g && c) ≡ false → c ≡ nat_lt b a → ((not g || nat_le a b) && r) ≡ r
    on false c r h q = refl
    on true true r h q = absurd (false≢true (sym h))
    on true false r h q = let n : nat_le a b ≡ true = grind (arith, nat_tests) in rw n refl

-- the same at the place after k
pub falls_at : (runs x : List ℕ) (k m a b : ℕ) (t : Bool) → m ≡ suc k → m < length x → a ≡ get_or x k 0 → b ≡ get_or x m 0 → t ≡ (goes_on runs m && nat_lt b a) → t ≡ true →
    rises_within runs k (drop k x) ≡ false
falls_at runs x k m a b t e l p q r h =
    falls_here runs x k a b (goes_on runs (suc k)) (omega arith) p (subst (λ i. b ≡ get_or x i 0) e q) refl (subst (λ i. (goes_on runs i && nat_lt b a) ≡ true) e (sym r ∙ h))

pub rises_at : (runs x : List ℕ) (k m a b : ℕ) (t : Bool) → m ≡ suc k → m < length x → a ≡ get_or x k 0 → b ≡ get_or x m 0 → t ≡ (goes_on runs m && nat_lt b a) → t ≡ false →
    rises_within runs m (drop m x) ≡ rises_within runs k (drop k x)
rises_at runs x k m a b t e l p q r h =
    subst (λ i. rises_within runs i (drop i x) ≡ rises_within runs k (drop k x)) (sym e)
    (rises_on runs x k a b (goes_on runs (suc k)) (omega arith) p (subst (λ i. b ≡ get_or x i 0) e q) refl (subst (λ i. (goes_on runs i && nat_lt b a) ≡ false) e (sym r ∙ h)))

-- at the end nothing can fall
pub rises_end : (runs x : List ℕ) (k : ℕ) → length x ≤ suc k → rises_within runs k (drop k x) ≡ true
rises_end runs x k l = short (drop k x) (few x k l)
  where
    few : (y : List ℕ) (i : ℕ) → length y ≤ suc i → length (drop i y) ≤ 1
    few [] zero l = omega arith
    few [] (suc i) l = omega arith
    few (a ∷ y) zero l = l
    few (a ∷ y) (suc i) l = few y i (omega arith)

    short : (y : List ℕ) → length y ≤ 1 → rises_within runs k y ≡ true
    short [] l = refl
    short (a ∷ []) l = refl
    short (a ∷ b ∷ y) l = absurd (omega arith)

pub ok_weaker : {A E : Type 0} (P Q : A → Type 0) (r : Result A E) → ((x : A) → P x → Q x) → IfOk r P → IfOk r Q
ok_weaker P Q (Ok x) w h = w x h
ok_weaker P Q (Err e) w h = tt
