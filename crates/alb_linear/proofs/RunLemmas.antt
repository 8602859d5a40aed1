-- Runs of positions.
use Rattle.std.proofs.Common.{◌≡◌, ℕ, zero, suc, ◌+◌, ◌-◌, ◌<◌, ◌≤◌, true, false, List, [], ◌∷◌, ◌++◌, map, length, sum, sym, refl, ap, ◌∙◌, subst, arith, ◌==◌, inl, inr, get_or}
use Rattle.std.specs.Prelude.{Bool, ◌↔◌, if◌then◌else◌, nat_lt, Result, Ok, Err, IfOk}
use Rattle.std.specs.List.{All, range_with_len, sum_by}
use Rattle.std.proofs.lemmas.Bool.{cases_Bool, cases_lt, cases_eq, false≢true, eq-eqb, eqb-true}
use Rattle.std.proofs.lemmas.Bool.Decides.{nat_tests}
use Rattle.std.proofs.lemmas.List.{length-map, map-append}
use Rattle.std.proofs.lemmas.List.FromFn.{length-range_with_len}
use Rattle.gf_field.proofs.Mod.{back}
use Rattle.gf_sums.specs.Sums.{reindex, total}
use Rattle.alb_mono.specs.Listing.{Each}
use Rattle.alb_mono.specs.Tree.{Tree, leaf, node, tree, AreBelow, are_below, degree}
use Rattle.alb_mono.specs.declared.mono.Mono.{Mono}
use Rattle.alb_mono.proofs.LetterLemmas.{range_more}
use Rattle.alb_poly.specs.Poly.{Poly, IsSamePoly, IsDescending, normal}
use Rattle.alb_poly.specs.Terms.{term, terms}
use Rattle.alb_poly.specs.declared.term.Term.{Term}
use Rattle.alb_poly.specs.Instance.{Form, fill, instance, IsMultilinear}
use Rattle.alb_poly.proofs.Multilinear.{multilinear-below, map-each}
use Rattle.alb_poly.proofs.NormalLemmas.{normal-same, same-normal, normal-canonical, descending-canonical}
use Rattle.alb_linear.specs.Identity.{IsLinearized}
use Rattle.alb_linear.specs.Runs.{exchanged, with_exchanged, AreExchangeable, goes_on, same_terms}
use Rattle.alb_linear.proofs.LinearLemmas.{total-degrees, all_from_each, each_from_all}
use Rattle.alb_mono.proofs.Both.{both_tests}
use Rattle.alb_poly.proofs.Consequence.{tree_tells}
use Rattle.alb_poly.proofs.Multilinear.{sum_cons}

-- ---- one list of terms

same_terms-sound : (f g : Poly) → same_terms f g ≡ true → f ≡ g
same_terms-sound [] [] h = refl
same_terms-sound [] (t ∷ g) h = absurd (false≢true h)
same_terms-sound (s ∷ f) [] h = absurd (false≢true h)
same_terms-sound (s ∷ f) (t ∷ g) h =
    let a = both_tests _ _ h in
    let b = both_tests _ _ a.0 in
    let x = eqb-true s.0 t.0 b.0 in
    let y = tree_tells.sound s.1 t.1 b.1 in
    let z = same_terms-sound f g a.1 in λ i. (x i, y i) ∷ z i

same_terms-whole : (f : Poly) → same_terms f f ≡ true
same_terms-whole [] = refl
same_terms-whole (s ∷ f) = rw (eq-eqb s.0 s.0 refl, tree_tells.whole s.1, same_terms-whole f) refl

pub not-long : (f g : List Term) → (length f ≡ length g → ⊥) → false ≡ same_terms (terms f) (terms g)
not-long f g h = elim (cases_Bool (same_terms (terms f) (terms g))) [
  | inl e ↦ absurd (h (sym (length-map f term) ∙ ap length (same_terms-sound (terms f) (terms g) e) ∙ length-map g term))
  | inr e ↦ sym e
]

-- ---- exchanged positions

get-listed : (f : ℕ → Tree) (a n k : ℕ) (d : Tree) → k < n → get_or (map f (range_with_len a n)) k d ≡ f (a + k)
get-listed f a zero k d h = absurd (omega arith)
get-listed f a (suc n) zero d h = let e : a ≡ a + 0 = omega arith in ap f e
get-listed f a (suc n) (suc k) d h = let e : a + 1 + k ≡ a + suc k = omega arith in get-listed f (a + 1) n k d (omega arith) ∙ ap f e

fill-exchanged : (j n : ℕ) (m : Tree) → AreBelow n m → fill (map (λ k. leaf (exchanged j k)) (range_with_len 0 n)) m ≡ with_exchanged j m
fill-exchanged j n (leaf k) h = let e : 0 + k ≡ k = omega arith in get-listed (λ k. leaf (exchanged j k)) 0 n k (leaf k) h ∙ ap (λ i. leaf (exchanged j i)) e
fill-exchanged j n (node l r) h = rw (fill-exchanged j n l h.0, fill-exchanged j n r h.1) refl

instance-exchanged : (j : ℕ) (f : Form) → Each (λ t. IsMultilinear f.degree t.1) f.terms →
    instance f (map (λ k. leaf (exchanged j k)) (range_with_len 0 f.degree)) ≡ reindex (with_exchanged j) f.terms
instance-exchanged j f h =
    map-each (λ t. IsMultilinear f.degree t.1) (λ t. (t.0, fill (map (λ k. leaf (exchanged j k)) (range_with_len 0 f.degree)) t.1)) (λ t. (t.0, with_exchanged j t.1)) f.terms
    (λ t k. ap (λ m. (t.0, m)) (fill-exchanged j f.degree t.1 (multilinear-below f.degree t.1 k))) h

-- what the comparison shows
pub exchangeable : (p j : ℕ) (f : Form) (ms : List Mono) (g : Poly) (b : Bool) → 0 < p → IsLinearized p f → IsDescending f.terms →
    map tree ms ≡ map (λ k. leaf (exchanged j k)) (range_with_len 0 f.degree) → g ≡ normal p (instance f (map tree ms)) → b ≡ same_terms g f.terms →
    (b ≡ true) ↔ AreExchangeable p f j
exchangeable p j f ms g b pos l d m e q =
    let h : Poly = reindex (with_exchanged j) f.terms in
    let n : g ≡ normal p h = e ∙ ap (λ xs. normal p (instance f xs)) m ∙ ap (normal p) (instance-exchanged j f l.multilinear) in
    let k : normal p f.terms ≡ f.terms = normal-canonical p f.terms (descending-canonical p f.terms d l.residues) in (
      λ t. (let s : normal p h ≡ f.terms = sym n ∙ same_terms-sound g f.terms (sym q ∙ t) in
          λ i. back ((subst (λ z. IsSamePoly p z h) s (normal-same p h)) i)),
      λ x. q ∙ ap (λ z. same_terms z f.terms) (n ∙ same-normal p h f.terms pos x ∙ k) ∙ same_terms-whole f.terms,
    )

total-leaves : (f : ℕ → ℕ) (ks : List ℕ) → total degree (map (λ k. leaf (f k)) ks) ≡ length ks
total-leaves f [] = refl
total-leaves f (k ∷ ks) = let h : total degree (map (λ k. leaf (f k)) ks) ≡ length ks = total-leaves f ks in omega arith

pub positions-length : (f : ℕ → ℕ) (n : ℕ) (ms : List Mono) → map tree ms ≡ map (λ k. leaf (f k)) (range_with_len 0 n) → length ms ≡ n
positions-length f n ms e = sym (length-map ms tree) ∙ ap length e ∙ length-map (range_with_len 0 n) (λ k. leaf (f k)) ∙ length-range_with_len 0 n

pub positions-small : (f : ℕ → ℕ) (n : ℕ) (ms : List Mono) → map tree ms ≡ map (λ k. leaf (f k)) (range_with_len 0 n) → sum_by (λ m. degree (tree m)) ms ≡ n
positions-small f n ms e = sym (total-degrees ms) ∙ ap (total degree) e ∙ total-leaves f (range_with_len 0 n) ∙ length-range_with_len 0 n

each-listed : (P : Tree → Type 0) (f : ℕ → Tree) (a n : ℕ) → ((k : ℕ) → k < a + n → P (f k)) → Each P (map f (range_with_len a n))
each-listed P f a zero h = tt
each-listed P f a (suc n) h = (h a (omega arith), each-listed P f (a + 1) n (λ k l. h k (omega arith)))

each-trees : (P : Tree → Type 0) (ms : List Mono) → Each P (map tree ms) → Each (λ m. P (tree m)) ms
each-trees P [] h = tt
each-trees P (m ∷ ms) h = (h.0, each-trees P ms h.1)

exchanged-small : (j k : ℕ) → exchanged j k ≤ k + suc j
exchanged-small j k = elim (cases_Bool (k == j)) [
  | inl e ↦ rw e (omega arith)
  | inr e ↦ rw e (elim (cases_Bool (k == suc j)) [ inl q ↦ rw q (omega arith) | inr q ↦ rw q (omega arith) ])
]

pub positions-known : (j n : ℕ) (ms : List Mono) → n ≤ 8 → j + 1 < n → map tree ms ≡ map (λ k. leaf (exchanged j k)) (range_with_len 0 n) →
    All (λ m. are_below 26 (tree m) ≡ true) ms
positions-known j n ms few next e =
    all_from_each (λ m. are_below 26 (tree m) ≡ true) ms
    (each-trees (λ x. are_below 26 x ≡ true) ms (subst (Each (λ x. are_below 26 x ≡ true)) (sym e)
    (each-listed (λ x. are_below 26 x ≡ true) (λ k. leaf (exchanged j k)) 0 n (λ k l. below k l))))
  where
    below : (k : ℕ) → k < 0 + n → nat_lt (exchanged j k) 26 ≡ true
    below k l = let s : exchanged j k ≤ k + suc j = exchanged-small j k in let b : exchanged j k < 26 = omega arith in grind (arith, nat_tests)

-- ---- runs

goes_on-past : (xs : List ℕ) (k : ℕ) → sum xs ≤ k → goes_on xs k ≡ false
goes_on-past [] k h = refl
goes_on-past (n ∷ xs) k h =
    let s : sum (n ∷ xs) ≡ n + sum xs = sum_cons n xs in
    let e : nat_lt k n ≡ false = (let l : n ≤ k = omega arith in grind (arith, nat_tests)) in
    rw e (goes_on-past xs (k - n) (omega arith))

goes_on-before : (xs ys : List ℕ) (k : ℕ) → k < sum xs → goes_on (xs ++ ys) k ≡ goes_on xs k
goes_on-before [] ys k h = absurd (omega arith)
goes_on-before (n ∷ xs) ys k h =
    let s : sum (n ∷ xs) ≡ n + sum xs = sum_cons n xs in
    elim (cases_Bool (nat_lt k n)) [
      | inl e ↦ rw e refl
      | inr e ↦ (let l : n ≤ k = grind (arith, nat_tests) in rw e (goes_on-before xs ys (k - n) (omega arith)))
    ]

goes_on-after : (xs ys : List ℕ) (k : ℕ) → goes_on (xs ++ ys) (sum xs + k) ≡ goes_on ys k
goes_on-after [] ys k = let e : 0 + k ≡ k = omega arith in ap (goes_on ys) e
goes_on-after (n ∷ xs) ys k =
    let s : sum (n ∷ xs) + k ≡ n + (sum xs + k) = (let q : sum (n ∷ xs) ≡ n + sum xs = sum_cons n xs in omega arith) in
    let e : nat_lt (n + (sum xs + k)) n ≡ false = grind (arith, nat_tests) in
    let d : n + (sum xs + k) - n ≡ sum xs + k = omega arith in
    ap (goes_on (n ∷ (xs ++ ys))) s ∙ rw (e, d) (goes_on-after xs ys k)

-- the last run of n positions at the place k
abbrev last_run : ℕ → ℕ → Bool
last_run n k = if nat_lt k n then nat_lt 0 k else false

-- a position begins a run
pub run-begun : (xs : List ℕ) (k : ℕ) → goes_on (xs ++ 1 ∷ []) k ≡ (if k == sum xs then false else goes_on xs k)
run-begun xs k = elim (cases_lt k (sum xs)) [
  | inl l ↦ (let e : (k == sum xs) ≡ false = grind (arith, nat_tests) in rw e (goes_on-before xs (1 ∷ []) k l))
  | inr g ↦ (
      let s : k ≡ sum xs + (k - sum xs) = omega arith in
      let a : goes_on (xs ++ 1 ∷ []) k ≡ false = ap (goes_on (xs ++ 1 ∷ [])) s ∙ goes_on-after xs (1 ∷ []) (k - sum xs) ∙ one (k - sum xs) in
      let b : goes_on xs k ≡ false = goes_on-past xs k g in
      elim (cases_Bool (k == sum xs)) [ inl e ↦ rw e a | inr e ↦ rw e (a ∙ sym b) ])
]
  where
    one : (i : ℕ) → last_run 1 i ≡ false
    one zero = refl
    one (suc i) = let e : nat_lt (suc i) 1 ≡ false = grind (arith, nat_tests) in rw e refl

-- a position goes on with the last run
pub run-grown : (xs : List ℕ) (n k : ℕ) → 0 < n → goes_on (xs ++ (n + 1) ∷ []) k ≡ (if k == sum (xs ++ n ∷ []) then true else goes_on (xs ++ n ∷ []) k)
run-grown xs n k pos =
    let t : sum (xs ++ n ∷ []) ≡ sum xs + n = sum-last xs n in
    elim (cases_lt k (sum xs)) [
      | inl l ↦ (
          let e : (k == sum (xs ++ n ∷ [])) ≡ false = (let w : k < sum (xs ++ n ∷ []) = omega arith in grind (arith, nat_tests)) in
          rw e (goes_on-before xs ((n + 1) ∷ []) k l ∙ sym (goes_on-before xs (n ∷ []) k l)))
      | inr g ↦ (
          let i : ℕ = k - sum xs in
          let s : k ≡ sum xs + i = omega arith in
          let a : goes_on (xs ++ (n + 1) ∷ []) k ≡ last_run (n + 1) i = ap (goes_on (xs ++ (n + 1) ∷ [])) s ∙ goes_on-after xs ((n + 1) ∷ []) i in
          let b : goes_on (xs ++ n ∷ []) k ≡ last_run n i = ap (goes_on (xs ++ n ∷ [])) s ∙ goes_on-after xs (n ∷ []) i in
          elim (cases_Bool (k == sum (xs ++ n ∷ []))) [
            | inl e ↦ rw e (a ∙ (let q : i ≡ n = (let z : k ≡ sum (xs ++ n ∷ []) = eqb-true k (sum (xs ++ n ∷ [])) e in omega arith) in ap (last_run (n + 1)) q ∙ ends n pos))
            | inr e ↦ rw e (a ∙ longer n i (λ q. ends_not k (sum (xs ++ n ∷ [])) e (omega arith)) ∙ sym b)
          ])
    ]
  where
    sum-last : (xs : List ℕ) (n : ℕ) → sum (xs ++ n ∷ []) ≡ sum xs + n
    sum-last [] n = sum_cons n [] ∙ omega arith
    sum-last (x ∷ xs) n =
        let a : sum (x ∷ (xs ++ n ∷ [])) ≡ x + sum (xs ++ n ∷ []) = sum_cons x (xs ++ n ∷ []) in
        let b : sum (x ∷ xs) ≡ x + sum xs = sum_cons x xs in
        let c : sum (xs ++ n ∷ []) ≡ sum xs + n = sum-last xs n in omega arith

    ends : (n : ℕ) → 0 < n → last_run (n + 1) n ≡ true
    ends n pos = let e : nat_lt n (n + 1) ≡ true = grind (arith, nat_tests) in let f : nat_lt 0 n ≡ true = grind (arith, nat_tests) in rw (e, f) refl

    after : (n i : ℕ) → n ≤ i → (i ≡ n → ⊥) → n + 1 ≤ i
    after n i g ne = elim (cases_eq i n) [ inl e ↦ absurd (ne e) | inr q ↦ omega arith ]

    longer : (n i : ℕ) → (i ≡ n → ⊥) → last_run (n + 1) i ≡ last_run n i
    longer n i ne = elim (cases_lt i n) [
      | inl l ↦ (let e : nat_lt i n ≡ true = grind (arith, nat_tests) in let f : nat_lt i (n + 1) ≡ true = grind (arith, nat_tests) in rw (e, f) refl)
      | inr g ↦ (
          let more : n + 1 ≤ i = after n i g ne in
          let e : nat_lt i n ≡ false = grind (arith, nat_tests) in
          let f : nat_lt i (n + 1) ≡ false = grind (arith, nat_tests) in rw (e, f) refl)
    ]

    ends_not : (a b : ℕ) → (a == b) ≡ false → a ≡ b → ⊥
    ends_not a b e q = false≢true (sym e ∙ eq-eqb a b q)

grown : (old front new : List ℕ) (n : ℕ) (j : Bool) → 0 < n → old ≡ front ++ n ∷ [] → new ≡ front ++ (n + 1) ∷ [] → j ≡ true →
    (k : ℕ) → goes_on new k ≡ (if k == sum old then j else goes_on old k)
grown old front new n j pos e f t k = rw (e, f, t) (run-grown front n k pos)

last-of : (P : ℕ → Type 0) (xs : List ℕ) (n : ℕ) → Each P (xs ++ n ∷ []) → P n
last-of P [] n h = h.0
last-of P (x ∷ xs) n h = last-of P xs n h.1

-- one position more, in the last run
pub one-grown : (old front new : List ℕ) (n : ℕ) (j : Bool) → All (λ n. 0 < n) old → old ≡ front ++ n ∷ [] → new ≡ front ++ (n + 1) ∷ [] → j ≡ true →
    (k : ℕ) → goes_on new k ≡ (if k == sum old then j else goes_on old k)
one-grown old front new n j a e f t k =
    grown old front new n j (last-of (λ n. 0 < n) front n (subst (Each (λ n. 0 < n)) e (each_from_all (λ n. 0 < n) old a))) e f t k

-- one position more, in a run of its own
pub one-begun : (old new : List ℕ) (j : Bool) → new ≡ old ++ 1 ∷ [] → j ≡ false → (k : ℕ) → goes_on new k ≡ (if k == sum old then j else goes_on old k)
one-begun old new j f t k = rw (f, t) (run-begun old k)

-- what the runs of the first positions say
pub joined-more : (X : ℕ → Type 0) (k : ℕ) (old new : List ℕ) (b : Bool) → sum old ≡ k → ((i : ℕ) → goes_on new i ≡ (if i == sum old then b else goes_on old i)) →
    ((j : ℕ) → k ≡ suc j → (b ≡ true) ↔ X j) → ((j : ℕ) → suc j < k → (goes_on old (suc j) ≡ true) ↔ X j) →
    (j : ℕ) → suc j < k + 1 → (goes_on new (suc j) ≡ true) ↔ X j
joined-more X k old new b s g h i j l = elim (cases_eq (suc j) k) [
  | inl e ↦ (
      let t : (suc j == sum old) ≡ true = eq-eqb (suc j) (sum old) (e ∙ sym s) in
      let q : goes_on new (suc j) ≡ b = g (suc j) ∙ rw t refl in
      subst (λ c. (c ≡ true) ↔ X j) (sym q) (h j (sym e)))
  | inr ne ↦ (
      let m : suc j < k = omega arith in
      let n : suc j < sum old = omega arith in
      let t : (suc j == sum old) ≡ false = grind (arith, nat_tests) in
      let q : goes_on new (suc j) ≡ goes_on old (suc j) = g (suc j) ∙ rw t refl in
      subst (λ c. (c ≡ true) ↔ X j) (sym q) (i j m))
]

-- a later position
pub later-joins : {E : Type 0} (X : ℕ → Bool → Type 0) (r : Result Bool E) (k : ℕ) → IfOk r (X (k - 1)) → IfOk r (λ b. (j : ℕ) → k ≡ suc j → X j b)
later-joins X (Ok b) k h = λ j e. (let q : k - 1 ≡ j = omega arith in subst (λ i. X i b) q h)
later-joins X (Err e) k h = tt

-- one position more in the list
pub positions-more : (f : ℕ → ℕ) (old new : List Mono) (m : Mono) (k : ℕ) → map tree old ≡ map (λ k. leaf (f k)) (range_with_len 0 k) → new ≡ old ++ m ∷ [] → tree m ≡ leaf (f k) →
    map tree new ≡ map (λ k. leaf (f k)) (range_with_len 0 (k + 1))
positions-more f old new m k h e q =
    let z : 0 + k ≡ k = omega arith in
    let g : ℕ → Tree = λ k. leaf (f k) in
    ap (map tree) e ∙ map-append tree old (m ∷ []) ∙ ap (λ xs. xs ++ tree m ∷ []) h ∙ ap (λ x. map g (range_with_len 0 k) ++ x ∷ []) q
    ∙ sym (ap (map g) (range_more 0 k ∙ ap (λ n. range_with_len 0 k ++ n ∷ []) z) ∙ map-append g (range_with_len 0 k) (k ∷ []))
