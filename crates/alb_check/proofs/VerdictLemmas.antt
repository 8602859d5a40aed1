-- Every table has one verdict, and what it refutes is no consequence.
use Rattle.std.proofs.Common.{◌≡◌, ℕ, zero, suc, ◌%◌, ◌<◌, ◌≤◌, List, [], ◌∷◌, length, sum, nat_eq, nat_lt, Bool, true, ◌&&◌, sym, refl, ap, ◌∙◌, subst, arith, inl, inr, ◌⊎◌, below_more}
use Rattle.std.specs.Prelude.{Option, None, Some, Result, Ok, Err}
use Rattle.std.specs.Ordering.{nat_cmp, ordering_reverse}
use Rattle.std.specs.Cmp.Lexicographic.{slice_cmp}
use Rattle.std.specs.declared.cmp.Ordering.{Ordering}
use Rattle.std.specs.declared.cmp.Ordering.TheVariants.{Less, Equal, Greater}
use Rattle.std.specs.FinMap.{slice_cmp-IsAntisymmetric, nat_cmp-IsAntisymmetric}
use Rattle.std.proofs.Math.Decide.{ℕ_discrete}
use Prim.{yes, no}
use Rattle.std.proofs.lemmas.Bool.{cases_Bool, cases_order, eqb-true}
use Rattle.std.proofs.lemmas.Cmp.{ranked, by_ranked, nat_list_cmp_total}
use Rattle.gf_field.specs.Modular.{IsPrime, IsSameMod}
use Rattle.gf_field.proofs.Mod.{same}
use Rattle.gf_sums.specs.Sums.{Comb, coefficient}
use Rattle.alb_mono.specs.Listing.{Each}
use Rattle.alb_mono.specs.Tree.{type_le}
use Rattle.alb_poly.specs.Poly.{Poly}
use Rattle.alb_poly.specs.Instance.{Form}
use Rattle.alb_poly.specs.Consequence.{form_at, IsConsequence, AreMultilinear}
use Rattle.alb_problem.specs.Satisfied.{AreSameVectors}
use Rattle.alb_check.specs.declared.check.Counter.{Counter}
use Rattle.alb_check.specs.declared.error.TableError.{TableError}
use Rattle.alb_check.specs.declared.error.TableError.TheVariants as errors
use Rattle.alb_check.specs.Raw.{Raw, IsRaw, shape_fault}
use Rattle.alb_check.specs.TableAlgebra.{value, form_value, IsElement, IsZeroAtTuple, IsZeroAtTuples, IsFirstTuple, AreZeroAtTuples, FirstFailure}
use Rattle.alb_check.specs.Verdict.{TableAnswers, IsTableAccepted, IsModel, RefutesText, TableVerdict, IsTableVerdict}
use Rattle.alb_check.specs.Verdict.TableVerdict.{Refuted, BadShape, Fails, ValueZero}
use Rattle.alb_check.proofs.VectorLemmas.{alike_vector}
use Rattle.alb_check.proofs.TableLemmas.{IsShaped, shaped, le_sum}
use Rattle.alb_check.proofs.RefuteLemmas.{all_satisfied, value_zero, text_zero}

-- ---- whether a vector is zero

module _ (p : ℕ) (f : Comb ℕ) where
  abbrev at : ℕ → ℕ
  at i = coefficient (λ i j. nat_eq i j) f i

  -- the coefficients at the indices of a list
  zero_at_indices : (h : Comb ℕ) → Each (λ s. IsSameMod p (at s.1) 0) h ⊎ ((i : ℕ) × (IsSameMod p (at i) 0 → ⊥))
  zero_at_indices [] = inl tt
  zero_at_indices (s ∷ h) = elim (ℕ_discrete (at s.1 % p) (0 % p)) [
    | yes e ↦ elim (zero_at_indices h) [
      | inl z ↦ inl (record { same = e }, z)
      | inr n ↦ inr n
    ]
    | no n ↦ inr (s.1, λ z. n z.same)
  ]

-- an index occurs, or its coefficient is zero
occurs_or_zero : (P : ℕ → Type 0) (f : Comb ℕ) (i : ℕ) → Each (λ s. P s.1) f → P i ⊎ (coefficient (λ i j. nat_eq i j) f i ≡ 0)
occurs_or_zero P [] i h = inr refl
occurs_or_zero P (s ∷ f) i h = elim (cases_Bool (nat_eq s.1 i)) [
  | inl e ↦ inl (subst P (eqb-true s.1 i e) h.0)
  | inr e ↦ elim (occurs_or_zero P f i h.1) [
    | inl x ↦ inl x
    | inr z ↦ inr (rw e (omega (arith, z)))
  ]
]

pub zero_or_not : (p : ℕ) (f : Comb ℕ) → AreSameVectors p f [] ⊎ (AreSameVectors p f [] → ⊥)
zero_or_not p f = elim (zero_at_indices p f f) [
  | inl z ↦ inl (λ i. elim (occurs_or_zero (λ k. IsSameMod p (at p f k) 0) f i z) [
    | inl x ↦ x
    | inr e ↦ same e
  ])
  | inr n ↦ inr (λ h. n.1 (h n.0))
]

-- ---- the first number and the first tuple where something fails

-- what holds of all numbers below `n`, or the first where another thing holds
first_below : (P F : ℕ → Type 0) → ((k : ℕ) → P k ⊎ F k) → (n : ℕ) → ((k : ℕ) → k < n → P k) ⊎ ((k : ℕ) × (k < n) × F k × ((j : ℕ) → j < k → P j))
first_below P F test zero = inl (λ k l. absurd (omega (arith, l)))
first_below P F test (suc n) = elim (first_below P F test n) [
  | inl z ↦ elim (test n) [
    | inl x ↦ inl (λ k l. below_more P n z x k (omega (arith, l)))
    | inr y ↦ inr (n, omega arith, y, z)
  ]
  | inr r ↦ inr (r.0, omega (arith, r.1), r.2, r.3)
]

module _ (t : Raw) where
  -- it holds of all tuples of so many elements
  abbrev HoldsAt : (List ℕ → Type 0) → ℕ → Type 0
  HoldsAt P degree = (ks : List ℕ) → length ks ≡ degree → Each (IsElement t) ks → P ks

  -- the first tuple of which it does not hold
  record IsFirstOf (P : List ℕ → Type 0) (degree : ℕ) (ks : List ℕ) : Type 0 where
    pub long : length ks ≡ degree
    pub elements : Each (IsElement t) ks
    pub fails : P ks → ⊥
    pub first : (js : List ℕ) → length js ≡ degree → Each (IsElement t) js → slice_cmp nat_cmp js ks ≡ Less → P js

  module _ (P : List ℕ → Type 0) (degree : ℕ) where
    all_longer : ((k : ℕ) → k < length t.elements → HoldsAt (λ js. P (suc k ∷ js)) degree) → HoldsAt P (suc degree)
    all_longer z [] n h = absurd (omega (arith, n))
    all_longer z (zero ∷ js) n h = absurd (omega (arith, h.0.low))
    all_longer z (suc k ∷ js) n h = z k (omega (arith, h.0.high)) js (omega (arith, n)) h.1

    first_longer : (k : ℕ) (ks : List ℕ) → k < length t.elements → IsFirstOf (λ js. P (suc k ∷ js)) degree ks →
        ((j : ℕ) → j < k → HoldsAt (λ js. P (suc j ∷ js)) degree) → IsFirstOf P (suc degree) (suc k ∷ ks)
    first_longer k ks l r z = record {
      long = omega (arith, r.long);
      elements = (record { low = omega arith; high = omega (arith, l) }, r.elements);
      fails = r.fails;
      first = earlier;
    }
      where
        earlier : (js : List ℕ) → length js ≡ suc degree → Each (IsElement t) js → slice_cmp nat_cmp js (suc k ∷ ks) ≡ Less → P js
        earlier [] n h less = absurd (omega (arith, n))
        earlier (zero ∷ js) n h less = absurd (omega (arith, h.0.low))
        earlier (suc j ∷ js) n h less =
            by_ranked (suc j < suc k) (suc j ≡ suc k) (suc k < suc j) (nat_cmp (suc j) (suc k)) (ranked (suc j) (suc k) _ refl)
            (λ e a. z j (omega (arith, a)) js (omega (arith, n)) h.1)
            (λ e s. subst (λ x. P (x ∷ js)) (sym s) (r.first js (omega (arith, n)) h.1 (rw e at less)))
            (λ e a. absurd (let q : Greater ≡ Less = rw e at less in cc))

  first_of_degree : (degree : ℕ) (P : List ℕ → Type 0) → ((ks : List ℕ) → P ks ⊎ (P ks → ⊥)) → HoldsAt P degree ⊎ ((ks : List ℕ) × IsFirstOf P degree ks)
  first_of_degree zero P test = elim (test []) [
    | inl h ↦ inl (only h)
    | inr n ↦ inr ([], record { long = refl; elements = tt; fails = n; first = none })
  ]
    where
      only : P [] → HoldsAt P zero
      only h [] n e = h
      only h (k ∷ ks) n e = absurd (omega (arith, n))

      none : (js : List ℕ) → length js ≡ zero → Each (IsElement t) js → slice_cmp nat_cmp js [] ≡ Less → P js
      none [] n h less = absurd (let q : Equal ≡ Less = less in cc)
      none (j ∷ js) n h less = absurd (let q : Greater ≡ Less = less in cc)
  first_of_degree (suc degree) P test = elim (first_below (λ k. HoldsAt (λ js. P (suc k ∷ js)) degree) (λ k. (ks : List ℕ) × IsFirstOf (λ js. P (suc k ∷ js)) degree ks)
      (λ k. first_of_degree degree (λ js. P (suc k ∷ js)) (λ js. test (suc k ∷ js))) (length t.elements)) [
        | inl z ↦ inl (all_longer P degree z)
        | inr r ↦ inr (suc r.0 ∷ r.2.0, first_longer P degree r.0 r.2.0 r.1 r.2.1 r.3)
      ]

module _ (p : ℕ) (t : Raw) where
  zero_or_first : (f : Form) → IsZeroAtTuples p t f ⊎ ((ks : List ℕ) × IsFirstTuple p t f ks)
  zero_or_first f = elim (first_of_degree t f.degree (IsZeroAtTuple p t f) (λ ks. zero_or_not p (form_value t f ks))) [
    | inl z ↦ inl (λ ks h. z ks h.long h.elements)
    | inr r ↦ inr (
      r.0,
      record {
        tuple = record { long = r.1.long; elements = r.1.elements };
        fails = r.1.fails;
        first = λ js h less. r.1.first js h.long h.elements less;
      },
    )
  ]

  -- every form is zero at all tuples, or the first that is not
  pub zero_or_failure : (fs : List Form) → AreZeroAtTuples p t fs ⊎ ((i : ℕ) × (ks : List ℕ) × FirstFailure p t fs i ks)
  zero_or_failure [] = inl tt
  zero_or_failure (f ∷ fs) = elim (zero_or_first f) [
    | inl z ↦ elim (zero_or_failure fs) [
      | inl zs ↦ inl (z, zs)
      | inr r ↦ inr (suc r.0, r.1, failure_later f fs r.0 r.1 z r.2)
    ]
    | inr r ↦ inr (1, r.0, record { place = 0; number = omega arith; named = omega arith; tuple = r.1; before = λ k l. absurd (omega (arith, l)) })
  ]
    where
      failure_later : (f : Form) (fs : List Form) (i : ℕ) (ks : List ℕ) → IsZeroAtTuples p t f → FirstFailure p t fs i ks → FirstFailure p t (f ∷ fs) (suc i) ks
      failure_later f fs i ks z r = record {
        place = suc r.place;
        number = omega (arith, r.number);
        named = omega (arith, r.named);
        tuple = r.tuple;
        before = before;
      }
        where
          before : (k : ℕ) → k < suc r.place → IsZeroAtTuples p t (form_at (f ∷ fs) k)
          before zero l = z
          before (suc k) l = r.before k (omega (arith, l))

-- ---- each table has one verdict

pub verdict-some : (p : ℕ) (target : List ℕ) (fs : List Form) (t : Raw) (g : Poly) → (v : TableVerdict) × IsTableVerdict p target fs t g v
verdict-some p target fs t g = by_fault (shape_fault target p t) refl
  where
    by_value : shape_fault target p t ≡ None → AreZeroAtTuples p t fs → (v : TableVerdict) × IsTableVerdict p target fs t g v
    by_value e z = elim (zero_or_not p (value t g)) [
      | inl y ↦ (ValueZero, record { model = record { shape = e; zero = z }; zero = y })
      | inr n ↦ (Refuted, (record { shape = e; zero = z }, n))
    ]

    by_fault : (o : Option ℕ) → shape_fault target p t ≡ o → (v : TableVerdict) × IsTableVerdict p target fs t g v
    by_fault (Some r) e = (BadShape r, e)
    by_fault None e = elim (zero_or_failure p t fs) [
      | inl z ↦ by_value e z
      | inr r ↦ (Fails r.0 r.1, (e, r.2))
    ]

module _ (p : ℕ) (t : Raw) (fs : List Form) where
  -- where a form fails, not all are zero
  no_failure : (gs : List Form) (k : ℕ) (ks : List ℕ) → AreZeroAtTuples p t gs → k < length gs → IsFirstTuple p t (form_at gs k) ks → ⊥
  no_failure [] k ks z l r = absurd (omega (arith, l))
  no_failure (g ∷ gs) zero ks z l r = r.fails (z.0 ks r.tuple)
  no_failure (g ∷ gs) (suc k) ks z l r = no_failure gs k ks z.1 (omega (arith, l)) r

  one_tuple : (f : Form) (js ks : List ℕ) → IsFirstTuple p t f js → IsFirstTuple p t f ks → js ≡ ks
  one_tuple f js ks a b = by_order (slice_cmp nat_cmp js ks) refl
    where
      by_order : (o : Ordering) → slice_cmp nat_cmp js ks ≡ o → js ≡ ks
      by_order Less e = absurd (a.fails (b.first js a.tuple e))
      by_order Equal e = slice_cmp-IsAntisymmetric nat_cmp-IsAntisymmetric js ks e
      by_order Greater e = absurd (b.fails (a.first ks b.tuple (nat_list_cmp_total.antisymm ks js ∙ ap ordering_reverse e)))

  one_failure : (i j : ℕ) (is js : List ℕ) → FirstFailure p t fs i is → FirstFailure p t fs j js → (i ≡ j) × (is ≡ js)
  one_failure i j is js a b = elim (cases_order a.place b.place) [
    | inl e ↦ (omega (arith, a.number, b.number, e), one_tuple (form_at fs b.place) is js (subst (λ k. IsFirstTuple p t (form_at fs k) is) e a.tuple) b.tuple)
    | inr r ↦ elim r [
      | inl l ↦ absurd (a.tuple.fails (b.before a.place l is a.tuple.tuple))
      | inr l ↦ absurd (b.tuple.fails (a.before b.place l js b.tuple.tuple))
    ]
  ]

module _ (p : ℕ) (target : List ℕ) (fs : List Form) (t : Raw) (g : Poly) where
  shape_clash : (r : ℕ) → shape_fault target p t ≡ None → shape_fault target p t ≡ Some r → ⊥
  shape_clash r e f = let q : None ≡ Some r = sym e ∙ f in cc

  model_clash : (i : ℕ) (ks : List ℕ) → IsModel p target fs t → FirstFailure p t fs i ks → ⊥
  model_clash i ks m r = no_failure p t fs fs r.place ks m.zero r.named r.tuple

  pub verdict-one : (v w : TableVerdict) → IsTableVerdict p target fs t g v → IsTableVerdict p target fs t g w → v ≡ w
  verdict-one Refuted Refuted a b = refl
  verdict-one Refuted (BadShape r) a b = absurd (shape_clash r a.0.shape b)
  verdict-one Refuted (Fails i ks) a b = absurd (model_clash i ks a.0 b.1)
  verdict-one Refuted ValueZero a b = absurd (a.1 b.zero)
  verdict-one (BadShape r) Refuted a b = absurd (shape_clash r b.0.shape a)
  verdict-one (BadShape r) (BadShape s) a b = let q : Some r ≡ Some s = sym a ∙ b in let e : r ≡ s = cc in ap BadShape e
  verdict-one (BadShape r) (Fails i ks) a b = absurd (shape_clash r b.0 a)
  verdict-one (BadShape r) ValueZero a b = absurd (shape_clash r b.model.shape a)
  verdict-one (Fails i ks) Refuted a b = absurd (model_clash i ks b.0 a.1)
  verdict-one (Fails i ks) (BadShape r) a b = absurd (shape_clash r a.0 b)
  verdict-one (Fails i ks) (Fails j js) a b = let e = one_failure p t fs i j ks js a.1 b.1 in ap (λ n. Fails n ks) e.0 ∙ ap (Fails j) e.1
  verdict-one (Fails i ks) ValueZero a b = absurd (model_clash i ks b.model a.1)
  verdict-one ValueZero Refuted a b = absurd (b.1 a.zero)
  verdict-one ValueZero (BadShape r) a b = absurd (shape_clash r a.model.shape b)
  verdict-one ValueZero (Fails i ks) a b = absurd (model_clash i ks a.model b.1)
  verdict-one ValueZero ValueZero a b = refl

-- ---- what is refuted is no consequence

module _ (p : ℕ) (target : List ℕ) (fs : List Form) (t : Raw) (g : Poly) where
  top_within : IsRaw p (length target) t → IsShaped target p t → sum t.top ≤ sum target
  top_within is right = le_sum t.top target is.top (middle (nat_lt 0 (sum t.top)) (type_le t.top target) _ right.top)
    where
      middle : (a b c : Bool) → (a && (b && c)) ≡ true → b ≡ true
      middle a b c h = grind arith

  -- over a prime above the degree of the target, of no identities that the forms stand for
  pub refuted-text : IsPrime p → sum target < p → IsRaw p (length target) t → IsTableVerdict p target fs t g Refuted → RefutesText p fs g
  refuted-text prime large is v ids homogeneous alike c =
      let right : IsShaped target p t = shaped target p t v.0.shape in
      v.1 (alike_vector (text_zero p target t is right ids g
      (all_satisfied p target t is right prime (omega (arith, large, top_within is right)) fs ids v.0.zero homogeneous alike) c))

  -- of the forms themselves, over any `p`
  pub refuted-consequence : AreMultilinear fs → IsRaw p (length target) t → IsTableVerdict p target fs t g Refuted → IsConsequence p fs g → ⊥
  refuted-consequence multilinear is v c =
      v.1 (alike_vector (value_zero p target t is (shaped target p t v.0.shape) fs g multilinear v.0.zero c))

-- ---- what is refuted is accepted

pub refuted-accepted : (p : ℕ) (target : List ℕ) (fs : List Form) (t : Raw) (g : Poly) (r : Result Counter TableError) →
    IsTableVerdict p target fs t g Refuted → TableAnswers p target fs t g r → IsTableAccepted r
refuted-accepted p target fs t g (Ok c) v a = tt
refuted-accepted p target fs t g (Err (errors.BadShape r)) v a = absurd (shape_clash p target fs t g r v.0.shape a)
refuted-accepted p target fs t g (Err (errors.Fails i ks)) v a = absurd (model_clash p target fs t g i ks.items v.0 a.1)
refuted-accepted p target fs t g (Err errors.ValueZero) v a = absurd (v.1 a.zero)
refuted-accepted p target fs t g (Err errors.NoMemory) v a = tt
