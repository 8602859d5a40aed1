-- Coefficients of combinations, and the greatest index.
use Rattle.std.proofs.Common.{◌≡◌, ℕ, ◌+◌, ◌*◌, ◌%◌, Bool, true, false, List, [], ◌∷◌, ◌++◌, sym, refl, ap, ◌∙◌, subst, arith, inl, inr, ◌⊎◌}
use Rattle.std.specs.Bool.{if◌then◌else◌}
use Rattle.std.specs.List.{filter}
use Rattle.std.specs.Cmp.{IsTotalOrder}
use Rattle.std.specs.declared.cmp.Ordering.{Ordering}
use Rattle.std.specs.declared.cmp.Ordering.TheVariants.{Less, Equal, Greater}
use Rattle.std.specs.Ordering.{ordering_reverse}
use Rattle.std.proofs.lemmas.Cmp.{tied_itself}
use Rattle.std.proofs.lemmas.Bool.{cases_Bool, cases_eq, false≢true}
use Rattle.gf_field.specs.Modular.{IsSameMod}
use Rattle.gf_sums.specs.Sums.{Comb, coefficient, scale, TellsApart}
use Rattle.gf_sums.proofs.Totals.{weigh-append, weigh-scale, coefficient-weigh}
use Rattle.alb_mono.specs.Listing.{Each}
use Rattle.alb_poly.proofs.Multilinear.{each-from}

-- a number is zero modulo `p`, or not
pub zero_or : (p a : ℕ) → IsSameMod p a 0 ⊎ (IsSameMod p a 0 → ⊥)
zero_or p a = elim (cases_eq (a % p) (0 % p)) [ inl e ↦ inl (record { same = e }) | inr n ↦ inr (λ h. n h.same) ]

-- the terms whose index passes a test
abbrev pub keep : {I : Type 0} → (I → Bool) → Comb I → Comb I
keep q f = filter (λ t. q t.1) f

pub each-filter : {X : Type 0} (P : X → Type 0) (q : X → Bool) (xs : List X) → Each P xs → Each P (filter q xs)
each-filter P q [] a = tt
each-filter P q (x ∷ xs) a = elim (cases_Bool (q x)) [
  | inl e ↦ rw e (a.0, each-filter P q xs a.1)
  | inr e ↦ rw e (each-filter P q xs a.1)
]

pub filter-each : {X : Type 0} (q : X → Bool) (xs : List X) → Each (λ x. q x ≡ true) (filter q xs)
filter-each q [] = tt
filter-each q (x ∷ xs) = elim (cases_Bool (q x)) [
  | inl e ↦ rw e (e, filter-each q xs)
  | inr e ↦ rw e (filter-each q xs)
]

module _ {I : Type 0} (same : I → I → Bool) (tells : TellsApart same) where
  pub coefficient-append : (f g : Comb I) (i : I) → coefficient same (f ++ g) i ≡ coefficient same f i + coefficient same g i
  coefficient-append f g i =
      coefficient-weigh same tells (f ++ g) i ∙ weigh-append _ f g
      ∙ sym (rw (coefficient-weigh same tells f i, coefficient-weigh same tells g i))

  pub coefficient-scale : (c : ℕ) (f : Comb I) (i : I) → coefficient same (scale c f) i ≡ c * coefficient same f i
  coefficient-scale c f i =
      coefficient-weigh same tells (scale c f) i ∙ weigh-scale _ c f ∙ ap (λ n. c * n) (sym (coefficient-weigh same tells f i))

  pub coefficient-kept : (q : I → Bool) (f : Comb I) (i : I) → q i ≡ true → coefficient same (keep q f) i ≡ coefficient same f i
  coefficient-kept q [] i h = refl
  coefficient-kept q (t ∷ f) i h = elim (cases_Bool (q t.1)) [
    | inl e ↦ rw e (ap (λ n. (if same t.1 i then t.0 else 0) + n) (coefficient-kept q f i h))
    | inr e ↦ elim (cases_Bool (same t.1 i)) [
      | inl s ↦ absurd (false≢true (sym e ∙ ap q (tells.sound t.1 i s) ∙ h))
      | inr s ↦ rw (e, s) (omega (arith, coefficient-kept q f i h))
    ]
  ]

  -- what holds of each term holds of an index, or it has no coefficient
  pub each-coefficient : (P : I → Type 0) (f : Comb I) (i : I) → Each (λ t. P t.1) f → P i ⊎ (coefficient same f i ≡ 0)
  each-coefficient P [] i a = inr refl
  each-coefficient P (t ∷ f) i a = elim (cases_Bool (same t.1 i)) [
    | inl s ↦ inl (subst P (tells.sound t.1 i s) a.0)
    | inr s ↦ elim (each-coefficient P f i a.1) [
      | inl h ↦ inl h
      | inr e ↦ inr (rw s (omega (arith, e)))
    ]
  ]

-- the greatest index that passes a test
pub record Top {I : Type 0} (order : I → I → Ordering) (q : I → Bool) (f : Comb I) : Type 0 where
  pub top : I
  pub passes : q top ≡ true
  pub greatest : Each (λ t. q t.1 ≡ true → order t.1 top ≡ Greater → ⊥) f

pub order_cases : (o : Ordering) → (o ≡ Greater) ⊎ (o ≡ Greater → ⊥)
order_cases Less = inr (λ e. cc)
order_cases Equal = inr (λ e. cc)
order_cases Greater = inl refl

pub less-turned : {K : Type 0} {R : K → K → Ordering} → IsTotalOrder R → (x y : K) → R x y ≡ Greater → R y x ≡ Less
less-turned laws x y h = laws.antisymm y x ∙ ap ordering_reverse h

pub greater-turned : {K : Type 0} {R : K → K → Ordering} → IsTotalOrder R → (x y : K) → R x y ≡ Less → R y x ≡ Greater
greater-turned laws x y h = laws.antisymm y x ∙ ap ordering_reverse h

pub greater-joined : {K : Type 0} {R : K → K → Ordering} → IsTotalOrder R → (x y z : K) → R x y ≡ Greater → R y z ≡ Greater → R x z ≡ Greater
greater-joined laws x y z h k = greater-turned laws z x (laws.trans z y x (less-turned laws y z k) (less-turned laws x y h))

module _ {I : Type 0} (order : I → I → Ordering) (laws : IsTotalOrder order) (q : I → Bool) where
  -- no index passes, or there is a greatest one
  pub top-found : (f : Comb I) → Each (λ t. q t.1 ≡ false) f ⊎ Top order q f
  top-found [] = inl tt
  top-found (t ∷ f) = elim (cases_Bool (q t.1)) [
    | inr n ↦ (elim (top-found f) [
      | inl a ↦ inl (n, a)
      | inr m ↦ inr (record { top = m.top; passes = m.passes; greatest = (λ h g. false≢true (sym n ∙ h), m.greatest) })
    ])
    | inl y ↦ (elim (top-found f) [
      | inl a ↦ inr (record {
        top = t.1;
        passes = y;
        greatest =
            (λ h g. absurd (let e : order t.1 t.1 ≡ Equal = tied_itself laws t.1 in cc), each-from _ _ f (λ s n h g. false≢true (sym n ∙ h)) a);
      })
      | inr m ↦ (elim (order_cases (order t.1 m.top)) [
        | inr l ↦ inr (record { top = m.top; passes = m.passes; greatest = (λ h g. l g, m.greatest) })
        | inl g ↦ inr (record {
          top = t.1;
          passes = y;
          greatest = (
            λ h k. absurd (let e : order t.1 t.1 ≡ Equal = tied_itself laws t.1 in cc),
            each-from _ _ f (λ s n h k. n h (greater-joined laws s.1 t.1 m.top k g)) m.greatest,
          );
        })
      ])
    ])
  ]
