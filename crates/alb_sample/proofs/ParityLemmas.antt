-- Even numbers are answered zero and odd ones not zero.
use Rattle.std.proofs.Common.{◌≡◌, ℕ, ◌+◌, ◌<◌, ◌≤◌, ◌%◌, true, false, Bool, List, [], ◌∷◌, length, nat_lt, sym, refl, ap, subst, arith, inl, inr}
use Rattle.std.specs.Prelude.{Option, Some, None, IfSome, ◌&&◌, ◌==◌}
use Rattle.std.proofs.lemmas.Bool.{cases_Bool, cases_lt}
use Rattle.std.proofs.lemmas.Bool.Decides.{nat_tests}
use Rattle.gf_sums.proofs.Alike.{turned}
use Rattle.alb_mono.specs.Listing.{Each}
use Rattle.alb_mono.specs.Tree.{Tree}
use Rattle.alb_mono.proofs.ListingLemmas.{each-append, each-weaker}
use Rattle.alb_poly.specs.Consequence.{IsConsequence}
use Rattle.alb_poly.specs.Poly.{Poly, greatest_degree}
use Rattle.alb_poly.proofs.Consequence.{poly_alike, consequence-same, consequence-append, consequence-zero}
use Rattle.alb_poly.proofs.NormalLemmas.{normal-each, normal-alike, degree-each}
use Rattle.alb_query.specs.Answer.{Answer, Zero, NotZero, NotBuilt, OutOfType, fits_target, misfit, AnswersWithin}
use Rattle.alb_query.proofs.LawLemmas.{each-is-answered}
use Rattle.alb_rows.specs.Row.{Cells}
use Rattle.alb_table.specs.Laws.{HasValue, DecidesByRow}
use Rattle.alb_table.specs.Table.{elems, first_of, dim_of, Table}
use Rattle.alb_table.specs.Right.{IsWithinDegree}
use Rattle.alb_table.specs.RightTable.{IsRightFor}
use Rattle.alb_table.proofs.RangeLemmas.{range_within}
use Rattle.alb_table.proofs.RightTables.{number-basis}
use Rattle.alb_table.proofs.TableValues.{values-decide}
use Rattle.alb_sample.specs.Choice.{choice_at, consequence, chosen_type, IsChoice}
use Rattle.alb_sample.specs.Draws.{drawn, state_after}
use Rattle.alb_sample.specs.Laws.{AnswersByParity, ParityDecides}
use Rattle.alb_sample.specs.Problem.{sample_forms, sample_view}
use Rattle.alb_sample.specs.Sample.{gets_element, element_at, element_poly, with_element, polynomial}
use Rattle.alb_sample.specs.Tally.{IsSampleAnswer, is_not_zero, kind_of, HasKind}
use Rattle.alb_sample.specs.declared.choice.Choice.{Choice}
use Rattle.alb_sample.specs.declared.tally.Kind.TheVariants as kinds
use Rattle.alb_sample.proofs.ChoiceLemmas.{consequence-made}
use Rattle.alb_sample.proofs.ConsequenceLemmas.{chosen-consequence, no-monomial, no-consequence}
use Rattle.alb_sample.proofs.ElementLemmas.{made-within, some-element}

-- ---- draws

pub drawn-below : (k s : ℕ) → 0 < k → drawn k s < k
unfolding drawn
drawn-below k s h = omega arith

pub choice-is : (s : ℕ) → IsChoice (choice_at s)
unfolding choice_at
choice-is s = record {
  identity = drawn-below 2 s (omega arith);
  first = drawn-below 3 (state_after 1 s) (omega arith);
  second = drawn-below 3 (state_after 2 s) (omega arith);
  third = drawn-below 3 (state_after 3 s) (omega arith);
  generator = omega arith;
}

-- the basis element of a table, where there is one
pub element-below : (t : Table) (k : ℕ) (w : List ℕ) (s : ℕ) → IfSome (element_at t k w s) (λ b. b < length (elems t.parts))
unfolding element_at
element-below t k w s = elim (cases_Bool (gets_element t k w)) [
  | inl e ↦ rw e (below (gets_element t k w) e)
  | inr e ↦ rw e tt
]
  where
    below : (b : Bool) → gets_element t k w ≡ true → first_of t.parts w + drawn (dim_of t.parts w) s < length (elems t.parts)
    below b e =
        let q : nat_lt 0 (dim_of t.parts w) ≡ true = second (k % 2 == 1) _ e in
        let p : 0 < dim_of t.parts w = grind (arith, nat_tests) in
        omega (arith, range_within t.parts w, drawn-below (dim_of t.parts w) s p)
      where
        second : (a b : Bool) → a && b ≡ true → b ≡ true
        second true b h = h
        second false b h = absurd (cc)

pub even-none : (t : Table) (k : ℕ) (w : List ℕ) (s : ℕ) → k % 2 ≡ 0 → element_at t k w s ≡ None
unfolding element_at
even-none t k w s e = rw e refl

pub odd-some : (t : Table) (k : ℕ) (w : List ℕ) (s : ℕ) → k % 2 ≡ 1 → 0 < dim_of t.parts w →
    element_at t k w s ≡ Some (first_of t.parts w + drawn (dim_of t.parts w) s)
unfolding element_at
odd-some t k w s e h =
    let q : nat_lt 0 (dim_of t.parts w) ≡ true = grind (arith, nat_tests) in rw (e, q) refl

-- ---- answers within a table

fits-within : (target : List ℕ) (d : ℕ) (g : Poly) → Each (λ s. IsWithinDegree target d s.1) g → misfit target g ≡ None
fits-within target d [] a = refl
fits-within target d (s ∷ g) a =
    let below = a.0.below in
    let type = a.0.type in
    let f : fits_target target s.1 ≡ true = rw (below, type) refl in rw f (fits-within target d g a.1)

within-degree : (target : List ℕ) (d : ℕ) (g : Poly) → Each (λ s. IsWithinDegree target d s.1) g → greatest_degree g ≤ d
within-degree target d g a = degree-each d g (each-weaker _ _ g (λ s w. w.degree) a)

answer-within : (t : Table) (g : Poly) (a : Answer) → Each (λ s. IsWithinDegree t.target t.degree s.1) g → IsSampleAnswer t g a → AnswersWithin t.p sample_forms g a
answer-within t g a w h =
    let m : misfit t.target g ≡ None = fits-within t.target t.degree g w in
    let l : greatest_degree g ≤ t.degree = within-degree t.target t.degree g w in
    let n : nat_lt t.degree (greatest_degree g) ≡ false = grind (arith, nat_tests) in
    rw (m, n) at h

zero-of : (p : ℕ) (g : Poly) (a : Answer) → AnswersWithin p sample_forms g a → IsConsequence p sample_forms g → a ≡ Zero
zero-of p g Zero h c = refl
zero-of p g (NotZero f) h c = absurd (h.0 c)
zero-of p g (NotBuilt n) h c = absurd h
zero-of p g (OutOfType m) h c = absurd h

not-zero-of : (p : ℕ) (g : Poly) (a : Answer) → AnswersWithin p sample_forms g a → (IsConsequence p sample_forms g → ⊥) → is_not_zero a ≡ true
not-zero-of p g Zero h c = absurd (c h)
not-zero-of p g (NotZero f) h c = refl
not-zero-of p g (NotBuilt n) h c = absurd h
not-zero-of p g (OutOfType m) h c = absurd h

not-zero-kind : (a : Answer) → is_not_zero a ≡ true → kind_of a ≡ kinds.NotZero
not-zero-kind Zero e = absurd (cc)
not-zero-kind (NotZero f) e = refl
not-zero-kind (NotBuilt n) e = absurd (cc)
not-zero-kind (OutOfType m) e = absurd (cc)

-- ---- the polynomials

module _ (t : Table) (right : IsRightFor sample_view t) (big : 7 ≤ t.degree) where
  abbrev IsIn : Tree → Type 0
  IsIn m = IsWithinDegree t.target t.degree m

  element-within : (e : Option ℕ) → IfSome e (λ b. b < length (elems t.parts)) → Each (λ s. IsIn s.1) (element_poly t e)
  element-within None h = tt
  element-within (Some b) h = ((number-basis sample_forms t right.table right.right.right b h).within, tt)

  pub sum-within : (c : Choice) (e : Option ℕ) → IsChoice c → IfSome e (λ b. b < length (elems t.parts)) → Each (λ s. IsIn s.1) (with_element t c e)
  sum-within c e h l = each-append _ (consequence c) (element_poly t e)
      (each-weaker _ _ (consequence c) (λ s made. made-within t right c s.1 h big made) (consequence-made c h)) (element-within e l)

  pub polynomial-within : (k s : ℕ) → Each (λ u. IsIn u.1) (polynomial t k s)
  unfolding polynomial
  polynomial-within k s = normal-each IsIn 251 _
      (sum-within (choice_at s) (element_at t k (chosen_type (choice_at s)) (state_after 5 s)) (choice-is s) (element-below t k (chosen_type (choice_at s)) (state_after 5 s)))

  -- of the field with 251 elements
  in-table : (g : Poly) → IsConsequence 251 sample_forms g → IsConsequence t.p sample_forms g
  in-table g c = subst (λ p. IsConsequence p sample_forms g) (sym right.field) c

  out-table : (g : Poly) → IsConsequence t.p sample_forms g → IsConsequence 251 sample_forms g
  out-table g c = subst (λ p. IsConsequence p sample_forms g) right.field c

  even-consequence : (k s : ℕ) → k % 2 ≡ 0 → IsConsequence 251 sample_forms (polynomial t k s)
  unfolding polynomial
  even-consequence k s e =
      let c : Choice = choice_at s in
      let none : element_at t k (chosen_type c) (state_after 5 s) ≡ None = even-none t k (chosen_type c) (state_after 5 s) e in
      consequence-same 251 sample_forms (poly_alike (turned (normal-alike 251 _)))
      (subst (λ o. IsConsequence 251 sample_forms (with_element t c o)) (sym none)
      (consequence-append 251 sample_forms (chosen-consequence c (choice-is s)) (consequence-zero 251 sample_forms)))

  odd-none : (k s : ℕ) → k % 2 ≡ 1 → IsConsequence 251 sample_forms (polynomial t k s) → ⊥
  unfolding polynomial
  odd-none k s e h = elim (cases_lt 0 (dim_of t.parts (chosen_type (choice_at s)))) [
    | inl l ↦ (
        let c : Choice = choice_at s in
        let some = odd-some t k (chosen_type c) (state_after 5 s) e l in
        let g = consequence-same 251 sample_forms (poly_alike (normal-alike 251 _)) h in
        no-monomial _ (no-consequence (consequence c) _ (chosen-consequence c (choice-is s)) (subst (λ o. IsConsequence 251 sample_forms (with_element t c o)) some g)))
    | inr l ↦ some-element t right (choice_at s) (choice-is s) big (omega arith)
  ]

  -- the answers by parity
  pub by-parity : (k s : ℕ) (a : Answer) → IsSampleAnswer t (polynomial t k s) a → AnswersByParity t k s a
  by-parity k s a h =
      let w = answer-within t (polynomial t k s) a (polynomial-within k s) h in
      record {
        even = λ e. zero-of t.p (polynomial t k s) a w (in-table (polynomial t k s) (even-consequence k s e));
        odd = λ e. not-zero-of t.p (polynomial t k s) a w (λ c. odd-none k s e (out-table (polynomial t k s) c));
      }

  -- the kind of an answer by the row of the value
  module _ (k s : ℕ) (cells : Cells) (v : HasValue t (polynomial t k s) cells) where
    decides : DecidesByRow sample_view t (polynomial t k s) cells
    decides = values-decide sample_view t (polynomial t k s) cells right (polynomial-within k s) v

    pub zero-kind : cells ≡ [] → HasKind t (polynomial t k s) kinds.Zero
    zero-kind e =
        let a = each-is-answered sample_view t (polynomial t k s) right in
        let w = answer-within t (polynomial t k s) a.0 (polynomial-within k s) a.1 in
        record { answer = a.0; is = a.1; kind_is = ap kind_of (zero-of t.p (polynomial t k s) a.0 w (decides.empty.0 e)) }

    pub other-kind : (cells ≡ [] → ⊥) → HasKind t (polynomial t k s) kinds.NotZero
    other-kind n =
        let a = each-is-answered sample_view t (polynomial t k s) right in
        let w = answer-within t (polynomial t k s) a.0 (polynomial-within k s) a.1 in
        record { answer = a.0; is = a.1; kind_is = not-zero-kind a.0 (not-zero-of t.p (polynomial t k s) a.0 w (λ c. n (decides.empty.1 c))) }

pub parity-decides : ParityDecides
parity-decides t k s a right big h = by-parity t right big k s a h
