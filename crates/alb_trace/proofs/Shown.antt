-- Each answer is shown by something.
use Rattle.std.proofs.Common.{◌≡◌, ℕ, ◌<◌, ◌≤◌, ◌^◌, Bool, true, false, List, length, Option, Some, None, refl, sym, subst, arith, inl, inr, nat_lt}
use Rattle.std.proofs.lemmas.Bool.Decides.{nat_tests}
use Rattle.gf_field.proofs.Mod.{◌⊙◌}
use Rattle.gf_field.proofs.Table.{IsPrime-from_table}
use Rattle.alb_mono.specs.Listing.{Each}
use Rattle.alb_mono.specs.Tree.{Tree}
use Rattle.alb_poly.specs.Poly.{Poly, greatest_degree}
use Rattle.alb_poly.specs.Instance.{Form, IsAtMost}
use Rattle.alb_poly.specs.Consequence.{IsConsequence, AreMultilinear}
use Rattle.alb_poly.proofs.AtMost.{IsWithin-terms}
use Rattle.alb_poly.proofs.Consequence.{poly_alike}
use Rattle.alb_mono.proofs.Leaves.{below_from_test}
use Rattle.alb_poly.proofs.Multilinear.{each-from}
use Rattle.gf_sums.proofs.Alike.{Alike, turned}
use Rattle.alb_deriv.proofs.Judged.{derivation-no_fault}
use Rattle.alb_deriv.proofs.Bounded.{limited-derivation}
use Rattle.alb_check.specs.SubTable.{sub_table, IsFirstType}
use Rattle.alb_check.proofs.FirstPart.{sub-found}
use Rattle.alb_check.proofs.FitLemmas.{shaped-fit}
use Rattle.alb_check.proofs.SubRefutes.{sub-refutes}
use Rattle.alb_check.proofs.SubShape.{sub-raw}
use Rattle.alb_table.specs.Right.{IsZeroAt, AreHigh, IsTypeTo, IsWithinDegree, IsBasisTo, poly_value}
use Rattle.alb_table.specs.RightTable.{IsRightTable, basis_monos, mono_entry}
use Rattle.alb_table.specs.Table.{Table, IsTable}
use Rattle.alb_table.proofs.Congruent.{congruent-joined, congruent-turned}
use Rattle.alb_table.proofs.Right.{right-table}
use Rattle.alb_table.proofs.Bases as bases
use Rattle.alb_table.proofs.Values.{normal-unique, poly-value-basis, poly-value-congruent, value-consequence}
use Rattle.alb_query.specs.Answer.{Answer, Zero, NotZero, NotBuilt, OutOfType, misfit, IsNormalForm, AnswersUnless, AnswersFitting, AnswersWithin}
use Rattle.alb_query.proofs.AnswerLemmas.{all-within}
use Rattle.alb_trace.specs.Laws.{EachIsShown, ShownIsAccepted}
use Rattle.alb_trace.specs.Proof.{Shown, ByLines, ByTable, ByNothing, Shows, IsCounterTable}

-- the first type of equal polynomials
first-alike : (p : ℕ) (top : List ℕ) (f g : Poly) → Alike p f g → IsFirstType p top f → IsFirstType p top g
first-alike p top f g a h = record {
  monomial = h.monomial;
  type = h.type;
  nonzero = λ z. h.nonzero (zero-alike f g a h.monomial z);
  first = λ x n l. h.first x (λ z. n (zero-alike g f (turned a) x z)) l;
}
  where
    zero-alike : (f g : Poly) → Alike p f g → (x : Tree) → IsZeroAt p g x → IsZeroAt p f x
    zero-alike f g a x z = poly_alike a x ⊙ z

module _ (fs : List Form) (t : Table) (multi : AreMultilinear fs) (high : AreHigh fs) (tab : IsTable t) (right : IsRightTable fs t) where
  pub pos : 0 < t.p
  pos = let b = (IsPrime-from_table t.p tab.field).above_one in omega arith

  pub table : bases.IsTable t.p fs (IsWithinDegree t.target t.degree) (IsBasisTo t.p fs t.target t.degree) (mono_entry t.parts)
  table = right-table t.p pos fs multi high t.target t.degree (basis_monos t.parts) (mono_entry t.parts) right.right

  -- the normal form is the value by the entries
  pub value-normal_form : (g f : Poly) → Each (λ s. IsWithinDegree t.target t.degree s.1) g → IsNormalForm t.p fs g f → Alike t.p (poly_value (mono_entry t.parts) g) f
  value-normal_form g f within is =
      normal-unique t.p pos fs multi (poly_value (mono_entry t.parts) g) f
      (each-from _ _ (poly_value (mono_entry t.parts) g) (λ s k. k.normal)
      (poly-value-basis t.p pos fs (IsWithinDegree t.target t.degree) (IsBasisTo t.p fs t.target t.degree) (mono_entry t.parts) table g within))
      is.normal
      (congruent-joined t.p fs pos
      (congruent-turned t.p fs pos (poly-value-congruent t.p pos fs (IsWithinDegree t.target t.degree) (IsBasisTo t.p fs t.target t.degree) (mono_entry t.parts) table g within))
      is.congruent)

  -- the table up to the first type of the normal form is a counterexample
  pub counter-table : (g f : Poly) (top : List ℕ) → Each (λ s. IsWithinDegree t.target t.degree s.1) g → IsNormalForm t.p fs g f → IsTypeTo t.target t.degree top → IsFirstType t.p top f
      → IsCounterTable fs t g f (sub_table t top)
  counter-table g f top within is ty first =
      let raw = sub-raw t top tab ty.counts in
      let refutes = sub-refutes fs t g top multi high tab right.right within ty (first-alike t.p top f (poly_value (mono_entry t.parts) g) (turned (value-normal_form g f within is)) first) in
      record {
        top = top;
        type = ty;
        first = first;
        is = refl;
        over = raw;
        fit = shaped-fit t.p t.target (sub_table t top) tab.goal.small raw refutes.0.shape;
        refutes = refutes;
      }

  counter-found : (g f : Poly) → Each (λ s. IsWithinDegree t.target t.degree s.1) g → (IsConsequence t.p fs g → ⊥) → IsNormalForm t.p fs g f → (s : Shown) × Shows fs t g (NotZero f) s
  counter-found g f within none is =
      elim (sub-found t.p pos fs t.target t.degree (mono_entry t.parts) table g within) [
        | inl z ↦ absurd (none (value-consequence t.p pos fs multi (IsWithinDegree t.target t.degree) (mono_entry t.parts) table g within z))
        | inr m ↦ (
          ByTable (sub_table t m.0),
          counter-table g f m.0 within is m.1 (first-alike t.p m.0 (poly_value (mono_entry t.parts) g) f (value-normal_form g f within is) m.2),
        )
      ]

  -- within the target a consequence has a derivation
  derivation-found : length fs < 10 ^ 18 → (g : Poly) → Each (λ s. IsWithinDegree t.target t.degree s.1) g → IsConsequence t.p fs g → (s : Shown) × Shows fs t g Zero s
  derivation-found few g within c =
      let m : Each (λ s. IsAtMost t.target s.1) g = each-from (λ s. IsWithinDegree t.target t.degree s.1) (λ s. IsAtMost t.target s.1) g
      (λ s k. record { below = below_from_test (length t.target) s.1 k.below; counts = k.type }) within in
      let d = limited-derivation t.p (IsPrime-from_table t.p tab.field) t.target fs multi tab.goal.small few g (IsWithin-terms t.p t.target g pos m) c in
      (ByLines d.lines, d.are)

  shown-within : length fs < 10 ^ 18 → (g : Poly) (a : Answer) → Each (λ s. IsWithinDegree t.target t.degree s.1) g → AnswersWithin t.p fs g a → (s : Shown) × Shows fs t g a s
  shown-within few g Zero within is = derivation-found few g within is
  shown-within few g (NotZero f) within is = counter-found g f within is.0 is.1
  shown-within few g (NotBuilt n) within is = absurd is
  shown-within few g (OutOfType m) within is = absurd is

  shown-fitting : length fs < 10 ^ 18 → (g : Poly) (a : Answer) (above : Bool) → misfit t.target g ≡ None → nat_lt t.degree (greatest_degree g) ≡ above → AnswersFitting above t.p fs g a → (s : Shown) × Shows fs t g a s
  shown-fitting few g a true fit e is = (ByNothing, subst (λ b. Shows fs t g b ByNothing) (sym is) tt)
  shown-fitting few g a false fit e is = let l : greatest_degree g ≤ t.degree = grind (arith, nat_tests) in shown-within few g a (all-within t.target t.degree g fit l) is

  shown-unless : length fs < 10 ^ 18 → (g : Poly) (a : Answer) (o : Option Tree) → misfit t.target g ≡ o → AnswersUnless o t.p fs t.degree g a → (s : Shown) × Shows fs t g a s
  shown-unless few g a None fit is = shown-fitting few g a (nat_lt t.degree (greatest_degree g)) fit refl is
  shown-unless few g a (Some m) fit is = (ByNothing, subst (λ b. Shows fs t g b ByNothing) (sym is) tt)

-- EACH ANSWER IS SHOWN
pub each-is-shown : EachIsShown
each-is-shown r t g a h few is = shown-unless r.forms t h.multilinear h.high h.table h.right few g a (misfit t.target g) refl is

-- ---- what is shown is accepted

pub shown-accepted : ShownIsAccepted
shown-accepted fs t g Zero (ByLines ls) above h = derivation-no_fault t.p t.target fs g ls above h.derives
shown-accepted fs t g (NotZero f) (ByTable r) _ h = h.refutes
shown-accepted fs t g (NotBuilt n) ByNothing _ h = tt
shown-accepted fs t g (OutOfType m) ByNothing _ h = tt
shown-accepted fs t g a s _ h = absurd h
