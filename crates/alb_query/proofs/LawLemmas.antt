-- Each polynomial has an answer at each right table.
use Rattle.std.proofs.Common.{◌≡◌, ℕ, ◌<◌, ◌≤◌, List, length, [], ◌∷◌, refl, ◌∙◌, subst, arith, inl, inr}
use Rattle.std.specs.Prelude.{Option, Some, None, All, IsTrue}
use Rattle.std.proofs.lemmas.Bool.{cases_lt}
use Rattle.alb_mono.specs.Listing.{Each}
use Rattle.alb_mono.specs.Tree.{Tree, are_below}
use Rattle.alb_poly.specs.Consequence.{IsConsequence, AreMultilinear}
use Rattle.alb_poly.specs.Instance.{Form}
use Rattle.alb_poly.specs.Poly.{normal, Poly, IsSamePoly, greatest_degree}
use Rattle.alb_poly.proofs.NormalLemmas.{normal-each, normal-same, normal-residues, same-normal}
use Rattle.gf_field.proofs.Mod.{back}
use Rattle.alb_table.specs.Laws.{Decides}
use Rattle.alb_table.specs.Right.{AreHigh, IsWithinDegree, IsBasisTo, poly_value}
use Rattle.alb_table.specs.RightTable.{IsRightTable, basis_monos, mono_entry}
use Rattle.alb_table.specs.Table.{Table, IsTable}
use Rattle.alb_table.proofs.GeneratorLemmas.{above_one}
use Rattle.alb_table.proofs.LawLemmas.{monomial-values-decide}
use Rattle.alb_table.proofs.Right.{right-table}
use Rattle.alb_table.proofs.Values.{poly-value-basis}
use Rattle.alb_linear.proofs.LinearLemmas.{all_from_each}
use Rattle.alb_poly.proofs.Multilinear.{each-from}
use Rattle.alb_query.specs.Answer.{Answer, Zero, NotZero, NotBuilt, OutOfType, misfit, IsAnswer, IsOver}
use Rattle.alb_query.specs.Laws.{EachIsAnswered}
use Rattle.alb_query.proofs.ValueLemmas.{decided-form}
use Rattle.alb_query.proofs.AnswerLemmas.{all-within, misfit-known, not-built, zero-answer, not-zero-answer}

-- zero in normal form
normal-nothing : (p : ℕ) → normal p [] ≡ []
unfolding normal
normal-nothing p = refl

module _ (fs : List Form) (t : Table) (g : Poly) (multi : AreMultilinear fs) (high : AreHigh fs) (tab : IsTable t) (right : IsRightTable fs t) where
  -- an answer, over the generators of the table where the polynomial is
  abbrev Answered : Type 0
  Answered = (a : Answer) × IsAnswer t.p fs t.target t.degree g a × (All (λ s. IsTrue (are_below (length t.target) s.1)) g → IsOver t.p (length t.target) a)

  -- the value of the polynomial
  abbrev value : Poly
  value = poly_value (mono_entry t.parts) g

  pos : 0 < t.p
  pos = omega (arith, above_one t tab)

  -- what the value in the table answers
  by-value : misfit t.target g ≡ None → greatest_degree g ≤ t.degree → Decides t.p fs g value →
      Each (λ s. IsBasisTo t.p fs t.target t.degree s.1) value → (f : Poly) → normal t.p value ≡ f → Answered
  by-value m h d b [] e =
      (Zero, zero-answer t.p fs t.target t.degree g m h (d.zero.0 (λ x. back (subst (λ f. IsSamePoly t.p f value) e (normal-same t.p value) x))), λ known. tt)
  by-value m h d b (s ∷ f) e = (
    NotZero (normal t.p value),
    not-zero-answer t.p fs t.target t.degree g m h not-zero (normal t.p value) (decided-form t.p fs g value pos d),
    λ known. (normal-residues t.p value pos, letters),
  )
    where
      not-zero : IsConsequence t.p fs g → ⊥
      not-zero c =
          let z : normal t.p value ≡ [] = same-normal t.p value [] pos (d.zero.1 c) ∙ normal-nothing t.p in
          absurd (cc)

      letters : All (λ s. IsTrue (are_below (length t.target) s.1)) (normal t.p value)
      letters = all_from_each (λ s. IsTrue (are_below (length t.target) s.1)) (normal t.p value)
          (normal-each (λ x. IsTrue (are_below (length t.target) x)) t.p value (each-from _ _ value (λ s k. k.within.below) b))

  -- where the types fit, by the degree
  by-degree : misfit t.target g ≡ None → Answered
  by-degree m = elim (cases_lt t.degree (greatest_degree g)) [
    | inl l ↦ (NotBuilt (greatest_degree g), not-built t.p fs t.target t.degree g m (greatest_degree g) refl l, λ known. tt)
    | inr l ↦ (
        let w : Each (λ s. IsWithinDegree t.target t.degree s.1) g = all-within t.target t.degree g m l in
        let over = right-table t.p pos fs multi high t.target t.degree (basis_monos t.parts) (mono_entry t.parts) right.right in
        by-value m l (monomial-values-decide t.p fs t.target t.degree (basis_monos t.parts) (mono_entry t.parts) g pos multi high right.right w)
        (poly-value-basis t.p pos fs (IsWithinDegree t.target t.degree) (IsBasisTo t.p fs t.target t.degree) (mono_entry t.parts) over g w) (normal t.p value) refl)
  ]

  answered : Answered
  answered = by_type (misfit t.target g) refl
    where
      by_type : (o : Option Tree) → misfit t.target g ≡ o → Answered
      by_type (Some m) e = (OutOfType m, rw e refl, λ known. misfit-known (length t.target) t.target g m e known)
      by_type None e = by-degree e

-- THE LAW
pub each-is-answered : EachIsAnswered
each-is-answered r t g h = answered r.forms t g h.multilinear h.high h.table h.right
