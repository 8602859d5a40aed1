-- What the calls are asked, as the trace needs it.
use Rattle.std.proofs.Common.{◌≡◌, ℕ, ◌+◌, ◌<◌, ◌≤◌, List, [], length, sum, sym, refl, ◌∙◌, arith, Bool, true, false, nat_lt}
use Rattle.std.specs.Prelude.{Option, None, Some}
use Rattle.std.proofs.lemmas.Bool.Decides.{nat_tests}
use Rattle.gf_sums.proofs.Alike.{Alike}
use Rattle.alb_mono.specs.Listing.{Each}
use Rattle.alb_mono.specs.Tree.{Tree}
use Rattle.alb_mono.proofs.TypeLemmas.{length-type_plus}
use Rattle.alb_poly.specs.Consequence.{IsConsequence}
use Rattle.alb_poly.specs.Instance.{Form}
use Rattle.alb_poly.specs.Poly.{Poly, greatest_degree}
use Rattle.alb_deriv.specs.Derivation.{Line}
use Rattle.alb_deriv.specs.Short.{IsSumOf}
use Rattle.alb_table.specs.Block.{spread}
use Rattle.alb_table.specs.Table.{elems, type_at, Table, IsTable, CoversType}
use Rattle.alb_table.specs.Right.{poly_value, IsWithinDegree}
use Rattle.alb_table.specs.RightTable.{RulesView, IsRightFor, basis_monos, mono_entry}
use Rattle.alb_table.proofs.PartLemmas.{sum-plus}
use Rattle.alb_table.proofs.Right.{consequence-zero_value}
use Rattle.alb_table.proofs.TableLemmas.{type_shape}
use Rattle.alb_query.specs.Answer.{Zero, NotBuilt, OutOfType, misfit, IsAnswer, AnswersUnless, AnswersFitting}
use Rattle.alb_query.proofs.AnswerLemmas.{all-within}
use Rattle.alb_trace.specs.Origins.{product_type}
use Rattle.alb_trace.specs.Recipes.{IsProduct}
use Rattle.alb_trace.specs.Trace.{mono_less}
use Rattle.alb_trace.proofs.TableSums.{zero_value-sum}
use Rattle.alb_trace.proofs.ValueRows.{pos}

-- two basis elements whose product has a type of the table
pub product-of : (t : Table) (b c : ℕ) → IsTable t → b < length (elems t.parts) → c < length (elems t.parts) → CoversType t (product_type t (b, c)) → IsProduct t (b, c)
product-of t b c k hb hc covered =
    let x = type_shape t b k hb in
    let y = type_shape t c k hc in
    let s : sum (type_at t.parts b) + sum (type_at t.parts c) ≡ sum (product_type t (b, c)) = sum-plus (type_at t.parts b) (type_at t.parts c) (x.long ∙ sym y.long) in
    record {
      left = hb;
      right = hc;
      type = record { covered = covered; long = length-type_plus (type_at t.parts b) (type_at t.parts c) (x.long ∙ sym y.long) ∙ x.long; big = omega (arith, s, x.some, y.some) };
    }

-- ---- the answer zero

record IsZeroWithin (p : ℕ) (fs : List Form) (target : List ℕ) (d : ℕ) (g : Poly) : Type 0 where
  pub fits : misfit target g ≡ None
  pub low : greatest_degree g ≤ d
  pub consequence : IsConsequence p fs g

zero-within : (p : ℕ) (fs : List Form) (target : List ℕ) (d : ℕ) (g : Poly) → IsAnswer p fs target d g Zero → IsZeroWithin p fs target d g
zero-within p fs target d g a = at-misfit (misfit target g) refl a
  where
    at-degree : misfit target g ≡ None → (b : Bool) → nat_lt d (greatest_degree g) ≡ b → AnswersFitting b p fs g Zero → IsZeroWithin p fs target d g
    at-degree m true e a = let x : Zero ≡ NotBuilt (greatest_degree g) = a in absurd (cc)
    at-degree m false e a = record { fits = m; low = grind (arith, nat_tests); consequence = a }

    at-misfit : (o : Option Tree) → misfit target g ≡ o → AnswersUnless o p fs d g Zero → IsZeroWithin p fs target d g
    at-misfit None e a = at-degree e (nat_lt d (greatest_degree g)) refl a
    at-misfit (Some m) e a = let x : Zero ≡ OutOfType m = a in absurd (cc)

pub answered-within : (p : ℕ) (fs : List Form) (target : List ℕ) (d : ℕ) (g : Poly) → IsAnswer p fs target d g Zero → Each (λ s. IsWithinDegree target d s.1) g
answered-within p fs target d g a = let z = zero-within p fs target d g a in all-within target d g z.fits z.low

-- what has the answer zero is the sum of its monomials less their values
pub answered-sum : (given : RulesView) (t : Table) → IsRightFor given t → (g : Poly) → IsAnswer t.p given.forms t.target t.degree g Zero → (ls : List Line) (cs : List (ℕ × ℕ)) → IsSumOf t.p given.forms ls cs (spread (mono_less t) g) →
    IsSumOf t.p given.forms ls cs g
unfolding mono_less
answered-sum given t r g a ls cs s =
    let z = zero-within t.p given.forms t.target t.degree g a in
    let v : Alike t.p (poly_value (mono_entry t.parts) g) [] =
    consequence-zero_value t.p (pos given t r) given.forms r.multilinear r.high t.target t.degree (basis_monos t.parts) (mono_entry t.parts) r.right.right g (answered-within t.p given.forms t.target t.degree g a) z.consequence in
    zero_value-sum t.p (pos given t r) given.forms (mono_entry t.parts) ls g cs s v
