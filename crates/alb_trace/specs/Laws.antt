-- Laws that functions of `laws` state.
use Rattle.std.specs.Prelude.{◌≡◌, ◌<◌, ◌^◌, List, length, None}
use Rattle.alb_poly.specs.Poly.{Poly}
use Rattle.alb_poly.specs.Instance.{Form}
use Rattle.alb_table.specs.RightTable.{RulesView, IsRightFor}
use Rattle.alb_table.specs.Table.{Table}
use Rattle.alb_query.specs.Answer.{Answer, IsAnswer}
use Rattle.alb_deriv.specs.Derivation.{claim_fault}
use Rattle.alb_check.specs.Verdict.{IsTableVerdict}
use Rattle.alb_check.specs.Verdict.TableVerdict.{Refuted}
use Rattle.alb_trace.specs.Proof.{Shown, ByLines, ByTable, ByNothing, Shows}

-- each answer to a question about a polynomial, by a right table of forms that can be numbered, is shown by something
abbrev pub EachIsShown : Type 0
EachIsShown = (r : RulesView) (t : Table) (g : Poly) (a : Answer) → IsRightFor r t → length r.forms < 10 ^ 18 → IsAnswer t.p r.forms t.target t.degree g a
    → (s : Shown) × Shows r.forms t g a s

-- the judges of evidence accept what is shown
abbrev pub IsAcceptedFor : List Form → Table → Poly → Shown → Type 0
IsAcceptedFor fs t g (ByLines ls) = claim_fault t.p t.target fs g ls ≡ None
IsAcceptedFor fs t g (ByTable r) = IsTableVerdict t.p t.target fs r g Refuted
IsAcceptedFor fs t g ByNothing = Unit {0}

-- what shows an answer is accepted as evidence
abbrev pub ShownIsAccepted : Type 0
ShownIsAccepted = (fs : List Form) (t : Table) (g : Poly) (a : Answer) (s : Shown) → 0 < t.p → Shows fs t g a s → IsAcceptedFor fs t g s
