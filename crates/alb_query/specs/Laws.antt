-- Laws that functions of `laws` state.
use Rattle.std.specs.Prelude.{length, All, IsTrue}
use Rattle.alb_mono.specs.Tree.{are_below}
use Rattle.alb_poly.specs.Poly.{Poly}
use Rattle.alb_table.specs.RightTable.{RulesView, IsRightFor}
use Rattle.alb_table.specs.Table.{Table}
use Rattle.alb_query.specs.Answer.{Answer, IsAnswer, IsOver}

-- each polynomial has an answer at each right table, and over the generators of the table where the polynomial is
abbrev pub EachIsAnswered : Type 0
EachIsAnswered = (r : RulesView) (t : Table) (g : Poly) → IsRightFor r t
    → (a : Answer) × IsAnswer t.p r.forms t.target t.degree g a × (All (λ s. IsTrue (are_below (length t.target) s.1)) g → IsOver t.p (length t.target) a)
