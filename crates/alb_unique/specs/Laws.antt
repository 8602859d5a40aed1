-- Laws that functions of `laws` state.
use Rattle.std.specs.Prelude.{◌≡◌, ◌<◌, ◌≤◌, ℕ, List}
use Rattle.alb_poly.specs.Poly.{Poly}
use Rattle.alb_poly.specs.Instance.{Form}
use Rattle.alb_poly.specs.Consequence.{AreMultilinear}
use Rattle.alb_table.specs.End.{End, IsEnd}
use Rattle.alb_table.specs.Right.{AreHigh}
use Rattle.alb_table.specs.RightTable.{IsRightTable}
use Rattle.alb_table.specs.Table.{Table, IsTable}
use Rattle.alb_query.specs.Answer.{Answer, IsAnswer}
use Rattle.alb_answer.specs.Answers.{dimension_lines, product_lines}

-- two right tables for some forms, over one field and with one target
pub record AreRightFor (fs : List Form) (t u : Table) : Type 0 where
  pub multilinear : AreMultilinear fs
  pub high : AreHigh fs
  pub table : IsTable t
  pub other_table : IsTable u
  pub field : u.p ≡ t.p
  pub goal : u.target ≡ t.target
  pub right : IsRightTable fs t
  pub other_right : IsRightTable fs u

-- the building of the tables ends at one degree, and in one way
abbrev pub EndIsUnique : Type 0
EndIsUnique = (fs : List Form) (t u : Table) (e f : End) → AreRightFor fs t u → IsEnd fs t e → IsEnd fs u f → (t.degree ≡ u.degree) × (e ≡ f)

-- beyond the degree at which the building ends there is no right table
abbrev pub EndIsLast : Type 0
EndIsLast = (fs : List Form) (t u : Table) (e : End) → AreRightFor fs t u → IsEnd fs t e → u.degree ≤ t.degree

-- a question about a polynomial has one answer
abbrev pub AnswerIsUnique : Type 0
AnswerIsUnique = (p : ℕ) (fs : List Form) (target : List ℕ) (d : ℕ) (g : Poly) (a b : Answer) → 0 < p → AreMultilinear fs
    → IsAnswer p fs target d g a → IsAnswer p fs target d g b → a ≡ b

-- tables of one degree print the same
abbrev pub TablesPrintAlike : Type 0
TablesPrintAlike = (fs : List Form) (t u : Table) (letters : List ℕ) → AreRightFor fs t u → t.degree ≡ u.degree
    → (dimension_lines t ≡ dimension_lines u) × (product_lines letters t ≡ product_lines letters u)
