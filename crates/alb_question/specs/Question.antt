-- Shots, questions, what is found for them, and what that says of the identities.
use Rattle.std.specs.Prelude.{◌≡◌, ℕ, List, [], Option, None, Some, ◌++◌}
use Rattle.alb_problem.specs.Builder.{Builder, forms_of}
use Rattle.alb_table.specs.RightTable.{RulesView, IsRightFor}
use Rattle.alb_table.specs.Table.{Table}
use Rattle.alb_table.specs.End.{End, IsEnd}
use Rattle.alb_answer.specs.Answers.{built_line, answer_line, dimension_lines, product_lines}
use Rattle.alb_poly.specs.Poly.{Poly}
use Rattle.alb_query.specs.Answer.{Answer, IsAnswer, Zero, NotZero, NotBuilt, OutOfType}
use Rattle.alb_evidence.specs.Texts.{lines_text, table_text}
use Rattle.alb_trace.specs.Proof.{Shown, ByLines, ByTable, ByNothing, Shows}
use Rattle.alb_mono.specs.Listing.{Each}
use Rattle.alb_poly.specs.Textbook.{IsTextConsequence}
use Rattle.alb_problem.specs.Satisfied.{AreSameVectors}
use Rattle.alb_table.specs.Right.{difference}
use Rattle.alb_check.specs.Raw.{Raw}
use Rattle.alb_check.specs.TableAlgebra.{value, TableSatisfies, IsNilpotent}

-- ---- tables as lines show them: at a degree, with the end of the building where it is known

-- a table, and the end of its building where it is known
pub record Shot : Type 0 where
  pub table : Table
  pub end : Option End

-- what a line shows of a shot: the degree and the end
pub record Pair : Type 0 where
  pub degree : ℕ
  pub end : Option End

abbrev pub pair_of : Shot → Pair
pair_of s = record { degree = s.table.degree; end = s.end }

-- the rules of a problem
abbrev pub rules_of : Builder → RulesView
rules_of b = record { p = b.field; target = b.counts; forms = forms_of b }

-- THE SHOT AT WHICH A BUILDING ENDS: the table is right for the rules, and its building ends so
pub record IsBuilt (r : RulesView) (s : Shot) : Type 0 where
  pub right : IsRightFor r s.table
  pub end : End
  pub known : s.end ≡ Some end
  pub ends : IsEnd r.forms s.table end

-- the line that tells the degree of a table and the end of its building, where it is known
abbrev pub pair_line : ℕ → Option End → List ℕ
pair_line degree (Some end) = built_line degree end
pair_line degree None = []

abbrev pub built_text : Shot → List ℕ
built_text s = pair_line s.table.degree s.end

-- ---- questions to a table, what is found for them, and how it prints

-- whether a polynomial is zero, also with what shows the answer; the dimensions; the products of basis elements
pub data Question : Type 0 where
  Polynomial : Poly → Question
  Prove : Poly → Question
  Dimensions : Question
  Products : Question

-- the answer to a polynomial, also with what shows it; or what the table itself says
pub data Finding : Type 0 where
  Answered : Answer → Finding
  Proved : Answer → Shown → Finding
  OfDimensions : Finding
  OfProducts : Finding

-- the answer to `g` by a table, and what shows it
pub record IsProved (r : RulesView) (t : Table) (g : Poly) (a : Answer) (s : Shown) : Type 0 where
  pub answer : IsAnswer t.p r.forms t.target t.degree g a
  pub shows : Shows r.forms t g a s

-- WHAT IS FOUND for a question by a table that is right for the rules
abbrev pub IsFinding : RulesView → Table → Question → Finding → Type 0
IsFinding r t (Polynomial g) (Answered a) = IsAnswer t.p r.forms t.target t.degree g a
IsFinding r t (Prove g) (Proved a s) = IsProved r t g a s
IsFinding r t Dimensions OfDimensions = Unit {0}
IsFinding r t Products OfProducts = Unit {0}
IsFinding r t q f = ⊥

-- ---- texts

-- the lines that are the same whatever shows an answer
abbrev pub answer_text : List ℕ → Table → Finding → List ℕ
answer_text letters t (Answered a) = answer_line t.p letters t.degree a
answer_text letters t (Proved a s) = answer_line t.p letters t.degree a
answer_text letters t OfDimensions = dimension_lines t
answer_text letters t OfProducts = product_lines letters t

-- what is shown prints as evidence
abbrev pub shown_text : ℕ → List ℕ → Shown → List ℕ
shown_text p letters (ByLines ls) = lines_text p letters ls
shown_text p letters (ByTable t) = table_text p letters t
shown_text p letters ByNothing = []

-- the evidence for an answer
abbrev pub proof_text : List ℕ → Table → Finding → List ℕ
proof_text letters t (Proved a s) = shown_text t.p letters s
proof_text letters t other = []

-- the text of what is found: the answer, and the evidence after it
abbrev pub finding_text : List ℕ → Table → Finding → List ℕ
finding_text letters t (Proved a s) = answer_line t.p letters t.degree a ++ shown_text t.p letters s
finding_text letters t other = answer_text letters t other

-- ---- what findings say of the identities, in the textbook's sense

-- `zero` says that the polynomial is a consequence, `not zero` that it is none, and differs from its normal form by one
abbrev pub IsTrueAnswer : ℕ → List Poly → Poly → Answer → Type 0
IsTrueAnswer p identities g Zero = IsTextConsequence p identities g
IsTrueAnswer p identities g (NotZero f) = (IsTextConsequence p identities g → ⊥) × IsTextConsequence p identities (difference p g f)
IsTrueAnswer p identities g (NotBuilt n) = Unit {0}
IsTrueAnswer p identities g (OutOfType m) = Unit {0}

-- A COUNTEREXAMPLE: a nilpotent algebra that satisfies each identity at all vectors, and where the value of `g` is not zero
pub record IsCounterexample (p : ℕ) (identities : List Poly) (g : Poly) (t : Raw) : Type 0 where
  pub nilpotent : IsNilpotent p t
  pub satisfies : Each (TableSatisfies p t) identities
  pub nonzero : AreSameVectors p (value t g) [] → ⊥

-- a table that is shown is a counterexample
abbrev pub IsTrueProof : ℕ → List Poly → Poly → Shown → Type 0
IsTrueProof p identities g (ByTable t) = IsCounterexample p identities g t
IsTrueProof p identities g other = Unit {0}

-- WHAT A FINDING SAYS of the identities
abbrev pub IsTrueOf : ℕ → List Poly → Question → Finding → Type 0
IsTrueOf p identities (Polynomial g) (Answered a) = IsTrueAnswer p identities g a
IsTrueOf p identities (Prove g) (Proved a s) = IsTrueAnswer p identities g a × IsTrueProof p identities g s
IsTrueOf p identities q f = Unit {0}
