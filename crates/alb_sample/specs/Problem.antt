-- The problem of the sample.
use Rattle.std.specs.Prelude.{List, [], ◌∷◌, codes}
use Rattle.alb_mono.specs.Tree.{Tree, leaf, node}
use Rattle.alb_poly.specs.Poly.{Poly}
use Rattle.alb_poly.specs.Instance.{Form}
use Rattle.alb_problem.specs.Builder.{Builder, forms_of}
use Rattle.alb_table.specs.RightTable.{RulesView}

-- the associator of three monomials over the field of 251 elements, where 250 is -1
abbrev pub associator : Tree → Tree → Tree → Poly
associator l m r = (1, node (node l m) r) ∷ (250, node l (node m r)) ∷ []

-- the letters x and y
abbrev pub letter_x : Tree
letter_x = leaf 23

abbrev pub letter_y : Tree
letter_y = leaf 24

-- THE PROBLEM: the alternative laws (x,x,y) and (y,x,x) over the field of 251 elements, and the generators a and b, each four
-- times
abbrev pub sample_problem : Builder
sample_problem = record {
  field = 251;
  letters = codes "ab";
  counts = 4 ∷ 4 ∷ [];
  identities = associator letter_x letter_x letter_y ∷ associator letter_y letter_x letter_x ∷ [];
}

-- its linearized identities, and its rules
unfoldable pub sample_forms : List Form
sample_forms = forms_of sample_problem

abbrev pub sample_view : RulesView
sample_view = record { p = 251; target = 4 ∷ 4 ∷ []; forms = sample_forms }
