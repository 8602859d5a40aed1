-- What a function that derives a polynomial gives: more lines, and how the polynomial is cited.
use Rattle.std.specs.Prelude.{◌≡◌, ℕ, List, [], ◌∷◌, ◌++◌}
use Rattle.alb_poly.specs.Poly.{Poly}
use Rattle.alb_poly.specs.Instance.{Form}
use Rattle.alb_deriv.specs.Derivation.{Line}
use Rattle.alb_deriv.specs.Short.{AreFine, IsSumOf}
use Rattle.alb_trace.specs.declared.trace.Citation.{Citation}
use Rattle.alb_trace.specs.declared.trace.Citation.TheVariants as citations

-- what is cited, as a combination of lines
abbrev pub item_of : Citation → List (ℕ × ℕ)
item_of citations.Zero = []
item_of (citations.Line k) = (1, k) ∷ []

-- a multiple of it
abbrev pub item_times : ℕ → Citation → List (ℕ × ℕ)
item_times c citations.Zero = []
item_times c (citations.Line k) = (c, k) ∷ []

-- `new` has the lines `old` and further lines
pub record IsLonger (old new : List Line) : Type 0 where
  pub more : List Line
  pub front : new ≡ old ++ more

-- `new` has the lines `old`, further lines, no fault, and the polynomial `f` as it is cited by `o`
pub record Adds (p most : ℕ) (target : List ℕ) (fs : List Form) (old new : List Line) (o : Citation) (f : Poly) : Type 0 where
  pub longer : IsLonger old new
  pub fine : AreFine p most target fs new
  pub sum : IsSumOf p fs new (item_of o) f
