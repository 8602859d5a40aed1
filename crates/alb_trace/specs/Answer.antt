-- What is answered: derivations.
use Rattle.std.specs.Prelude.{List, All, length, map}
use Rattle.alb_poly.specs.Poly.{Poly}
use Rattle.alb_poly.specs.Instance.{Form}
use Rattle.alb_deriv.specs.Derivation.{IsLimitedDerivation}
use Rattle.alb_deriv.specs.Views.{line, IsLine}
use Rattle.alb_deriv.specs.declared.line.Line.{Line}
use Rattle.alb_table.specs.Table.{Table}
use Rattle.alb_tidy.specs.Cites.{IsNumber, AreOrdered}
use Rattle.alb_tidy.specs.Tidy.{IsTidy}
use Rattle.alb_trace.specs.Trace.{lines_of}
use Rattle.alb_trace.specs.declared.trace.Citation.{Citation}
use Rattle.alb_trace.specs.declared.trace.Citation.TheVariants as citations
use Rattle.alb_trace.specs.declared.trace.Trace.{Trace}

-- THE LINES OF AN ANSWER: they are a derivation of the polynomial `f` within the limits of its text, no line is idle and none
-- stands twice, and they can be printed
pub record AreLinesFor (fs : List Form) (t : Table) (f : Poly) (ls : List Line) : Type 0 where
  pub derivation : IsLimitedDerivation t.p t.target fs f (map line ls)
  pub tidy : IsTidy (map line ls)
  pub printable : All (λ l. IsLine t.p (length t.target) l) ls

-- what is cited stands among the lines, each of which cites lines before it
abbrev pub Stands : Trace → Citation → Type 0
Stands s citations.Zero = Unit {0}
Stands s (citations.Line k) = AreOrdered (lines_of s) × IsNumber (length (lines_of s)) k
