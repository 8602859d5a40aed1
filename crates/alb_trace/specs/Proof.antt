-- What shows an answer: lines that derive the polynomial, or a table that refutes it.
use Rattle.std.specs.Prelude.{◌≡◌, ℕ, List, length, map, All}
use Rattle.alb_poly.specs.Poly.{Poly}
use Rattle.alb_poly.specs.Instance.{Form}
use Rattle.alb_deriv.specs.Derivation.{Line, IsLimitedDerivation}
use Rattle.alb_deriv.specs.Views.{line, IsLine}
use Rattle.alb_check.specs.Raw.{Raw, raw, IsRaw, IsTableFit}
use Rattle.alb_check.specs.SubTable.{sub_table, IsFirstType}
use Rattle.alb_check.specs.Verdict.{IsTableVerdict}
use Rattle.alb_check.specs.Verdict.TableVerdict.{Refuted}
use Rattle.alb_table.specs.Table.{Table}
use Rattle.alb_table.specs.Right.{IsTypeTo}
use Rattle.alb_query.specs.Answer.{Answer, Zero, NotZero, NotBuilt, OutOfType}
use Rattle.alb_trace.specs.declared.proving.Proof.{Proof}
use Rattle.alb_trace.specs.declared.proving.Proof.TheVariants as proofs

-- lines, a table, or nothing
pub data Shown : Type 0 where
  ByLines : List Line → Shown
  ByTable : Raw → Shown
  ByNothing : Shown

-- what contracts see of a proof
abbrev pub shown : Proof → Shown
shown (proofs.Lines ls) = ByLines (map line ls.items)
shown (proofs.Table t) = ByTable (raw t)
shown proofs.Nothing = ByNothing

-- The table of the basis elements up to the first type of the normal form `f`: the identities hold in it, and `g` has a value
-- that is not zero. It keeps the limits of its text.
pub record IsCounterTable (fs : List Form) (t : Table) (g f : Poly) (r : Raw) : Type 0 where
  pub top : List ℕ
  pub type : IsTypeTo t.target t.degree top
  pub first : IsFirstType t.p top f
  pub is : r ≡ sub_table t top
  pub over : IsRaw t.p (length t.target) r
  pub fit : IsTableFit t.p (length t.target) r
  pub refutes : IsTableVerdict t.p t.target fs r g Refuted

-- WHAT SHOWS AN ANSWER to `g` by a right table: a derivation within the limits of its text; a table that refutes it; nothing where
-- there is nothing to show
abbrev pub Shows : List Form → Table → Poly → Answer → Shown → Type 0
Shows fs t g Zero (ByLines ls) = IsLimitedDerivation t.p t.target fs g ls
Shows fs t g (NotZero f) (ByTable r) = IsCounterTable fs t g f r
Shows fs t g (NotBuilt n) ByNothing = Unit {0}
Shows fs t g (OutOfType m) ByNothing = Unit {0}
Shows fs t g a other = ⊥

-- lines and tables over `n` generators, with residues below `p`
abbrev pub CanBePrinted : ℕ → ℕ → Proof → Type 0
CanBePrinted p n (proofs.Lines ls) = All (λ l. IsLine p n l) ls.items
CanBePrinted p n (proofs.Table t) = IsRaw p n (raw t)
CanBePrinted p n proofs.Nothing = Unit {0}
