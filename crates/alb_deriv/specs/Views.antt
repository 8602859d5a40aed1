-- What contracts see of the lines of a derivation.
use Rattle.std.specs.Prelude.{ℕ, ◌<◌, ◌≤◌, IsTrue, map, All}
use Rattle.alb_mono.specs.Tree.{degree, are_below, tree}
use Rattle.alb_deriv.specs.Derivation as value
use Rattle.alb_deriv.specs.declared.line.Line.{Line}
use Rattle.alb_deriv.specs.declared.line.Line.TheVariants.{Instance, Times, Sum}

-- a line as the definition sees it
abbrev pub line : Line → value.Line
line (Instance i ms) = value.Instance i (map tree ms.items)
line (Times k s m) = value.Times k (s, tree m)
line (Sum cs) = value.Sum cs.items

-- its monomials have degree at most 64 and generators below `n`, and its coefficients are residues
abbrev pub IsLine : ℕ → ℕ → Line → Type 0
IsLine p n (Instance i ms) = All (λ m. IsTrue (are_below n (tree m))) ms.items × All (λ m. degree (tree m) ≤ 64) ms.items
IsLine p n (Times k s m) = IsTrue (are_below n (tree m)) × (degree (tree m) ≤ 64)
IsLine p n (Sum cs) = All (λ c. c.0 < p) cs.items
