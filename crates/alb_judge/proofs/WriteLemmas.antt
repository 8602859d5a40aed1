-- What is written element by element.
use Rattle.std.proofs.Common.{ℕ, List, ◌∷◌}
use Rattle.std.specs.Fmt.{decimal}

-- an element after a blank
abbrev pub element_text : ℕ → List ℕ
element_text k = 32 ∷ decimal k
