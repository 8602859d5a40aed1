-- What contracts see of terms.
use Rattle.std.specs.Prelude.{ℕ, ◌*◌, ◌%◌, List, map}
use Rattle.std.specs.List.{flat_map}
use Rattle.alb_mono.specs.Tree.{Tree, node, tree}
use Rattle.alb_poly.specs.declared.term.Term.{Term}

abbrev pub term : Term → ℕ × Tree
term t = (t.coef, tree t.mono)

abbrev pub terms : List Term → List (ℕ × Tree)
terms ts = map term ts

-- the product of two terms, with its residue
abbrev pub term_product : ℕ → ℕ × Tree → ℕ × Tree → ℕ × Tree
term_product p s t = ((s.0 * t.0) % p, node s.1 t.1)

-- the products of the terms of two lists
abbrev pub products : ℕ → List (ℕ × Tree) → List (ℕ × Tree) → List (ℕ × Tree)
products p f g = flat_map (λ s. map (term_product p s) g) f

-- the multiples of terms, with their residues
abbrev pub multiples : ℕ → ℕ → List (ℕ × Tree) → List (ℕ × Tree)
multiples p c f = map (λ t. ((c * t.0) % p, t.1)) f
