-- Algebras with a numbered basis, and the identities that they satisfy.
use Rattle.std.specs.Prelude.{ℕ, [], nat_eq}
use Rattle.gf_sums.specs.Sums.{Comb, AreSame}
use Rattle.alb_poly.specs.Textbook.{evaluate_poly}
use Rattle.alb_poly.specs.Poly.{Poly}

-- equal vectors
abbrev pub AreSameVectors : ℕ → Comb ℕ → Comb ℕ → Type 0
AreSameVectors p a b = AreSame (λ i j. nat_eq i j) p a b

-- the value of `f` is zero at all vectors; `prod` is the product of two basis elements
abbrev pub Satisfies : (ℕ → ℕ → Comb ℕ) → ℕ → Poly → Type 0
Satisfies prod p f = (u : ℕ → Comb ℕ) → AreSameVectors p (evaluate_poly prod u f) []
