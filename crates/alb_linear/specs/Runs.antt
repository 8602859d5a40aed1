-- Runs of positions: neighbours that may be exchanged.
use Rattle.std.specs.Prelude.{◌≡◌, ◌↔◌, ℕ, suc, ◌-◌, ◌<◌, ◌==◌, nat_lt, Bool, true, false, ◌&&◌, if◌then◌else◌, List, [], ◌∷◌, All, sum}
use Rattle.gf_sums.specs.Sums.{reindex}
use Rattle.alb_mono.specs.Tree.{Tree, leaf, node, same_tree}
use Rattle.alb_poly.specs.Poly.{Poly, IsSamePoly}
use Rattle.alb_poly.specs.Instance.{Form}

-- the position k, where j and the next one are exchanged
abbrev pub exchanged : ℕ → ℕ → ℕ
exchanged j k = if k == j then suc j else if k == suc j then j else k

-- a monomial with the position j and the next one exchanged
abbrev pub with_exchanged : ℕ → Tree → Tree
with_exchanged j (leaf k) = leaf (exchanged j k)
with_exchanged j (node l r) = node (with_exchanged j l) (with_exchanged j r)

-- exchanging the position j and the next one in every term gives an equal polynomial
abbrev pub AreExchangeable : ℕ → Form → ℕ → Type 0
AreExchangeable p f j = IsSamePoly p (reindex (with_exchanged j) f.terms) f.terms

-- whether the position k stands in the run of the one before it, where the runs have these lengths
abbrev pub goes_on : List ℕ → ℕ → Bool
goes_on [] k = false
goes_on (n ∷ runs) k = if nat_lt k n then nat_lt 0 k else goes_on runs (k - n)

-- THE RUNS of a form, by their lengths: neighbours stand in one run exactly where they may be exchanged
pub record AreRuns (p : ℕ) (f : Form) (runs : List ℕ) : Type 0 where
  pub positive : All (λ n. 0 < n) runs
  pub whole : sum runs ≡ f.degree
  pub joined : (j : ℕ) → suc j < f.degree → (goes_on runs (suc j) ≡ true) ↔ AreExchangeable p f j

-- whether two lists of terms are one
abbrev pub same_terms : Poly → Poly → Bool
same_terms [] [] = true
same_terms [] (t ∷ g) = false
same_terms (s ∷ f) [] = false
same_terms (s ∷ f) (t ∷ g) = s.0 == t.0 && same_tree s.1 t.1 && same_terms f g
