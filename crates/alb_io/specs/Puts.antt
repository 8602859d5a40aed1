-- What a writer to a sink does: it appends a text, or a front of it and fails.
use Rattle.std.specs.Prelude.{◌≡◌, ℕ, List, ◌++◌, Option, Result, MatchResult}
use Rattle.std.specs.Io.KnownBytes.{Appends}

-- a front of the text was appended
pub record AppendsFront (before now : Option (List ℕ)) (text : List ℕ) : Type 0 where
  pub front : List ℕ
  pub rest : List ℕ
  pub whole : text ≡ front ++ rest
  pub taken : Appends before now front

-- the whole text was appended, or at an error a front of it
abbrev pub Puts : {E : Type 0} → Result (Unit {0}) E → Option (List ℕ) → Option (List ℕ) → List ℕ → Type 0
Puts result before now text = MatchResult result (λ _. Appends before now text) (λ _. AppendsFront before now text)
