-- Laws that functions of `laws` state.
use Rattle.std.specs.Prelude.{ℕ, ◌<◌}
use Rattle.gf_field.specs.Modular.{IsInTable, IsPrime, IsUnit}

-- what stands in the table is a prime
abbrev pub TableHasPrimes : Type 0
TableHasPrimes = (p : ℕ) → IsInTable p → IsPrime p

-- below a number of the table everything but 0 has an inverse
abbrev pub NonzeroResiduesAreUnits : Type 0
NonzeroResiduesAreUnits = (p x : ℕ) → IsInTable p → 0 < x → x < p → IsUnit p x
