-- How monomials, polynomials and types print.
use Rattle.std.specs.Prelude.{ℕ, ◌-◌, ◌*◌, ◌==◌, nat_lt, Bool, true, false, if◌then◌else◌, List, [], ◌∷◌, ◌++◌, map, slice_index, codes}
use Rattle.std.specs.List.{flat_map, join_with_byte}
use Rattle.std.specs.Fmt.{decimal}
use Rattle.alb_mono.specs.Tree.{Tree, leaf, node}
use Rattle.alb_poly.specs.Poly.{Poly}

-- a word and a number
abbrev pub named : List ℕ → ℕ → List ℕ
named word n = word ++ decimal n

-- in round brackets, where `inner` says so
abbrev pub in_brackets : Bool → List ℕ → List ℕ
in_brackets true text = 40 ∷ text ++ 41 ∷ []
in_brackets false text = text

-- A monomial: its letter, or its left factor and then its right one. A factor that is a product stands in brackets.
abbrev pub mono_text : List ℕ → Bool → Tree → List ℕ
mono_text letters inner (leaf k) = slice_index letters k ∷ []
mono_text letters inner (node l r) = in_brackets inner (mono_text letters true l ++ mono_text letters true r)

-- the signed residue: its sign and its absolute value
abbrev pub is_negative : ℕ → ℕ → Bool
is_negative p r = nat_lt p (2 * r)

abbrev pub absolute : ℕ → ℕ → ℕ
absolute p r = if is_negative p r then p - r else r

-- the absolute value of a coefficient; 1 is left out
abbrev pub value_text : ℕ → ℕ → List ℕ
value_text p r = if absolute p r == 1 then [] else decimal (absolute p r)

-- the sign of a first term, and of a term after another one
abbrev pub leading_sign : ℕ → ℕ → List ℕ
leading_sign p r = if is_negative p r then codes "-" else []

abbrev pub later_sign : ℕ → ℕ → List ℕ
later_sign p r = if is_negative p r then codes " - " else codes " + "

-- a coefficient with its sign: of a first term, and of a term after another one
abbrev pub leading_coefficient_text : ℕ → ℕ → List ℕ
leading_coefficient_text p r = leading_sign p r ++ value_text p r

abbrev pub later_coefficient_text : ℕ → ℕ → List ℕ
later_coefficient_text p r = later_sign p r ++ value_text p r

-- a term without its sign
abbrev pub term_text : ℕ → List ℕ → ℕ × Tree → List ℕ
term_text p letters t = value_text p t.0 ++ mono_text letters false t.1

-- a first term, and a term after another one
abbrev pub leading_text : ℕ → List ℕ → ℕ × Tree → List ℕ
leading_text p letters t = leading_sign p t.0 ++ term_text p letters t

abbrev pub later_text : ℕ → List ℕ → ℕ × Tree → List ℕ
later_text p letters t = later_sign p t.0 ++ term_text p letters t

-- a polynomial, by the list of its terms
abbrev pub poly_text : ℕ → List ℕ → Poly → List ℕ
poly_text p letters [] = codes "0"
poly_text p letters (t ∷ f) = leading_text p letters t ++ flat_map (later_text p letters) f

-- a type: its counts in the order of the generators, with commas, in round brackets
abbrev pub type_text : List ℕ → List ℕ
type_text counts = 40 ∷ join_with_byte 44 (map decimal counts) ++ 41 ∷ []
