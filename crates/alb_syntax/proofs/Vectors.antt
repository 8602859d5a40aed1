-- What the definitions give on small texts, whose first byte has the place 1.
use Rattle.std.proofs.Common.{◌≡◌, ℕ, List, [], ◌∷◌, Result, Ok, Err, refl}
use Rattle.alb_lex.specs.declared.token.Token.{Token}
use Rattle.alb_lex.specs.Lexing.{tokens_from, digit_run, value_after}
use Rattle.alb_lex.specs.declared.error.LexError.{LexError}
use Rattle.alb_mono.specs.Tree.{leaf, node, type_of}
use Rattle.alb_poly.specs.Poly.{Poly, normal}
use Rattle.alb_syntax.specs.declared.error.SyntaxError.{SyntaxError}
use Rattle.alb_syntax.specs.declared.error.SyntaxError.TheVariants as errors
use Rattle.alb_syntax.specs.Reading.{limited, sum, difference, times, multiple, associator, commutator, jordan, raised, turns, each, atom, exponent, power, factor, juxt, star, jprod, multiple_from, term, first, signed, poly, two_more, round, square, bracketed, denoted}
use Rattle.std.specs.Prelude.{◌+◌, false, codes, length}

-- the polynomial or fault of a text over the letters a, b, c and the field of 5 elements
abbrev answer : List ℕ → Result (List Token) LexError → Result Poly SyntaxError
answer text (Ok ts) = denoted (record { field = 5; letters = codes "abc"; end = length text + 1 }) ts
answer text (Err e) = Err errors.NoMemory

abbrev read : List ℕ → Result Poly SyntaxError
read text = answer text (tokens_from false 1 text)

a_commutator : read (codes "[a,b]") ≡ Ok ((4, node (leaf 1) (leaf 0)) ∷ (1, node (leaf 0) (leaf 1)) ∷ [])
unfolding tokens_from digit_run value_after type_of normal limited sum difference times multiple associator commutator jordan raised turns each atom exponent power factor juxt star jprod multiple_from term first signed poly two_more round square bracketed denoted
a_commutator = refl

third_operand : read (codes "(a,b)") ≡ Err (errors.Expected 5)
unfolding tokens_from digit_run value_after type_of normal limited sum difference times multiple associator commutator jordan raised turns each atom exponent power factor juxt star jprod multiple_from term first signed poly two_more round square bracketed denoted
third_operand = refl

left_normed : read (codes "2abc - b^2") ≡ Ok ((2, node (node (leaf 0) (leaf 1)) (leaf 2)) ∷ (4, node (leaf 1) (leaf 1)) ∷ [])
unfolding tokens_from digit_run value_after type_of normal limited sum difference times multiple associator commutator jordan raised turns each atom exponent power factor juxt star jprod multiple_from term first signed poly two_more round square bracketed denoted
left_normed = refl

-- operations come before the next token is judged
too_high_first : read (codes "a^40a^40)") ≡ Err (errors.TooHigh 5)
unfolding tokens_from digit_run value_after type_of normal limited sum difference times multiple associator commutator jordan raised turns each atom exponent power factor juxt star jprod multiple_from term first signed poly two_more round square bracketed denoted
too_high_first = refl

unknown_first : read (codes "(a^40,a^40,q)") ≡ Err (errors.UnknownLetter 12)
unfolding tokens_from digit_run value_after type_of normal limited sum difference times multiple associator commutator jordan raised turns each atom exponent power factor juxt star jprod multiple_from term first signed poly two_more round square bracketed denoted
unknown_first = refl

end_expected : read (codes "(a^40,a^40") ≡ Err (errors.Expected 11)
unfolding tokens_from digit_run value_after type_of normal limited sum difference times multiple associator commutator jordan raised turns each atom exponent power factor juxt star jprod multiple_from term first signed poly two_more round square bracketed denoted
end_expected = refl

associator_too_high : read (codes "(a^40,b^40,c)") ≡ Err (errors.TooHigh 1)
unfolding tokens_from digit_run value_after type_of normal limited sum difference times multiple associator commutator jordan raised turns each atom exponent power factor juxt star jprod multiple_from term first signed poly two_more round square bracketed denoted
associator_too_high = refl
