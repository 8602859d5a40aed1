-- The measure: how deep brackets may still nest, and at one depth the place in the grammar.
use Rattle.std.proofs.Common.{◌≡◌, ◌*◌, ◌+◌, length}
use Rattle.alb_poly.specs.Poly.{normal}
use Rattle.alb_poly.specs.Terms.{terms}
use Rattle.alb_syntax.specs.Setting.{setting}
use Rattle.alb_syntax.specs.Reading.{bracketed, each, begins_atom, is_star, is_sign, factor, juxt, star, jprod, signed, IsCanonicalPoly, AreLoose}
use Rattle.alb_syntax.proofs.reading.+parser.Given as goal

abbrev pub decreases-poly : goal.decreases-poly
decreases-poly l = l.left * 16 + 13

abbrev pub decreases-more_terms : goal.decreases-more_terms
decreases-more_terms l = l.left * 16 + 12

abbrev pub decreases-signed : goal.decreases-signed
decreases-signed l = l.left * 16 + 11

abbrev pub decreases-first : goal.decreases-first
decreases-first l = l.left * 16 + 11

abbrev pub decreases-term : goal.decreases-term
decreases-term l = l.left * 16 + 10

abbrev pub decreases-jprod : goal.decreases-jprod
decreases-jprod l = l.left * 16 + 9

abbrev pub decreases-star : goal.decreases-star
decreases-star l = l.left * 16 + 8

abbrev pub decreases-juxt : goal.decreases-juxt
decreases-juxt l = l.left * 16 + 7

abbrev pub decreases-factor : goal.decreases-factor
decreases-factor l = l.left * 16 + 6

abbrev pub decreases-power : goal.decreases-power
decreases-power l = l.left * 16 + 5

abbrev pub decreases-atom : goal.decreases-atom
decreases-atom l = l.left * 16 + 4

abbrev pub decreases-bracket : goal.decreases-bracket
decreases-bracket l = l.left * 16 + 0

abbrev pub decreases-round : goal.decreases-round
decreases-round l = l.left * 16 + 15

abbrev pub decreases-two_more : goal.decreases-two_more
decreases-two_more l = l.left * 16 + 14

abbrev pub decreases-square : goal.decreases-square
decreases-square l = l.left * 16 + 14

abbrev pub invariant-juxt-factors : goal.invariant-juxt-factors
invariant-juxt-factors l = record {
  so_far : each begins_atom (factor (setting l.s) (bracketed (setting l.s) l.left)) l.f l.rest ≡ juxt (setting l.s) (bracketed (setting l.s) l.left) l.tokens;
  kept : IsCanonicalPoly l.s.field.now l.f;
}

abbrev pub decreases-juxt-factors : goal.decreases-juxt-factors
decreases-juxt-factors l = length l.rest

abbrev pub invariant-jprod-stars : goal.invariant-jprod-stars
invariant-jprod-stars l = record {
  so_far : each is_star (star (setting l.s) (bracketed (setting l.s) l.left)) l.f l.rest ≡ jprod (setting l.s) (bracketed (setting l.s) l.left) l.tokens;
  kept : IsCanonicalPoly l.s.field.now l.f;
}

abbrev pub decreases-jprod-stars : goal.decreases-jprod-stars
decreases-jprod-stars l = length l.rest

abbrev pub invariant-more_terms-terms : goal.invariant-more_terms-terms
invariant-more_terms-terms l = record {
  so_far : each is_sign (signed (setting l.s) (bracketed (setting l.s) l.left)) (normal l.s.field.now (terms l.list.items)) l.rest
      ≡ each is_sign (signed (setting l.s) (bracketed (setting l.s) l.left)) l.fn.f l.tokens;
  loose : AreLoose l.s.field.now (terms l.list.items);
}

abbrev pub decreases-more_terms-terms : goal.decreases-more_terms-terms
decreases-more_terms-terms l = length l.rest
