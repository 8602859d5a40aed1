use Rattle.std.proofs.Common.{◌≡◌, ◌≤◌, All, true, subst}
use Rattle.alb_mono.specs.Tree.{degree, are_below}
use Rattle.alb_poly.proofs.Falling.{small_terms, letters_terms}
use Rattle.alb_poly.proofs.poly.Poly.terms.Goals as goal

pub returns-clause-small : goal.returns-clause-small
returns-clause-small c = subst (λ f. All (λ t. degree t.1 ≤ 64) f) c.self.view_is (small_terms c.self.inside.list.items)

pub returns-clause-letters : goal.returns-clause-letters
returns-clause-letters c = subst (λ f. All (λ t. are_below 26 t.1 ≡ true) f) c.self.view_is (letters_terms c.self.inside.list.items)
