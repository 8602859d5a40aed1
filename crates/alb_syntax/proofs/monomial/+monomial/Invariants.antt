-- The measure: how deep brackets may still nest, and at one depth the place in the grammar.
use Rattle.std.proofs.Common.{◌≡◌, ◌*◌, ◌+◌, ◌≤◌, length}
use Rattle.alb_mono.specs.Tree.{tree, degree}
use Rattle.alb_syntax.specs.Lettering.{lettering}
use Rattle.alb_syntax.specs.Reading.{each, begins_part, next_part, mono, nested}
use Rattle.alb_syntax.proofs.monomial.+monomial.Given as goal

abbrev pub decreases-mono : goal.decreases-mono
decreases-mono l = l.left * 4 + 3

abbrev pub decreases-next_part : goal.decreases-next_part
decreases-next_part l = l.left * 4 + 2

abbrev pub decreases-part : goal.decreases-part
decreases-part l = l.left * 4 + 1

abbrev pub decreases-nested : goal.decreases-nested
decreases-nested l = l.left * 4 + 0

abbrev pub invariant-mono-parts : goal.invariant-mono-parts
invariant-mono-parts l = record {
  so_far : each begins_part (next_part (lettering l.s) (nested (lettering l.s) l.left)) (tree l.m) l.rest ≡ mono (lettering l.s) (nested (lettering l.s) l.left) l.tokens;
  small : degree (tree l.m) ≤ 64;
}

abbrev pub decreases-mono-parts : goal.decreases-mono-parts
decreases-mono-parts l = length l.rest
