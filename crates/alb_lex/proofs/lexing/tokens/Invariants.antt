use Rattle.std.proofs.Common.{length, drop, false, ◌+◌, ◌-◌, ◌≤◌}
use Rattle.alb_lex.specs.Lexing.{tokens_from}
use Rattle.alb_lex.proofs.Steps.{Goes}
use Rattle.alb_lex.proofs.lexing.tokens.Given as goal

abbrev pub invariant-loop-at : goal.invariant-loop-at
invariant-loop-at l = record {
  within : l.at ≤ length l.line;
  so_far : Goes (tokens_from false (l.start + 1) (drop l.start l.line)) l.out.items (l.at + 1) (drop l.at l.line);
}

abbrev pub decreases-loop-at : goal.decreases-loop-at
decreases-loop-at l = length l.line - l.at
