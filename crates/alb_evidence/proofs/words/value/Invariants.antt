use Rattle.std.proofs.Common.{drop, ◌≡◌, ◌<◌, ◌^◌}
use Rattle.alb_lex.specs.Lexing.{value_after}
use Rattle.alb_evidence.proofs.words.value.Given as goal

abbrev pub invariant-loop-i : goal.invariant-loop-i
invariant-loop-i l = record {
  small : l.value < 10 ^ l.i;
  so_far : value_after 0 l.word ≡ value_after l.value (drop l.i l.word);
}
