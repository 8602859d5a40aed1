use Rattle.std.proofs.Common.{◌≡◌, ◌<◌, ◌^◌, take}
use Rattle.alb_words.specs.Numbers.{value_of}
use Rattle.alb_words.proofs.numbers.value_of.Given as goal

abbrev pub invariant-loop-digit : goal.invariant-loop-digit
invariant-loop-digit l = record {
  value : l.value ≡ value_of 0 (take l.digit-index l.digits);
  small : l.value < 10 ^ l.digit-index;
}
