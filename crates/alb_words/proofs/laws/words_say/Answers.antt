use Rattle.std.proofs.Common.{refl}
use Rattle.clap.proofs.OnLiterals.{clap_on_literals}
use Rattle.alb_words.specs.Numbers.{value_of}
use Rattle.alb_words.specs.Words.{are_taken, other_words, workers_value}
use Rattle.alb_words.proofs.laws.words_say.Goals as goal

pub returns : goal.returns
unfolding clap_on_literals are_taken other_words workers_value value_of
returns c = record {
  none = refl;
  one = refl;
  before = refl;
  joined = refl;
  after = refl;
  between = refl;
  leading_zero = refl;
  dashes_first = refl;
  dashes_last = refl;
  after_dashes = refl;
  dashes_twice = refl;
  short_after_dashes = refl;
  dash = refl;
}
