use Rattle.std.proofs.Common.{refl}
use Rattle.clap.proofs.OnLiterals.{clap_on_literals}
use Rattle.alb_words.specs.Numbers.{value_of}
use Rattle.alb_words.specs.Words.{are_taken, other_words, workers_value}
use Rattle.alb_words.proofs.laws.words_are_faulty.Goals as goal

pub returns : goal.returns
unfolding clap_on_literals are_taken other_words workers_value value_of
returns c = record {
  no_value = refl;
  no_value_before_dashes = refl;
  twice = refl;
  zero_workers = refl;
  seventeen = refl;
  no_number = refl;
  plus = refl;
  empty = refl;
  nineteen_digits = refl;
  short = refl;
  negative = refl;
  other_option = refl;
  no_name = refl;
  help = refl;
  version = refl;
}
