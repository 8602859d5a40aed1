-- What the words of a command line say, as clap reads them.
use Rattle.std.specs.Prelude.{◌≡◌, ℕ, nat_le, Bool, true, ◌&&◌, if◌then◌else◌, List, [], map, Option, None, Some, unwrap_or, option_map, String, string_bytes, codes}
use Rattle.std.specs.declared.alloc.Global.{Global}
use Rattle.clap.specs.Words.{App, Rule, all_of, fault_of, first_of, first_value, found_of, matched_of, matches_of, new_app, new_rule, raw_values, with_rule}
use Rattle.clap.specs.Walk.{is_empty}
use Rattle.clap.specs.declared.builder.action.ArgAction.TheVariants.{Set, Append}
use Rattle.clap.specs.declared.parser.matches.ArgMatches.{ArgMatches}
use Rattle.alb_words.specs.Numbers.{number_in}

abbrev pub texts_of : List (String Global) → List (List ℕ)
texts_of words = map string_bytes words

-- ---- the command line, for clap: the option `--workers` with one value, and any number of other words; the name of the program
-- does not stand before them, and there is no help and no version

abbrev pub workers_rule : Rule
workers_rule = record (new_rule (codes "workers")) { long = Some (codes "workers"); action = Some Set }

abbrev pub words_rule : Rule
words_rule = record (new_rule (codes "words")) { action = Some Append }

abbrev pub bare : App
bare = record (new_app (codes "albert")) { top = record ((new_app (codes "albert")).top) { no_binary_name = true; disable_help_flag = true; disable_version_flag = true } }

abbrev pub command_line : App
command_line = with_rule (with_rule bare workers_rule) words_rule

-- ---- what clap finds

-- clap takes the words
unfoldable pub are_taken : List (List ℕ) → Bool
are_taken words = is_empty (fault_of command_line words)

-- the value of `--workers`, None where it does not stand there
unfoldable pub workers_value : List (List ℕ) → Option (List ℕ)
workers_value words = first_of (codes "workers") (matches_of command_line words)

-- the other words, in order
unfoldable pub other_words : List (List ℕ) → List (List ℕ)
other_words words = unwrap_or (all_of (codes "words") (matches_of command_line words)) []

-- ---- what they mean

-- 1 to 16
abbrev pub workers_of : Option ℕ → Option ℕ
workers_of None = None
workers_of (Some n) = if nat_le 1 n && nat_le n 16 then Some n else None

-- the number of workers: two where none is named
abbrev pub workers_in : Option (List ℕ) → Option ℕ
workers_in None = Some 2
workers_in (Some value) = workers_of (number_in value)

-- how many workers, and the other words
pub record Said : Type 0 where
  pub workers : ℕ
  pub others : List (List ℕ)

-- WHAT THE WORDS SAY, None where they are at fault: an option that is not `--workers`, `--workers` twice or without a value, or
-- with one that is no number from 1 to 16
abbrev pub said : List (List ℕ) → Option Said
said words = if are_taken words then option_map (λ n. record { workers = n; others = other_words words }) (workers_in (workers_value words)) else None

-- ---- what a call of clap finds. Contracts of private functions alone speak of it.

pub record Finds (words : List (List ℕ)) (m : ArgMatches) : Type 0 where
  pub taken : are_taken words ≡ true
  pub workers : first_value (found_of m) (codes "workers") ≡ workers_value words
  pub others : unwrap_or (option_map raw_values (matched_of (found_of m) (codes "words"))) [] ≡ other_words words
