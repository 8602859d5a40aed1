-- The modes, and what the program does by the mode that its words name.
use Rattle.std.specs.Prelude.{ℕ, nat_le, List, [], ◌∷◌, Option, None, Some, option_and_then, Bool, false, ◌&&◌, String, codes, bytes_eq, if◌then◌else◌}
use Rattle.std.specs.declared.alloc.Global.{Global}
use Rattle.alb_script.specs.declared.form.Form.{Form}
use Rattle.alb_words.specs.Numbers.{number_in}
use Rattle.alb_words.specs.Words.{said, texts_of}
use Rattle.alb_top.specs.declared.mode.Mode.{Mode}
use Rattle.alb_top.specs.declared.mode.Mode.TheVariants.{Batch, Check, Sample}
use Rattle.std.specs.Io.KnownBytes.{Consumes, Appends}
use Rattle.alb_io.specs.declared.status.Status.{Status}
use Rattle.alb_top.specs.Script.{start}
use Rattle.alb_top.specs.Outcome.{Outcome}
use Rattle.alb_sampling.specs.Sampled.{Samples}
use Rattle.alb_script.specs.declared.form.Form.TheVariants as form
use Rattle.alb_top.specs.declared.mode.Mode.TheVariants as mode

-- ---- the modes of the program: what the words of the command line name, and what each mode reads

-- a mode of one word
abbrev pub mode_of_word : List ℕ → Option Mode
mode_of_word word =
    if bytes_eq word (codes "batch") then Some Batch
    else if bytes_eq word (codes "check") then Some Check
    else None

-- a sample of 1 to 1,000,000 polynomials
abbrev pub sample_of : Option ℕ → Option Mode
sample_of None = None
sample_of (Some n) = if nat_le 1 n && nat_le n 1000000 then Some (Sample n) else None

-- the mode that the words behind the option name: `batch`, `check`, or `sample` and a number
abbrev pub mode_named : List (List ℕ) → Option Mode
mode_named (word ∷ []) = mode_of_word word
mode_named (word ∷ count ∷ []) = if bytes_eq word (codes "sample") then sample_of (number_in count) else None
mode_named other = None

-- the mode that all words name
abbrev pub mode_of : List (String Global) → Option Mode
mode_of words = option_and_then (λ s. mode_named s.others) (said (texts_of words))

-- the form of the script that a mode reads, None where it reads no script
abbrev pub script_form : Mode → Option Form
script_form Batch = Some form.Batch
script_form Check = Some form.Check
script_form (Sample n) = None

-- a mode opens a file; none does so far
abbrev pub opens_file : Mode → Bool
opens_file Batch = false
opens_file Check = false
opens_file (Sample n) = false

-- the same of what the words name
abbrev pub may_open : Option Mode → Bool
may_open None = false
may_open (Some mode) = opens_file mode

-- ---- what the program does, by the mode that the words name

-- nothing was taken and nothing appended
pub record IsIdle (first now before after : Option (List ℕ)) : Type 0 where
  pub consumed : Consumes first now []
  pub written : Appends before after []

-- what a mode does that reads no script
abbrev pub DoesAlone : Mode → Status → Option (List ℕ) → Option (List ℕ) → Option (List ℕ) → Option (List ℕ) → Type 0
DoesAlone (mode.Sample n) status first now before after = Samples n status first now before after
DoesAlone other status first now before after = IsIdle first now before after

-- a mode runs the script that it reads
abbrev pub DoesScript : Mode → Option Form → Status → Option (List ℕ) → Option (List ℕ) → Option (List ℕ) → Option (List ℕ) → Type 0
DoesScript mode (Some form) status first now before after = Outcome (start mode form) status first now before after
DoesScript mode None status first now before after = DoesAlone mode status first now before after

-- WHAT THE PROGRAM DOES: that of the mode, and nothing where the words name none
abbrev pub Does : Option Mode → Status → Option (List ℕ) → Option (List ℕ) → Option (List ℕ) → Option (List ℕ) → Type 0
Does (Some mode) status first now before after = DoesScript mode (script_form mode) status first now before after
Does None status first now before after = IsIdle first now before after
