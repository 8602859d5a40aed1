-- Laws that functions of `laws` state.
use Rattle.std.specs.Prelude.{◌≡◌, ℕ, List, [], ◌∷◌, None, Some, codes}
use Rattle.alb_words.specs.Words.{said}

-- the words say this many workers, and these other words
abbrev pub Say : List (List ℕ) → ℕ → List (List ℕ) → Type 0
Say words n others = said words ≡ Some (record { workers = n; others = others })

abbrev pub IsFaulty : List (List ℕ) → Type 0
IsFaulty words = said words ≡ None

-- What some command lines say: `--workers` stands before, between or after the other words, at most once, and before `--`.
pub record SayThis : Type 0 where
  pub none : Say [] 2 []
  pub one : Say (codes "batch" ∷ []) 2 (codes "batch" ∷ [])
  pub before : Say (codes "--workers" ∷ codes "4" ∷ codes "batch" ∷ []) 4 (codes "batch" ∷ [])
  pub joined : Say (codes "--workers=4" ∷ codes "batch" ∷ []) 4 (codes "batch" ∷ [])
  pub after : Say (codes "batch" ∷ codes "--workers" ∷ codes "3" ∷ []) 3 (codes "batch" ∷ [])
  pub between : Say (codes "sample" ∷ codes "--workers=16" ∷ codes "100" ∷ []) 16 (codes "sample" ∷ codes "100" ∷ [])
  pub leading_zero : Say (codes "--workers" ∷ codes "02" ∷ []) 2 []
  pub dashes_first : Say (codes "--" ∷ codes "batch" ∷ []) 2 (codes "batch" ∷ [])
  pub dashes_last : Say (codes "batch" ∷ codes "--" ∷ []) 2 (codes "batch" ∷ [])
  pub after_dashes : Say (codes "--" ∷ codes "--workers" ∷ codes "3" ∷ []) 2 (codes "--workers" ∷ codes "3" ∷ [])
  pub dashes_twice : Say (codes "batch" ∷ codes "--" ∷ codes "--" ∷ []) 2 (codes "batch" ∷ codes "--" ∷ [])
  pub short_after_dashes : Say (codes "sample" ∷ codes "--" ∷ codes "-5" ∷ []) 2 (codes "sample" ∷ codes "-5" ∷ [])
  pub dash : Say (codes "-" ∷ []) 2 (codes "-" ∷ [])

-- And some that are at fault.
pub record AreFaulty : Type 0 where
  pub no_value : IsFaulty (codes "--workers" ∷ [])
  pub no_value_before_dashes : IsFaulty (codes "--workers" ∷ codes "--" ∷ codes "3" ∷ [])
  pub twice : IsFaulty (codes "--workers" ∷ codes "2" ∷ codes "batch" ∷ codes "--workers=2" ∷ [])
  pub zero_workers : IsFaulty (codes "--workers" ∷ codes "0" ∷ codes "batch" ∷ [])
  pub seventeen : IsFaulty (codes "--workers" ∷ codes "17" ∷ codes "batch" ∷ [])
  pub no_number : IsFaulty (codes "--workers=two" ∷ codes "batch" ∷ [])
  pub plus : IsFaulty (codes "--workers" ∷ codes "+2" ∷ codes "batch" ∷ [])
  pub empty : IsFaulty (codes "--workers=" ∷ codes "batch" ∷ [])
  pub nineteen_digits : IsFaulty (codes "--workers" ∷ codes "0000000000000000002" ∷ [])
  pub short : IsFaulty (codes "-x" ∷ [])
  pub negative : IsFaulty (codes "sample" ∷ codes "-5" ∷ [])
  pub other_option : IsFaulty (codes "batch" ∷ codes "--worker=2" ∷ [])
  pub no_name : IsFaulty (codes "--=2" ∷ [])
  pub help : IsFaulty (codes "--help" ∷ [])
  pub version : IsFaulty (codes "-V" ∷ [])
