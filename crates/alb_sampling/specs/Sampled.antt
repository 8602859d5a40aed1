-- What the mode `sample` writes.
use Rattle.std.specs.Prelude.{◌≡◌, ℕ, List, [], ◌∷◌, ◌++◌, Option, codes}
use Rattle.std.specs.Io.KnownBytes.{Consumes, Appends}
use Rattle.alb_io.specs.Puts.{AppendsFront}
use Rattle.alb_io.specs.declared.status.Status.{Status}
use Rattle.alb_io.specs.declared.status.Status.TheVariants as status
use Rattle.alb_print.specs.Text.{named}
use Rattle.alb_sample.specs.Problem.{sample_forms, sample_view}
use Rattle.alb_sample.specs.Tally.{IsTally}
use Rattle.alb_table.specs.End.{End, IsEnd}
use Rattle.alb_table.specs.Table.{dim_of, Table, count_products, count_coefficients}
use Rattle.alb_table.specs.RightTable.{IsRightFor}

-- the line: how many polynomials, how many of them are zero and how many not, the dimension of the greatest type, and the counts
-- of the whole table
abbrev pub sample_line : ℕ → ℕ → ℕ → Table → List ℕ
sample_line n z y t =
    named (codes "sample ") n ++ (named (codes ": zero ") z ++ (named (codes ", not zero ") y ++ (named (codes ", dimension ") (dim_of t.parts (4 ∷ 4 ∷ []))
    ++ (named (codes ", products ") (count_products t.parts) ++ (named (codes ", coefficients ") (count_coefficients t.parts) ++ codes "\n")))))

-- THE TEXT of a sample of `n` polynomials, whose answers are counted on a right table at which the building ends
pub record IsSampleText (n : ℕ) (text : List ℕ) : Type 0 where
  pub table : Table
  pub end : End
  pub right : IsRightFor sample_view table
  pub ends : IsEnd sample_forms table end
  pub zeros : ℕ
  pub non_zeros : ℕ
  pub tally : IsTally table n n zeros non_zeros
  pub text_is : text ≡ sample_line n zeros non_zeros table

-- it was appended
pub record WritesSample (n : ℕ) (before after : Option (List ℕ)) : Type 0 where
  pub text : List ℕ
  pub is : IsSampleText n text
  pub written : Appends before after text

-- a front of it was
pub record WritesFront (n : ℕ) (before after : Option (List ℕ)) : Type 0 where
  pub text : List ℕ
  pub is : IsSampleText n text
  pub written : AppendsFront before after text

-- by the status; for want of memory nothing was appended
abbrev pub SampleWrites : Status → ℕ → Option (List ℕ) → Option (List ℕ) → Type 0
SampleWrites status.Done n before after = WritesSample n before after
SampleWrites status.WriteFault n before after = WritesFront n before after
SampleWrites status.NoMemory n before after = Appends before after []
SampleWrites other n before after = ⊥

-- WHAT A SAMPLE DID: it took nothing, and appended its text
pub record Samples (n : ℕ) (status : Status) (first now before after : Option (List ℕ)) : Type 0 where
  pub consumed : Consumes first now []
  pub writes : SampleWrites status n before after
