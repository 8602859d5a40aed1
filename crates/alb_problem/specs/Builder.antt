-- Statements about a problem: what they make of a builder, and when they are refused.
use Rattle.std.specs.Prelude.{ℕ, ◌+◌, ◌==◌, ◌&&◌, ◌<◌, ◌≤◌, ◌≡◌, ◌≢◌, nat_lt, nat_le, not, Bool, false, if◌then◌else◌, List, [], ◌∷◌, ◌++◌, length, sum, All, AllPairs, Option, Some, None, refl, Result, Ok, Err, map}
use Rattle.std.specs.List.{flat_map, list_any}
use Rattle.alb_lex.specs.declared.token.Token.{Token}
use Rattle.alb_lex.specs.declared.token.TokenKind.{TokenKind}
use Rattle.alb_lex.specs.declared.token.TokenKind.TheVariants.{Letter, Number}
use Rattle.std.specs.Coded.{Coded, code_by, coded_list, coded_ℕ, coded×}
use Rattle.alb_mono.specs.Listing.{Each}
use Rattle.alb_mono.specs.Tree.{Tree, tree, AreLetters}
use Rattle.alb_mono.specs.TreeCode.{tree_code}
use Rattle.alb_poly.specs.Poly.{Poly, AreResidues, normal}
use Rattle.alb_poly.specs.Instance.{Form, linearization, Identity, IsHomogeneous}
use Rattle.alb_linear.specs.Identity.{identity_fault, leading_type, linear_count, IsLinearized, IdentityFault, Zero, NotHomogeneous, DegreeOne, DegreeOver8}
use Rattle.gf_field.specs.Modular.{is_in_table, IsInTable}
use Rattle.alb_linear.specs.declared.error.IdentityError.{IdentityError}
use Rattle.alb_problem.specs.declared.error.ProblemError.{ProblemError}
use Rattle.alb_linear.specs.declared.error.IdentityError.TheVariants as identity
use Rattle.alb_problem.specs.declared.error.ProblemError.TheVariants as errors

-- ---- lists of generators: pairs of a count and a letter

abbrev pub letter_of : TokenKind → List ℕ
letter_of (Letter c) = c ∷ []
letter_of other = []

abbrev pub count_of : TokenKind → List ℕ
count_of (Number n) = n ∷ []
count_of other = []

-- the letters among tokens
abbrev pub letters : List Token → List ℕ
letters ts = flat_map (λ t. letter_of t.kind) ts

-- the numbers among tokens
abbrev pub counts : List Token → List ℕ
counts ts = flat_map (λ t. count_of t.kind) ts

-- A token may stand after letters and counts: a count from 1 on, with which the total is at most 12, where each count before
-- has its letter; a letter a to z that did not stand before, where the last count has none.
abbrev pub may_follow : List ℕ → List ℕ → TokenKind → Bool
may_follow ls ns (Number n) = length ls == length ns && nat_lt 0 n && nat_le (sum ns + n) 12
may_follow ls ns (Letter c) = nat_lt (length ls) (length ns) && nat_le 97 c && nat_le c 122 && not (list_any (λ l. l == c) ls)
may_follow ls ns other = false

-- there is a pair, and each count has its letter
abbrev pub are_whole : List ℕ → List ℕ → Bool
are_whole ls ns = nat_lt 0 (length ls) && length ls == length ns

-- the place of the first token that may not stand after those before it, or of the end where no whole pairs are there
abbrev pub fault_from : List Token → List Token → ℕ → Option ℕ
fault_from before [] end = if are_whole (letters before) (counts before) then None else Some end
fault_from before (t ∷ ts) end =
    if may_follow (letters before) (counts before) t.kind then fault_from (before ++ t ∷ []) ts end else Some t.from

-- the place of the first fault of a list of generators
abbrev pub generators_fault : List Token → ℕ → Option ℕ
generators_fault ts end = fault_from [] ts end

-- different letters a to z; counts from 1 on, with a total of at most 12; at most one count without a letter
pub record AreBegun (ls ns : List ℕ) : Type 0 where
  pub known : All (λ l. (97 ≤ l) × (l ≤ 122)) ls
  pub different : AllPairs (λ k l. k ≢ l) ls
  pub positive : All (λ n. 0 < n) ns
  pub low : sum ns ≤ 12
  pub within : length ls ≤ length ns

-- a letter for each count
pub record AreGenerators (ls ns : List ℕ) : Type 0 where
  pub named : length ls ≡ length ns
  pub positive : All (λ n. 0 < n) ns
  pub low : sum ns ≤ 12

-- ---- what contracts see of a builder, and what holds of every builder

-- the number of elements of the field, the generators' letters and counts, and the polynomials of the identities
pub record Builder : Type 0 where
  pub field : ℕ
  pub letters : List ℕ
  pub counts : List ℕ
  pub identities : List (List (ℕ × Tree))

-- a builder is stored as its four parts
abbrev pub builder_code : Coded Builder
builder_code =
    code_by (ℕ × (List ℕ × (List ℕ × List (List (ℕ × Tree)))))
    (coded× coded_ℕ (coded× (coded_list coded_ℕ) (coded× (coded_list coded_ℕ) (coded_list (coded_list (coded× coded_ℕ tree_code))))))
    (λ b. (b.field, (b.letters, (b.counts, b.identities))))
    (λ q. record { field = q.0; letters = q.1.0; counts = q.1.1.0; identities = q.1.1.1 }) (λ _. refl)

-- the full linearization of an identity, in normal form
abbrev pub linear_form : ℕ → Poly → Form
linear_form p f = record { degree = sum (leading_type f); terms = normal p (linearization (leading_type f) f).terms }

-- a polynomial as an identity: its variables are the 26 letters, with their degrees in the leading term
abbrev pub with_degrees : Poly → Identity
with_degrees f = record { degrees = leading_type f; terms = f }

-- An identity that a builder keeps: a homogeneous polynomial of degree 2 to 8 over the field, whose linearization has at most
-- 100,000 terms.
pub record IsKeptIdentity (p : ℕ) (f : Poly) : Type 0 where
  pub no_fault : identity_fault f ≡ None
  pub homogeneous : IsHomogeneous (leading_type f) f
  pub residues : AreResidues p f
  pub small : linear_count f ≤ 100000
  pub linearized : IsLinearized p (linear_form p f)

-- what holds of every builder
pub record IsSoundBuilder (b : Builder) : Type 0 where
  pub generators : AreGenerators b.letters b.counts
  pub few : length b.identities ≤ 32
  pub kept : Each (IsKeptIdentity b.field) b.identities

-- ---- when a builder refuses a statement

pub data ProblemRefusal : Type 0 where
  NotInTable : ProblemRefusal
  FieldAfterIdentity : ProblemRefusal
  GeneratorsTwice : ProblemRefusal
  BadGenerators : ℕ → ProblemRefusal
  TooManyIdentities : ProblemRefusal
  NoIdentity : IdentityFault → ProblemRefusal
  TooManyLinear : ℕ → ProblemRefusal
  NoGenerators : ProblemRefusal
  FieldTooSmall : ProblemRefusal

-- a field is named before the identities, and stands in the table
abbrev pub field_refusal : Builder → ℕ → Option ProblemRefusal
field_refusal b p =
    if nat_lt 0 (length b.identities) then Some FieldAfterIdentity else if is_in_table p then None else Some NotInTable

abbrev pub bad_generators : Option ℕ → Option ProblemRefusal
bad_generators None = None
bad_generators (Some place) = Some (BadGenerators place)

-- generators are named once, and in their form
abbrev pub generators_refusal : Builder → List Token → ℕ → Option ProblemRefusal
generators_refusal b ts end =
    if nat_lt 0 (length b.letters) then Some GeneratorsTwice else bad_generators (generators_fault ts end)

abbrev pub fault_refusal : Option IdentityFault → ℕ → Option ProblemRefusal
fault_refusal (Some fault) n = Some (NoIdentity fault)
fault_refusal None n = if nat_lt 100000 n then Some (TooManyLinear n) else None

-- there are at most 32 identities, each homogeneous of degree 2 to 8, with a linearization of at most 100,000 terms
abbrev pub identity_refusal : Builder → Poly → Option ProblemRefusal
identity_refusal b f =
    if nat_le 32 (length b.identities) then Some TooManyIdentities else fault_refusal (identity_fault f) (linear_count f)

-- there are generators, and the field has more elements than their total
abbrev pub finish_refusal : Builder → Option ProblemRefusal
finish_refusal b =
    if length b.letters == 0 then Some NoGenerators else if nat_le b.field (sum b.counts) then Some FieldTooSmall else None

-- the error of an identity tells this refusal
abbrev pub TellsIdentity : IdentityError → Option ProblemRefusal → Type 0
TellsIdentity identity.Zero found = found ≡ Some (NoIdentity Zero)
TellsIdentity (identity.NotHomogeneous m) found = found ≡ Some (NoIdentity (NotHomogeneous (tree m)))
TellsIdentity identity.DegreeOne found = found ≡ Some (NoIdentity DegreeOne)
TellsIdentity identity.DegreeOver8 found = found ≡ Some (NoIdentity DegreeOver8)
TellsIdentity (identity.TooManyLinear n) found = found ≡ Some (TooManyLinear n)
TellsIdentity identity.NoMemory found = ⊥

-- the error tells this refusal
abbrev pub TellsRefusal : ProblemError → Option ProblemRefusal → Type 0
TellsRefusal errors.NotInTable found = found ≡ Some NotInTable
TellsRefusal errors.FieldAfterIdentity found = found ≡ Some FieldAfterIdentity
TellsRefusal errors.GeneratorsTwice found = found ≡ Some GeneratorsTwice
TellsRefusal (errors.BadGenerators place) found = found ≡ Some (BadGenerators place)
TellsRefusal errors.TooManyIdentities found = found ≡ Some TooManyIdentities
TellsRefusal (errors.Identity e) found = TellsIdentity e found
TellsRefusal errors.NoGenerators found = found ≡ Some NoGenerators
TellsRefusal errors.FieldTooSmall found = found ≡ Some FieldTooSmall
TellsRefusal errors.NoMemory found = ⊥

-- the error of an identity as that of a problem
abbrev pub of_identity : IdentityError → ProblemError
of_identity identity.NoMemory = errors.NoMemory
of_identity e = errors.Identity e

-- accepted exactly where there is no refusal; else the error tells it
abbrev pub StatementAnswers : {X : Type 0} → Result X ProblemError → Option ProblemRefusal → Type 0
StatementAnswers (Ok x) found = found ≡ None
StatementAnswers (Err e) found = TellsRefusal e found

-- the same, unless memory ran out
abbrev pub AnswersOrNoMemory : {X : Type 0} → Result X ProblemError → Option ProblemRefusal → Type 0
AnswersOrNoMemory (Ok x) found = found ≡ None
AnswersOrNoMemory (Err errors.NoMemory) found = Unit {0}
AnswersOrNoMemory (Err e) found = TellsRefusal e found

-- ---- what accepted statements make of a problem

-- the linearized identities
abbrev pub forms_of : Builder → List Form
forms_of b = map (linear_form b.field) b.identities

-- the field is one of the table, the generators have different letters, each with its count, and there are at most 32 identities,
-- which are homogeneous, of degree 2 to 8
pub record IsSoundProblem (b : Builder) : Type 0 where
  pub field : IsInTable b.field
  pub generators : AreGenerators b.letters b.counts
  pub letters : AreLetters b.letters
  pub few : length b.identities ≤ 32
  pub homogeneous : Each (λ f. IsHomogeneous (leading_type f) f) b.identities
  pub faultless : Each (λ f. identity_fault f ≡ None) b.identities
