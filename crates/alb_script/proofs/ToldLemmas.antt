-- The refusals of the problem, as its errors tell them.
use Rattle.std.proofs.Common.{◌≡◌, ℕ, Bool, true, false, List, [], ◌∷◌, length, Option, Some, None, refl, subst}
use Rattle.std.specs.Prelude.{if◌then◌else◌, IsTrue, All, nat_lt, nat_le, ◌==◌, sum}
use Rattle.std.proofs.lemmas.List.Elements.{All-head, All-tail}
use Rattle.gf_field.specs.Modular.{is_in_table}
use Rattle.alb_mono.specs.Tree.{tree, Tree, type_of, are_below}
use Rattle.alb_lex.specs.declared.token.Token.{Token}
use Rattle.alb_poly.specs.Poly.{Poly, list_eq}
use Rattle.alb_linear.specs.Identity as identity
use Rattle.alb_linear.specs.Identity.{other_term, type_fault, identity_fault, linear_count}
use Rattle.alb_linear.specs.declared.error.IdentityError.TheVariants as linear
use Rattle.alb_problem.specs.Builder.{Builder, generators_fault, TellsRefusal, field_refusal, bad_generators, generators_refusal, fault_refusal, identity_refusal, finish_refusal}
use Rattle.alb_problem.specs.Builder as refusals
use Rattle.alb_problem.specs.declared.error.ProblemError.{ProblemError}
use Rattle.alb_problem.specs.declared.error.ProblemError.TheVariants as error
use Rattle.alb_script.specs.Refusals.{told_by_problem, is_problem_memory, IsProblemOverAlphabet}

-- ---- what an error tells

-- the refusal that an error tells
pub record IsTold (e : ProblemError) (found : Option refusals.ProblemRefusal) : Type 0 where
  pub refusal : refusals.ProblemRefusal
  pub found_is : found ≡ Some refusal
  pub told : told_by_problem e ≡ Some refusal
  pub memory : is_problem_memory e ≡ false

pub tells : (e : ProblemError) (found : Option refusals.ProblemRefusal) → TellsRefusal e found → IsTold e found
tells error.NotInTable found h = record { refusal = refusals.NotInTable; found_is = h; told = refl; memory = refl }
tells error.FieldAfterIdentity found h = record { refusal = refusals.FieldAfterIdentity; found_is = h; told = refl; memory = refl }
tells error.GeneratorsTwice found h = record { refusal = refusals.GeneratorsTwice; found_is = h; told = refl; memory = refl }
tells (error.BadGenerators place) found h = record { refusal = refusals.BadGenerators place; found_is = h; told = refl; memory = refl }
tells error.TooManyIdentities found h = record { refusal = refusals.TooManyIdentities; found_is = h; told = refl; memory = refl }
tells (error.Identity linear.Zero) found h = record { refusal = refusals.NoIdentity identity.Zero; found_is = h; told = refl; memory = refl }
tells (error.Identity (linear.NotHomogeneous m)) found h = record { refusal = refusals.NoIdentity (identity.NotHomogeneous (tree m)); found_is = h; told = refl; memory = refl }
tells (error.Identity linear.DegreeOne) found h = record { refusal = refusals.NoIdentity identity.DegreeOne; found_is = h; told = refl; memory = refl }
tells (error.Identity linear.DegreeOver8) found h = record { refusal = refusals.NoIdentity identity.DegreeOver8; found_is = h; told = refl; memory = refl }
tells (error.Identity (linear.TooManyLinear n)) found h = record { refusal = refusals.TooManyLinear n; found_is = h; told = refl; memory = refl }
tells (error.Identity linear.NoMemory) found h = absurd h
tells error.NoGenerators found h = record { refusal = refusals.NoGenerators; found_is = h; told = refl; memory = refl }
tells error.FieldTooSmall found h = record { refusal = refusals.FieldTooSmall; found_is = h; told = refl; memory = refl }
tells error.NoMemory found h = absurd h

-- ---- terms are over the letters a to z

-- an error names a term only where the refusal does
abbrev pub NamesKnown : Option refusals.ProblemRefusal → Type 0
NamesKnown (Some (refusals.NoIdentity (identity.NotHomogeneous m))) = IsTrue (are_below 26 m)
NamesKnown other = Unit {0}

pub over_alphabet : (e : ProblemError) (found : Option refusals.ProblemRefusal) → NamesKnown found → TellsRefusal e found → IsProblemOverAlphabet e
over_alphabet error.NotInTable found k h = tt
over_alphabet error.FieldAfterIdentity found k h = tt
over_alphabet error.GeneratorsTwice found k h = tt
over_alphabet (error.BadGenerators place) found k h = tt
over_alphabet error.TooManyIdentities found k h = tt
over_alphabet (error.Identity linear.Zero) found k h = tt
over_alphabet (error.Identity (linear.NotHomogeneous m)) found k h = subst NamesKnown h k
over_alphabet (error.Identity linear.DegreeOne) found k h = tt
over_alphabet (error.Identity linear.DegreeOver8) found k h = tt
over_alphabet (error.Identity (linear.TooManyLinear n)) found k h = tt
over_alphabet (error.Identity linear.NoMemory) found k h = absurd h
over_alphabet error.NoGenerators found k h = tt
over_alphabet error.FieldTooSmall found k h = tt
over_alphabet error.NoMemory found k h = absurd h

field_known : (a b : Bool) → NamesKnown (if a then Some refusals.FieldAfterIdentity else if b then None else Some refusals.NotInTable)
field_known true b = tt
field_known false true = tt
field_known false false = tt

pub field-known : (b : Builder) (p : ℕ) → NamesKnown (field_refusal b p)
field-known b p = field_known (nat_lt 0 (length b.identities)) (is_in_table p)

generators_known : (a : Bool) (o : Option ℕ) → NamesKnown (if a then Some refusals.GeneratorsTwice else bad_generators o)
generators_known true o = tt
generators_known false None = tt
generators_known false (Some place) = tt

pub generators-known : (b : Builder) (ts : List Token) (end : ℕ) → NamesKnown (generators_refusal b ts end)
generators-known b ts end = generators_known (nat_lt 0 (length b.letters)) (generators_fault ts end)

finish_known : (a b : Bool) → NamesKnown (if a then Some refusals.NoGenerators else if b then Some refusals.FieldTooSmall else None)
finish_known true b = tt
finish_known false true = tt
finish_known false false = tt

pub finish-known : (b : Builder) → NamesKnown (finish_refusal b)
finish-known b = finish_known (length b.letters == 0) (nat_le b.field (sum b.counts))

-- the term that a fault names is one of the polynomial
abbrev FaultKnown : Option identity.IdentityFault → Type 0
FaultKnown (Some (identity.NotHomogeneous m)) = IsTrue (are_below 26 m)
FaultKnown other = Unit {0}

abbrev TermKnown : Option Tree → Type 0
TermKnown (Some m) = IsTrue (are_below 26 m)
TermKnown None = Unit {0}

test_known : (b : Bool) (o : Option Tree) (m : Tree) → TermKnown o → IsTrue (are_below 26 m) → TermKnown (if b then o else Some m)
test_known true o m h k = h
test_known false o m h k = k

other_known : (e : List ℕ) (f : Poly) → All (λ t. IsTrue (are_below 26 t.1)) f → TermKnown (other_term e f)
other_known e [] h = tt
other_known e (t ∷ f) h = test_known (list_eq (type_of 26 t.1) e) (other_term e f) t.1 (other_known e f (All-tail (λ t. IsTrue (are_below 26 t.1)) t f h)) (All-head (λ t. IsTrue (are_below 26 t.1)) t f h)

degree_known : (a b : Bool) → FaultKnown (if a then Some identity.DegreeOne else if b then Some identity.DegreeOver8 else None)
degree_known true b = tt
degree_known false true = tt
degree_known false false = tt

type_known : (e : List ℕ) (o : Option Tree) → TermKnown o → FaultKnown (type_fault e o)
type_known e (Some m) h = h
type_known e None h = degree_known (sum e == 1) (nat_lt 8 (sum e))

fault_known : (f : Poly) → All (λ t. IsTrue (are_below 26 t.1)) f → FaultKnown (identity_fault f)
fault_known [] h = tt
fault_known (t ∷ f) h = type_known (type_of 26 t.1) (other_term (type_of 26 t.1) f) (other_known (type_of 26 t.1) f (All-tail (λ t. IsTrue (are_below 26 t.1)) t f h))

linear_known : (b : Bool) (n : ℕ) → NamesKnown (if b then Some (refusals.TooManyLinear n) else None)
linear_known true n = tt
linear_known false n = tt

refusal_known : (o : Option identity.IdentityFault) (n : ℕ) → FaultKnown o → NamesKnown (fault_refusal o n)
refusal_known None n h = linear_known (nat_lt 100000 n) n
refusal_known (Some identity.Zero) n h = tt
refusal_known (Some (identity.NotHomogeneous m)) n h = h
refusal_known (Some identity.DegreeOne) n h = tt
refusal_known (Some identity.DegreeOver8) n h = tt

many_known : (b : Bool) (o : Option refusals.ProblemRefusal) → NamesKnown o → NamesKnown (if b then Some refusals.TooManyIdentities else o)
many_known true o h = tt
many_known false o h = h

pub identity-known : (b : Builder) (f : Poly) → All (λ t. IsTrue (are_below 26 t.1)) f → NamesKnown (identity_refusal b f)
identity-known b f h =
    many_known (nat_le 32 (length b.identities)) (fault_refusal (identity_fault f) (linear_count f)) (refusal_known (identity_fault f) (linear_count f) (fault_known f h))
