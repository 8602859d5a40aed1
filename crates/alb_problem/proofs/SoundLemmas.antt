-- What accepted statements make of a problem, and what its linearizations are.
use Rattle.std.proofs.Common.{◌≡◌, ◌≢◌, ℕ, ◌+◌, ◌<◌, ◌≤◌, ◌^◌, Bool, true, false, List, [], ◌∷◌, ◌++◌, length, map, sum, All, Option, Some, None, refl, sym, ap, ◌∙◌, subst, append_assoc, arith}
use Rattle.std.specs.Prelude.{if◌then◌else◌, IsTrue, nat_lt, nat_le, ◌==◌}
use Rattle.std.proofs.lemmas.Bool.Decides.{nat_tests}
use Rattle.std.specs.List.{flat_map}
use Rattle.std.proofs.lemmas.List.{append-nil, length-append, length-map}
use Rattle.std.proofs.lemmas.List.Concat.{flat_map-append}
use Rattle.std.proofs.lemmas.List.Elements.{All-append, All-cons, All-nil}
use Rattle.alb_lex.specs.declared.token.Token.{Token}
use Rattle.alb_lex.specs.declared.token.TokenKind.{TokenKind}
use Rattle.alb_lex.specs.declared.token.TokenKind.TheVariants as kinds
use Rattle.gf_field.specs.Modular.{IsInTable, is_in_table}
use Rattle.gf_field.proofs.Table.{IsPrime-from_table}
use Rattle.alb_mono.specs.Tree.{AreLetters, Tree, are_below}
use Rattle.alb_mono.specs.Listing.{Each}
use Rattle.alb_mono.proofs.LetterLemmas.{AreLetters-from_different}
use Rattle.alb_poly.specs.Poly.{Poly, AreResidues, normal}
use Rattle.alb_poly.specs.Instance.{Form, linearization, IsMultilinear, IsHomogeneous, AreHomogeneous, linearizations, polynomials, AreSameForms}
use Rattle.alb_poly.specs.Consequence.{IsConsequence, AreMultilinear, forms}
use Rattle.alb_poly.specs.Textbook.{IsTextConsequence}
use Rattle.alb_poly.proofs.NormalLemmas.{normal-same, normal-each, normal-residues}
use Rattle.alb_poly.proofs.Multilinear.{each-append, each-map, sum_cons, linearization-multilinear}
use Rattle.alb_linear.specs.Identity as identity
use Rattle.alb_linear.specs.Identity.{leading_type, identity_fault, type_fault, degree_fault, other_term, linear_count, IdentityFault, IsLinearized}
use Rattle.alb_linear.specs.declared.identity.Identity.{Identity}
use Rattle.alb_linear.proofs.LinearLemmas.{IsFit, identity-fits, degree-pos}
use Rattle.alb_problem.specs.Builder.{Builder, linear_form, with_degrees, letters, counts, letter_of, count_of, may_follow, are_whole, fault_from, generators_fault, AreBegun, AreGenerators, field_refusal, bad_generators, generators_refusal, identity_refusal, fault_refusal, finish_refusal, forms_of, IsSoundProblem}
use Rattle.alb_problem.specs.Problem.{problem, IsAccepted}
use Rattle.alb_problem.specs.Builder as refusals
use Rattle.alb_problem.specs.declared.problem.Problem.{Problem}
use Rattle.alb_problem.proofs.BuilderLemmas.{homogeneous-no_fault}
use Rattle.alb_problem.proofs.GeneratorLemmas.{fits-count, begun-letter}
use Rattle.alb_problem.proofs.AllVectors.{degree-type}
use Rattle.alb_problem.proofs.LawLemmas.{consequences-text}

-- ---- statements

field-in_table : (p : ℕ) (named b : Bool) → b ≡ is_in_table p → (if named then Some refusals.FieldAfterIdentity else if b then None else Some refusals.NotInTable) ≡ None → IsInTable p
field-in_table p true b is h = absurd (cc)
field-in_table p false true is h = subst IsTrue is refl
field-in_table p false false is h = absurd (cc)

from-whole : (b : Bool) (end : ℕ) → (if b then None else Some end) ≡ None → b ≡ true
from-whole true end h = refl
from-whole false end h = absurd (cc)

-- each count has its letter
whole-named : (ls ns : List ℕ) → are_whole ls ns ≡ true → length ls ≡ length ns
whole-named ls ns h = grind (arith, nat_tests, h)

sum-push : (ns : List ℕ) (n : ℕ) → sum (ns ++ n ∷ []) ≡ sum ns + n
sum-push [] n = omega (arith, sum_cons n [])
sum-push (m ∷ ns) n = omega (arith, sum_cons m ns, sum_cons m (ns ++ n ∷ []), sum-push ns n)

begun-count : (ls ns : List ℕ) (n : ℕ) → AreBegun ls ns → may_follow ls ns (kinds.Number n) ≡ true → AreBegun ls (ns ++ n ∷ [])
begun-count ls ns n a h =
    let f = fits-count ls ns n h in
    record {
      known = a.known;
      different = a.different;
      positive = All-append (λ m. 0 < m) ns (n ∷ []) a.positive (All-cons (λ m. 0 < m) n [] f.positive (All-nil _));
      low = omega (arith, f.low, sum-push ns n);
      within = omega (arith, a.within, length-append ns (n ∷ []));
    }

begun-token : (ls ns : List ℕ) (k : TokenKind) → may_follow ls ns k ≡ true → AreBegun ls ns → AreBegun (ls ++ letter_of k) (ns ++ count_of k)
begun-token ls ns (kinds.Number n) h a = subst (λ l. AreBegun l (ns ++ n ∷ [])) (sym (append-nil ls)) (begun-count ls ns n a h)
begun-token ls ns (kinds.Letter c) h a = subst (AreBegun (ls ++ c ∷ [])) (sym (append-nil ns)) (begun-letter ls ns c a h)
begun-token ls ns kinds.Plus h a = absurd (cc)
begun-token ls ns kinds.Minus h a = absurd (cc)
begun-token ls ns kinds.Star h a = absurd (cc)
begun-token ls ns kinds.Caret h a = absurd (cc)
begun-token ls ns kinds.Comma h a = absurd (cc)
begun-token ls ns kinds.Open h a = absurd (cc)
begun-token ls ns kinds.Close h a = absurd (cc)
begun-token ls ns kinds.SquareOpen h a = absurd (cc)
begun-token ls ns kinds.SquareClose h a = absurd (cc)

flat-one : (g : Token → List ℕ) (ts : List Token) (t : Token) → flat_map g (ts ++ t ∷ []) ≡ flat_map g ts ++ g t
flat-one g ts t = flat_map-append g ts (t ∷ []) ∙ ap (λ l. flat_map g ts ++ l) (append-nil (g t))

fits-both : (b : Bool) (o : Option ℕ) (place : ℕ) → (if b then o else Some place) ≡ None → (b ≡ true) × (o ≡ None)
fits-both true o place h = (refl, h)
fits-both false o place h = absurd (cc)

-- different letters, each with its count
record AreNamed (ls ns : List ℕ) : Type 0 where
  generators : AreGenerators ls ns
  letters : AreLetters ls

fault-sound : (before ts : List Token) (end : ℕ) → AreBegun (letters before) (counts before) → fault_from before ts end ≡ None → AreNamed (letters (before ++ ts)) (counts (before ++ ts))
fault-sound before [] end a h =
    subst (λ xs. AreNamed (letters xs) (counts xs)) (sym (append-nil before)) (record {
      generators = record { named = whole-named (letters before) (counts before) (from-whole (are_whole (letters before) (counts before)) end h); positive = a.positive; low = a.low };
      letters = AreLetters-from_different (letters before) a.known a.different;
    })
fault-sound before (t ∷ ts) end a h =
    let k = fits-both (may_follow (letters before) (counts before) t.kind) (fault_from (before ++ t ∷ []) ts end) t.from h in
    let l : AreBegun (letters (before ++ t ∷ [])) (counts (before ++ t ∷ [])) =
    subst (λ ls. AreBegun ls (counts (before ++ t ∷ []))) (sym (flat-one (λ u. letter_of u.kind) before t))
    (subst (AreBegun (letters before ++ letter_of t.kind)) (sym (flat-one (λ u. count_of u.kind) before t)) (begun-token (letters before) (counts before) t.kind k.0 a)) in
    subst (λ xs. AreNamed (letters xs) (counts xs)) (append_assoc before (t ∷ []) ts) (fault-sound (before ++ t ∷ []) ts end l k.1)

bad-none : (o : Option ℕ) → bad_generators o ≡ None → o ≡ None
bad-none None h = refl
bad-none (Some place) h = absurd (cc)

none-begun : AreBegun [] []
none-begun = record { known = All-nil _; different = λ i j d k l. absurd (omega arith); positive = All-nil _; low = omega arith; within = omega arith }

generators-sound : (twice : Bool) (ts : List Token) (end : ℕ) → (if twice then Some refusals.GeneratorsTwice else bad_generators (generators_fault ts end)) ≡ None → AreNamed (letters ts) (counts ts)
generators-sound true ts end h = absurd (cc)
generators-sound false ts end h = fault-sound [] ts end none-begun (bad-none (generators_fault ts end) h)

-- no letters
pub none-letters : AreLetters []
none-letters = AreLetters-from_different [] none-begun.known none-begun.different

fault-none : (o : Option IdentityFault) (n : ℕ) → fault_refusal o n ≡ None → o ≡ None
fault-none None n h = refl
fault-none (Some x) n h = absurd (cc)

not-many : (many : Bool) (o : Option IdentityFault) (n : ℕ) → (if many then Some refusals.TooManyIdentities else fault_refusal o n) ≡ None → many ≡ false
not-many true o n h = absurd (cc)
not-many false o n h = refl

few-more : (fs : List Poly) (f : Poly) → nat_le 32 (length fs) ≡ false → length (fs ++ f ∷ []) ≤ 32
few-more fs f h = let l : length fs < 32 = grind (arith, nat_tests, h) in omega (arith, l, length-append fs (f ∷ []))

refusal-none : (many : Bool) (o : Option IdentityFault) (n : ℕ) → (if many then Some refusals.TooManyIdentities else fault_refusal o n) ≡ None → o ≡ None
refusal-none true o n h = absurd (cc)
refusal-none false o n h = fault-none o n h

-- ---- a problem stays sound by each statement that is accepted

pub field-sound : (b : Builder) (p : ℕ) → IsSoundProblem b → field_refusal b p ≡ None → IsSoundProblem (record b { field = p })
field-sound b p h none = record {
  field = field-in_table p (nat_lt 0 (length b.identities)) (is_in_table p) refl none;
  generators = h.generators;
  letters = h.letters;
  few = h.few;
  homogeneous = h.homogeneous;
  faultless = h.faultless;
}

pub named-sound : (b : Builder) (ts : List Token) (end : ℕ) → IsSoundProblem b → generators_refusal b ts end ≡ None → IsSoundProblem (record b { letters = letters ts; counts = counts ts })
named-sound b ts end h none = record {
  field = h.field;
  generators = (generators-sound (nat_lt 0 (length b.letters)) ts end none).generators;
  letters = (generators-sound (nat_lt 0 (length b.letters)) ts end none).letters;
  few = h.few;
  homogeneous = h.homogeneous;
  faultless = h.faultless;
}

pub identity-sound : (b : Builder) (f : Poly) → IsSoundProblem b → All (λ t. IsTrue (are_below 26 t.1)) f → identity_refusal b f ≡ None → IsSoundProblem (record b { identities = b.identities ++ f ∷ [] })
identity-sound b f h k none = record {
  field = h.field;
  generators = h.generators;
  letters = h.letters;
  few = few-more b.identities f (not-many (nat_le 32 (length b.identities)) (identity_fault f) (linear_count f) none);
  homogeneous = each-append (λ f. IsHomogeneous (leading_type f) f) b.identities (f ∷ []) h.homogeneous
      (homogeneous-no_fault f k (refusal-none (nat_le 32 (length b.identities)) (identity_fault f) (linear_count f) none), tt);
  faultless = each-append (λ f. identity_fault f ≡ None) b.identities (f ∷ []) h.faultless (refusal-none (nat_le 32 (length b.identities)) (identity_fault f) (linear_count f) none, tt);
}

-- ---- consequences

pub polynomials-named : (fs : List Poly) → polynomials (map with_degrees fs) ≡ fs
polynomials-named [] = refl
polynomials-named (f ∷ fs) = ap (λ l. f ∷ l) (polynomials-named fs)

pub same-named : (p : ℕ) (fs : List Poly) → AreSameForms p (map (linear_form p) fs) (linearizations (map with_degrees fs))
same-named p [] = tt
same-named p (f ∷ fs) = (record { degree = refl; terms = normal-same p (linearization (leading_type f) f).terms }, same-named p fs)

pub all-homogeneous : (b : Builder) → IsSoundProblem b → AreHomogeneous (map with_degrees b.identities)
all-homogeneous b h = each-map (λ f. IsHomogeneous (leading_type f) f) (λ i. IsHomogeneous i.degrees i.terms) with_degrees b.identities (λ f a. a) h.homogeneous

pub table-positive : (p : ℕ) → IsInTable p → 0 < p
table-positive p h = let prime = IsPrime-from_table p h in omega (arith, prime.above_one)

-- a consequence of the linearizations is one of the identities, in the textbook's sense
pub text-consequence : (b : Builder) (g : Poly) → IsSoundProblem b → IsConsequence b.field (forms_of b) g → IsTextConsequence b.field b.identities g
text-consequence b g h c =
    subst (λ fs. IsTextConsequence b.field fs g) (polynomials-named b.identities)
    (consequences-text b.field (forms_of b) (map with_degrees b.identities) g (table-positive b.field h.field) (all-homogeneous b h) (same-named b.field b.identities) c)

finish-large : (a c : Bool) → (if a then Some refusals.NoGenerators else if c then Some refusals.FieldTooSmall else None) ≡ None → c ≡ false
finish-large true c h = absurd (cc)
finish-large false true h = absurd (cc)
finish-large false false h = refl

pub accepted-large : (b : Builder) → finish_refusal b ≡ None → sum b.counts < b.field
accepted-large b h =
    let small : nat_le b.field (sum b.counts) ≡ false = finish-large (length b.letters == 0) (nat_le b.field (sum b.counts)) h in
    grind (arith, nat_tests, small)

-- ---- linearizations

-- what the rules of a problem are: linearized forms of degree 2 to 8
pub record AreForms (p : ℕ) (fs : List Form) : Type 0 where
  pub linearized : Each (IsLinearized p) fs
  pub low : Each (λ f. f.degree ≤ 8) fs
  pub high : Each (λ f. 2 ≤ f.degree) fs

not-one : (n : ℕ) → degree_fault n ≡ None → n ≢ 1
not-one n h is = let k : Some identity.DegreeOne ≡ None = rw is at h in cc

no_type_fault : (e : List ℕ) (o : Option Tree) → type_fault e o ≡ None → degree_fault (sum e) ≡ None
no_type_fault e None h = h
no_type_fault e (Some m) h = absurd (cc)

identity-high : (f : Poly) → IsHomogeneous (leading_type f) f → identity_fault f ≡ None → 2 ≤ sum (leading_type f)
identity-high [] hom h = absurd (cc)
identity-high (t ∷ f) hom h =
    let ne : sum (leading_type (t ∷ f)) ≢ 1 = not-one (sum (leading_type (t ∷ f))) (no_type_fault (leading_type (t ∷ f)) (other_term (leading_type (t ∷ f)) f) h) in
    omega (arith, degree-type (leading_type (t ∷ f)) t.1 hom.0, degree-pos t.1, ne)

identity-low : (f : Poly) → identity_fault f ≡ None → sum (leading_type f) ≤ 8
identity-low f h = let fit : IsFit f = identity-fits f h in fit.small

form-linearized : (p : ℕ) (f : Poly) → 0 < p → IsHomogeneous (leading_type f) f → IsLinearized p (linear_form p f)
form-linearized p f pos hom = record {
  residues = normal-residues p (linearization (leading_type f) f).terms pos;
  multilinear = normal-each (IsMultilinear (sum (leading_type f))) p (linearization (leading_type f) f).terms (linearization-multilinear (leading_type f) f hom);
}

pub forms-of : (p : ℕ) (fs : List Poly) → 0 < p → Each (λ f. IsHomogeneous (leading_type f) f) fs → Each (λ f. identity_fault f ≡ None) fs → AreForms p (map (linear_form p) fs)
forms-of p [] pos hom h = record { linearized = tt; low = tt; high = tt }
forms-of p (f ∷ fs) pos hom h =
    let rest = forms-of p fs pos hom.1 h.1 in
    record {
      linearized = (form-linearized p f pos hom.0, rest.linearized);
      low = (identity-low f h.0, rest.low);
      high = (identity-high f hom.0 h.0, rest.high);
    }

-- the rules of a sound problem
pub problem-forms : (b : Builder) → IsSoundProblem b → AreForms b.field (forms_of b)
problem-forms b h = forms-of b.field b.identities (table-positive b.field h.field) h.homogeneous h.faultless

-- there are few
pub problem-few : (b : Builder) → IsSoundProblem b → length (forms_of b) < 10 ^ 18
problem-few b h = let n : length (forms_of b) ≡ length b.identities = length-map b.identities (linear_form b.field) in omega (arith, n, h.few)

-- linearized forms are multilinear
pub forms-multilinear : (p : ℕ) (fs : List Form) → Each (IsLinearized p) fs → AreMultilinear fs
forms-multilinear p [] h = tt
forms-multilinear p (f ∷ fs) h = (h.0.multilinear, forms-multilinear p fs h.1)

-- ---- accepted problems

map_poly : (g : Poly → Form) (fs : List Identity) → map g (map (λ (f : Identity). f.poly) fs) ≡ map (λ (f : Identity). g f.poly) fs
map_poly g [] = refl
map_poly g (f ∷ fs) = ap (λ l. g f.poly ∷ l) (map_poly g fs)

-- the forms of an accepted problem are those of its rules
pub forms-rules : (q : Problem) → IsAccepted q → forms q.rules ≡ forms_of (problem q)
forms-rules q a = a.stand ∙ sym (map_poly (linear_form q.rules.field) q.identities.items)

some_letters : (n m : ℕ) → n ≡ m → 0 < m → (n == 0) ≡ false
some_letters n m is some = grind (arith, nat_tests)

above_total : (p n : ℕ) → n < p → nat_le p n ≡ false
above_total p n large = grind (arith, nat_tests)

some_counts : (ns : List ℕ) → 0 < sum ns → 0 < length ns
some_counts [] some = absurd (omega arith)
some_counts (n ∷ ns) some = omega arith

-- an accepted problem is not refused
pub accepted-finish : (q : Problem) → IsAccepted q → finish_refusal (problem q) ≡ None
accepted-finish q a =
    let named : (length q.letters == 0) ≡ false = some_letters (length q.letters) (length q.rules.target) a.named (some_counts q.rules.target a.some) in
    let large : nat_le q.rules.field (sum q.rules.target) ≡ false = above_total q.rules.field (sum q.rules.target) a.large in
    rw (named, large)
