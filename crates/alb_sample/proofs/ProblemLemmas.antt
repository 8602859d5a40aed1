-- The forms of the sample's problem.
use Rattle.std.proofs.Common.{◌≡◌, ℕ, ◌<◌, ◌≤◌, List, [], ◌∷◌, length, sum, sym, refl, ap, ◌∙◌, subst, arith}
use Rattle.std.proofs.lemmas.List.Elements.{All-cons, All-nil}
use Rattle.gf_field.specs.Modular.{IsSameMod, IsInTable, is_in_table, primes}
use Rattle.gf_field.proofs.Mod.{same, ◌⊙◌}
use Rattle.gf_sums.specs.Sums.{weigh}
use Rattle.alb_mono.specs.Listing.{Each}
use Rattle.alb_mono.specs.Tree.{Tree, leaf, node, type_of, AreBelow}
use Rattle.alb_poly.specs.Poly.{Poly}
use Rattle.alb_poly.specs.Instance.{IsHomogeneous, Form, linearization, IsMultilinear}
use Rattle.alb_poly.proofs.Multilinear.{linearization-multilinear}
use Rattle.alb_poly.proofs.NormalLemmas.{normal-each, normal-residues, normal-alike}
use Rattle.alb_linear.specs.Identity.{leading_type, IsLinearized}
use Rattle.alb_linear.proofs.LinearLemmas.{type-has}
use Rattle.alb_problem.specs.Builder.{linear_form}
use Rattle.alb_table.specs.RightTable.{AreRules}
use Rattle.alb_table.specs.Table.{IsTarget}
use Rattle.alb_sample.specs.Problem.{associator, letter_x, letter_y, sample_forms, sample_view}

-- the two identities
abbrev pub left_law : Poly
left_law = associator letter_x letter_x letter_y

abbrev pub right_law : Poly
right_law = associator letter_y letter_x letter_x

pub forms-are : sample_forms ≡ linear_form 251 left_law ∷ linear_form 251 right_law ∷ []
unfolding sample_forms
forms-are = refl

-- the sum of the associators of three monomials in two orders
abbrev pub both : Tree → Tree → Tree → Tree → Tree → Tree → Poly
both l m r x y z =
    (1, node (node l m) r) ∷ (1, node (node x y) z) ∷ (250, node l (node m r)) ∷ (250, node x (node y z)) ∷ []

pub left-degree : sum (leading_type left_law) ≡ 3
unfolding type_of
left-degree = refl

pub right-degree : sum (leading_type right_law) ≡ 3
unfolding type_of
right-degree = refl

pub left-linear : (linearization (leading_type left_law) left_law).terms ≡ both (leaf 0) (leaf 1) (leaf 2) (leaf 1) (leaf 0) (leaf 2)
unfolding type_of
left-linear = refl

pub right-linear : (linearization (leading_type right_law) right_law).terms ≡ both (leaf 2) (leaf 0) (leaf 1) (leaf 2) (leaf 1) (leaf 0)
unfolding type_of
right-linear = refl

-- all terms have the type of the first
left-types : type_of 26 (node letter_x (node letter_x letter_y)) ≡ leading_type left_law
unfolding type_of
left-types = refl

right-types : type_of 26 (node letter_y (node letter_x letter_x)) ≡ leading_type right_law
unfolding type_of
right-types = refl

small : (k : ℕ) → k < 26 → AreBelow 26 (leaf k)
small k h = h

pub left-homogeneous : IsHomogeneous (leading_type left_law) left_law
left-homogeneous = (
  type-has (leading_type left_law) (node (node letter_x letter_x) letter_y) ((omega arith, omega arith), omega arith) refl,
  (type-has (leading_type left_law) (node letter_x (node letter_x letter_y)) (omega arith, (omega arith, omega arith)) left-types, tt),
)

pub right-homogeneous : IsHomogeneous (leading_type right_law) right_law
right-homogeneous = (
  type-has (leading_type right_law) (node (node letter_y letter_x) letter_x) ((omega arith, omega arith), omega arith) refl,
  (type-has (leading_type right_law) (node letter_y (node letter_x letter_x)) (omega arith, (omega arith, omega arith)) right-types, tt),
)

linear-linearized : (f : Poly) → IsHomogeneous (leading_type f) f → IsLinearized 251 (linear_form 251 f)
linear-linearized f h = record {
  residues = normal-residues 251 (linearization (leading_type f) f).terms (omega arith);
  multilinear = normal-each (IsMultilinear (sum (leading_type f))) 251 (linearization (leading_type f) f).terms (linearization-multilinear (leading_type f) f h);
}

pub forms-linearized : Each (IsLinearized 251) sample_forms
forms-linearized = subst (Each (IsLinearized 251)) (sym forms-are) (linear-linearized left_law left-homogeneous, (linear-linearized right_law right-homogeneous, tt))

pub forms-degrees : Each (λ (f : Form). f.degree ≡ 3) sample_forms
forms-degrees = subst (Each (λ (f : Form). f.degree ≡ 3)) (sym forms-are) (left-degree, (right-degree, tt))

pub forms-count : length sample_forms ≡ 2
forms-count = ap length forms-are

-- the field
pub listed : IsInTable 251
unfolding is_in_table primes
listed = refl

pub sample-target : IsTarget (4 ∷ 4 ∷ [])
sample-target = record {
  positive = All-cons (λ c. 0 < c) 4 (4 ∷ []) (omega arith) (All-cons (λ c. 0 < c) 4 [] (omega arith) (All-nil _));
  some = omega arith;
  small = omega arith;
}

each-degree : (P : ℕ → Type 0) → P 3 → (fs : List Form) → Each (λ (f : Form). f.degree ≡ 3) fs → Each (λ (f : Form). P f.degree) fs
each-degree P h [] a = tt
each-degree P h (f ∷ fs) a = (subst P (sym a.0) h, each-degree P h fs a.1)

-- the sample's rules are rules
pub sample-rules : AreRules sample_view
sample-rules = record {
  prime = listed;
  goal = sample-target;
  linearized = forms-linearized;
  high = each-degree (λ n. 2 ≤ n) (omega arith) sample_forms forms-degrees;
  low = each-degree (λ n. n ≤ 8) (omega arith) sample_forms forms-degrees;
  few = rw forms-count (omega arith);
}

-- ---- the sum of the coefficients of a form is 0

sum-both : (w : Tree → ℕ) (l m r x y z : Tree) → ((t : Tree) → w t ≡ 1) → weigh w (both l m r x y z) ≡ 502
sum-both w l m r x y z h =
    rw (h (node (node l m) r), h (node (node x y) z), h (node l (node m r)), h (node x (node y z))) refl

two_primes : IsSameMod 251 502 0
two_primes = record { same = refl }

sum-linear : (f : Poly) (l m r x y z : Tree) → (linearization (leading_type f) f).terms ≡ both l m r x y z → IsSameMod 251 (weigh (λ t. 1) (linear_form 251 f).terms) 0
sum-linear f l m r x y z e =
    (normal-alike 251 (linearization (leading_type f) f).terms).at (λ t. 1)
    ⊙ same (ap (weigh (λ t. 1)) e ∙ sum-both (λ t. 1) l m r x y z (λ t. refl)) ⊙ two_primes

pub forms-sum : Each (λ (f : Form). IsSameMod 251 (weigh (λ t. 1) f.terms) 0) sample_forms
forms-sum = subst (Each (λ (f : Form). IsSameMod 251 (weigh (λ t. 1) f.terms) 0)) (sym forms-are)
    (sum-linear left_law (leaf 0) (leaf 1) (leaf 2) (leaf 1) (leaf 0) (leaf 2) left-linear, (sum-linear right_law (leaf 2) (leaf 0) (leaf 1) (leaf 2) (leaf 1) (leaf 0) right-linear, tt))
