-- What the code draws, and the rules that it makes.
use Rattle.std.proofs.Common.{◌≡◌, ℕ, ◌+◌, ◌*◌, ◌%◌, ◌^◌, ◌<◌, ◌≤◌, true, false, Bool, List, [], ◌∷◌, get_or, nat_lt, sym, refl, ap, ap₂, ◌∙◌, arith}
use Rattle.std.specs.Prelude.{None, if◌then◌else◌, ◌&&◌, ◌==◌}
use Rattle.std.proofs.lemmas.Bool.Decides.{nat_tests}
use Rattle.std.proofs.Math.Nat.{mul_comm}
use Rattle.gf_field.proofs.Mod.{same, plus, of_mod}
use Rattle.alb_mono.specs.Tree.{leaf}
use Rattle.alb_mono.specs.declared.side.Side.{Side}
use Rattle.alb_mono.specs.declared.side.Side.TheVariants.{Left, Right}
use Rattle.alb_poly.specs.Instance.{Form}
use Rattle.alb_poly.specs.Poly.{normal, Poly}
use Rattle.alb_problem.specs.Builder.{linear_form}
use Rattle.alb_table.specs.Table.{dim_of, Table}
use Rattle.alb_sample.specs.Choice.{argument, choice_at}
use Rattle.alb_sample.specs.Draws.{next_state, drawn}
use Rattle.alb_sample.specs.Problem.{sample_forms}
use Rattle.alb_sample.specs.Sample.{gets_element, element_at, state_with}
use Rattle.alb_sample.specs.declared.choice.Choice.{Choice}
use Rattle.alb_sample.proofs.ChoiceLemmas.{below_two}
use Rattle.alb_sample.proofs.ProblemLemmas.{both, forms-are, left_law, right_law, left-degree, right-degree, left-linear, right-linear}

pub stepped : (s : ℕ) → (s * 6364136223846793005 % 2 ^ 64 + 1442695040888963407) % 2 ^ 64 ≡ next_state s
unfolding next_state
stepped s =
    (plus {p = 2 ^ 64} (of_mod (s * 6364136223846793005)) (same {a = 1442695040888963407} refl)).same
    ∙ ap (λ n. (n + 1442695040888963407) % 2 ^ 64) (mul_comm s 6364136223846793005)

-- what is drawn, one after the other
pub choice-drawn : (s s1 s2 s3 s4 identity first second third place : ℕ) (side : Side) → identity ≡ drawn 2 s → s1 ≡ next_state s → first ≡ drawn 3 s1 → s2 ≡ next_state s1 →
    second ≡ drawn 3 s2 → s3 ≡ next_state s2 → third ≡ drawn 3 s3 → s4 ≡ next_state s3 → place ≡ drawn 4 s4 → side ≡ (if nat_lt place 2 then Left else Right) →
    (let c : Choice = record { identity = identity; first = first; second = second; third = third; side = side; generator = place % 2 } in c) ≡ choice_at s
unfolding choice_at
choice-drawn s s1 s2 s3 s4 identity first second third place side a b c d e f g h i j = rw (a, j, c, e, g, i, h, f, d, b) refl

pub left-side : (place : ℕ) → place < 2 → Left ≡ (if nat_lt place 2 then Left else Right)
left-side place h = let q : nat_lt place 2 ≡ true = grind (arith, nat_tests) in rw q refl

pub right-side : (place : ℕ) → 2 ≤ place → Right ≡ (if nat_lt place 2 then Left else Right)
right-side place h = let q : nat_lt place 2 ≡ false = grind (arith, nat_tests) in rw q refl

pub generator-argument : (k : ℕ) → k < 2 → argument k ≡ leaf k
generator-argument k h = below_two (λ k. argument k ≡ leaf k) k h refl refl

-- ---- basis elements

no_element : (t : Table) (k : ℕ) (w : List ℕ) → dim_of t.parts w ≡ 0 → gets_element t k w ≡ false
no_element t k w e = rw e (never (k % 2 == 1))
  where
    never : (b : Bool) → b && false ≡ false
    never true = refl
    never false = refl

pub even-state : (t : Table) (k : ℕ) (w : List ℕ) (s : ℕ) → k % 2 ≡ 0 → s ≡ state_with t k w s
unfolding state_with
even-state t k w s e = rw e refl

pub empty-none : (t : Table) (k : ℕ) (w : List ℕ) (s : ℕ) → dim_of t.parts w ≡ 0 → None ≡ element_at t k w s
unfolding element_at
empty-none t k w s e = let q = no_element t k w e in rw q refl

pub empty-state : (t : Table) (k : ℕ) (w : List ℕ) (s : ℕ) → dim_of t.parts w ≡ 0 → s ≡ state_with t k w s
unfolding state_with
empty-state t k w s e = let q = no_element t k w e in rw q refl

pub odd-state : (t : Table) (k : ℕ) (w : List ℕ) (s : ℕ) → k % 2 ≡ 1 → 0 < dim_of t.parts w → next_state s ≡ state_with t k w s
unfolding state_with
odd-state t k w s e h = let q : nat_lt 0 (dim_of t.parts w) ≡ true = grind (arith, nat_tests) in rw (e, q) refl

-- ---- rules

pub left-form : (f l : Poly) (p : ℕ) → p ≡ 251 → l ≡ both (leaf 0) (leaf 1) (leaf 2) (leaf 1) (leaf 0) (leaf 2) → f ≡ normal p l →
    (let g : Form = record { degree = 3; terms = f } in g) ≡ linear_form 251 left_law
left-form f l p e h k =
    ap₂ (λ n x. let g : Form = record { degree = n; terms = x } in g) (sym left-degree) (k ∙ ap₂ normal e (h ∙ sym left-linear))

pub right-form : (f l : Poly) (p : ℕ) → p ≡ 251 → l ≡ both (leaf 2) (leaf 0) (leaf 1) (leaf 2) (leaf 1) (leaf 0) → f ≡ normal p l →
    (let g : Form = record { degree = 3; terms = f } in g) ≡ linear_form 251 right_law
right-form f l p e h k =
    ap₂ (λ n x. let g : Form = record { degree = n; terms = x } in g) (sym right-degree) (k ∙ ap₂ normal e (h ∙ sym right-linear))

pub first-form : (d : Form) → get_or sample_forms 0 d ≡ linear_form 251 left_law
first-form d = ap (λ fs. get_or fs 0 d) forms-are

pub second-form : (d : Form) → get_or sample_forms 1 d ≡ linear_form 251 right_law
second-form d = ap (λ fs. get_or fs 1 d) forms-are

pub two-forms : (x y : Form) → x ≡ get_or sample_forms 0 x → y ≡ get_or sample_forms 1 y → x ∷ y ∷ [] ≡ sample_forms
two-forms x y e h = ap₂ (λ (a b : Form). a ∷ b ∷ []) (e ∙ first-form x) (h ∙ second-form y) ∙ sym forms-are
