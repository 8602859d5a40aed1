-- The monomials of a choice, their types, and its instance.
use Rattle.std.proofs.Common.{◌≡◌, ℕ, zero, suc, ◌+◌, ◌<◌, ◌≤◌, true, List, [], ◌∷◌, sym, refl, ◌∙◌, subst, arith, get_or}
use Rattle.std.specs.Prelude.{nat_le}
use Rattle.std.proofs.lemmas.Bool.Decides.{nat_tests}
use Rattle.gf_sums.specs.Sums.{total, reindex}
use Rattle.alb_mono.specs.Listing.{Each}
use Rattle.alb_mono.specs.Tree.{Tree, leaf, node, degree, count, type_of, type_le, AreBelow}
use Rattle.alb_mono.specs.declared.side.Side.{Side}
use Rattle.alb_mono.specs.declared.side.Side.TheVariants.{Left, Right}
use Rattle.alb_poly.specs.Consequence.{beside}
use Rattle.alb_poly.specs.Poly.{Poly}
use Rattle.alb_poly.proofs.Types.{test_from_below}
use Rattle.alb_table.specs.Right.{IsOfType, IsTypeTo}
use Rattle.alb_sample.specs.Choice.{argument, chosen, chosen_type, consequence, instance_of, IsChoice}
use Rattle.alb_sample.specs.Problem.{sample_problem}
use Rattle.alb_sample.specs.declared.choice.Choice.{Choice}
use Rattle.alb_sample.proofs.ProblemLemmas.{left_law, right_law, both}

-- a fact of the numbers below 2, and of those below 3
pub below_two : (P : ℕ → Type 0) (k : ℕ) → k < 2 → P 0 → P 1 → P k
below_two P zero h a b = a
below_two P (suc zero) h a b = b
below_two P (suc (suc k)) h a b = absurd (omega arith)

pub below_three : (P : ℕ → Type 0) (k : ℕ) → k < 3 → P 0 → P 1 → P 2 → P k
below_three P zero h a b c = a
below_three P (suc zero) h a b c = b
below_three P (suc (suc zero)) h a b c = c
below_three P (suc (suc (suc k))) h a b c = absurd (omega arith)

-- ---- the monomials

pub argument-below : (k : ℕ) → k < 3 → AreBelow 2 (argument k)
argument-below k h = below_three (λ k. AreBelow 2 (argument k)) k h (omega arith) (omega arith) (omega arith, omega arith)

pub argument-count : (g k : ℕ) → g < 2 → k < 3 → count g (argument k) ≤ 1
argument-count g k l h = below_two (λ g. count g (argument k) ≤ 1) g l
    (below_three (λ k. count 0 (argument k) ≤ 1) k h (omega arith) (omega arith) (omega arith))
    (below_three (λ k. count 1 (argument k) ≤ 1) k h (omega arith) (omega arith) (omega arith))

pub argument-degree : (k : ℕ) → k < 3 → degree (argument k) ≤ 2
argument-degree k h = below_three (λ k. degree (argument k) ≤ 2) k h (omega arith) (omega arith) (omega arith)

-- ---- the instance

pub left-instance : (x y z : Tree) → instance_of left_law (x ∷ y ∷ z ∷ []) ≡ both x y z y x z
unfolding type_of
left-instance x y z = refl

pub right-instance : (x y z : Tree) → instance_of right_law (x ∷ y ∷ z ∷ []) ≡ both z x y z y x
unfolding type_of
right-instance x y z = refl

-- the identity of a choice
abbrev pub law_of : Choice → Poly
law_of c = get_or sample_problem.identities c.identity []

abbrev pub instance_at : Choice → Poly
instance_at c = instance_of (law_of c) (chosen c)

-- a product of the monomials of a list, of generators a and b
pub record IsMade (ms : List Tree) (m : Tree) : Type 0 where
  pub below : AreBelow 2 m
  pub counts : (g : ℕ) → count g m ≡ total (count g) ms

both-made : (x y z : Tree) (ms : List Tree) → AreBelow 2 x → AreBelow 2 y → AreBelow 2 z → ((g : ℕ) → total (count g) ms ≡ count g x + count g y + count g z) →
    Each (λ t. IsMade ms t.1) (both x y z y x z)
both-made x y z ms a b c e = (
  record { below = ((a, b), c); counts = λ g. omega (arith, e g) },
  (
    record { below = ((b, a), c); counts = λ g. omega (arith, e g) },
    (record { below = (a, (b, c)); counts = λ g. omega (arith, e g) }, (record { below = (b, (a, c)); counts = λ g. omega (arith, e g) }, tt)),
  ),
)

both-made-last : (x y z : Tree) (ms : List Tree) → AreBelow 2 x → AreBelow 2 y → AreBelow 2 z → ((g : ℕ) → total (count g) ms ≡ count g x + count g y + count g z) →
    Each (λ t. IsMade ms t.1) (both z x y z y x)
both-made-last x y z ms a b c e = (
  record { below = ((c, a), b); counts = λ g. omega (arith, e g) },
  (
    record { below = ((c, b), a); counts = λ g. omega (arith, e g) },
    (record { below = (c, (a, b)); counts = λ g. omega (arith, e g) }, (record { below = (c, (b, a)); counts = λ g. omega (arith, e g) }, tt)),
  ),
)

pub instance-made : (c : Choice) → IsChoice c → Each (λ t. IsMade (chosen c) t.1) (instance_at c)
instance-made c h =
    let x : Tree = argument c.first in
    let y : Tree = argument c.second in
    let z : Tree = argument c.third in
    let a : AreBelow 2 x = argument-below c.first h.first in
    let b : AreBelow 2 y = argument-below c.second h.second in
    let d : AreBelow 2 z = argument-below c.third h.third in
    let e : (g : ℕ) → total (count g) (chosen c) ≡ count g x + count g y + count g z = λ g. omega arith in
    below_two (λ k. Each (λ t. IsMade (chosen c) t.1) (instance_of (get_or sample_problem.identities k []) (chosen c))) c.identity h.identity
    (subst (Each (λ t. IsMade (chosen c) t.1)) (sym (left-instance x y z)) (both-made x y z (chosen c) a b d e))
    (subst (Each (λ t. IsMade (chosen c) t.1)) (sym (right-instance x y z)) (both-made-last x y z (chosen c) a b d e))

-- ---- the consequence

-- the generator and the three monomials
abbrev pub all_of : Choice → List Tree
all_of c = leaf c.generator ∷ chosen c

beside-made : (s : Side) (g : ℕ) (ms : List Tree) (m : Tree) → g < 2 → IsMade ms m → IsMade (leaf g ∷ ms) (beside (s, leaf g) m)
beside-made Left g ms m l h = record { below = (l, h.below); counts = λ k. omega (arith, h.counts k) }
beside-made Right g ms m l h = record { below = (h.below, l); counts = λ k. omega (arith, h.counts k) }

beside-each : (s : Side) (g : ℕ) (ms : List Tree) (f : Poly) → g < 2 → Each (λ t. IsMade ms t.1) f → Each (λ t. IsMade (leaf g ∷ ms) t.1) (reindex (beside (s, leaf g)) f)
beside-each s g ms [] l a = tt
beside-each s g ms (t ∷ f) l a = (beside-made s g ms t.1 l a.0, beside-each s g ms f l a.1)

pub consequence-made : (c : Choice) → IsChoice c → Each (λ t. IsMade (all_of c) t.1) (consequence c)
unfolding consequence
consequence-made c h = beside-each c.side c.generator (chosen c) (instance_at c) h.generator (instance-made c h)

-- ---- types

pub chosen-type : (c : Choice) → chosen_type c ≡ total (count 0) (all_of c) ∷ total (count 1) (all_of c) ∷ []
unfolding chosen_type
chosen-type c = refl

type-two : (m : Tree) → type_of 2 m ≡ count 0 m ∷ count 1 m ∷ []
unfolding type_of
type-two m = refl

pub made-type : (c : Choice) (m : Tree) → IsMade (all_of c) m → IsOfType (chosen_type c) m
made-type c m h = subst (λ w. IsOfType w m) (sym (chosen-type c)) (record {
  below = test_from_below 2 m h.below;
  counts = type-two m ∙ rw (h.counts 0, h.counts 1) refl;
})

generator-count : (g k : ℕ) → g < 2 → k < 2 → count g (leaf k) ≤ 1
generator-count g k l h = below_two (λ g. count g (leaf k) ≤ 1) g l
    (below_two (λ k. count 0 (leaf k) ≤ 1) k h (omega arith) (omega arith))
    (below_two (λ k. count 1 (leaf k) ≤ 1) k h (omega arith) (omega arith))

pub few : (c : Choice) (g : ℕ) → IsChoice c → g < 2 → total (count g) (all_of c) ≤ 4
few c g h l =
    omega (
      arith,
      generator-count g c.generator l h.generator,
      argument-count g c.first l h.first,
      argument-count g c.second l h.second,
      argument-count g c.third l h.third,
    )

-- the degree is at most 7
pub degree-two : (m : Tree) → AreBelow 2 m → degree m ≡ count 0 m + count 1 m
degree-two (leaf k) h = below_two (λ k. degree (leaf k) ≡ count 0 (leaf k) + count 1 (leaf k)) k h (omega arith) (omega arith)
degree-two (node l r) h = omega (arith, degree-two l h.0, degree-two r h.1)

pub low : (c : Choice) → IsChoice c → total (count 0) (all_of c) + total (count 1) (all_of c) ≤ 7
low c h =
    let g : degree (leaf c.generator) ≡ count 0 (leaf c.generator) + count 1 (leaf c.generator) = degree-two (leaf c.generator) h.generator in
    let x = degree-two (argument c.first) (argument-below c.first h.first) in
    let y = degree-two (argument c.second) (argument-below c.second h.second) in
    let z = degree-two (argument c.third) (argument-below c.third h.third) in
    omega (arith, g, x, y, z, argument-degree c.first h.first, argument-degree c.second h.second, argument-degree c.third h.third)

at_most : (a b : ℕ) → a ≤ 4 → b ≤ 4 → type_le (a ∷ b ∷ []) (4 ∷ 4 ∷ []) ≡ true
at_most a b h k =
    let p : nat_le a 4 ≡ true = grind (arith, nat_tests) in
    let q : nat_le b 4 ≡ true = grind (arith, nat_tests) in rw (p, q) refl

pub chosen-within : (c : Choice) (d : ℕ) → IsChoice c → 7 ≤ d → IsTypeTo (4 ∷ 4 ∷ []) d (chosen_type c)
chosen-within c d h l = subst (IsTypeTo (4 ∷ 4 ∷ []) d) (sym (chosen-type c)) (record {
  counts = refl;
  le = at_most _ _ (few c 0 h (omega arith)) (few c 1 h (omega arith));
  degree = let k = low c h in omega arith;
})
