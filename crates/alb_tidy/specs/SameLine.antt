-- Whether two lines are one, and that this test tells lines apart. The laws of `Eq` and `Hash` cite it.
use Rattle.std.specs.Prelude.{◌≡◌, ℕ, ◌&&◌, ◌==◌, Bool, true, false, List, ◌++◌}
use Rattle.std.specs.Bool.{Decides}
use Rattle.std.specs.List.{flat_map}
use Rattle.std.specs.Cmp.{IsEquivalence, decided, first_so, second_so}
use Rattle.std.specs.Cmp.Lexicographic.{pointwise, pointwise_decides}
use Rattle.std.specs.Hash as fed
use Rattle.std.proofs.Common.{true≢false, refl, sym, ap, subst, eqb-true, eq-eqb}
use Rattle.alb_keys.specs.SameTree.{tree-Decides, tree_writes}
use Rattle.alb_mono.specs.Tree.{Tree, same_tree}
use Rattle.alb_mono.specs.declared.side.Side.{Side}
use Rattle.alb_mono.specs.declared.side.Side.TheVariants.{Left, Right}
use Rattle.alb_deriv.specs.Derivation.{Line, Instance, Times, Sum}

abbrev pub same_side : Side → Side → Bool
same_side Left Left = true
same_side Left Right = false
same_side Right Left = false
same_side Right Right = true

abbrev pub same_item : ℕ × ℕ → ℕ × ℕ → Bool
same_item c d = c.0 == d.0 && c.1 == d.1

-- whether two lines are one
abbrev pub same_line : Line → Line → Bool
same_line (Instance i ms) (Instance j ns) = i == j && pointwise same_tree ms ns
same_line (Instance i ms) (Times l t) = false
same_line (Instance i ms) (Sum ds) = false
same_line (Times k s) (Instance j ns) = false
same_line (Times k s) (Times l t) = k == l && same_side s.0 t.0 && same_tree s.1 t.1
same_line (Times k s) (Sum ds) = false
same_line (Sum cs) (Instance j ns) = false
same_line (Sum cs) (Times l t) = false
same_line (Sum cs) (Sum ds) = pointwise same_item cs ds

-- ---- the test tells lines apart

same-both : (a b : Bool) → a ≡ true → b ≡ true → (a && b) ≡ true
same-both a b h k = λ i. h i && k i

same_side-is : (s t : Side) → same_side s t ≡ true → s ≡ t
same_side-is Left Left h = refl
same_side-is Left Right h = absurd (true≢false (sym h))
same_side-is Right Left h = absurd (true≢false (sym h))
same_side-is Right Right h = refl

side-itself : (s : Side) → same_side s s ≡ true
side-itself Left = refl
side-itself Right = refl

item-Decides : (c d : ℕ × ℕ) → Decides (same_item c d) (c ≡ d)
item-Decides c d = (
  λ h i. (eqb-true c.0 d.0 (first_so (c.0 == d.0) (c.1 == d.1) h) i, eqb-true c.1 d.1 (second_so (c.0 == d.0) (c.1 == d.1) h) i),
  λ e. same-both (c.0 == d.0) (c.1 == d.1) (eq-eqb c.0 d.0 (ap (λ x. x.0) e)) (eq-eqb c.1 d.1 (ap (λ x. x.1) e)),
)

trees-Decides : (ms ns : List Tree) → Decides (pointwise same_tree ms ns) (ms ≡ ns)
trees-Decides = pointwise_decides tree-Decides

items-Decides : (cs ds : List (ℕ × ℕ)) → Decides (pointwise same_item cs ds) (cs ≡ ds)
items-Decides = pointwise_decides item-Decides

pub same_line-is : (l m : Line) → same_line l m ≡ true → l ≡ m
same_line-is (Instance i ms) (Instance j ns) h =
    let a = first_so (i == j) (pointwise same_tree ms ns) h in
    let b = second_so (i == j) (pointwise same_tree ms ns) h in
    λ x. Instance (eqb-true i j a x) ((trees-Decides ms ns).0 b x)
same_line-is (Instance i ms) (Times l t) h = absurd (true≢false (sym h))
same_line-is (Instance i ms) (Sum ds) h = absurd (true≢false (sym h))
same_line-is (Times k s) (Instance j ns) h = absurd (true≢false (sym h))
same_line-is (Times k s) (Times l t) h =
    let a = first_so (k == l && same_side s.0 t.0) (same_tree s.1 t.1) h in
    let b = second_so (k == l && same_side s.0 t.0) (same_tree s.1 t.1) h in
    let c = first_so (k == l) (same_side s.0 t.0) a in
    let d = second_so (k == l) (same_side s.0 t.0) a in
    λ x. Times (eqb-true k l c x) (same_side-is s.0 t.0 d x, (tree-Decides s.1 t.1).0 b x)
same_line-is (Times k s) (Sum ds) h = absurd (true≢false (sym h))
same_line-is (Sum cs) (Instance j ns) h = absurd (true≢false (sym h))
same_line-is (Sum cs) (Times l t) h = absurd (true≢false (sym h))
same_line-is (Sum cs) (Sum ds) h = λ x. Sum ((items-Decides cs ds).0 h x)

pub line-itself : (l : Line) → same_line l l ≡ true
line-itself (Instance i ms) = same-both (i == i) (pointwise same_tree ms ms) (eq-eqb i i refl) ((trees-Decides ms ms).1 refl)
line-itself (Times k s) =
    same-both (k == k && same_side s.0 s.0) (same_tree s.1 s.1) (same-both (k == k) (same_side s.0 s.0) (eq-eqb k k refl) (side-itself s.0)) ((tree-Decides s.1 s.1).1 refl)
line-itself (Sum cs) = (items-Decides cs cs).1 refl

pub line-Decides : (l m : Line) → Decides (same_line l m) (l ≡ m)
line-Decides l m = (same_line-is l m, λ e. subst (λ x. same_line l x ≡ true) e (line-itself l))

pub same_line-equivalence : IsEquivalence same_line
same_line-equivalence = decided same_line line-Decides

-- ---- what a line feeds a hasher

abbrev pub side_writes : Side → fed.HashWrites
side_writes Left = fed.u8 0
side_writes Right = fed.u8 1

abbrev pub item_writes : ℕ × ℕ → fed.HashWrites
item_writes c = fed.u16 c.0 ++ fed.u64 c.1

abbrev pub line_writes : Line → fed.HashWrites
line_writes (Instance i ms) = fed.u64 i ++ flat_map tree_writes ms
line_writes (Times k s) = fed.u64 k ++ side_writes s.0 ++ tree_writes s.1
line_writes (Sum cs) = flat_map item_writes cs
