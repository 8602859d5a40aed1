-- How many products a type has, and how many kept instances.
use Rattle.std.proofs.Common.{◌≡◌, ℕ, ◌+◌, ◌-◌, ◌<◌, ◌≤◌, List, [], ◌∷◌, length, sum, sym, ap, ◌∙◌, subst, arith, inl, inr}
use Rattle.std.specs.List.{AllByRecursion}
use Rattle.std.specs.List.Sorted.{IsStrictlySortedBy}
use Rattle.std.specs.Ordering.{flip_args}
use Rattle.std.specs.declared.cmp.Ordering.TheVariants.{Less, Equal}
use Rattle.std.proofs.lemmas.Bool.{cases_Bool, cases_order}
use Rattle.std.proofs.lemmas.Cmp.{tied_itself}
use Rattle.std.proofs.lemmas.List.{length-map, get_or_default}
use Rattle.std.proofs.lemmas.Map.Keys.{sorted_head, sorted_tail, Less-from_sorted}
use Rattle.alb_mono.specs.Listing.{Each, IsIn}
use Rattle.alb_mono.specs.Tree.{Tree, leaf, node, cmp_trees}
use Rattle.alb_mono.proofs.ListingLemmas.{each-weaker}
use Rattle.alb_mono.proofs.Order.{cmp_trees_total}
use Rattle.alb_poly.specs.Poly.{list_eq}
use Rattle.alb_table.specs.Block.{IsPivotAt, IsColumnAt}
use Rattle.alb_table.specs.Columns.{AreColumns, col}
use Rattle.alb_table.specs.Table.{products, PartView, entries_at, origins_at, mono_at, Table, CoversType, IsPartOf}
use Rattle.alb_table.specs.RightTable.{RulesView, IsRightFor, instance_at}
use Rattle.alb_table.proofs.Right.{element-columns_at}
use Rattle.alb_table.proofs.RangeLemmas.{ats, entries_full}
use Rattle.alb_table.proofs.TypesTo.{types_to-all}
use Rattle.alb_block.specs.Instances.{columns_of}
use Rattle.alb_trace.proofs.BlockEntries.{next, some, to, entries, cols, are, kept-origins, over-low}
use Rattle.alb_trace.proofs.ValueRows.{pos}

-- ---- products

entries-few : (n : ℕ) (parts : List PartView) (w : List ℕ) → Each (λ (q : PartView). length q.entries ≤ n) parts → length (entries_at parts w) ≤ n
entries-few n [] w a = omega arith
entries-few n (q ∷ qs) w a = elim (cases_Bool (list_eq q.at w)) [
  | inl e ↦ rw e a.0
  | inr e ↦ rw e (entries-few n qs w a.1)
]

pub products-few : (given : RulesView) (t : Table) (w : List ℕ) → IsRightFor given t → CoversType t w → length w ≡ length t.target → 0 < sum w → length (products t.parts w) ≤ 4096
products-few given t w g cov long some =
    let i : IsIn w (ats t.parts) = subst (IsIn w) (sym g.table.types) (types_to-all t.target t.degree w (record { long = long; within = cov.within; some = some; degree_le = cov.degree_le })) in
    let e : length (entries_at t.parts w) ≡ length (products t.parts w) =
    entries_full t.parts (λ u. length (products t.parts u)) w i (each-weaker (IsPartOf t.p t.parts t.parts) (λ (q : PartView). length q.entries ≡ length (products t.parts q.at)) t.parts (λ q z. z.full) g.table.each) in
    let l : length (entries_at t.parts w) ≤ 4096 = entries-few 4096 t.parts w g.right.limits.types in omega arith

-- ---- ascending lists among the columns

module _ (Column : Tree → Type 0) (cols : List Tree) (are : AreColumns Column cols) where
  record Index (m : Tree) (n : ℕ) : Type 0 where
    place : ℕ
    below : place < n
    among : place < length cols
    is : col cols place ≡ m

  later-below : (x m : Tree) (i : Index x (length cols)) (k : Index m (length cols)) → cmp_trees x m ≡ Less → k.place < i.place
  later-below x m i k l = elim (cases_order k.place i.place) [
    | inl e ↦ (
        let q : x ≡ m = sym i.is ∙ ap (col cols) (sym e) ∙ k.is in
        let z : cmp_trees x x ≡ Less = subst (λ y. cmp_trees x y ≡ Less) (sym q) l in
        let y : cmp_trees x x ≡ Equal = tied_itself cmp_trees_total x in absurd (cc))
    | inr (inl s) ↦ s
    | inr (inr s) ↦ (
        let h : cmp_trees (col cols k.place) (col cols i.place) ≡ Less = Less-from_sorted (flip_args cmp_trees) cols i.place k.place (leaf 0) are.descends s k.among in
        let r : cmp_trees m x ≡ Less = subst (λ y. cmp_trees m y ≡ Less) i.is (subst (λ y. cmp_trees y (col cols i.place) ≡ Less) k.is h) in
        let z : cmp_trees x x ≡ Less = cmp_trees_total.trans x m x l r in
        let y : cmp_trees x x ≡ Equal = tied_itself cmp_trees_total x in absurd (cc))
  ]

  all-below : (x : Tree) (i : Index x (length cols)) (ms : List Tree) → AllByRecursion (λ m. cmp_trees x m ≡ Less) ms → Each (λ m. Index m (length cols)) ms → Each (λ m. Index m i.place) ms
  all-below x i [] a b = tt
  all-below x i (m ∷ ms) a b = (record { place = b.0.place; below = later-below x m i b.0 a.0; among = b.0.among; is = b.0.is }, all-below x i ms a.1 b.1)

  few-below : (n : ℕ) (ms : List Tree) → n ≤ length cols → IsStrictlySortedBy cmp_trees ms → Each (λ m. Index m n) ms → length ms ≤ n
  few-below n [] l a b = omega arith
  few-below n (x ∷ ms) l a b =
      let i : Index x (length cols) = record { place = b.0.place; below = b.0.among; among = b.0.among; is = b.0.is } in
      let rest : Each (λ m. Index m (length cols)) ms = each-weaker (λ m. Index m n) (λ m. Index m (length cols)) ms (λ m k. record { place = k.place; below = k.among; among = k.among; is = k.is }) b.1 in
      let s : length ms ≤ i.place = few-below i.place ms (omega (arith, b.0.among)) (sorted_tail cmp_trees x ms a) (all-below x i ms (sorted_head cmp_trees x ms a) rest) in
      let k : b.0.place < n = b.0.below in
      let q : length (x ∷ ms) ≡ 1 + length ms = omega arith in omega arith

  -- an ascending list of columns is at most as long as their list
  pub columns-few : (ms : List Tree) → IsStrictlySortedBy cmp_trees ms → Each Column ms → length ms ≤ length cols
  columns-few ms a b = few-below (length cols) ms (omega arith) a (each-weaker Column (λ m. Index m (length cols)) ms (λ m h.
      let c = are.whole m h in
      record { place = c.0; below = c.1; among = c.1; is = get_or_default cols c.0 (leaf 0) m c.1 ∙ c.2 }) b)

-- ---- kept instances

pub origins-few : (given : RulesView) (t : Table) (g : IsRightFor given t) (w : List ℕ) (cov : CoversType t w) (long : length w ≡ length t.target) (big : 2 ≤ sum w) →
    length (origins_at t.parts w) ≤ length (columns_of t.parts w)
origins-few given t g w cov long big =
    let o = kept-origins given t g w cov long big in
    let b : length o.pivots ≤ length (cols given t g w cov long big) =
    columns-few (IsColumnAt t.p given.forms t.target (sum w - 1) w) (cols given t g w cov long big) (are given t g w cov long big) o.pivots o.are_pivots.ascends
    (each-weaker (IsPivotAt t.p given.forms t.target (sum w - 1) (entries given t g w cov long big) w) (IsColumnAt t.p given.forms t.target (sum w - 1) w) o.pivots (λ m v.
    element-columns_at t.p (pos given t g) given.forms g.multilinear g.high t.target (sum w - 1) (some given t g w cov long big) (entries given t g w cov long big) (over-low given t g w cov long big)
    w (to given t g w cov long big) (next given t g w cov long big) v.element v.in_span m v.nonzero) o.are_pivots.pivots) in
    omega (arith, o.count, length-map (origins_at t.parts w) (instance_at t.parts), length-map (columns_of t.parts w) (λ (q : ℕ × ℕ). node (mono_at t.parts q.0) (mono_at t.parts q.1)))
