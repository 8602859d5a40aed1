-- The entries of the types of the next degree.
use Rattle.std.proofs.Common.{◌≡◌, ℕ, zero, suc, ◌+◌, ◌<◌, true, false, List, [], ◌∷◌, ◌++◌, length, get_or, sym, refl, ap, ◌∙◌, arith, sum, inl, inr}
use Rattle.std.specs.Prelude.{Some, ◌==◌}
use Rattle.std.specs.declared.cmp.Ordering.TheVariants.{Less, Equal}
use Rattle.std.proofs.lemmas.Bool.{cases_Bool}
use Rattle.std.proofs.lemmas.Bool.Decides.{nat_tests}
use Rattle.std.proofs.lemmas.Cmp.{tied_itself}
use Rattle.gf_sums.specs.Sums.{Comb, reindex}
use Rattle.alb_mono.specs.Listing.{Each, IsIn}
use Rattle.alb_mono.specs.Tree.{Tree, cmp_trees, type_plus}
use Rattle.alb_mono.proofs.Order.{cmp_trees_total}
use Rattle.alb_rows.specs.Row.{Cells}
use Rattle.alb_table.specs.Table.{same_pair, find_entry, PartView, elems, type_at, entries_at, monos, mono_at, products, entry_of, Table, IsTable, extended}
use Rattle.alb_poly.specs.Instance.{Form}
use Rattle.alb_table.specs.declared.part.Elem.{Elem}
use Rattle.alb_table.specs.declared.part.Elem.TheVariants.{Prod}
use Rattle.alb_table.specs.Table as View
use Rattle.alb_table.specs.Right.{IsRight}
use Rattle.alb_table.specs.RightTable.{basis_monos, mono_entry}
use Rattle.alb_table.proofs.PartLemmas.{products-extend}
use Rattle.alb_table.proofs.RangeLemmas.{product_of, type_of_range}
use Rattle.alb_build.specs.Part.{elements_of}
use Rattle.alb_build.proofs.KeptParts.{type-kept}
use Rattle.alb_build.proofs.Numbering.{before, before-less, length-elements, length-numbers, element-at}
use Rattle.alb_build.proofs.NewBases.{pair_mono, pair-kept, step, cols, free-long, ascends}
use Rattle.alb_build.proofs.Places.{HasPart}
use Rattle.alb_subst.proofs.SumLemmas.{pair-sound}

-- the entry of a product that stands nowhere before
pub find-at : (xs : List (ℕ × ℕ)) (es : List Cells) (k : ℕ) → k < length xs → length es ≡ length xs →
    ((i : ℕ) → i < k → same_pair (get_or xs i (0, 0)) (get_or xs k (0, 0)) ≡ false) → find_entry (get_or xs k (0, 0)) xs es ≡ Some (get_or es k [])
find-at [] es k l e h = absurd (omega arith)
find-at (x ∷ xs) [] k l e h = absurd (omega arith)
find-at (x ∷ xs) (c ∷ es) zero l e h = rw (itself x) refl
  where
    itself : (q : ℕ × ℕ) → same_pair q q ≡ true
    itself q = let a : (q.0 == q.0) ≡ true = grind (arith, nat_tests) in let b : (q.1 == q.1) ≡ true = grind (arith, nat_tests) in rw (a, b)
find-at (x ∷ xs) (c ∷ es) (suc k) l e h =
    let f : same_pair x (get_or xs k (0, 0)) ≡ false = h 0 (omega arith) in
    rw f (find-at xs es k (omega arith) (omega arith) (λ i m. h (suc i) (omega arith)))

-- what ascends differs
pub less-differs : (f : ℕ × ℕ → Tree) (x y : ℕ × ℕ) → cmp_trees (f x) (f y) ≡ Less → same_pair x y ≡ false
less-differs f x y h = elim (cases_Bool (same_pair x y)) [
  | inr n ↦ n
  | inl s ↦ (
      let e : x ≡ y = pair-sound x y s in
      let z : cmp_trees (f x) (f y) ≡ Equal = ap (λ q. cmp_trees (f x) (f q)) (sym e) ∙ tied_itself cmp_trees_total (f x) in
      absurd (cc))
]

-- two ways to read the numbers of a combination
pub reindex-agree : (g h : ℕ → Tree) (f : Comb ℕ) → Each (λ s. g s.1 ≡ h s.1) f → reindex g f ≡ reindex h f
reindex-agree g h [] a = refl
reindex-agree g h (s ∷ f) a = ap (λ m. (s.0, m) ∷ reindex g f) a.0 ∙ ap (λ xs. (s.0, h s.1) ∷ xs) (reindex-agree g h f a.1)

pub reindex-twice : {I J K : Type 0} (g : J → K) (h : I → J) (f : Comb I) → reindex g (reindex h f) ≡ reindex (λ i. g (h i)) f
reindex-twice g h [] = refl
reindex-twice g h (s ∷ f) = ap (λ xs. (s.0, g (h s.1)) ∷ xs) (reindex-twice g h f)

module _ (fs : List Form) (t : Table) (new : List PartView) (old : IsTable t) (tab : IsTable (extended t new)) (pos : 0 < t.p)
    (right : IsRight t.p fs t.target t.degree (basis_monos t.parts) (mono_entry t.parts))
    (next : Each (λ (q : PartView). sum q.at ≡ t.degree + 1) new)
    (w : List ℕ) (deg : sum w ≡ t.degree + 1) (h : HasPart fs t (t.parts ++ new) 0 w) where
  abbrev P : List (ℕ × ℕ)
  P = products t.parts w

  abbrev pair_at : ℕ → ℕ × ℕ
  pair_at k = get_or P k (0, 0)

  pub pair-in : (k : ℕ) → k < length P → IsIn (pair_at k) P
  pair-in k l = in-at P k l
    where
      in-at : (xs : List (ℕ × ℕ)) (i : ℕ) → i < length xs → IsIn (get_or xs i (0, 0)) xs
      in-at [] i l = absurd (omega arith)
      in-at (x ∷ xs) zero l = inl refl
      in-at (x ∷ xs) (suc i) l = inr (in-at xs i (omega arith))

  -- the monomial of a free product's number
  pub free-mono : (k : ℕ) → k < length P → get_or h.made.free k false ≡ true → mono_at (t.parts ++ new) (h.first + before h.made.free k) ≡ pair_mono t.parts (pair_at k)
  free-mono k l e =
      let len : length h.made.free ≡ length P = free-long fs t new tab w h in
      let b : h.part.basis ≡ elements_of P h.made.free = h.made.basis ∙ ap (λ qs. elements_of qs h.made.free) (cols fs t new tab w h) in
      let c : length h.part.basis ≡ before h.made.free (length h.made.free) = ap length b ∙ length-elements P h.made.free (sym len) in
      let s : before h.made.free k < before h.made.free (length h.made.free) = before-less h.made.free k (length h.made.free) (omega arith) e in
      let u : Elem = Prod 0 0 in
      let g : get_or h.part.basis (before h.made.free k) u ≡ Prod (pair_at k).0 (pair_at k).1 =
      ap (λ es. get_or es (before h.made.free k) u) b ∙ element-at P h.made.free k (0, 0) u (omega arith) (sym len) e in
      step fs t new tab w h (before h.made.free k) u (omega arith)
      ∙ ap (View.mono_of (monos (t.parts ++ new))) g
      ∙ pair-kept fs t new tab w h (pair_at k) (pair-in k l)

  -- the entry of the product at a place
  pub entry-found : (k : ℕ) → k < length P → entry_of (t.parts ++ new) (pair_at k).0 (pair_at k).1 ≡ Some (get_or h.part.entries k [])
  entry-found k l =
      let q : ℕ × ℕ = pair_at k in
      let p = product_of t.parts w q.0 q.1 (pair-in k l) in
      let a = type_of_range t.parts p.left q.0 p.left_range in
      let b = type_of_range t.parts p.right q.1 p.right_range in
      let ta : type_at (t.parts ++ new) q.0 ≡ p.left = type-kept t.parts new q.0 a.0 ∙ a.1 in
      let tb : type_at (t.parts ++ new) q.1 ≡ p.right = type-kept t.parts new q.1 b.0 ∙ b.1 in
      let tw : type_plus (type_at (t.parts ++ new) q.0) (type_at (t.parts ++ new) q.1) ≡ w =
      ap (λ x. type_plus x (type_at (t.parts ++ new) q.1)) ta ∙ ap (type_plus p.left) tb ∙ p.split.both in
      let len : length h.part.entries ≡ length P =
      h.made.entries.full ∙ length-numbers (0 + h.first) h.made.free ∙ free-long fs t new tab w h in
      ap (λ x. find_entry q (products (t.parts ++ new) x) (entries_at (t.parts ++ new) x)) tw
      ∙ ap (λ ks. find_entry q ks (entries_at (t.parts ++ new) w)) (products-extend t.parts new w (t.degree + 1) next (omega arith))
      ∙ ap (find_entry q P) h.entries_are
      ∙ find-at P h.part.entries k l len (λ i m. less-differs (pair_mono t.parts) (pair_at i) q (ascends fs t new tab w h i k m l))
