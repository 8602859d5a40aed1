-- A right table has at most as many basis elements as generators and products.
use Rattle.std.proofs.Common.{◌≡◌, ℕ, zero, suc, ◌+◌, ◌<◌, ◌≤◌, Bool, true, false, ◌||◌, List, [], ◌∷◌, ◌++◌, map, length, get_or, sym, refl, ap, ◌∙◌, subst, arith, inl, inr, length-append}
use Rattle.std.specs.Prelude.{Some, slice_get}
use Rattle.std.specs.Cmp.{IsEquivalence}
use Rattle.std.specs.List.{flat_map, list_any}
use Rattle.std.proofs.lemmas.Bool.{cases_Bool, false≢true}
use Rattle.std.proofs.lemmas.List.{length-map}
use Rattle.std.proofs.lemmas.Map.Made.{length-le_from_is_member}
use Rattle.alb_mono.specs.Listing.{Each, IsIn}
use Rattle.alb_mono.specs.Tree.{Tree, leaf, node, same_tree, rising}
use Rattle.alb_mono.proofs.ListingLemmas.{each-at, each-append, each-member, each-weaker, in-left, in-right, in-map}
use Rattle.alb_poly.specs.Instance.{Form}
use Rattle.alb_poly.proofs.Consequence.{tree_tells}
use Rattle.alb_table.specs.Table.{products, PartView, elems, monos, mono_at, Table, IsTable, IsPartOf, IsElementOf, GeneratorBelow, count_products}
use Rattle.alb_table.proofs.FirstLemmas.{length-rising}
use Rattle.alb_table.specs.Table as View
use Rattle.alb_table.specs.declared.part.Elem.{Elem}
use Rattle.alb_table.specs.declared.part.Elem.TheVariants.{Gen, Prod}
use Rattle.alb_table.specs.Right.{IsRight}
use Rattle.alb_table.specs.RightTable.{basis_monos, mono_entry}
use Rattle.alb_table.proofs.GridLemmas.{get_some}
use Rattle.alb_table.proofs.MonoLemmas.{elem_generator, mono_step}
use Rattle.alb_table.proofs.RightTables.{length-monos, numbered}
use Rattle.alb_table.proofs.TypesTo.{in-rising}

-- ---- trees that are the same

same-symmetric : (x y : Tree) → same_tree x y ≡ same_tree y x
same-symmetric x y = elim (cases_Bool (same_tree x y)) [
  | inl a ↦ a ∙ sym (subst (λ z. same_tree z x ≡ true) (tree_tells.sound x y a) (tree_tells.whole x))
  | inr a ↦ elim (cases_Bool (same_tree y x)) [
    | inl b ↦ absurd (false≢true (sym a ∙ subst (λ z. same_tree z y ≡ true) (tree_tells.sound y x b) (tree_tells.whole y)))
    | inr b ↦ a ∙ sym b
  ]
]

same-equivalence : IsEquivalence same_tree
same-equivalence = record { refl = tree_tells.whole; symm = same-symmetric; congr = λ x y z h. ap (λ w. same_tree w z) (tree_tells.sound x y h) }

member-in : (x : Tree) (xs : List Tree) → list_any (same_tree x) xs ≡ true → IsIn x xs
member-in x [] h = absurd (false≢true h)
member-in x (y ∷ ys) h = elim (cases_Bool (same_tree x y)) [
  | inl e ↦ inl (tree_tells.sound x y e)
  | inr e ↦ inr (member-in x ys (rw e at h))
]

or_true : (a : Bool) → (a || true) ≡ true
or_true true = refl
or_true false = refl

in-member : (x : Tree) (xs : List Tree) → IsIn x xs → list_any (same_tree x) xs ≡ true
in-member x [] i = absurd i
in-member x (y ∷ ys) (inl e) = let s : same_tree x y ≡ true = subst (λ z. same_tree x z ≡ true) e (tree_tells.whole x) in rw s refl
in-member x (y ∷ ys) (inr i) = let s : list_any (same_tree x) ys ≡ true = in-member x ys i in rw s (or_true (same_tree x y))

-- ---- what basis elements are made of

-- the product of two basis elements as a monomial
abbrev product_mono : List PartView → ℕ × ℕ → Tree
product_mono ps k = node (mono_at ps k.0) (mono_at ps k.1)

-- all products of the parts `qs`
abbrev product_monos : List PartView → List PartView → List Tree
product_monos ps qs = flat_map (λ q. map (product_mono ps) (products ps q.at)) qs

product_monos-count : (p : ℕ) (ps qs : List PartView) → Each (IsPartOf p ps ps) qs → length (product_monos ps qs) ≡ count_products qs
product_monos-count p ps [] e = refl
product_monos-count p ps (q ∷ qs) e =
    let l : length (product_monos ps (q ∷ qs)) ≡ length (map (product_mono ps) (products ps q.at)) + length (product_monos ps qs) =
    length-append (map (product_mono ps) (products ps q.at)) (product_monos ps qs) in
    let m : length (map (product_mono ps) (products ps q.at)) ≡ length (products ps q.at) = length-map (products ps q.at) (product_mono ps) in
    let f : length q.entries ≡ length (products ps q.at) = e.0.full in
    omega (arith, product_monos-count p ps qs e.1)

-- an element that is a product is one of these
abbrev IsMade : List PartView → List Tree → Elem → Type 0
IsMade ps ms (Gen k) = Unit {0}
IsMade ps ms (Prod b c) = IsIn (node (mono_at ps b) (mono_at ps c)) ms

made-here : (ps : List PartView) (t : List ℕ) (more : List Tree) (e : Elem) → IsElementOf t (products ps t) e → IsMade ps (map (product_mono ps) (products ps t) ++ more) e
made-here ps t more (Gen k) i = tt
made-here ps t more (Prod b c) i =
    in-left (product_mono ps (b, c)) (map (product_mono ps) (products ps t)) more (in-map (product_mono ps) (b, c) (products ps t) i)

made-later : (ps : List PartView) (front more : List Tree) (e : Elem) → IsMade ps more e → IsMade ps (front ++ more) e
made-later ps front more (Gen k) i = tt
made-later ps front more (Prod b c) i = in-right (product_mono ps (b, c)) front more i

elements-made : (p : ℕ) (ps qs : List PartView) → Each (IsPartOf p ps ps) qs → Each (IsMade ps (product_monos ps qs)) (elems qs)
elements-made p ps [] e = tt
elements-made p ps (q ∷ qs) e =
    let front : List Tree = map (product_mono ps) (products ps q.at) in
    each-append (IsMade ps (product_monos ps (q ∷ qs))) q.basis (elems qs)
    (each-weaker (IsElementOf q.at (products ps q.at)) (IsMade ps (product_monos ps (q ∷ qs))) q.basis (made-here ps q.at (product_monos ps qs)) e.0.elements)
    (each-weaker (IsMade ps (product_monos ps qs)) (IsMade ps (product_monos ps (q ∷ qs))) (elems qs) (made-later ps front (product_monos ps qs)) (elements-made p ps qs e.1))

-- ---- generators

each-indexed : (P : Tree → Type 0) (xs : List Tree) → ((i : ℕ) → i < length xs → P (get_or xs i (leaf 0))) → Each P xs
each-indexed P [] h = tt
each-indexed P (x ∷ xs) h = (h 0 (omega arith), each-indexed P xs (λ i l. h (suc i) (omega arith)))

-- ---- the count

module _ (fs : List Form) (t : Table) (tab : IsTable t) (right : IsRight t.p fs t.target t.degree (basis_monos t.parts) (mono_entry t.parts)) where
  -- the generators and all products
  abbrev candidates : List Tree
  candidates = map leaf (rising 0 (length t.target)) ++ product_monos t.parts t.parts

  -- the monomial of an element that is one of these
  element-candidate : (e : Elem) → GeneratorBelow (length t.target) e → IsMade t.parts (product_monos t.parts t.parts) e → IsIn (View.mono_of (monos t.parts) e) candidates
  element-candidate (Gen k) g m =
      in-left (leaf k) (map leaf (rising 0 (length t.target))) (product_monos t.parts t.parts)
      (in-map leaf k (rising 0 (length t.target)) (in-rising 0 (length t.target) k (omega arith) (omega arith)))
  element-candidate (Prod b c) g m = in-right (product_mono t.parts (b, c)) (map leaf (rising 0 (length t.target))) (product_monos t.parts t.parts) m

  number-candidate : (b : ℕ) → b < length (monos t.parts) → IsIn (mono_at t.parts b) candidates
  number-candidate b h =
      let l : b < length (elems t.parts) = omega (arith, h, length-monos t.parts) in
      let e : Elem = get_or (elems t.parts) b (Gen 0) in
      let s : slice_get (elems t.parts) b ≡ Some e = get_some (elems t.parts) b e l (same_default (elems t.parts) b l) in
      subst (λ m. IsIn m candidates) (sym (mono_step t b e tab l s))
      (element-candidate e (elem_generator t b e tab l s) (each-at (IsMade t.parts (product_monos t.parts t.parts)) (elems t.parts) b (Gen 0) (elements-made t.p t.parts t.parts tab.each) l))
    where
      same_default : (es : List Elem) (i : ℕ) → i < length es → get_or es i (Gen 0) ≡ get_or es i (get_or es i (Gen 0))
      same_default [] i l = absurd (omega arith)
      same_default (x ∷ xs) zero l = refl
      same_default (x ∷ xs) (suc i) l = same_default xs i (omega arith)

  -- A RIGHT TABLE IS SMALL: but for the generators each basis element is a product, and they differ
  pub right-few : length (elems t.parts) ≤ length t.target + count_products t.parts
  right-few =
      let all : Each (λ m. IsIn m candidates) (monos t.parts) = each-indexed (λ m. IsIn m candidates) (monos t.parts) number-candidate in
      let few : length (monos t.parts) ≤ length candidates = length-le_from_is_member same-equivalence (monos t.parts) candidates (numbered fs t tab right).different
      (λ x m. in-member x candidates (each-member (λ y. IsIn y candidates) (monos t.parts) x all (member-in x (monos t.parts) m))) in
      let a = length-append (map leaf (rising 0 (length t.target))) (product_monos t.parts t.parts) in
      let b = length-map (rising 0 (length t.target)) leaf in
      let c = length-rising 0 (length t.target) in
      let d = product_monos-count t.p t.parts t.parts tab.each in
      omega (arith, few, length-monos t.parts)
