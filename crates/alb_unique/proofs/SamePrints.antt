-- Two right tables of one problem and one degree print the same.
use Rattle.std.proofs.Common.{◌≡◌, ℕ, suc, ◌+◌, ◌-◌, ◌<◌, ◌≤◌, false, List, [], ◌∷◌, ◌++◌, length, reverse, refl, sym, ap, ◌∙◌, subst, inl, inr, arith}
use Rattle.std.specs.Prelude.{codes, Option, Some, None, unwrap_or}
use Rattle.std.specs.List.{flat_map}
use Rattle.std.proofs.lemmas.List.{append-nil}
use Rattle.gf_sums.specs.Sums.{Comb, reindex}
use Rattle.alb_mono.specs.Listing.{Each, IsIn}
use Rattle.alb_mono.specs.Tree.{node, type_plus, rising, types_of}
use Rattle.alb_print.specs.Text.{named, type_text, mono_text, poly_text}
use Rattle.alb_poly.specs.Instance.{Form}
use Rattle.alb_poly.specs.Consequence.{AreMultilinear}
use Rattle.alb_rows.specs.Row.{Cells, comb, ColumnsBelow}
use Rattle.alb_table.specs.Table.{products, entry_of, table_product, PartView, elems, type_at, mono_at, Table, IsTable, CoversType, count_products}
use Rattle.alb_table.specs.Right.{AreHigh, IsRight}
use Rattle.alb_table.specs.RightTable.{basis_monos, mono_entry}
use Rattle.alb_table.proofs.RangeLemmas.{ats, product_of, type_of_range}
use Rattle.alb_table.proofs.TableLemmas.{entry_vector}
use Rattle.alb_answer.specs.Answers.{heading, dimension_line, dimension_lines, product_line, part_lines, product_lines}
use Rattle.alb_unique.specs.Laws.{TablesPrintAlike}
use Rattle.alb_unique.proofs.SameShapes.{AreShaped, HasFront}
use Rattle.alb_unique.proofs.SameTables.{lower, are-shaped, same-mono, same-products, same-entry, type-next, of-types}
use Rattle.alb_unique.proofs.UniqueEnd.{products-fewer}

-- ---- lists

flat-agree : {X : Type 0} (f g : X → List ℕ) (xs : List X) → ((x : X) → IsIn x xs → f x ≡ g x) → flat_map f xs ≡ flat_map g xs
flat-agree f g [] h = refl
flat-agree f g (x ∷ xs) h = ap (λ l. l ++ flat_map f xs) (h x (inl refl)) ∙ ap (λ l. g x ++ l) (flat-agree f g xs (λ y i. h y (inr i)))

abbrev type_line : List ℕ → ℕ → List ℕ
type_line w n = type_text w ++ (named (codes " ") n ++ codes "\n")

shaped-lines : (ps qs : List PartView) → AreShaped ps qs → flat_map dimension_line ps ≡ flat_map dimension_line qs
shaped-lines [] [] h = refl
shaped-lines [] (q ∷ qs) h = absurd h
shaped-lines (p ∷ ps) [] h = absurd h
shaped-lines (p ∷ ps) (q ∷ qs) h =
    ap (λ w. type_line w (length p.basis) ++ flat_map dimension_line ps) h.0
    ∙ ap (λ n. type_line q.at n ++ flat_map dimension_line ps) h.1
    ∙ ap (λ l. type_line q.at (length q.basis) ++ l) (shaped-lines ps qs h.2)

shaped-long : (ps qs : List PartView) → AreShaped ps qs → length ps ≡ length qs
shaped-long [] [] h = refl
shaped-long [] (q ∷ qs) h = absurd h
shaped-long (p ∷ ps) [] h = absurd h
shaped-long (p ∷ ps) (q ∷ qs) h = ap suc (shaped-long ps qs h.2)

-- the lines of parts with the same types
lines-agree : (f g : List ℕ → List ℕ) (ps qs : List PartView) → AreShaped ps qs → ((w : List ℕ) → IsIn w (ats ps) → f w ≡ g w) → flat_map (λ (q : PartView). f q.at) ps ≡ flat_map (λ (q : PartView). g q.at) qs
lines-agree f g [] [] h k = refl
lines-agree f g [] (q ∷ qs) h k = absurd h
lines-agree f g (p ∷ ps) [] h k = absurd h
lines-agree f g (p ∷ ps) (q ∷ qs) h k =
    ap (λ l. l ++ flat_map (λ (r : PartView). f r.at) ps) (k p.at (inl refl) ∙ ap g h.0) ∙ ap (λ l. g q.at ++ l) (lines-agree f g ps qs h.2 (λ w i. k w (inr i)))

nothing-right : (n : ℕ) → n ≡ 0 → (target : List ℕ) (d : ℕ) → flat_map (types_of target) (rising d n) ≡ []
nothing-right n e target d = ap (λ m. flat_map (types_of target) (rising d m)) e

no-parts : (ps : List PartView) → ats ps ≡ [] → ps ≡ []
no-parts [] e = refl
no-parts (p ∷ ps) e = absurd (cc)

-- ---- two tables of one degree

module _ (fs : List Form) (multi : AreMultilinear fs) (high : AreHigh fs) (t u : Table) (tab : IsTable t) (tab' : IsTable u)
    (field : u.p ≡ t.p) (goal : u.target ≡ t.target) (same : t.degree ≡ u.degree)
    (right : IsRight t.p fs t.target t.degree (basis_monos t.parts) (mono_entry t.parts))
    (right' : IsRight u.p fs u.target u.degree (basis_monos u.parts) (mono_entry u.parts)) where
  abbrev up : t.degree ≤ u.degree
  up = omega (arith, same)

  abbrev low : HasFront u.parts (ats t.parts) (flat_map (types_of t.target) (rising (1 + t.degree) (u.degree - t.degree)))
  low = lower fs multi high t u tab tab' field goal up right right'

  all-parts : u.parts ≡ low.front
  all-parts =
      let none : low.rest ≡ [] = no-parts low.rest (low.others ∙ nothing-right (u.degree - t.degree) (omega (arith, same)) t.target (1 + t.degree)) in
      low.parts_are ∙ ap (λ qs. low.front ++ qs) none ∙ append-nil low.front

  shaped-all : AreShaped t.parts u.parts
  shaped-all = subst (AreShaped t.parts) (sym all-parts) (are-shaped fs multi high t u tab tab' field goal up right right')

  -- THE DIMENSIONS PRINT THE SAME
  dimensions-same : dimension_lines t ≡ dimension_lines u
  dimensions-same =
      ap (λ d. heading d (codes "dimensions ") (length t.parts) ++ flat_map dimension_line t.parts) same
      ∙ ap (λ n. heading u.degree (codes "dimensions ") n ++ flat_map dimension_line t.parts) (shaped-long t.parts u.parts shaped-all)
      ∙ ap (λ l. heading u.degree (codes "dimensions ") (length u.parts) ++ l) (shaped-lines t.parts u.parts shaped-all)

  -- ---- products

  mono-same : (b : ℕ) → b < length (elems t.parts) → mono_at t.parts b ≡ mono_at u.parts b
  mono-same b h = same-mono fs multi high t u tab tab' field goal up right right' b h

  agree : (f : Comb ℕ) → Each (λ c. c.1 < length (elems t.parts)) f → reindex (mono_at t.parts) f ≡ reindex (mono_at u.parts) f
  agree [] h = refl
  agree (c ∷ f) h = ap (λ m. (c.0, m) ∷ reindex (mono_at t.parts) f) (mono-same c.1 h.0) ∙ ap (λ xs. (c.0, mono_at u.parts c.1) ∷ xs) (agree f h.1)

  cells-below : (cells : Cells) → ColumnsBelow (length (elems t.parts)) cells → Each (λ c. c.1 < length (elems t.parts)) (comb cells)
  cells-below [] h = tt
  cells-below (x ∷ xs) h = (h 0 x (omega arith), cells-below xs (λ k d l. h (suc k) d (omega arith)))

  product-below : (b c : ℕ) (o : Option Cells) → entry_of t.parts b c ≡ o → Each (λ s. s.1 < length (elems t.parts)) (comb (unwrap_or o []))
  product-below b c None h = tt
  product-below b c (Some e) h = cells-below e (entry_vector t b c e tab h).below

  entry-same : (b c : ℕ) → b < length (elems t.parts) → c < length (elems t.parts) → CoversType t (type_plus (type_at t.parts b) (type_at t.parts c))
      → reindex (mono_at t.parts) (table_product t.parts b c) ≡ reindex (mono_at u.parts) (table_product u.parts b c)
  entry-same b c h k v =
      agree (table_product t.parts b c) (product-below b c (entry_of t.parts b c) refl)
      ∙ ap (λ o. reindex (mono_at u.parts) (comb (unwrap_or o []))) (same-entry fs multi high t u tab tab' field goal up right right' b c h k v)

  line-same : (letters : List ℕ) (w : List ℕ) → IsIn w (ats t.parts) → (k : ℕ × ℕ) → IsIn k (products t.parts w) → product_line t.p letters t.parts k ≡ product_line u.p letters u.parts k
  line-same letters w i k j =
      let q = product_of t.parts w k.0 k.1 j in
      let a = type_of_range t.parts q.left k.0 q.left_range in
      let b = type_of_range t.parts q.right k.1 q.right_range in
      let tw : type_plus (type_at t.parts k.0) (type_at t.parts k.1) ≡ w = ap (λ x. type_plus x (type_at t.parts k.1)) a.1 ∙ ap (type_plus q.left) b.1 ∙ q.split.both in
      let ty = of-types fs multi high t u tab tab' field goal up right right' w i in
      let v : CoversType t (type_plus (type_at t.parts k.0) (type_at t.parts k.1)) = subst (CoversType t) (sym tw) (record { within = ty.le; degree_le = ty.degree }) in
      ap (λ m. mono_text letters false (node m (mono_at t.parts k.1)) ++ (codes " = " ++ (poly_text t.p letters (reverse (reindex (mono_at t.parts) (table_product t.parts k.0 k.1))) ++ codes "\n"))) (mono-same k.0 a.0)
      ∙ ap (λ m. mono_text letters false (node (mono_at u.parts k.0) m) ++ (codes " = " ++ (poly_text t.p letters (reverse (reindex (mono_at t.parts) (table_product t.parts k.0 k.1))) ++ codes "\n"))) (mono-same k.1 b.0)
      ∙ ap (λ p. mono_text letters false (node (mono_at u.parts k.0) (mono_at u.parts k.1)) ++ (codes " = " ++ (poly_text p letters (reverse (reindex (mono_at t.parts) (table_product t.parts k.0 k.1))) ++ codes "\n"))) (sym field)
      ∙ ap (λ f. mono_text letters false (node (mono_at u.parts k.0) (mono_at u.parts k.1)) ++ (codes " = " ++ (poly_text u.p letters (reverse f) ++ codes "\n"))) (entry-same k.0 k.1 a.0 b.0 v)

  type-same : (letters : List ℕ) (w : List ℕ) → IsIn w (ats t.parts) → flat_map (product_line t.p letters t.parts) (products t.parts w) ≡ flat_map (product_line u.p letters u.parts) (products u.parts w)
  type-same letters w i =
      flat-agree (product_line t.p letters t.parts) (product_line u.p letters u.parts) (products t.parts w) (line-same letters w i)
      ∙ ap (flat_map (product_line u.p letters u.parts)) (same-products fs multi high t u tab tab' field goal up right right' w (type-next fs multi high t u tab tab' field goal up right right' w i))

  count-same : count_products t.parts ≡ count_products u.parts
  count-same = omega (
    arith,
    products-fewer fs multi high t u tab tab' field goal up right right',
    products-fewer fs multi high u t tab' tab (sym field) (sym goal) (omega (arith, same)) right' right,
  )

  -- THE PRODUCTS PRINT THE SAME
  products-print : (letters : List ℕ) → product_lines letters t ≡ product_lines letters u
  products-print letters =
      ap (λ d. heading d (codes "table ") (count_products t.parts) ++ flat_map (part_lines t.p letters t.parts) t.parts) same
      ∙ ap (λ n. heading u.degree (codes "table ") n ++ flat_map (part_lines t.p letters t.parts) t.parts) count-same
      ∙ ap (λ l. heading u.degree (codes "table ") (count_products u.parts) ++ l)
      (lines-agree (λ w. flat_map (product_line t.p letters t.parts) (products t.parts w)) (λ w. flat_map (product_line u.p letters u.parts) (products u.parts w)) t.parts u.parts shaped-all (type-same letters))

-- THE LAW
pub print-alike : TablesPrintAlike
print-alike fs t u letters r same = (
  dimensions-same fs r.multilinear r.high t u r.table r.other_table r.field r.goal same r.right.right r.other_right.right,
  products-print fs r.multilinear r.high t u r.table r.other_table r.field r.goal same r.right.right r.other_right.right letters,
)
