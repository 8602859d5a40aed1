-- The parts of the next degree are parts of the longer table.
use Rattle.std.proofs.Common.{◌≡◌, ℕ, suc, ◌+◌, ◌-◌, ◌<◌, ◌≤◌, Bool, false, List, [], ◌∷◌, ◌++◌, length, get_or, reverse, sym, refl, ap, ◌∙◌, subst, arith, inl, inr, append_assoc, length-append}
use Rattle.std.proofs.lemmas.Bool.{cases_Bool}
use Rattle.std.proofs.lemmas.List.{length-reverse, reverse-reverse, append-nil}
use Rattle.std.proofs.lemmas.Grind.{flat_map-append}
use Rattle.alb_mono.specs.Listing.{Each, IsIn, Ascends}
use Rattle.alb_mono.specs.Tree.{cmp_types}
use Rattle.std.specs.declared.cmp.Ordering.TheVariants.{Less}
use Rattle.alb_table.specs.declared.part.Elem.{Elem}
use Rattle.alb_mono.proofs.ListingLemmas.{each-append}
use Rattle.alb_poly.specs.Poly.{list_eq}
use Rattle.alb_poly.specs.Instance.{Form}
use Rattle.alb_rows.specs.Row.{Cells, ColumnsBelow}
use Rattle.alb_rows.specs.Span.{IsPivot}
use Rattle.alb_reduce.specs.Reduction.{Reduction, kept}
use Rattle.alb_table.specs.Table.{PartView, first_of, dim_of, elems, products, Table, IsElementOf, IsPartOf, IsRowAmong}
use Rattle.alb_linear.proofs.IdentityLemmas.{list_eq-itself}
use Rattle.alb_table.proofs.PartLemmas.{list_eq-other}
use Rattle.alb_table.proofs.TypesTo.{apart}
use Rattle.alb_block.specs.View.{BlockView}
use Rattle.alb_table.proofs.TableLemmas.{each-in}
use Rattle.alb_build.specs.Part.{AreFree, IsNewEntry, IsPartMade, ArePartsOf, numbers_from}
use Rattle.alb_build.specs.Next.{IsNextBlock, AreBlocks}
use Rattle.alb_build.proofs.Numbering.{before, length-numbers, number-at, before-less, length-elements, elements-in}
use Rattle.alb_build.proofs.EntryRows.{Rises, free-full, pivot-rises, rises-among}

each-place : (P : Cells → Type 0) (xs : List Cells) → ((k : ℕ) → k < length xs → P (get_or xs k [])) → Each P xs
each-place P [] h = tt
each-place P (x ∷ xs) h = (h 0 (omega arith), each-place P xs (λ k l. h (suc k) (omega arith)))

-- the entries are rows over the numbers of the block
entry-among : (r : Reduction) (n first k : ℕ) (free : List Bool) (es : Cells) → 1 < r.p → r.columns ≡ n → AreFree r n free → k < n → IsNewEntry r (numbers_from first free) k es →
    IsRowAmong r.p first (before free (length free)) es
entry-among r n first k free es big width are l h =
    let len : length (numbers_from first free) ≡ length free = length-numbers first free in
    let full : length free ≡ n = are.full in
    let place : length (numbers_from first free) - 1 - k ≡ n - 1 - k = omega arith in
    elim (cases_Bool (get_or free k false)) [
      | inl t ↦ (
          let c : es ≡ (get_or (numbers_from first free) k 0, 1) ∷ [] = h.free (λ v. (are.each k l).0 t (subst (IsPivot r.p (kept r)) place v)) in
          let a : get_or (numbers_from first free) k 0 ≡ first + before free k = number-at first free k (omega arith) in
          let b : before free k < before free (length free) = before-less free k (length free) (omega arith) t in
          rises-among r.p first (before free (length free)) es
          (subst (Rises r.p first (first + before free (length free))) (sym c) (omega arith, omega arith, big, (λ q. absurd (omega arith)), tt)))
      | inr f ↦ (
          let v : IsPivot r.p (kept r) (length (numbers_from first free) - 1 - k) = subst (IsPivot r.p (kept r)) (sym place) (are.pivot k l f) in
          let e = h.pivot v in
          rises-among r.p first (before free (length free)) es
          (pivot-rises r free (free-full r n free are) (length (numbers_from first free) - 1 - k) first e.row es e.reduced e.leads e.residues
          (subst (λ m. ColumnsBelow m e.row) (width ∙ sym full) e.below) e.entry_is))
    ]

-- the part of a block, where it stands in the longer table
pub made-part : (fs : List Form) (t : Table) (w : List ℕ) (b : BlockView) (q : PartView) (first : ℕ) (parts : List PartView) → 1 < t.p → IsNextBlock fs t w b → IsPartMade first b q →
    first_of parts q.at ≡ first → dim_of parts q.at ≡ length q.basis → IsPartOf t.p t.parts parts q
made-part fs t w b q first parts big k m f d =
    let at : q.at ≡ w = m.at ∙ k.block.at in
    let cols : reverse b.columns ≡ products t.parts w = ap reverse k.block.columns ∙ reverse-reverse (products t.parts w) in
    let lc : length b.columns ≡ length (products t.parts w) = sym (length-reverse b.columns) ∙ ap length cols in
    let len : length q.entries ≡ length b.columns = m.entries.full ∙ length-numbers first m.free ∙ m.are_free.full in
    let dim : length q.basis ≡ before m.free (length m.free) = ap length m.basis ∙ length-elements (reverse b.columns) m.free (length-reverse b.columns ∙ sym m.are_free.full) in
    let few : length b.columns ≤ 4096 = k.block.few in
    record {
      full = len ∙ lc ∙ ap (λ v. length (products t.parts v)) (sym at);
      fits = omega arith;
      elements = subst (λ v. Each (IsElementOf v (products t.parts v)) q.basis) (sym at)
          (subst (Each (IsElementOf w (products t.parts w))) (sym m.basis)
          (elements-in w (products t.parts w) (reverse b.columns) m.free (subst (Each (λ x. IsIn x (products t.parts w))) (sym cols) (each-in (λ x. IsIn x (products t.parts w)) (products t.parts w) (λ x i. i)))));
      rows = subst (λ n. Each (IsRowAmong t.p n (dim_of parts q.at)) q.entries) (sym f)
          (subst (λ n. Each (IsRowAmong t.p first n) q.entries) (sym (d ∙ dim))
          (each-place (IsRowAmong t.p first (before m.free (length m.free))) q.entries (λ i l.
          subst (λ p. IsRowAmong p first (before m.free (length m.free)) (get_or q.entries i [])) k.block.field
          (entry-among b.reduced (length b.columns) first i m.free (get_or q.entries i []) (subst (λ p. 1 < p) (sym k.block.field) big) k.block.width m.are_free (omega arith)
          (m.entries.each i (let z = length-numbers first m.free in let y : length m.free ≡ length b.columns = m.are_free.full in omega arith))))));
    }

-- ---- where the parts stand

first-behind : (ps : List PartView) (q : PartView) (qs : List PartView) → Each (λ (x : PartView). x.at ≡ q.at → ⊥) ps →
    (first_of (ps ++ q ∷ qs) q.at ≡ length (elems ps)) × (dim_of (ps ++ q ∷ qs) q.at ≡ length q.basis)
first-behind [] q qs a = (rw (list_eq-itself q.at) refl, rw (list_eq-itself q.at) refl)
first-behind (x ∷ ps) q qs a =
    let e : list_eq x.at q.at ≡ false = list_eq-other x.at q.at a.0 in
    let r = first-behind ps q qs a.1 in
    (rw e (ap (λ n. length x.basis + n) r.0 ∙ sym (length-append x.basis (elems ps))), rw e r.1)

-- the parts of the next degree
pub made-parts : (fs : List Form) (t : Table) (ps : List PartView) (ws : List (List ℕ)) (bs : List BlockView) (qs : List PartView) → 1 < t.p → AreBlocks fs t ws bs →
    ArePartsOf (length (elems ps)) bs qs → Ascends cmp_types ws → Each (λ w. Each (λ (x : PartView). x.at ≡ w → ⊥) ps) ws → Each (IsPartOf t.p t.parts (ps ++ qs)) qs
made-parts fs t ps [] [] [] big a m s o = tt
made-parts fs t ps [] [] (q ∷ qs) big a m s o = absurd m
made-parts fs t ps [] (b ∷ bs) qs big a m s o = absurd a
made-parts fs t ps (w ∷ ws) [] qs big a m s o = absurd a
made-parts fs t ps (w ∷ ws) (b ∷ bs) [] big a m s o = absurd m
made-parts fs t ps (w ∷ ws) (b ∷ bs) (q ∷ qs) big a m s o =
    let at : q.at ≡ w = m.0.at ∙ a.0.block.at in
    let r = first-behind ps q qs (subst (λ v. Each (λ (x : PartView). x.at ≡ v → ⊥) ps) (sym at) o.0) in
    let e : elems (ps ++ q ∷ []) ≡ elems ps ++ elems (q ∷ []) = flat_map-append (λ (x : PartView). x.basis) ps (q ∷ []) in
    let n : length (elems (ps ++ q ∷ [])) ≡ length (elems ps) + length q.basis =
    ap length e ∙ length-append (elems ps) (elems (q ∷ [])) ∙ ap (λ (xs : List Elem). length (elems ps) + length xs) (append-nil q.basis) in (
      made-part fs t w b q (length (elems ps)) (ps ++ q ∷ qs) big a.0 m.0 r.0 r.1,
      subst (λ xs. Each (IsPartOf t.p t.parts xs) qs) (append_assoc ps (q ∷ []) qs)
          (made-parts fs t (ps ++ q ∷ []) ws bs qs big a.1 (subst (λ i. ArePartsOf i bs qs) (sym n) m.1) s.1 (others ws s.0 o.1)),
    )
  where
    others : (vs : List (List ℕ)) → Each (λ v. cmp_types w v ≡ Less) vs → Each (λ v. Each (λ (x : PartView). x.at ≡ v → ⊥) ps) vs →
        Each (λ v. Each (λ (x : PartView). x.at ≡ v → ⊥) (ps ++ q ∷ [])) vs
    others [] l c = tt
    others (v ∷ vs) l c = (
      each-append (λ (x : PartView). x.at ≡ v → ⊥) ps (q ∷ []) c.0 ((λ e. apart w v l.0 (sym (m.0.at ∙ a.0.block.at) ∙ e)), tt),
      others vs l.1 c.1,
    )
