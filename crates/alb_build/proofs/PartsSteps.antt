-- The loop that makes the parts of the next degree from their blocks.
use Rattle.std.proofs.Common.{◌≡◌, ℕ, ◌+◌, ◌<◌, ◌≤◌, ◌^◌, List, [], ◌∷◌, ◌++◌, map, length, reverse, sym, ap, ◌∙◌, subst, arith, append_assoc, length-append}
use Rattle.std.proofs.lemmas.List.{append-nil, length-reverse, map-append, reverse-append, reverse-reverse}
use Rattle.std.proofs.lemmas.Grind.{flat_map-append}
use Rattle.alb_mono.specs.Listing.{Each}
use Rattle.alb_block.proofs.ListLemmas.{each-reverse}
use Rattle.alb_table.specs.Table.{PartView, part_view, elems}
use Rattle.alb_table.specs.declared.part.Part.{Part}
use Rattle.alb_block.specs.View.{BlockView, block_view}
use Rattle.alb_block.specs.declared.block.Block.{Block}
use Rattle.gf_sums.proofs.Totals.{total-append}
use Rattle.alb_build.specs.Part.{FitsBlock, IsPartMade, ArePartsOf, count_columns}
use Rattle.alb_build.proofs.Numbering.{elements-few}

-- one more block and its part
pub parts-more : (n : ℕ) (bs : List BlockView) (qs : List PartView) (b : BlockView) (q : PartView) → ArePartsOf n bs qs → IsPartMade (n + length (elems qs)) b q →
    ArePartsOf n (bs ++ b ∷ []) (qs ++ q ∷ [])
parts-more n [] [] b q a m = (let z : n + 0 ≡ n = omega arith in subst (λ x. IsPartMade x b q) z m, tt)
parts-more n [] (x ∷ qs) b q a m = absurd a
parts-more n (x ∷ bs) [] b q a m = absurd a
parts-more n (x ∷ bs) (y ∷ qs) b q a m =
    let l : length (elems (y ∷ qs)) ≡ length y.basis + length (elems qs) = length-append y.basis (elems qs) in
    let z : n + length (elems (y ∷ qs)) ≡ (n + length y.basis) + length (elems qs) = omega arith in
    (a.0, parts-more (n + length y.basis) bs qs b q a.1 (subst (λ x. IsPartMade x b q) z m))

-- what stays true while blocks are taken from `left`, the last one first
pub record Makes (p n : ℕ) (blocks : List Block) (parts : List Part) (first : ℕ) (left : List Block) : Type 0 where
  pub done : List Block
  pub all : done ++ reverse left ≡ blocks
  pub made : ArePartsOf n (map block_view done) (map part_view parts)
  pub number : first ≡ n + length (elems (map part_view parts))
  pub fit : Each (λ (b : Block). FitsBlock p (block_view b)) left

-- the beginning
pub makes-start : (p n first : ℕ) (blocks left : List Block) → left ≡ reverse blocks → first ≡ n → Each (FitsBlock p) (map block_view blocks) → Makes p n blocks [] first left
makes-start p n first blocks left l e f = record {
  done = [];
  all = ap reverse l ∙ reverse-reverse blocks;
  made = tt;
  number = e ∙ (let z : n ≡ n + 0 = omega arith in z);
  fit = subst (Each (λ (b : Block). FitsBlock p (block_view b))) (sym l) (each-reverse (λ (b : Block). FitsBlock p (block_view b)) blocks (each-viewed blocks f));
}
  where
    each-viewed : (bs : List Block) → Each (FitsBlock p) (map block_view bs) → Each (λ (b : Block). FitsBlock p (block_view b)) bs
    each-viewed [] a = tt
    each-viewed (b ∷ bs) a = (a.0, each-viewed bs a.1)

-- the block that is taken next
pub makes-next : (p n first : ℕ) (blocks : List Block) (parts : List Part) (left rest : List Block) (b : Block) → Makes p n blocks parts first left → left ≡ rest ++ b ∷ [] → FitsBlock p (block_view b)
makes-next p n first blocks parts left rest b m e = last rest (subst (Each (λ (x : Block). FitsBlock p (block_view x))) e m.fit)
  where
    last : (xs : List Block) → Each (λ (x : Block). FitsBlock p (block_view x)) (xs ++ b ∷ []) → FitsBlock p (block_view b)
    last [] a = a.0
    last (x ∷ xs) a = last xs a.1

-- its part is made
pub makes-more : (p n first first' : ℕ) (blocks : List Block) (parts parts' : List Part) (left rest : List Block) (b : Block) (q : Part) → Makes p n blocks parts first left →
    left ≡ rest ++ b ∷ [] → IsPartMade first (block_view b) (part_view q) → first' ≡ first + length q.basis.items → parts' ≡ parts ++ q ∷ [] →
    Makes p n blocks parts' first' rest
makes-more p n first first' blocks parts parts' left rest b q m e k f w =
    let r : reverse left ≡ b ∷ reverse rest = ap reverse e ∙ reverse-append rest (b ∷ []) in
    let v : map part_view parts' ≡ map part_view parts ++ part_view q ∷ [] = ap (map part_view) w ∙ map-append part_view parts (q ∷ []) in
    let x : elems (map part_view parts') ≡ elems (map part_view parts) ++ elems (part_view q ∷ []) = ap elems v ∙ flat_map-append (λ (y : PartView). y.basis) (map part_view parts) (part_view q ∷ []) in
    let y : elems (part_view q ∷ []) ≡ q.basis.items = append-nil q.basis.items in
    let l : length (elems (map part_view parts')) ≡ length (elems (map part_view parts)) + length q.basis.items =
    ap length x ∙ length-append (elems (map part_view parts)) (elems (part_view q ∷ [])) ∙ ap (λ es. length (elems (map part_view parts)) + length es) y in
    let z : first ≡ n + length (elems (map part_view parts)) = m.number in
    record {
      done = m.done ++ b ∷ [];
      all = append_assoc m.done (b ∷ []) (reverse rest) ∙ ap (λ bs. m.done ++ bs) (sym r) ∙ m.all;
      made = subst (λ bs. ArePartsOf n bs (map part_view parts')) (sym (map-append block_view m.done (b ∷ [])))
          (subst (ArePartsOf n (map block_view m.done ++ block_view b ∷ [])) (sym v)
          (parts-more n (map block_view m.done) (map part_view parts) (block_view b) (part_view q) m.made (subst (λ i. IsPartMade i (block_view b) (part_view q)) z k)));
      number = omega arith;
      fit = front rest (subst (Each (λ (x : Block). FitsBlock p (block_view x))) e m.fit);
    }
  where
    front : (xs : List Block) → Each (λ (x : Block). FitsBlock p (block_view x)) (xs ++ b ∷ []) → Each (λ (x : Block). FitsBlock p (block_view x)) xs
    front [] a = tt
    front (x ∷ xs) a = (a.0, front xs a.1)

-- ---- the numbers stay small

-- a part has no more basis elements than its block has products, and so have all parts together
part-small : (n : ℕ) (b : BlockView) (q : PartView) → IsPartMade n b q → length q.basis ≤ length b.columns
part-small n b q m = let e = ap length m.basis in omega (arith, elements-few (reverse b.columns) m.free, length-reverse b.columns)

parts-small : (n : ℕ) (bs : List BlockView) (qs : List PartView) → ArePartsOf n bs qs → length (elems qs) ≤ count_columns bs
parts-small n [] [] a = omega arith
parts-small n [] (q ∷ qs) a = absurd a
parts-small n (b ∷ bs) [] a = absurd a
parts-small n (b ∷ bs) (q ∷ qs) a =
    let l : length (elems (q ∷ qs)) ≡ length q.basis + length (elems qs) = length-append q.basis (elems qs) in
    omega (arith, part-small n b q a.0, parts-small (n + length q.basis) bs qs a.1)

count-append : (xs ys : List Block) → count_columns (map block_view (xs ++ ys)) ≡ count_columns (map block_view xs) + count_columns (map block_view ys)
count-append xs ys = ap count_columns (map-append block_view xs ys) ∙ total-append (λ (b : BlockView). length b.columns) (map block_view xs) (map block_view ys)

-- the basis numbers of the block that is taken next
pub makes-room : (p n first : ℕ) (blocks : List Block) (parts : List Part) (left rest : List Block) (b : Block) → Makes p n blocks parts first left → left ≡ rest ++ b ∷ [] →
    n + count_columns (map block_view blocks) < 2 ^ 32 → first + length (block_view b).columns < 2 ^ 32
makes-room p n first blocks parts left rest b m e h =
    let r : reverse left ≡ b ∷ reverse rest = ap reverse e ∙ reverse-append rest (b ∷ []) in
    let a : blocks ≡ m.done ++ b ∷ reverse rest = sym m.all ∙ ap (λ bs. m.done ++ bs) r in
    let c = ap (λ bs. count_columns (map block_view bs)) a ∙ count-append m.done (b ∷ reverse rest) in
    let s = parts-small n (map block_view m.done) (map part_view parts) m.made in
    let z : first ≡ n + length (elems (map part_view parts)) = m.number in
    omega arith

-- and the number after its part
pub makes-next_room : (p n first : ℕ) (blocks : List Block) (parts : List Part) (left rest : List Block) (b : Block) (q : Part) → Makes p n blocks parts first left → left ≡ rest ++ b ∷ [] →
    n + count_columns (map block_view blocks) < 2 ^ 32 → IsPartMade first (block_view b) (part_view q) → first + length q.basis.items < 2 ^ 32
makes-next_room p n first blocks parts left rest b q m e h k = omega (arith, makes-room p n first blocks parts left rest b m e h, part-small first (block_view b) (part_view q) k)

-- the end
pub makes-end : (p n first : ℕ) (blocks : List Block) (parts : List Part) (left : List Block) → Makes p n blocks parts first left → left ≡ [] →
    n + count_columns (map block_view blocks) < 2 ^ 32 → ArePartsOf n (map block_view blocks) (map part_view parts) × (n + length (elems (map part_view parts)) < 2 ^ 32)
makes-end p n first blocks parts left m e h =
    let a : m.done ≡ blocks = sym (append-nil m.done) ∙ ap (λ bs. m.done ++ reverse bs) (sym e) ∙ m.all in
    let made : ArePartsOf n (map block_view blocks) (map part_view parts) = subst (λ bs. ArePartsOf n (map block_view bs) (map part_view parts)) a m.made in
    (made, omega (arith, parts-small n (map block_view blocks) (map part_view parts) made))
