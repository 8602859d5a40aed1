-- The types of the next degree, whose blocks are made one after the other.
use Rattle.std.proofs.Common.{◌≡◌, ℕ, zero, suc, ◌<◌, ◌≤◌, true, false, List, [], ◌∷◌, ◌++◌, length, get_or, take, sym, refl, ap, ◌∙◌, subst, arith}
use Rattle.std.specs.Prelude.{Err, Some, None, nat_lt}
use Rattle.std.proofs.lemmas.Bool.Decides.{nat_tests}
use Rattle.std.proofs.lemmas.List.{length-reverse}
use Rattle.alb_mono.specs.Listing.{Each}
use Rattle.alb_mono.specs.Tree.{types_of, IsTypeWithin}
use Rattle.alb_mono.proofs.TypesListing.{types_of-listing}
use Rattle.alb_mono.proofs.ListingLemmas.{each-at}
use Rattle.alb_poly.specs.Instance.{Form}
use Rattle.alb_table.specs.Table.{Table, products, next_types, wide, most_of_type}
use Rattle.alb_table.specs.End.{first_wide}
use Rattle.alb_block.specs.Asked.{setting_of, BlockAnswers}
use Rattle.alb_block.specs.View.{BlockView}
use Rattle.alb_block.specs.declared.error.BlockStop.{BlockStop}
use Rattle.alb_block.specs.declared.error.BlockStop.TheVariants.{TooWide, NoMemory}
use Rattle.alb_build.specs.Next.{IsNextBlock, AreBlocks, IsWideStop}

-- a type that has a block is narrow
pub block-narrow : (fs : List Form) (t : Table) (w : List ℕ) (b : BlockView) → IsNextBlock fs t w b → wide t w ≤ 4096
block-narrow fs t w b h =
    let f : length b.columns ≤ 4096 = h.block.few in
    let e = ap length h.block.columns in
    let r = length-reverse (products t.parts w) in
    omega arith

pub all-narrow : (fs : List Form) (t : Table) (ws : List (List ℕ)) (bs : List BlockView) → AreBlocks fs t ws bs → first_wide t ws ≡ None
all-narrow fs t [] bs a = refl
all-narrow fs t (w ∷ ws) [] a = absurd a
all-narrow fs t (w ∷ ws) (b ∷ bs) a =
    let n : wide t w ≤ 4096 = block-narrow fs t w b a.0 in
    let e : nat_lt most_of_type (wide t w) ≡ false = grind (arith, nat_tests) in
    rw e (all-narrow fs t ws bs a.1)

-- the first type that is too wide
first-found : (fs : List Form) (t : Table) (ws : List (List ℕ)) (k : ℕ) (bs : List BlockView) (w : List ℕ) → AreBlocks fs t (take k ws) bs → k < length ws → get_or ws k w ≡ w →
    4096 < wide t w → first_wide t ws ≡ Some w
first-found fs t [] k bs w a l g m = absurd (omega arith)
first-found fs t (x ∷ ws) zero bs w a l g m =
    let n : 4096 < wide t x = subst (λ y. 4096 < wide t y) (sym g) m in
    let e : nat_lt most_of_type (wide t x) ≡ true = grind (arith, nat_tests) in
    rw e (ap Some g)
first-found fs t (x ∷ ws) (suc k) [] w a l g m = absurd a
first-found fs t (x ∷ ws) (suc k) (b ∷ bs) w a l g m =
    let n : wide t x ≤ 4096 = block-narrow fs t x b a.0 in
    let e : nat_lt most_of_type (wide t x) ≡ false = grind (arith, nat_tests) in
    rw e (first-found fs t ws k bs w a.1 (omega arith) g m)

pub wide-stop : (fs : List Form) (t : Table) (ws : List (List ℕ)) (k : ℕ) (bs : List BlockView) (x : List ℕ) (e : BlockStop) → AreBlocks fs t (take k ws) bs → k < length ws →
    get_or ws k x ≡ x → ws ≡ next_types t → BlockAnswers (setting_of fs t x) (Err e) → IsWideStop t e
wide-stop fs t ws k bs x (TooWide w n) a l g s h =
    let r = length-reverse (products t.parts x) in
    let i : n ≡ wide t x = h.1 ∙ r in
    let m : 4096 < n = h.2 in
    record {
      first = ap (first_wide t) (sym s) ∙ first-found fs t ws k bs x a l g (omega arith) ∙ ap Some (sym h.0);
      number = ap (wide t) h.0 ∙ sym i;
    }
wide-stop fs t ws k bs x NoMemory a l g s h = tt

-- one more block
pub blocks-more : (fs : List Form) (t : Table) (ws : List (List ℕ)) (k : ℕ) (bs : List BlockView) (w : List ℕ) (b : BlockView) → AreBlocks fs t (take k ws) bs → k < length ws →
    get_or ws k w ≡ w → IsNextBlock fs t w b → AreBlocks fs t (take (suc k) ws) (bs ++ b ∷ [])
blocks-more fs t [] k bs w b a l g h = absurd (omega arith)
blocks-more fs t (x ∷ ws) zero [] w b a l g h = (subst (λ y. IsNextBlock fs t y b) (sym g) h, tt)
blocks-more fs t (x ∷ ws) zero (c ∷ bs) w b a l g h = absurd a
blocks-more fs t (x ∷ ws) (suc k) [] w b a l g h = absurd a
blocks-more fs t (x ∷ ws) (suc k) (c ∷ bs) w b a l g h = (a.0, blocks-more fs t ws k bs w b a.1 (omega arith) g h)

-- a type of the next degree
pub type-next : (target : List ℕ) (d : ℕ) (ws : List (List ℕ)) (k : ℕ) (w : List ℕ) → ws ≡ types_of target d → k < length ws → get_or ws k w ≡ w → IsTypeWithin target d w
type-next target d ws k w e l g =
    subst (IsTypeWithin target d) g
    (each-at (IsTypeWithin target d) ws k w (subst (Each (IsTypeWithin target d)) (sym e) (types_of-listing target d).each) l)
