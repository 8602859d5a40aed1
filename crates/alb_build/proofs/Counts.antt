-- How many products and coefficients the table of the next degree has.
use Rattle.std.proofs.Common.{◌≡◌, ℕ, zero, suc, ◌+◌, ◌-◌, ◌*◌, ◌^◌, ◌≤◌, List, [], ◌∷◌, map, length, sym, refl, ap, ◌∙◌, arith, sum, length-append, inl, inr}
use Rattle.std.specs.Prelude.{min, ◌==◌}
use Rattle.std.proofs.lemmas.Bool.{cases_Bool}
use Rattle.std.specs.List.{flat_map}
use Rattle.std.proofs.lemmas.List.{length-map, length-reverse}
use Rattle.std.proofs.lemmas.Nat.{pow-add}
use Rattle.std.proofs.Math.Nat.{le-mul_of_pos_right}
use Rattle.gf_sums.specs.Sums.{total}
use Rattle.alb_mono.specs.Listing.{Each}
use Rattle.alb_mono.specs.Tree.{falling, types_of}
use Rattle.alb_mono.proofs.TypeLemmas.{length-falling}
use Rattle.alb_poly.specs.Instance.{Form}
use Rattle.alb_table.specs.Table.{PartView, products, wide, Table, IsTarget, count_products}
use Rattle.alb_table.proofs.PartLemmas.{sum-cons}
use Rattle.alb_block.specs.View.{BlockView}
use Rattle.alb_build.specs.Part.{count_columns, FitsBlock, ArePartsOf}
use Rattle.alb_build.specs.Next.{AreBlocks}
use Rattle.alb_build.proofs.Numbering.{length-numbers}

-- the blocks have the products of their types
pub columns-are : (fs : List Form) (t : Table) (ws : List (List ℕ)) (bs : List BlockView) → AreBlocks fs t ws bs → count_columns bs ≡ total (wide t) ws
columns-are fs t [] [] a = refl
columns-are fs t [] (b ∷ bs) a = absurd a
columns-are fs t (w ∷ ws) [] a = absurd a
columns-are fs t (w ∷ ws) (b ∷ bs) a =
    let e = ap length a.0.block.columns in
    let r = length-reverse (products t.parts w) in
    omega (arith, columns-are fs t ws bs a.1)

-- the parts have as many products
pub made-count : (fs : List Form) (t : Table) (ws : List (List ℕ)) (bs : List BlockView) (qs : List PartView) (n : ℕ) → AreBlocks fs t ws bs → ArePartsOf n bs qs → count_products qs ≡ total (wide t) ws
made-count fs t [] [] [] n a m = refl
made-count fs t [] [] (q ∷ qs) n a m = absurd m
made-count fs t [] (b ∷ bs) qs n a m = absurd a
made-count fs t (w ∷ ws) [] qs n a m = absurd a
made-count fs t (w ∷ ws) (b ∷ bs) [] n a m = absurd m
made-count fs t (w ∷ ws) (b ∷ bs) (q ∷ qs) n a m =
    let e = ap length a.0.block.columns in
    let r = length-reverse (products t.parts w) in
    let l : length q.entries ≡ length b.columns = m.0.entries.full ∙ length-numbers n m.0.free ∙ m.0.are_free.full in
    omega (arith, made-count fs t ws bs qs (n + length q.basis) a.1 m.1)

-- each block is over the field, and over its columns
pub blocks-fit : (fs : List Form) (t : Table) (ws : List (List ℕ)) (bs : List BlockView) → AreBlocks fs t ws bs → Each (FitsBlock t.p) bs
blocks-fit fs t [] [] a = tt
blocks-fit fs t [] (b ∷ bs) a = absurd a
blocks-fit fs t (w ∷ ws) [] a = absurd a
blocks-fit fs t (w ∷ ws) (b ∷ bs) a = (record { field = a.0.block.field; width = a.0.block.width }, blocks-fit fs t ws bs a.1)

pub blocks-long : (fs : List Form) (t : Table) (ws : List (List ℕ)) (bs : List BlockView) → AreBlocks fs t ws bs → length bs ≡ length ws
blocks-long fs t [] [] a = refl
blocks-long fs t [] (b ∷ bs) a = absurd a
blocks-long fs t (w ∷ ws) [] a = absurd a
blocks-long fs t (w ∷ ws) (b ∷ bs) a = omega (arith, blocks-long fs t ws bs a.1)

pub columns-few : (fs : List Form) (t : Table) (ws : List (List ℕ)) (bs : List BlockView) → AreBlocks fs t ws bs → count_columns bs ≤ 4096 * length ws
columns-few fs t [] [] a = omega arith
columns-few fs t [] (b ∷ bs) a = absurd a
columns-few fs t (w ∷ ws) [] a = absurd a
columns-few fs t (w ∷ ws) (b ∷ bs) a =
    let f : length b.columns ≤ 4096 = a.0.block.few in
    omega (arith, columns-few fs t ws bs a.1)

-- ---- how many types a degree has

flat-most : {X Y : Type 0} (g : X → List Y) (m : ℕ) (cs : List X) → ((c : X) → length (g c) ≤ m) → length (flat_map g cs) ≤ length cs * m
flat-most g m [] h = omega arith
flat-most g m (c ∷ cs) h =
    let l : length (flat_map g (c ∷ cs)) ≡ length (g c) + length (flat_map g cs) = length-append (g c) (flat_map g cs) in
    let k : length (g c) ≤ m = h c in
    let r : length (flat_map g cs) ≤ length cs * m = flat-most g m cs h in
    let z : suc (length cs) * m ≡ m + length cs * m = grind arith in
    omega arith

two-power : (x : ℕ) → x + 1 ≤ 2 ^ x
two-power zero = omega arith
two-power (suc x) = let r = two-power x in let e : 2 ^ (1 + x) ≡ 2 ^ 1 * 2 ^ x = pow-add 2 1 x in let z : suc x ≡ 1 + x = omega arith in rw z (omega arith)

times-less : (a b m : ℕ) → a ≤ b → a * m ≤ b * m
times-less a b m l = grind arith

least : (x d : ℕ) → min x d ≤ x
least x d = grind arith

pub types-few : (target : List ℕ) (d : ℕ) → length (types_of target d) ≤ 2 ^ sum target
types-few [] d = elim (cases_Bool (d == 0)) [ inl e ↦ rw e (omega arith) | inr e ↦ rw e (omega arith) ]
types-few (x ∷ xs) d =
    let m : ℕ = 2 ^ sum xs in
    let a : length (types_of (x ∷ xs) d) ≤ length (falling (min x d)) * m =
    flat-most (λ c. map (λ t. c ∷ t) (types_of xs (d - c))) m (falling (min x d)) (λ c. (let l = length-map (types_of xs (d - c)) (λ t. c ∷ t) in let r = types-few xs (d - c) in omega arith)) in
    let b : length (falling (min x d)) ≤ 2 ^ x = (let f = length-falling (min x d) in let g = least x d in let h = two-power x in omega arith) in
    let c : length (falling (min x d)) * m ≤ 2 ^ x * m = times-less (length (falling (min x d))) (2 ^ x) m b in
    let e : 2 ^ sum (x ∷ xs) ≡ 2 ^ x * m = ap (λ n. 2 ^ n) (sum-cons x xs) ∙ pow-add 2 x (sum xs) in
    omega arith

pub power-most : (s n : ℕ) → s ≤ n → 2 ^ s ≤ 2 ^ n
power-most s n l =
    let z : s + (n - s) ≡ n = omega arith in
    let e : 2 ^ n ≡ 2 ^ s * 2 ^ (n - s) = ap (λ k. 2 ^ k) (sym z) ∙ pow-add 2 s (n - s) in
    let t = two-power (n - s) in
    let m : 2 ^ s ≤ 2 ^ s * 2 ^ (n - s) = le-mul_of_pos_right (2 ^ s) (omega arith) in
    omega arith

-- the blocks of the next degree have few products
pub blocks-few : (fs : List Form) (t : Table) (d : ℕ) (bs : List BlockView) → IsTarget t.target → AreBlocks fs t (types_of t.target d) bs → count_columns bs ≤ 4096 * 4096
blocks-few fs t d bs goal a =
    let f = columns-few fs t (types_of t.target d) bs a in
    let g = types-few t.target d in
    let h : 2 ^ sum t.target ≤ 2 ^ 12 = power-most (sum t.target) 12 goal.small in
    omega arith
