-- The table of degree 1.
use Rattle.std.proofs.Common.{◌≡◌, ℕ, zero, suc, ◌-◌, ◌<◌, ◌≤◌, ◌==◌, true, false, List, [], ◌∷◌, ◌++◌, map, length, replicate, sym, refl, ap, ◌∙◌, arith, min, sum}
use Rattle.std.specs.Prelude.{All}
use Rattle.std.specs.List.{flat_map}
use Rattle.std.proofs.lemmas.Bool.Decides.{nat_tests}
use Rattle.std.proofs.lemmas.List.{append-nil, take_all, length-map}
use Rattle.std.proofs.lemmas.List.Elements.{All-head, All-tail}
use Rattle.gf_field.specs.Modular.{IsInTable}
use Rattle.alb_mono.specs.Listing.{Each}
use Rattle.alb_mono.specs.Tree.{leaf, count, listed, type_of, falling, types_of, IsTypeWithin, rising, type_minus}
use Rattle.alb_mono.proofs.ListingLemmas.{each-weaker}
use Rattle.alb_mono.proofs.TypesListing.{types_of-listing}
use Rattle.alb_table.specs.declared.part.Elem.TheVariants.{Gen}
use Rattle.alb_table.specs.Table.{PartView, first_of, dim_of, elems, rectangle, products, IsTable, IsTarget, IsPartOf, first_parts, first_table, count_products, count_coefficients}
use Rattle.alb_table.proofs.PartLemmas.{sum-cons}
use Rattle.alb_table.proofs.RangeLemmas.{ats}
use Rattle.alb_table.proofs.TableLemmas.{length_gens}

-- the types of n generators
abbrev pub units : ℕ → List (List ℕ)
units zero = []
units (suc n) = (1 ∷ replicate n 0) ∷ map (λ (t : List ℕ). 0 ∷ t) (units n)

abbrev pub types_by : ℕ → List ℕ → ℕ → List (List ℕ)
types_by d xs n = flat_map (λ (c : ℕ). map (λ (t : List ℕ). c ∷ t) (types_of xs (d - c))) (falling n)

zero_types : (xs : List ℕ) → types_of xs 0 ≡ replicate (length xs) 0 ∷ []
zero_types [] = refl
zero_types (x ∷ xs) =
    let m : min x 0 ≡ 0 = omega arith in
    ap (types_by 0 xs) m ∙ append-nil (map (λ (t : List ℕ). 0 ∷ t) (types_of xs 0)) ∙ ap (map (λ (t : List ℕ). 0 ∷ t)) (zero_types xs)

unit_types : (xs : List ℕ) → All (λ c. 0 < c) xs → types_of xs 1 ≡ units (length xs)
unit_types [] h = refl
unit_types (x ∷ xs) h =
    let p : 0 < x = All-head (λ c. 0 < c) x xs h in
    let m : min x 1 ≡ 1 = omega arith in
    ap (types_by 1 xs) m
    ∙ ap (λ (z : List (List ℕ)). map (λ (t : List ℕ). 1 ∷ t) z ++ (map (λ (t : List ℕ). 0 ∷ t) (types_of xs 1) ++ [])) (zero_types xs)
    ∙ ap (λ (z : List (List ℕ)). (1 ∷ replicate (length xs) 0) ∷ z)
    (append-nil (map (λ (t : List ℕ). 0 ∷ t) (types_of xs 1)) ∙ ap (map (λ (t : List ℕ). 0 ∷ t)) (unit_types xs (All-tail (λ c. 0 < c) x xs h)))

-- the same by the counts of a generator
abbrev pub unit_from : ℕ → ℕ → ℕ → List ℕ
unit_from z n i = listed (λ g. count g (leaf i)) z n

zeros_from : (i z n : ℕ) → i < z → unit_from z n i ≡ replicate n 0
zeros_from i z zero h = refl
zeros_from i z (suc n) h = let e : (i == z) ≡ false = grind (arith, nat_tests) in rw e (ap (λ (xs : List ℕ). 0 ∷ xs) (zeros_from i (suc z) n (omega arith)))

shifted : (z n k m : ℕ) → z < k → map (unit_from z (suc n)) (rising k m) ≡ map (λ (t : List ℕ). 0 ∷ t) (map (unit_from (suc z) n) (rising k m))
shifted z n k zero h = refl
shifted z n k (suc m) h =
    let e : (k == z) ≡ false = grind (arith, nat_tests) in
    let r = shifted z n (suc k) m (omega arith) in
    rw e (ap (λ (xs : List (List ℕ)). (0 ∷ unit_from (suc z) n k) ∷ xs) r)

units_from : (z n : ℕ) → map (unit_from z n) (rising z n) ≡ units n
units_from z zero = refl
units_from z (suc n) =
    let e : (z == z) ≡ true = grind (arith, nat_tests) in
    let a : unit_from z (suc n) z ≡ 1 ∷ replicate n 0 = rw e (ap (λ (xs : List ℕ). 1 ∷ xs) (zeros_from z (suc z) n (omega arith))) in
    let b : map (unit_from z (suc n)) (rising (suc z) n) ≡ map (λ (t : List ℕ). 0 ∷ t) (units n) = shifted z n (suc z) n (omega arith) ∙ ap (map (λ (t : List ℕ). 0 ∷ t)) (units_from (suc z) n) in
    ap (λ (t : List ℕ). t ∷ map (unit_from z (suc n)) (rising (suc z) n)) a ∙ ap (λ (ts : List (List ℕ)). (1 ∷ replicate n 0) ∷ ts) b

pub length-rising : (k n : ℕ) → length (rising k n) ≡ n
length-rising k zero = refl
length-rising k (suc n) = ap suc (length-rising (suc k) n)

-- as many types of degree 1 as generators
pub length_first : (target : List ℕ) → All (λ c. 0 < c) target → length (types_of target 1) ≡ length target
length_first target h =
    ap length (unit_types target h ∙ sym (units_from 0 (length target))) ∙ length-map (rising 0 (length target)) (unit_from 0 (length target)) ∙ length-rising 0 (length target)

length_le_sum : (xs : List ℕ) → All (λ c. 0 < c) xs → length xs ≤ sum xs
length_le_sum [] h = omega arith
length_le_sum (x ∷ xs) h =
    let a : 0 < x = All-head (λ c. 0 < c) x xs h in let b : length xs ≤ sum xs = length_le_sum xs (All-tail (λ c. 0 < c) x xs h) in omega (arith, sum-cons x xs)

pub few_generators : (target : List ℕ) → IsTarget target → length target ≤ 12
few_generators target g = let a = length_le_sum target g.positive in let b = g.small in omega arith

pub first_few : (target : List ℕ) → IsTarget target → length (types_of target 1) ≤ 12
first_few target g = let a = length_first target g.positive in let b = few_generators target g in omega arith

-- ---- the parts of degree 1

pub no_products : (parts : List PartView) (t : List ℕ) → sum t ≡ 1 → products parts t ≡ []
no_products parts t h =
    let e : sum t - 1 ≡ 0 = omega arith in
    ap (λ n. flat_map (λ (s : List ℕ × List ℕ). rectangle (first_of parts s.0) (dim_of parts s.0) (first_of parts s.1) (dim_of parts s.1))
    (flat_map (λ (d : ℕ). map (λ (s : List ℕ). (s, type_minus t s)) (types_of t d)) (rising 1 n))) e

pub record IsUnit (n : ℕ) (t : List ℕ) : Type 0 where
  pub long : length t ≡ n
  pub one : sum t ≡ 1

first_each : (p : ℕ) (parts : List PartView) (n k : ℕ) (ts : List (List ℕ)) → ts ≡ map (unit_from 0 n) (rising k (length ts)) → Each (IsUnit n) ts →
    Each (IsPartOf p parts parts) (first_parts k ts)
unfolding type_of
first_each p parts n k [] e u = tt
first_each p parts n k (t ∷ ts) e u =
    let h : t ≡ unit_from 0 n k = cc in
    let r : ts ≡ map (unit_from 0 n) (rising (suc k) (length ts)) = cc in
    let g : t ≡ unit_from 0 (length t) k = h ∙ ap (λ m. unit_from 0 m k) (sym u.0.long) in (
      record { full = ap length (sym (no_products parts t u.0.one)); fits = omega arith; elements = (g, tt); rows = tt },
      first_each p parts n (suc k) ts r u.1,
    )

-- the types of degree 1 are those of generators
pub first_units : (target : List ℕ) → Each (IsUnit (length target)) (types_of target 1)
first_units target =
    each-weaker (IsTypeWithin target 1) (IsUnit (length target)) (types_of target 1) (λ w h. record { long = h.long; one = h.degree }) (types_of-listing target 1).each

first_ats : (k : ℕ) (ts : List (List ℕ)) → ats (first_parts k ts) ≡ ts
first_ats k [] = refl
first_ats k (t ∷ ts) = ap (λ (xs : List (List ℕ)). t ∷ xs) (first_ats (suc k) ts)

pub first_elems : (k : ℕ) (ts : List (List ℕ)) → elems (first_parts k ts) ≡ map Gen (rising k (length ts))
first_elems k [] = refl
first_elems k (t ∷ ts) = ap (λ xs. Gen k ∷ xs) (first_elems (suc k) ts)

pub first_products : (k : ℕ) (ts : List (List ℕ)) → count_products (first_parts k ts) ≡ 0
first_products k [] = refl
first_products k (t ∷ ts) = let r = first_products (suc k) ts in omega arith

pub first_coefficients : (k : ℕ) (ts : List (List ℕ)) → count_coefficients (first_parts k ts) ≡ 0
first_coefficients k [] = refl
first_coefficients k (t ∷ ts) = let r = first_coefficients (suc k) ts in omega arith

pub first_is_table : (p : ℕ) (target : List ℕ) → IsInTable p → IsTarget target → IsTable (first_table p target)
first_is_table p target f g =
    let n : ℕ = length target in
    let ts : List (List ℕ) = types_of target 1 in
    let l : length (types_of target 1) ≡ length target = length_first target g.positive in
    let u : types_of target 1 ≡ map (unit_from 0 (length target)) (rising 0 (length (types_of target 1))) =
    unit_types target g.positive ∙ sym (units_from 0 (length target)) ∙ ap (λ m. map (unit_from 0 (length target)) (rising 0 m)) (sym l) in
    let es : elems (first_parts 0 (types_of target 1)) ≡ map Gen (rising 0 (length target)) = first_elems 0 (types_of target 1) ∙ ap (λ m. map Gen (rising 0 m)) l in
    let el : length (elems (first_parts 0 (types_of target 1))) ≡ length target = ap length es ∙ length_gens 0 (length target) in
    let few = few_generators target g in
    let cp = first_products 0 (types_of target 1) in
    let cf = first_coefficients 0 (types_of target 1) in
    record {
      field = f;
      goal = g;
      started = omega arith;
      within = (let s = g.some in omega arith);
      types = first_ats 0 (types_of target 1) ∙ sym (append-nil (types_of target 1));
      each = first_each p (first_parts 0 (types_of target 1)) (length target) 0 (types_of target 1) u
          (first_units target);
      generators = take_all (length target) (elems (first_parts 0 (types_of target 1))) (omega arith) ∙ es;
      countable = record { elements = omega arith; products = omega arith; coefficients = omega arith };
    }
