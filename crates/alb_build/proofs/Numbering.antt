-- The numbers of the basis elements of a block.
use Rattle.std.proofs.Common.{◌≡◌, ℕ, zero, suc, ◌+◌, ◌<◌, ◌≤◌, Bool, true, false, List, [], ◌∷◌, length, get_or, refl, ap, arith}
use Rattle.alb_mono.specs.Listing.{Each, IsIn}
use Rattle.alb_table.specs.declared.part.Elem.{Elem}
use Rattle.alb_table.specs.declared.part.Elem.TheVariants.{Prod}
use Rattle.alb_table.specs.Table.{IsElementOf}
use Rattle.alb_build.specs.Part.{numbers_from, elements_of}

-- how many of the first k are true
abbrev pub before : List Bool → ℕ → ℕ
before [] k = 0
before (b ∷ bs) zero = 0
before (true ∷ bs) (suc k) = suc (before bs k)
before (false ∷ bs) (suc k) = before bs k

pub length-numbers : (n : ℕ) (bs : List Bool) → length (numbers_from n bs) ≡ length bs
length-numbers n [] = refl
length-numbers n (true ∷ bs) = ap suc (length-numbers (n + 1) bs)
length-numbers n (false ∷ bs) = ap suc (length-numbers n bs)

pub number-at : (n : ℕ) (bs : List Bool) (k : ℕ) → k < length bs → get_or (numbers_from n bs) k 0 ≡ n + before bs k
number-at n [] k l = absurd (omega arith)
number-at n (true ∷ bs) zero l = omega arith
number-at n (false ∷ bs) zero l = omega arith
number-at n (true ∷ bs) (suc k) l = omega (arith, number-at (n + 1) bs k (omega arith))
number-at n (false ∷ bs) (suc k) l = number-at n bs k (omega arith)

pub before-rises : (bs : List Bool) (i j : ℕ) → i ≤ j → before bs i ≤ before bs j
before-rises [] i j l = omega arith
before-rises (b ∷ bs) zero j l = omega arith
before-rises (b ∷ bs) (suc i) zero l = absurd (omega arith)
before-rises (true ∷ bs) (suc i) (suc j) l = omega (arith, before-rises bs i j (omega arith))
before-rises (false ∷ bs) (suc i) (suc j) l = before-rises bs i j (omega arith)

pub before-less : (bs : List Bool) (i j : ℕ) → i < j → get_or bs i false ≡ true → before bs i < before bs j
before-less [] i j l t = absurd (cc)
before-less (b ∷ bs) i zero l t = absurd (omega arith)
before-less (true ∷ bs) zero (suc j) l t = omega arith
before-less (false ∷ bs) zero (suc j) l t = absurd (cc)
before-less (true ∷ bs) (suc i) (suc j) l t = omega (arith, before-less bs i j (omega arith) t)
before-less (false ∷ bs) (suc i) (suc j) l t = before-less bs i j (omega arith) t

-- as many basis elements as trues
pub length-elements : (qs : List (ℕ × ℕ)) (bs : List Bool) → length qs ≡ length bs → length (elements_of qs bs) ≡ before bs (length bs)
length-elements [] [] e = refl
length-elements [] (b ∷ bs) e = absurd (omega arith)
length-elements (q ∷ qs) [] e = absurd (omega arith)
length-elements (q ∷ qs) (true ∷ bs) e = ap suc (length-elements qs bs (omega arith))
length-elements (q ∷ qs) (false ∷ bs) e = length-elements qs bs (omega arith)

-- the basis element of a product that is true stands at its number
pub element-at : (qs : List (ℕ × ℕ)) (bs : List Bool) (k : ℕ) (q : ℕ × ℕ) (u : Elem) → k < length bs → length qs ≡ length bs → get_or bs k false ≡ true →
    get_or (elements_of qs bs) (before bs k) u ≡ Prod (get_or qs k q).0 (get_or qs k q).1
element-at [] [] k q u l e t = absurd (omega arith)
element-at [] (b ∷ bs) k q u l e t = absurd (omega arith)
element-at (x ∷ qs) [] k q u l e t = absurd (omega arith)
element-at (x ∷ qs) (true ∷ bs) zero q u l e t = refl
element-at (x ∷ qs) (false ∷ bs) zero q u l e t = absurd (cc)
element-at (x ∷ qs) (true ∷ bs) (suc k) q u l e t = element-at qs bs k q u (omega arith) (omega arith) t
element-at (x ∷ qs) (false ∷ bs) (suc k) q u l e t = element-at qs bs k q u (omega arith) (omega arith) t

-- each basis element is one of the products
pub elements-in : (t : List ℕ) (ps qs : List (ℕ × ℕ)) (bs : List Bool) → Each (λ q. IsIn q ps) qs → Each (IsElementOf t ps) (elements_of qs bs)
elements-in t ps [] bs a = tt
elements-in t ps (q ∷ qs) [] a = tt
elements-in t ps (q ∷ qs) (true ∷ bs) a = (a.0, elements-in t ps qs bs a.1)
elements-in t ps (q ∷ qs) (false ∷ bs) a = elements-in t ps qs bs a.1

-- at most as many basis elements as products
pub elements-few : (qs : List (ℕ × ℕ)) (bs : List Bool) → length (elements_of qs bs) ≤ length qs
elements-few [] bs = omega arith
elements-few (q ∷ qs) [] = omega arith
elements-few (q ∷ qs) (true ∷ bs) = omega (arith, elements-few qs bs)
elements-few (q ∷ qs) (false ∷ bs) = omega (arith, elements-few qs bs)
