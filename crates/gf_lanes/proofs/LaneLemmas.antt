-- Arithmetic of one lane, and lanes one by one.
use Rattle.std.proofs.Common.{◌≡◌, ℕ, suc, ◌+◌, ◌*◌, ◌-◌, ◌/◌, ◌%◌, ◌<◌, ◌≤◌, List, [], ◌∷◌, arith, length, get_or, ap, ◌∙◌, sym, cond, ltb, inl, inr}
use Rattle.std.proofs.lemmas.Nat.{mul-le, mod_below}
use Rattle.std.proofs.lemmas.Bool.{cases_lt, lt-ltb, le-ltb}
use Rattle.std.proofs.Math.Nat.{mod-eq_of_lt, mod-eq-sub-mod, add-mod_right, div-add-mod, add-mul-mod_self_right}
use lib.Lanes.{Each2, chunk, put_chunk}
use Rattle.std.proofs.lemmas.Simd.{get_or-chunk, get_or-put_chunk_at}
use Rattle.gf_field.specs.Modular.{IsSameMod}

-- a fact of each pair of lanes
pub pairs_by_index : (R : ℕ → ℕ → Type 0) (xs ys : List ℕ) → length xs ≡ length ys → ((i : ℕ) → i < length xs → R (get_or xs i 0) (get_or ys i 0)) → Each2 R xs ys
pairs_by_index R [] ys e h = tt
pairs_by_index R (x ∷ xs) [] e h = tt
pairs_by_index R (x ∷ xs) (y ∷ ys) e h = (h 0 (omega arith), pairs_by_index R xs ys (omega arith) (λ i l. h (suc i) (omega arith)))

-- ---- the quotient of `c x` by `p`, by a product with 2^16 c / p

-- it is at most 1 too small
estimate : (p c x q m u v : ℕ) → p * m + v ≡ 65536 * c → v < p → 65536 * q + u ≡ x * m → u < 65536 → x < 65536 → (q * p ≤ c * x) × (c * x < q * p + 2 * p)
estimate p c x q m u v e lv h lu lx =
    let a : x * (p * m + v) ≡ x * (65536 * c) = ap (λ n. x * n) e in
    let b : (65536 * q + u) * p ≡ x * m * p = ap (λ n. n * p) h in
    let k : u * p ≤ 65535 * p = mul-le u p 65535 p (omega arith) (omega arith) in
    let d : x * v ≤ 65535 * p = mul-le x v 65535 p (omega arith) (omega arith) in
    let whole : 65536 * (c * x) ≡ 65536 * (q * p) + (u * p + x * v) = omega (arith, a, b) in
    (omega arith, omega arith)

pub estimated : (p c x : ℕ) → 0 < p → x < 65536 → (x * (65536 * c / p) / 65536 * p ≤ c * x) × (c * x < x * (65536 * c / p) / 65536 * p + 2 * p)
estimated p c x pos lx =
    estimate p c x (x * (65536 * c / p) / 65536) (65536 * c / p) (x * (65536 * c / p) % 65536) (65536 * c % p)
    (div-add-mod (65536 * c) p) (mod_below (65536 * c) p pos) (div-add-mod (x * (65536 * c / p)) 65536) (mod_below (x * (65536 * c / p)) 65536 (omega arith)) lx

-- the same with c = 1
pub estimated_once : (p x : ℕ) → 0 < p → x < 65536 → (x * (65536 / p) / 65536 * p ≤ x) × (x < x * (65536 / p) / 65536 * p + 2 * p)
estimated_once p x pos lx =
    let both = estimated p 1 x pos lx in
    (omega (arith, both.0), omega (arith, both.1))

-- the factor is below 2^16
pub factor_fits : (p c : ℕ) → c < p → 65536 * c / p < 65536
factor_fits p c l = let e = div-add-mod (65536 * c) p in
    elim (cases_lt (65536 * c / p) 65536) [
      | inl h ↦ h
      | inr h ↦ let k : p * 65536 ≤ p * (65536 * c / p) = mul-le p 65536 p (65536 * c / p) (omega arith) h in absurd (omega (arith, e, k))
    ]

pub inverse_fits : (p : ℕ) → 1 < p → 65536 / p < 65536
inverse_fits p l = omega (arith, factor_fits p 1 l)

-- a residue and a product of residues fit 16 bits
pub sum_fits : (p d c s : ℕ) → p ≤ 256 → d < p → c < p → s < p → d + c * s < 65536
sum_fits p d c s small ld lc ls = let h : c * s ≤ 255 * 255 = mul-le c s 255 255 (omega arith) (omega arith) in omega arith

-- ---- what is below 2 p, less p where it is not below p

pub once : (p r : ℕ) → 0 < p → p ≤ 32768 → r < 2 * p → cond (ltb r ((r + 65536 - p) % 65536)) r ((r + 65536 - p) % 65536) ≡ r % p
once p r pos small l =
    elim (cases_lt r p) [
      | inl below ↦
          let e : (r + 65536 - p) % 65536 ≡ r + 65536 - p = mod-eq_of_lt (omega arith) in
          rw (e, lt-ltb r (r + 65536 - p) (omega arith)) (sym (mod-eq_of_lt below))
      | inr above ↦
          let s : r + 65536 - p ≡ (r - p) + 65536 = omega arith in
          let small' : r - p < 65536 = omega arith in
          let below' : r - p < p = omega arith in
          let e : (r + 65536 - p) % 65536 ≡ r - p = ap (λ n. n % 65536) s ∙ add-mod_right (r - p) 65536 ∙ mod-eq_of_lt small' in
          rw (e, le-ltb r (r - p) (omega arith)) (sym (mod-eq-sub-mod above ∙ mod-eq_of_lt below'))
    ]

pub zero_plus : (p n : ℕ) → (0 + n) % p ≡ n % p
zero_plus p n = ap (λ x. x % p) (omega arith)

-- a number less a multiple of p
pub less_multiple : (p x k : ℕ) → k * p ≤ x → (x - k * p) % p ≡ x % p
less_multiple p x k l =
    let back : (x - k * p) + k * p ≡ x = omega arith in
    sym (add-mul-mod_self_right (x - k * p) k p) ∙ ap (λ n. n % p) back

-- ---- sums that wrap

unwrapped_by : (d cs qp a b e t u v : ℕ) → u + 65536 * a ≡ cs → v + 65536 * b ≡ qp → t + 65536 * e ≡ d + u → v < 65536 → qp ≤ cs → d + (cs - qp) < 65536
    → (t + 65536 - v) % 65536 ≡ d + (cs - qp)
unwrapped_by d cs qp a b e t u v ea eb ee lv l fits =
    let whole : (t + 65536 - v) + (e + a) * 65536 ≡ (d + (cs - qp)) + (1 + b) * 65536 = omega (arith, ea, eb, ee) in
    sym (add-mul-mod_self_right (t + 65536 - v) (e + a) 65536)
    ∙ ap (λ n. n % 65536) whole
    ∙ add-mul-mod_self_right (d + (cs - qp)) (1 + b) 65536
    ∙ mod-eq_of_lt fits

-- a sum and a difference by operations that wrap, where the result fits
pub unwrapped : (d cs qp : ℕ) → qp ≤ cs → d + (cs - qp) < 65536 → ((d + cs % 65536) % 65536 + 65536 - qp % 65536) % 65536 ≡ d + (cs - qp)
unwrapped d cs qp l fits =
    unwrapped_by d cs qp (cs / 65536) (qp / 65536) ((d + cs % 65536) / 65536) ((d + cs % 65536) % 65536) (cs % 65536) (qp % 65536)
    (omega (arith, div-add-mod cs 65536)) (omega (arith, div-add-mod qp 65536)) (omega (arith, div-add-mod (d + cs % 65536) 65536))
    (mod_below qp 65536 (omega arith)) l fits

-- a lane that had a multiple of p taken off is the same modulo p
pub same_less : (p d cs q : ℕ) → q * p ≤ cs → IsSameMod p (d + (cs - q * p)) (d + cs)
same_less p d cs q l =
    let back : (d + (cs - q * p)) + q * p ≡ d + cs = omega arith in
    record { same = sym (add-mul-mod_self_right (d + (cs - q * p)) q p) ∙ ap (λ n. n % p) back }

-- ---- a place within a load, and within a store

pub load_at : (at i : ℕ) (xs : List ℕ) → at ≤ i → i < at + 32 → get_or (chunk at 32 xs) (i - at) 0 ≡ get_or xs i 0
load_at at i xs h l = get_or-chunk at 32 xs (i - at) 0 (omega arith) ∙ ap (λ n. get_or xs n 0) (omega arith)

pub store_at : (at i : ℕ) (xs ys : List ℕ) → length ys ≡ 32 → at + 32 ≤ length xs → at ≤ i → i < at + 32 → get_or (put_chunk at xs ys) i 0 ≡ get_or ys (i - at) 0
store_at at i xs ys e room h l =
    let place : i ≡ at + (i - at) = omega arith in
    ap (λ n. get_or (put_chunk at xs ys) n 0) place ∙ get_or-put_chunk_at at xs ys (i - at) 0 (omega arith) (omega arith)
