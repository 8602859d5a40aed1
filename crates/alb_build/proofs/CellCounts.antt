-- How many coefficients parts have at most.
use Rattle.std.proofs.Common.{◌≡◌, ℕ, suc, ◌+◌, ◌*◌, ◌<◌, ◌≤◌, List, [], ◌∷◌, ◌++◌, length, arith}
use Rattle.std.specs.List.{All, AllPairs}
use Rattle.gf_sums.specs.Sums.{total}
use Rattle.gf_sums.proofs.Totals.{total-append}
use Rattle.alb_mono.specs.Listing.{Each}
use Rattle.alb_rows.specs.Row.{Cells, ColumnsBelow}
use Rattle.alb_table.specs.Table.{PartView, first_of, dim_of, elems, IsPartOf, IsRowAmong, count_products, count_coefficients}
use Rattle.alb_table.proofs.RangeLemmas.{range_within}

-- ascending columns from `low` on to below `high` are at most as many
ascending-long : (low high : ℕ) (cells : Cells) → low ≤ high → AllPairs (λ a b. a.0 < b.0) cells → All (λ c. low ≤ c.0) cells → ColumnsBelow high cells → length cells + low ≤ high
ascending-long low high [] l p a b = omega arith
ascending-long low high (c ∷ cs) l p a b =
    let x : low ≤ c.0 = a 0 c (omega arith) in
    let y : c.0 < high = b 0 c (omega arith) in
    let r : length cs + suc c.0 ≤ high =
    ascending-long (suc c.0) high cs (omega arith) (λ i j d m n. p (suc i) (suc j) d (omega arith) (omega arith)) (λ k d m. p 0 (suc k) d (omega arith) (omega arith))
    (λ k d m. b (suc k) d (omega arith)) in
    omega arith

row-long : (p first count : ℕ) (cells : Cells) → IsRowAmong p first count cells → length cells ≤ count
row-long p first count cells h =
    let r = ascending-long first (first + count) cells (omega arith) h.row.row.ascending h.low h.high in omega arith

rows-long : (p first count n : ℕ) (rows : List Cells) → count ≤ n → Each (IsRowAmong p first count) rows → total (λ cells. length cells) rows ≤ n * length rows
rows-long p first count n [] l a = omega arith
rows-long p first count n (r ∷ rows) l a =
    let x : length r ≤ count = row-long p first count r a.0 in
    let y = rows-long p first count n rows l a.1 in
    let z : n * suc (length rows) ≡ n + n * length rows = grind arith in
    omega arith

pub coefficients-most : (p n : ℕ) (before parts qs : List PartView) → length (elems parts) ≤ n → Each (IsPartOf p before parts) qs → count_coefficients qs ≤ n * count_products qs
coefficients-most p n before parts [] l a = omega arith
coefficients-most p n before parts (q ∷ qs) l a =
    let w : first_of parts q.at + dim_of parts q.at ≤ length (elems parts) = range_within parts q.at in
    let x : total (λ cells. length cells) q.entries ≤ n * length q.entries = rows-long p (first_of parts q.at) (dim_of parts q.at) n q.entries (omega arith) a.0.rows in
    let y = coefficients-most p n before parts qs l a.1 in
    let z : n * (length q.entries + count_products qs) ≡ n * length q.entries + n * count_products qs = grind arith in
    omega arith

pub coefficients-append : (parts new : List PartView) → count_coefficients (parts ++ new) ≡ count_coefficients parts + count_coefficients new
coefficients-append parts new = total-append (λ (q : PartView). total (λ cells. length cells) q.entries) parts new
