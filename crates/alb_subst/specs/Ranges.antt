-- How tuples are enumerated: by ranges of numbers, one for each type. Contracts of private functions alone speak of it, and what an
-- `Instances` keeps.
use Rattle.std.specs.Prelude.{◌≡◌, ℕ, zero, suc, ◌+◌, ◌-◌, ◌<◌, ◌≤◌, ◌==◌, nat_le, nat_lt, Bool, true, ◌&&◌, ◌^◌, if◌then◌else◌, List, [], ◌∷◌, ◌++◌, map, sum, length}
use Rattle.std.specs.List.{flat_map, filter}
use Rattle.alb_mono.specs.Tree.{type_le, rising, type_minus}
use Rattle.alb_mono.specs.Listing.{Each, IsIn}
use Rattle.alb_poly.specs.Poly.{list_eq}
use Rattle.alb_table.specs.Table.{PartView, first_of, dim_of, types_to}
use Rattle.alb_subst.specs.declared.range.Range.{Range}
use Rattle.alb_subst.specs.Tuples.{rises_within}

-- each of c numbers from f on before each of the lists
abbrev pub begins : ℕ → ℕ → List (List ℕ) → List (List ℕ)
begins f c ts = flat_map (λ b. map (λ bs. b ∷ bs) ts) (rising f c)

-- THE TUPLES of n numbers whose types add up to r, in lexicographic order
abbrev pub tuples : List Range → ℕ → List ℕ → List (List ℕ)
tuples rs zero r = if sum r == 0 then [] ∷ [] else []
tuples rs (suc n) r = flat_map (λ q. if type_le q.at r then begins q.first q.count (tuples rs n (type_minus r q.at)) else []) rs

-- those that begin with a number of one range
abbrev pub piece : List Range → ℕ → List ℕ → Range → List (List ℕ)
piece rs n r q = if type_le q.at r then begins q.first q.count (tuples rs n (type_minus r q.at)) else []

-- the tuples that begin with a number of a range after b, whose rest adds up to r
abbrev pub later : List Range → ℕ → List ℕ → Range → ℕ → List (List ℕ)
later rs n r q b = begins (b + 1) (q.first + q.count - (b + 1)) (tuples rs n r)

-- the list begins with x
pub record Heads (ts : List (List ℕ)) (x : List ℕ) : Type 0 where
  pub rest : List (List ℕ)
  pub is : ts ≡ x ∷ rest

-- what follows the first x of a list
abbrev pub after : List ℕ → List (List ℕ) → List (List ℕ)
after x [] = []
after x (y ∷ ys) = if list_eq y x then ys else after x ys

-- the ranges do not overlap, and rise
abbrev pub RisesFrom : ℕ → List Range → Type 0
RisesFrom n [] = Unit {0}
RisesFrom n (q ∷ rs) = (n ≤ q.first) × RisesFrom (q.first + q.count) rs

-- the types of the numbers add up to `r`
abbrev pub AddsUp : List Range → List ℕ → List ℕ → Type 0
AddsUp rs [] r = sum r ≡ 0
AddsUp rs (b ∷ bs) r =
    (q : Range) × IsIn q rs × (q.first ≤ b) × (b < q.first + q.count) × (type_le q.at r ≡ true) × AddsUp rs bs (type_minus r q.at)

-- y comes right after x in the list, and: x is the last of the list
pub record Next (ts : List (List ℕ)) (x y : List ℕ) : Type 0 where
  pub front : List (List ℕ)
  pub back : List (List ℕ)
  pub is : ts ≡ front ++ x ∷ y ∷ back

pub record Last (ts : List (List ℕ)) (x : List ℕ) : Type 0 where
  pub front : List (List ℕ)
  pub is : ts ≡ front ++ x ∷ []

-- the place of the range of a number
abbrev pub in_range : Range → ℕ → Bool
in_range q b = nat_le q.first b && nat_lt b (q.first + q.count)

abbrev pub range_at : List Range → ℕ → ℕ
range_at [] b = 0
range_at (q ∷ rs) b = if in_range q b then 0 else suc (range_at rs b)

-- the numbers of a type
abbrev pub range_of : List PartView → List ℕ → Range
range_of parts t = record { at = t; first = first_of parts t; count = dim_of parts t }

-- the ranges of the types within `t` up to a degree
abbrev pub ranges : List PartView → List ℕ → ℕ → List Range
ranges parts t d = map (range_of parts) (types_to t d)

-- what an enumeration keeps: the ranges, the type, and the tuple that comes next, if there is one
pub record IsGoing (rs : List Range) (t current : List ℕ) (more : Bool) : Type 0 where
  pub rises : RisesFrom 0 rs
  pub long : Each (λ (s : Range). length s.at ≡ length t) rs
  pub fit : Each (λ (s : Range). s.first + s.count < 2 ^ 32) rs
  pub few : length current ≤ 8
  pub tuple : more ≡ true → IsIn current (tuples rs (length current) t)

-- the tuples that come
abbrev pub to_come : List Range → List ℕ → List ℕ → Bool → List (List ℕ)
to_come rs t current more = if more then current ∷ after current (tuples rs (length current) t) else []

-- those of them whose numbers never fall within a run
abbrev pub least_to_come : List Range → List ℕ → List ℕ → List ℕ → Bool → List (List ℕ)
least_to_come rs t runs current more = filter (rises_within runs 0) (to_come rs t current more)
