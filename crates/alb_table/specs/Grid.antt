-- Products in rectangles.
use Rattle.std.specs.Prelude.{◌≡◌, ℕ, ◌+◌, ◌-◌, ◌*◌, ◌≤◌, ◌<◌, ◌==◌, nat_le, nat_lt, Bool, ◌&&◌, if◌then◌else◌, List, [], ◌∷◌, map, Option, Some, None}
use Rattle.std.specs.List.{flat_map}
use Rattle.alb_mono.specs.Listing.{Each}
use Rattle.alb_mono.specs.Tree.{rising}
use Rattle.alb_table.specs.declared.grid.Grid.{Grid}
use Rattle.alb_table.specs.Table.{rectangle}

abbrev pub cells_of : Grid → List (ℕ × ℕ)
cells_of g = rectangle g.left g.lefts g.right g.rights

-- both numbers are below n
abbrev pub ArePairsBelow : ℕ → List (ℕ × ℕ) → Type 0
ArePairsBelow n ks = Each (λ k. (k.0 < n) × (k.1 < n)) ks

-- ---- how a product is found. What is stored keeps the first two; the others stand in contracts of private functions alone.

-- each rectangle begins where those before it end
abbrev pub OffsetsFrom : ℕ → List Grid → Type 0
OffsetsFrom n [] = Unit {0}
OffsetsFrom n (g ∷ gs) = (g.offset ≡ n) × OffsetsFrom (n + g.lefts * g.rights) gs

-- the left numbers of each rectangle stand after those of the rectangles before it, which end at n
abbrev pub Rises : ℕ → List Grid → Type 0
Rises n [] = Unit {0}
Rises n (g ∷ gs) = (n ≤ g.left) × Rises (g.left + g.lefts) gs

-- the pair stands in the rectangle
abbrev pub covers : Grid → ℕ → ℕ → Bool
covers g b c = (nat_le g.left b && nat_lt b (g.left + g.lefts)) && (nat_le g.right c && nat_lt c (g.right + g.rights))

-- the first rectangle with the pair
abbrev pub first_cover : ℕ → ℕ → List Grid → Option Grid
first_cover b c [] = None
first_cover b c (g ∷ gs) = if covers g b c then Some g else first_cover b c gs

-- the place of the pair in the rectangle, counted from the first product of the type
abbrev pub place_in : Grid → ℕ → ℕ → ℕ
place_in g b c = g.offset + (b - g.left) * g.rights + (c - g.right)
