-- The views of what is stored.
use Rattle.std.specs.Prelude.{◌≡◌, ℕ, suc, ◌^◌, ◌<◌, List, [], ◌∷◌, ◌++◌, map, length, replicate, Option, Some, None, if◌then◌else◌}
use Rattle.std.specs.List.{flat_map}
use Rattle.std.specs.Arc.{arc_value}
use Rattle.std.specs.declared.sync.Arc.{Arc}
use Rattle.std.specs.declared.alloc.Global.{Global}
use Rattle.alb_mono.specs.Listing.{Each}
use Rattle.alb_mono.specs.Tree.{splits}
use Rattle.alb_poly.specs.Poly.{list_eq}
use Rattle.alb_table.specs.declared.stored.Stored.{Stored}
use Rattle.alb_table.specs.declared.store.Store.{Store}
use Rattle.alb_table.specs.Table.{PartView, part_view, elems, products, Table, IsTable}
use Rattle.alb_table.specs.Grid.{cells_of, OffsetsFrom, Rises}
use Rattle.alb_table.specs.Stored.{grids_from}

abbrev pub view_of : Arc Stored Global → PartView
view_of a = part_view (arc_value a).part

-- the parts of a store
abbrev pub views : Store → List PartView
views s = map view_of s.parts.items

-- for each basis element the number of its part, counted from k
abbrev pub numbers_from : ℕ → List PartView → List ℕ
numbers_from k [] = []
numbers_from k (q ∷ qs) = replicate (length q.basis) k ++ numbers_from (suc k) qs

-- the number of the part of a type, counted from k
abbrev pub part_number : ℕ → List PartView → List ℕ → Option ℕ
part_number k [] t = None
part_number k (q ∷ qs) t = if list_eq q.at t then Some k else part_number (suc k) qs t

-- there is an entry for each product, their number has 32 bits, and the rectangles of the products ascend
pub record IsFull (parts : List PartView) (q : PartView) : Type 0 where
  pub full : length q.entries ≡ length (products parts q.at)
  pub fits : length q.entries < 2 ^ 32
  pub rises : Rises 0 (grids_from parts 0 (splits q.at))

-- a stored part has the rectangles of the products of its type, and an entry for each product
pub record IsStored (parts : List PartView) (s : Stored) : Type 0 where
  pub cells : flat_map cells_of s.grids.items ≡ products parts s.part.at
  pub offsets : OffsetsFrom 0 s.grids.items
  pub rises : Rises 0 s.grids.items
  pub full : length s.part.entries.items ≡ length (products parts s.part.at)

abbrev pub AreStored : List PartView → List (Arc Stored Global) → Type 0
AreStored parts arcs = Each (λ (a : Arc Stored Global). IsStored parts (arc_value a)) arcs

-- the parts are stored right, and beside them stand the number of its part and the element for each basis number
pub record IsStore (s : Store) : Type 0 where
  pub numbers : s.part_of.items ≡ numbers_from 0 (views s)
  pub elements : s.elems.items ≡ elems (views s)
  pub stored : AreStored (views s) s.parts.items

-- what one more stored part changes
pub record PushesPart (parts : List PartView) (old new : Store) (q : PartView) : Type 0 where
  pub parts_are : views new ≡ views old ++ q ∷ []
  pub numbers : new.part_of.items ≡ old.part_of.items ++ replicate (length q.basis) (length old.parts.items)
  pub elements : new.elems.items ≡ old.elems.items ++ q.basis
  pub stored : AreStored parts old.parts.items → AreStored parts new.parts.items

-- the store has the parts of the old one and new ones, whose products are those over the old parts
pub record GrowsStore (old : Store) (more : List PartView) (new : Store) : Type 0 where
  pub parts_are : views new ≡ views old ++ more
  pub numbers : new.part_of.items ≡ numbers_from 0 (views new)
  pub elements : new.elems.items ≡ elems (views new)
  pub stored : AreStored (views old) new.parts.items

-- what the model of a table keeps: its store is right, and it is a table
pub record IsKeptTable (t : Table) (s : Store) : Type 0 where
  pub store : IsStore s
  pub table : IsTable t
