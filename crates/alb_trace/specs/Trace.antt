-- What contracts see of a trace: the lines so far, and what is derived already.
use Rattle.std.specs.Prelude.{◌≡◌, ℕ, ◌<◌, ◌&&◌, ◌==◌, Bool, nat_eq, List, ◌++◌, Some, All, length, map}
use Rattle.std.specs.Cmp.Lexicographic.{pointwise}
use Rattle.indexmap.specs.IndexMap.{get}
use Rattle.alb_mono.specs.Listing.{Each}
use Rattle.alb_mono.specs.Tree.{tree, Tree, leaf, node, same_tree}
use Rattle.alb_poly.specs.Textbook.{unit}
use Rattle.alb_poly.specs.Poly.{Poly}
use Rattle.alb_poly.specs.Instance.{Form}
use Rattle.alb_deriv.specs.Derivation.{Line}
use Rattle.alb_deriv.specs.Short.{AreFine, IsSumOf}
use Rattle.alb_deriv.specs.Views.{line, IsLine}
use Rattle.alb_table.specs.Table.{same_pair, mono_at, Table, IsTable}
use Rattle.alb_table.specs.Block.{image}
use Rattle.alb_table.specs.Right.{difference, mono_value}
use Rattle.alb_table.specs.RightTable.{mono_entry}
use Rattle.alb_trace.specs.Adds.{item_of, IsLonger, Adds}
use Rattle.alb_keys.specs.declared.owned.MonoKey.{MonoKey}
use Rattle.alb_trace.specs.Origins.{IsOriginBlock, origin_row}
use Rattle.alb_trace.specs.declared.row_key.RowKey.{RowKey}
use Rattle.alb_trace.specs.declared.trace.Citation.{Citation}
use Rattle.alb_trace.specs.declared.trace.Trace.{Trace}

-- a sum has at most this many items
abbrev pub most_items : ℕ
most_items = 64

-- the lines as the definition of a derivation sees them
abbrev pub lines_of : Trace → List Line
lines_of s = map line s.lines.items

-- the product of two basis elements, less its entry
unfoldable pub product_less : Table → ℕ × ℕ → Poly
product_less t q =
    difference t.p (unit (node (mono_at t.parts q.0) (mono_at t.parts q.1))) (mono_entry t.parts (mono_at t.parts q.0) (mono_at t.parts q.1))

-- a monomial, less its value
unfoldable pub mono_less : Table → Tree → Poly
mono_less t m = difference t.p (unit m) (mono_value (mono_entry t.parts) m)

-- a product, less the products of the parts of its factors
unfoldable pub image_less : Table → Tree → Poly
image_less t m = difference t.p (unit m) (image node (mono_entry t.parts) (λ k. unit (leaf k)) m)

-- the products of the parts of the factors, less their entries
unfoldable pub entries_less : Table → Tree → Poly
entries_less t m = difference t.p (image node (mono_entry t.parts) (λ k. unit (leaf k)) m) (mono_value (mono_entry t.parts) m)

-- whether two monomials, or two kept instances, are one
abbrev pub same_mono : MonoKey → MonoKey → Bool
same_mono x y = same_tree (tree x.mono) (tree y.mono)

abbrev pub same_row : RowKey → RowKey → Bool
same_row x y = pointwise nat_eq x.at y.at && x.number == y.number

-- WHAT A TRACE KEEPS: its lines have no fault and can be printed, each product and monomial that it knows is cited as it was
-- derived, less its entry or value, each row of a kept instance likewise, and its blocks are those of kept instances
pub record IsTrace (fs : List Form) (t : Table) (s : Trace) : Type 0 where
  pub table : IsTable t
  pub fine : AreFine t.p most_items t.target fs (lines_of s)
  pub printable : All (λ l. IsLine t.p (length t.target) l) s.lines.items
  pub products : (q : ℕ × ℕ) (o : Citation) → get same_pair s.products q ≡ Some o → IsSumOf t.p fs (lines_of s) (item_of o) (product_less t q)
  pub monomials : (k : MonoKey) (o : Citation) → get same_mono s.monomials k ≡ Some o → IsSumOf t.p fs (lines_of s) (item_of o) (mono_less t (tree k.mono))
  pub rows : (k : RowKey) (o : Citation) → get same_row s.rows k ≡ Some o → IsSumOf t.p fs (lines_of s) (item_of o) (origin_row fs t k.at k.number)
  pub blocks : Each (λ b. IsOriginBlock fs t b.at b.columns b.reduced) s.blocks.items

-- the polynomial `f` has been derived, and is cited by `o`
pub record Derives (fs : List Form) (t : Table) (old new : Trace) (o : Citation) (f : Poly) : Type 0 where
  pub trace : IsTrace fs t new
  pub adds : Adds t.p most_items t.target fs (lines_of old) (lines_of new) o f

-- with further lines the items `part` and `rest` are a sum for the polynomial `f`
pub record Carries (fs : List Form) (t : Table) (old new : Trace) (part rest : List (ℕ × ℕ)) (f : Poly) : Type 0 where
  pub trace : IsTrace fs t new
  pub longer : IsLonger (lines_of old) (lines_of new)
  pub residues : All (λ c. c.0 < t.p) part
  pub sum : IsSumOf t.p fs (lines_of new) (part ++ rest) f

-- the items of a sum have become others, with further lines, so that the polynomial `f` has been added to the sum
pub record PushesItems (fs : List Form) (t : Table) (old new : Trace) (before after : List (ℕ × ℕ)) (f : Poly) : Type 0 where
  pub trace : IsTrace fs t new
  pub longer : IsLonger (lines_of old) (lines_of new)
  pub residues : All (λ c. c.0 < t.p) before → All (λ c. c.0 < t.p) after
  pub sum : (g : Poly) → IsSumOf t.p fs (lines_of old) before g → IsSumOf t.p fs (lines_of new) after (g ++ f)
