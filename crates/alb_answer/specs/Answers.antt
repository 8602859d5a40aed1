-- How answers print.
use Rattle.std.specs.Prelude.{ℕ, ◌<◌, All, List, [], ◌++◌, false, length, map, reverse, codes}
use Rattle.std.specs.List.{flat_map}
use Rattle.gf_sums.specs.Sums.{reindex}
use Rattle.alb_mono.specs.Tree.{node, rising}
use Rattle.alb_poly.specs.Poly.{Poly}
use Rattle.alb_print.specs.Text.{named, mono_text, poly_text, type_text}
use Rattle.alb_rows.specs.Row.{Cells, comb, ColumnsBelow}
use Rattle.alb_table.specs.Table.{PartView, mono_at, products, table_product, Table, count_products}
use Rattle.alb_table.specs.End.{End, Complete, TooWide, TooManyProducts, TooManyCoefficients, NoMemory}
use Rattle.alb_query.specs.Answer.{Answer, Zero, NotZero, NotBuilt, OutOfType}

-- the degree of the table that an answer rests on, in square brackets
abbrev pub degree_text : ℕ → List ℕ
degree_text d = named (codes "[") d ++ codes "] "

-- ---- the answer to a question about a polynomial

-- zero, the normal form, the degree that is not built, or the monomial that is not within the target
abbrev pub reply_text : ℕ → List ℕ → Answer → List ℕ
reply_text p letters Zero = codes "zero"
reply_text p letters (NotZero f) = codes "not zero: " ++ poly_text p letters f
reply_text p letters (NotBuilt n) = named (codes "not built: degree ") n
reply_text p letters (OutOfType m) = codes "out of type: " ++ mono_text letters false m

abbrev pub answer_line : ℕ → List ℕ → ℕ → Answer → List ℕ
answer_line p letters d a = degree_text d ++ (reply_text p letters a ++ codes "\n")

-- ---- tables

-- a degree, a word and a number
abbrev pub heading : ℕ → List ℕ → ℕ → List ℕ
heading d word n = degree_text d ++ (named word n ++ codes "\n")

-- a type and its dimension
abbrev pub dimension_line : PartView → List ℕ
dimension_line q = type_text q.at ++ (named (codes " ") (length q.basis) ++ codes "\n")

-- the number of types, and each type with its dimension
abbrev pub dimension_lines : Table → List ℕ
dimension_lines t = heading t.degree (codes "dimensions ") (length t.parts) ++ flat_map dimension_line t.parts

-- a row over basis elements as a polynomial, in descending order of its monomials
abbrev pub cells_poly : List PartView → Cells → Poly
cells_poly parts cells = reverse (reindex (mono_at parts) (comb cells))

-- the entry of a product as a polynomial
abbrev pub entry_poly : List PartView → ℕ × ℕ → Poly
entry_poly parts k = reverse (reindex (mono_at parts) (table_product parts k.0 k.1))

-- a row over n basis elements with residues
abbrev pub AreCells : ℕ → ℕ → Cells → Type 0
AreCells p n cells = ColumnsBelow n cells × All (λ cell. cell.1 < p) cells

-- the products of one left factor with the n right factors from c on
abbrev pub row_pairs : ℕ → ℕ → ℕ → List (ℕ × ℕ)
row_pairs b c n = map (λ j. (b, j)) (rising c n)

-- a product of two basis elements and its entry
abbrev pub product_line : ℕ → List ℕ → List PartView → ℕ × ℕ → List ℕ
product_line p letters parts k =
    mono_text letters false (node (mono_at parts k.0) (mono_at parts k.1)) ++ (codes " = " ++ (poly_text p letters (entry_poly parts k) ++ codes "\n"))

-- the products of a type
abbrev pub part_lines : ℕ → List ℕ → List PartView → PartView → List ℕ
part_lines p letters parts q = flat_map (product_line p letters parts) (products parts q.at)

-- the number of products, and each product with its entry
abbrev pub product_lines : List ℕ → Table → List ℕ
product_lines letters t = heading t.degree (codes "table ") (count_products t.parts) ++ flat_map (part_lines t.p letters t.parts) t.parts

-- ---- the end of a building

-- nothing where the table is complete, else what stopped the building
abbrev pub end_text : End → List ℕ
end_text Complete = []
end_text (TooWide w n) = named (codes ", stopped: ") n ++ (codes " products of type " ++ type_text w)
end_text (TooManyProducts n) = named (codes ", stopped: ") n ++ codes " products in all"
end_text (TooManyCoefficients n) = named (codes ", stopped: ") n ++ codes " coefficients in all"
end_text NoMemory = codes ", stopped: no memory"

-- the degree of the table and the end of its building
abbrev pub built_line : ℕ → End → List ℕ
built_line d e = named (codes "built ") d ++ (end_text e ++ codes "\n")
