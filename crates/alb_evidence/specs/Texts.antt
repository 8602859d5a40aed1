-- How evidence prints.
use Rattle.std.specs.Prelude.{ℕ, ◌+◌, List, [], ◌∷◌, ◌++◌, false, slice_index, Option, None, Some, if◌then◌else◌, codes}
use Rattle.std.specs.List.{flat_map}
use Rattle.std.specs.Fmt.{decimal}
use Rattle.alb_mono.specs.Tree.{Tree}
use Rattle.alb_mono.specs.declared.side.Side.{Side}
use Rattle.alb_mono.specs.declared.side.Side.TheVariants.{Left, Right}
use Rattle.alb_print.specs.Text.{named, mono_text, type_text, is_negative, absolute}
use Rattle.alb_deriv.specs.Derivation.{Line, Instance, Times, Sum}
use Rattle.alb_check.specs.Raw.{Raw}
use Rattle.alb_check.specs.declared.raw.RawEntry.{RawEntry}

-- the texts of the members of a list, which are counted on from `k`
unfoldable pub counted : {A : Type 0} → (ℕ → A → List ℕ) → ℕ → List A → List ℕ
counted text k [] = []
counted text k (x ∷ xs) = text k x ++ counted text (k + 1) xs

-- a signed residue; 1 is written too
abbrev pub signed_text : ℕ → ℕ → List ℕ
signed_text p c = (if is_negative p c then codes "-" else []) ++ decimal (absolute p c)

-- ---- derivations

abbrev pub spaced_mono : List ℕ → Tree → List ℕ
spaced_mono letters m = codes " " ++ mono_text letters false m

abbrev pub side_text : Side → List ℕ
side_text Left = codes " left "
side_text Right = codes " right "

abbrev pub item_text : ℕ → ℕ × ℕ → List ℕ
item_text p c = codes " " ++ (signed_text p c.0 ++ named (codes "*") c.1)

-- what a line is, and its parts
abbrev pub kind_text : ℕ → List ℕ → Line → List ℕ
kind_text p letters (Instance i ms) = named (codes " instance ") i ++ flat_map (spaced_mono letters) ms
kind_text p letters (Times k m) = named (codes " times ") k ++ (side_text m.0 ++ mono_text letters false m.1)
kind_text p letters (Sum cs) = codes " sum" ++ flat_map (item_text p) cs

abbrev pub line_text : ℕ → List ℕ → ℕ → Line → List ℕ
line_text p letters k l = decimal k ++ (kind_text p letters l ++ codes "\n")

-- a derivation, from `derivation` to `end`
abbrev pub lines_text : ℕ → List ℕ → List Line → List ℕ
lines_text p letters ls = codes "derivation\n" ++ (counted (line_text p letters) 1 ls ++ codes "end\n")

-- ---- tables

abbrev pub typed : List ℕ → List ℕ
typed t = codes " " ++ (type_text t ++ codes "\n")

abbrev pub element_text : ℕ → List ℕ → List ℕ
element_text k t = named (codes "element ") k ++ typed t

-- the line of generator `k`, where it has an element
abbrev pub generator_text : List ℕ → ℕ → Option ℕ → List ℕ
generator_text letters k None = []
generator_text letters k (Some e) = codes "generator " ++ (slice_index letters k ∷ (named (codes " ") e ++ codes "\n"))

abbrev pub entry_text : ℕ → RawEntry → List ℕ
entry_text p e = named (codes "entry ") e.left ++ (named (codes " ") e.right ++ (named (codes " ") e.to ++ (codes " " ++ (signed_text p e.coef ++ codes "\n"))))

-- a table, from `table` to `end`
abbrev pub table_text : ℕ → List ℕ → Raw → List ℕ
table_text p letters t =
    codes "table" ++ (typed t.top ++ (counted element_text 1 t.elements ++ (counted (generator_text letters) 0 t.generators
    ++ (flat_map (entry_text p) t.entries ++ codes "end\n"))))
