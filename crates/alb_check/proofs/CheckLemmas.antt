-- What the judge of tables answers.
use Rattle.std.proofs.Common.{◌≡◌, ℕ, zero, suc, ◌<◌, true, List, [], ◌∷◌, length, map, get_or, sum, nat_lt, sym, refl, ap, ◌∙◌, subst, arith}
use Rattle.std.specs.Prelude.{Option, None, Some}
use Rattle.std.specs.List.{All, list_all}
use Rattle.std.proofs.lemmas.Bool.Decides.{nat_tests}
use Rattle.std.proofs.lemmas.List.{get_or-map, length-map}
use Rattle.gf_field.proofs.Table.{IsPrime-from_table}
use Rattle.alb_mono.proofs.Both.{and_left, and_right}
use Rattle.alb_mono.specs.Listing.{Each}
use Rattle.alb_mono.specs.Tree.{type_le}
use Rattle.alb_poly.specs.Poly.{Poly}
use Rattle.alb_poly.specs.Instance.{Form, IsMultilinearForm}
use Rattle.alb_poly.specs.Consequence.{form, form_at, IsConsequence}
use Rattle.alb_poly.specs.declared.rules.Linear.{Linear}
use Rattle.alb_poly.proofs.Multilinear.{each-from}
use Rattle.alb_linear.specs.Identity.{IsLinearized}
use Rattle.alb_linear.proofs.LinearLemmas.{all_from_each}
use Rattle.alb_problem.specs.Satisfied.{AreSameVectors}
use Rattle.alb_rows.specs.Row.{Cells, AreCellResidues}
use Rattle.alb_check.specs.declared.raw.RawEntry.{RawEntry}
use Rattle.alb_check.specs.Raw.{Raw, IsRaw, is_element, is_generator_right, are_generators_right, is_entry_right, shape_fault}
use Rattle.alb_check.specs.TableAlgebra.{value, at_element, IsNilpotent, AreZeroAtTuples}
use Rattle.alb_check.specs.Products.{vectors, GivesGenerators}
use Rattle.alb_check.specs.Verdict.{AreCheckRules, SatisfiesIdentities, RefutesText}
use Rattle.alb_check.proofs.VectorLemmas.{alike_vector}
use Rattle.alb_check.proofs.TableLemmas.{IsShaped, shaped, nilpotent, le_sum, element_from}
use Rattle.alb_check.proofs.RefuteLemmas.{all_satisfied, value_zero, text_zero}

-- ---- the forms by their places

pub form_item : (ls : List Linear) (k : ℕ) (l : Linear) → k < length ls → l ≡ get_or ls k l → form_at (map form ls) k ≡ form l
form_item ls k l h e = get_or-map form ls k l _ h ∙ ap form (sym e)

each_at_place : (P : Form → Type 0) (fs : List Form) (k : ℕ) → Each P fs → k < length fs → P (form_at fs k)
each_at_place P [] k h l = absurd (omega arith)
each_at_place P (f ∷ fs) zero h l = h.0
each_at_place P (f ∷ fs) (suc k) h l = each_at_place P fs k h.1 (omega arith)

pub item_linearized : (p : ℕ) (ls : List Linear) (k : ℕ) (l : Linear) → Each (IsLinearized p) (map form ls) → k < length ls → l ≡ get_or ls k l → IsLinearized p (form l)
item_linearized p ls k l h m e = subst (IsLinearized p) (form_item ls k l m e) (each_at_place (IsLinearized p) (map form ls) k h (omega (arith, length-map ls form)))

pub each_from_places : (P : Form → Type 0) (fs : List Form) → ((k : ℕ) → k < length fs → P (form_at fs k)) → Each P fs
each_from_places P [] h = tt
each_from_places P (f ∷ fs) h = (h 0 (omega arith), each_from_places P fs (λ k l. h (suc k) (omega arith)))

-- ---- the rows of the generators

-- the row of a generator's element, or of zero
abbrev pub generator_row : Option ℕ → Cells
generator_row None = []
generator_row (Some k) = (k, 1) ∷ []

generator_values : (os : List (Option ℕ)) (g : ℕ) → vectors (map generator_row os) g ≡ at_element (get_or os g None)
generator_values [] g = refl
generator_values (None ∷ os) zero = refl
generator_values (Some k ∷ os) zero = refl
generator_values (o ∷ os) (suc g) = generator_values os g

row_residue : (p : ℕ) (o : Option ℕ) → 1 < p → AreCellResidues p (generator_row o)
row_residue p None h i d l = absurd (omega arith)
row_residue p (Some k) h zero d l = h
row_residue p (Some k) h (suc i) d l = absurd (omega arith)

row_residues : (p : ℕ) (os : List (Option ℕ)) → 1 < p → Each (λ r. AreCellResidues p r) (map generator_row os)
row_residues p [] h = tt
row_residues p (o ∷ os) h = (row_residue p o h, row_residues p os h)

pub gives_generators : (t : Raw) (rows : List Cells) → rows ≡ map generator_row t.generators → GivesGenerators t rows
gives_generators t rows e = subst (GivesGenerators t) (sym e) record {
  long = length-map t.generators generator_row;
  values = generator_values t.generators;
  residues = λ p h. all_from_each (λ r. AreCellResidues p r) (map generator_row t.generators) (row_residues p t.generators h);
}

-- ---- the numbers of elements

module _ (target : List ℕ) (p : ℕ) (t : Raw) (right : IsShaped target p t) where
  few : length t.elements < 4294967296
  few = below (length t.elements) 4294967296 (and_right (type_le t.top target) _ (and_right (nat_lt 0 (sum t.top)) _ right.top))
    where
      below : (a b : ℕ) → nat_lt a b ≡ true → a < b
      below a b h = grind (arith, nat_tests)

  element_small : (k : ℕ) → is_element t k ≡ true → k < 4294967296
  element_small k h = let e = element_from t k h in omega (arith, e.high, few)

  generators_small : (os : List (Option ℕ)) (i g k : ℕ) → are_generators_right t i os ≡ true → get_or os g None ≡ Some k → k < 4294967296
  generators_small [] i g k h e = absurd (let q : None ≡ Some k = e in cc)
  generators_small (None ∷ os) i zero k h e = absurd (let q : None ≡ Some k = e in cc)
  generators_small (Some j ∷ os) i zero k h e =
      let q : j ≡ k = (let r : Some j ≡ Some k = e in cc) in
      subst (λ n. n < 4294967296) q (element_small j (and_left (is_element t j) _ (and_left (is_generator_right t i (Some j)) _ h)))
  generators_small (o ∷ os) i (suc g) k h e = generators_small os (suc i) g k (and_right (is_generator_right t i o) _ h) e

  pub generator_small : (g k : ℕ) → get_or t.generators g None ≡ Some k → k < 4294967296
  generator_small g k e = generators_small t.generators 0 g k right.generators e

  entries_small : (es : List RawEntry) → list_all (is_entry_right t) es ≡ true → Each (λ e. e.to < 4294967296) es
  entries_small [] h = tt
  entries_small (e ∷ es) h =
      let a = and_left (is_entry_right t e) _ h in
      let b = and_right (is_element t e.right) _ (and_right (is_element t e.left) _ a) in
      (element_small e.to (and_left (is_element t e.to) _ b), entries_small es (and_right (is_entry_right t e) _ h))

  pub entry_numbers : All (λ e. e.to < 4294967296) t.entries
  entry_numbers = all_from_each (λ e. e.to < 4294967296) t.entries (entries_small t.entries right.entries)

-- ---- what a table that passes shows

module _ (p : ℕ) (target : List ℕ) (ls : List Form) (t : Raw) (rules : AreCheckRules p target ls) (is : IsRaw p (length target) t) (shape : shape_fault target p t ≡ None) where
  right : IsShaped target p t
  right = shaped target p t shape

  pub top_below : sum t.top < p
  top_below =
      let w : type_le t.top target ≡ true = and_left (type_le t.top target) _ (and_right (nat_lt 0 (sum t.top)) _ right.top) in
      omega (arith, rules.large, le_sum t.top target is.top w)

  pub above_one : 1 < p
  above_one = (IsPrime-from_table p rules.prime).above_one

  pub table_nilpotent : IsNilpotent p t
  table_nilpotent = nilpotent p target t is right

  pub table_satisfies : AreZeroAtTuples p t ls → SatisfiesIdentities p ls t
  table_satisfies z fs hom same = all_satisfied p target t is right (IsPrime-from_table p rules.prime) top_below ls fs z hom same

  pub table_refutes : AreZeroAtTuples p t ls → (g : Poly) → (AreSameVectors p (value t g) [] → ⊥) → IsConsequence p ls g → ⊥
  table_refutes z g n c = n (alike_vector (value_zero p target t is right ls g
      (each-from (IsLinearized p) IsMultilinearForm ls (λ f h. h.multilinear) rules.linearized) z c))

  pub table_refutes_text : AreZeroAtTuples p t ls → (g : Poly) → (AreSameVectors p (value t g) [] → ⊥) → RefutesText p ls g
  table_refutes_text z g n fs hom same c = n (alike_vector (text_zero p target t is right fs g (table_satisfies z fs hom same) c))
