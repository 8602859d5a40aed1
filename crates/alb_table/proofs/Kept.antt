-- The part of a consequence whose monomials pass a test of types.
use Rattle.std.proofs.Common.{◌≡◌, ℕ, ◌*◌, Bool, true, false, List, [], ◌∷◌, sym, refl, ap, ◌∙◌, subst, arith, inl, inr}
use Rattle.std.specs.Bool.{if◌then◌else◌}
use Rattle.std.specs.List.{filter}
use Rattle.std.proofs.lemmas.Bool.{cases_Bool}
use Rattle.std.proofs.lemmas.List.Elements.{filter-append}
use Rattle.gf_field.proofs.Mod.{same, ◌⊙◌}
use Rattle.alb_mono.specs.Tree.{Tree}
use Rattle.gf_sums.specs.Sums.{Comb}
use Rattle.gf_sums.proofs.Alike.{Alike, equal, itself, joined, append-alike}
use Rattle.alb_poly.specs.Poly.{Poly}
use Rattle.alb_poly.specs.Consequence.{within, Item, form_at, IsItem, item_value, AreItems, IsConsequence, AreMultilinear}
use Rattle.alb_poly.specs.Instance.{fill, Form, IsMultilinear}
use Rattle.alb_mono.specs.Listing.{Each}
use Rattle.alb_poly.proofs.Multilinear.{each-from}
use Rattle.alb_poly.proofs.Parts.{multilinear_at, weigh-keep, weigh-each, weigh-zero}
use Rattle.alb_poly.proofs.Consequence.{value, weigh-item, alike_poly, poly_alike}
use Rattle.alb_table.specs.Right.{SameType}
use Rattle.alb_table.proofs.Types.{type-within}
use Rattle.alb_table.proofs.Coefficients.{keep}

-- every monomial of the item passes
abbrev pub Passes : List Form → (Tree → Bool) → Item → Type 0
Passes fs q it = Each (λ t. q (within it.context (fill it.args t.1)) ≡ true) (form_at fs it.form).terms

-- the part that passes, as the value of items each of which passes
pub record Kept (p : ℕ) (fs : List Form) (q : Tree → Bool) (g : Poly) : Type 0 where
  pub items : List Item
  pub are : AreItems fs items
  pub pass : Each (Passes fs q) items
  pub alike : Alike p (keep q g) (value fs items)

-- the test at the first term
abbrev at_first : (Tree → Bool) → Poly → Bool
at_first q [] = false
at_first q (t ∷ f) = q t.1

all_as_first : (P : Tree → Type 0) (q : Tree → Bool) (f : Poly) → ((x y : Tree) → P x → P y → q x ≡ q y) → Each (λ t. P t.1) f →
    Each (λ t. q t.1 ≡ at_first q f) f
all_as_first P q [] h a = tt
all_as_first P q (t ∷ f) h a = (refl, each-from (λ s. P s.1) (λ s. q s.1 ≡ q t.1) f (λ s k. h s.1 t.1 k a.0) a.1)

keep-alike : {I : Type 0} {p : ℕ} (q : I → Bool) (f g : Comb I) → Alike p f g → Alike p (keep q f) (keep q g)
keep-alike q f g h = record { at = λ w. same (weigh-keep w q f) ⊙ h.at _ ⊙ same (sym (weigh-keep w q g)) }

module _ (p : ℕ) (fs : List Form) (multi : AreMultilinear fs) (q : Tree → Bool) (respects : (x y : Tree) → SameType x y → q x ≡ q y) where
  test : Item → Tree → Bool
  test it m = q (within it.context (fill it.args m))

  keeps : Item → Bool
  keeps it = at_first (test it) (form_at fs it.form).terms

  one_answer : (it : Item) → IsItem fs it → Each (λ t. test it t.1 ≡ keeps it) (form_at fs it.form).terms
  unfolding test keeps
  one_answer it h = all_as_first (IsMultilinear (form_at fs it.form).degree) _ (form_at fs it.form).terms
      (λ x y k l. respects _ _ (type-within it.context it.args x y
      (subst (λ j. IsMultilinear j x) (sym h.full) k) (subst (λ j. IsMultilinear j y) (sym h.full) l)))
      (multilinear_at fs it.form multi)

  keep-item : (it : Item) → IsItem fs it → Alike p (keep q (item_value fs it)) (if keeps it then item_value fs it else [])
  unfolding test
  keep-item it h = equal _ _ (λ w.
      weigh-keep w q (item_value fs it)
      ∙ weigh-item fs _ it
      ∙ ap (λ j. it.coef * j) (weigh-each (λ m. test it m ≡ keeps it) _ _ (form_at fs it.form).terms
      (λ m k. ap (λ b. if b then w (within it.context (fill it.args m)) else 0) k) (one_answer it h))
      ∙ (elim (cases_Bool (keeps it)) [
        | inl b ↦ rw b (sym (weigh-item fs w it))
        | inr b ↦ rw b (ap (λ j. it.coef * j) (weigh-zero (form_at fs it.form).terms) ∙ omega arith)
      ]))

  keep-items : (its : List Item) → AreItems fs its → Alike p (keep q (value fs its)) (value fs (filter keeps its))
  keep-items [] a = itself []
  keep-items (x ∷ xs) a =
      rw (filter-append (λ t. q t.1) (item_value fs x) (value fs xs))
      (joined (append-alike (keep-item x a.0) (keep-items xs a.1)) (elim (cases_Bool (keeps x)) [
        | inl b ↦ rw b (itself _)
        | inr b ↦ rw b (itself _)
      ]))

  kept-are : (its : List Item) → AreItems fs its → AreItems fs (filter keeps its)
  kept-are [] a = tt
  kept-are (x ∷ xs) a = elim (cases_Bool (keeps x)) [ inl b ↦ rw b (a.0, kept-are xs a.1) | inr b ↦ rw b (kept-are xs a.1) ]

  kept-pass : (its : List Item) → AreItems fs its → Each (Passes fs q) (filter keeps its)
  unfolding test
  kept-pass [] a = tt
  kept-pass (x ∷ xs) a = elim (cases_Bool (keeps x)) [
    | inl b ↦ rw b (each-from (λ t. test x t.1 ≡ keeps x) _ (form_at fs x.form).terms (λ t k. k ∙ b) (one_answer x a.0), kept-pass xs a.1)
    | inr b ↦ rw b (kept-pass xs a.1)
  ]

  -- the part of a consequence that passes a test of types, by items that pass
  pub consequence-kept : (g : Poly) → IsConsequence p fs g → Kept p fs q g
  consequence-kept g c = record {
    items = filter keeps c.items;
    are = kept-are c.items c.are;
    pass = kept-pass c.items c.are;
    alike = joined (keep-alike q g (value fs c.items) (alike_poly c.same)) (keep-items c.items c.are);
  }

  pub consequence-keep : (g : Poly) → IsConsequence p fs g → IsConsequence p fs (keep q g)
  consequence-keep g c = let k = consequence-kept g c in record { items = k.items; are = k.are; same = poly_alike k.alike }
