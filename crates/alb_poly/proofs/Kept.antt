-- What a test keeps of a consequence, where it says the same of all monomials of an item.
use Rattle.std.proofs.Common.{◌≡◌, ℕ, ◌+◌, ◌*◌, Bool, true, false, List, [], ◌∷◌, length, sym, refl, ap, ◌∙◌, subst, arith, inl, inr}
use Rattle.std.specs.Bool.{if◌then◌else◌}
use Rattle.std.specs.List.{filter}
use Rattle.std.proofs.lemmas.Bool.{cases_Bool}
use Rattle.std.proofs.lemmas.List.Elements.{filter-append}
use Rattle.gf_field.proofs.Mod.{same, ◌⊙◌}
use Rattle.gf_sums.specs.Sums.{Comb, total}
use Rattle.gf_sums.proofs.Totals.{total-equal}
use Rattle.gf_sums.proofs.Alike.{Alike, equal, itself, joined, append-alike}
use Rattle.alb_mono.specs.Listing.{Each}
use Rattle.alb_mono.specs.Tree.{Tree, count}
use Rattle.alb_poly.specs.Poly.{Poly}
use Rattle.alb_mono.specs.declared.side.Side.{Side}
use Rattle.alb_poly.specs.Consequence.{within, AreMultilinear, Item, form_at, IsItem, item_value, AreItems, IsConsequence}
use Rattle.alb_poly.specs.Instance.{fill, Form, IsMultilinear}
use Rattle.alb_poly.proofs.Multilinear.{each-from, each-map, leaves-multilinear}
use Rattle.alb_poly.proofs.Consequence.{value, weigh-item, alike_poly, poly_alike}
use Rattle.alb_poly.proofs.Parts.{weigh-keep, weigh-zero, weigh-each, multilinear_at, count-leaves, count-within}

-- the terms whose indices pass
abbrev pub keep : {I : Type 0} → (I → Bool) → Comb I → Comb I
keep q f = filter (λ t. q t.1) f

pub keep-alike : {I : Type 0} {p : ℕ} (q : I → Bool) (f g : Comb I) → Alike p f g → Alike p (keep q f) (keep q g)
keep-alike q f g h = record { at = λ w. same (weigh-keep w q f) ⊙ h.at _ ⊙ same (sym (weigh-keep w q g)) }

-- every monomial of the item passes
abbrev pub Passes : List Form → (Tree → Bool) → Item → Type 0
Passes fs q it = Each (λ t. q (within it.context (fill it.args t.1)) ≡ true) (form_at fs it.form).terms

-- the part that passes, as the value of items each of which passes
pub record Kept (p : ℕ) (fs : List Form) (q : Tree → Bool) (g : Poly) : Type 0 where
  pub items : List Item
  pub are : AreItems fs items
  pub pass : Each (Passes fs q) items
  pub alike : Alike p (keep q g) (value fs items)

-- what holds of the monomials of an item holds of the terms of its value
pub item-each : (P : Tree → Type 0) (fs : List Form) (it : Item) → Each (λ t. P (within it.context (fill it.args t.1))) (form_at fs it.form).terms → Each (λ t. P t.1) (item_value fs it)
item-each P fs it h =
    each-map (λ s. P s.1) (λ s. P s.1) (λ t. (it.coef * t.0, t.1)) _ (λ s k. k)
    (each-map (λ s. P (within it.context s.1)) (λ s. P s.1) (λ t. (t.0, within it.context t.1)) _ (λ s k. k)
    (each-map (λ s. P (within it.context (fill it.args s.1))) (λ s. P (within it.context s.1)) (λ t. (t.0, fill it.args t.1)) _ (λ s k. k) h))

-- `fits` says of an item what `q` says of each of its monomials
module _ (p : ℕ) (fs : List Form) (q : Tree → Bool) (fits : Item → Bool)
    (tells : (it : Item) → IsItem fs it → Each (λ t. q (within it.context (fill it.args t.1)) ≡ fits it) (form_at fs it.form).terms) where
  keep-item : (it : Item) → IsItem fs it → Alike p (keep q (item_value fs it)) (if fits it then item_value fs it else [])
  keep-item it h = equal _ _ (λ w.
      let at : Tree → Tree = λ m. within it.context (fill it.args m) in
      weigh-keep w q (item_value fs it)
      ∙ weigh-item fs (λ m. if q m then w m else 0) it
      ∙ ap (λ n. it.coef * n) (weigh-each (λ m. q (at m) ≡ fits it) _ (λ m. if fits it then w (at m) else 0) (form_at fs it.form).terms
      (λ m k. ap (λ b. if b then w (at m) else 0) k) (tells it h))
      ∙ (elim (cases_Bool (fits it)) [
        | inl b ↦ rw b (sym (weigh-item fs w it))
        | inr b ↦ rw b (ap (λ n. it.coef * n) (weigh-zero (form_at fs it.form).terms) ∙ omega arith)
      ]))

  -- the kept part of a sum of items is the sum of the items that fit
  pub keep-items : (its : List Item) → AreItems fs its → Alike p (keep q (value fs its)) (value fs (filter fits its))
  keep-items [] a = itself []
  keep-items (it ∷ its) a =
      rw (filter-append (λ t. q t.1) (item_value fs it) (value fs its))
      (joined (append-alike (keep-item it a.0) (keep-items its a.1)) (elim (cases_Bool (fits it)) [
        | inl b ↦ rw b (itself _)
        | inr b ↦ rw b (itself _)
      ]))

  pub kept-are : (its : List Item) → AreItems fs its → AreItems fs (filter fits its)
  kept-are [] a = tt
  kept-are (it ∷ its) a = elim (cases_Bool (fits it)) [ inl b ↦ rw b (a.0, kept-are its a.1) | inr b ↦ rw b (kept-are its a.1) ]

  kept-pass : (its : List Item) → AreItems fs its → Each (Passes fs q) (filter fits its)
  kept-pass [] a = tt
  kept-pass (it ∷ its) a = elim (cases_Bool (fits it)) [
    | inl b ↦ rw b (each-from (λ t. q (within it.context (fill it.args t.1)) ≡ fits it) _ (form_at fs it.form).terms (λ t k. k ∙ b) (tells it a.0), kept-pass its a.1)
    | inr b ↦ rw b (kept-pass its a.1)
  ]

  -- the kept part of a consequence, by items that pass
  pub kept-fitting : (g : Poly) → IsConsequence p fs g → Kept p fs q g
  kept-fitting g c = record {
    items = filter fits c.items;
    are = kept-are c.items c.are;
    pass = kept-pass c.items c.are;
    alike = joined (keep-alike q g _ (alike_poly c.same)) (keep-items c.items c.are);
  }

-- ---- tests that see how often each generator occurs

-- the monomials of an item have each generator equally often
pub item-counts : (g : ℕ) (c : List (Side × Tree)) (ms : List Tree) (m : Tree) → IsMultilinear (length ms) m →
    count g (within c (fill ms m)) ≡ total (λ s. count g s.1) c + total (λ a. count g a) ms
item-counts g c ms m h =
    count-within g c (fill ms m)
    ∙ ap (λ k. total (λ s. count g s.1) c + k)
    (count-leaves g (fill ms m) ∙ leaves-multilinear _ ms m h ∙ total-equal _ _ ms (λ a. sym (count-leaves g a)))

-- the test at the first term
at_first : (Tree → Bool) → Poly → Bool
at_first q [] = false
at_first q (t ∷ f) = q t.1

all_as_first : (P : Tree → Type 0) (q : Tree → Bool) (f : Poly) → ((x y : Tree) → P x → P y → q x ≡ q y) → Each (λ t. P t.1) f →
    Each (λ t. q t.1 ≡ at_first q f) f
unfolding at_first
all_as_first P q [] h a = tt
all_as_first P q (t ∷ f) h a = (refl, each-from (λ s. P s.1) (λ s. q s.1 ≡ q t.1) f (λ s k. h s.1 t.1 k a.0) a.1)

module _ (p : ℕ) (fs : List Form) (multi : AreMultilinear fs) (q : Tree → Bool) (respects : (x y : Tree) → ((g : ℕ) → count g x ≡ count g y) → q x ≡ q y) where
  -- the test at the monomials of an item
  test : Item → Tree → Bool
  test it m = q (within it.context (fill it.args m))

  keeps : Item → Bool
  keeps it = at_first (test it) (form_at fs it.form).terms

  one_answer : (it : Item) → IsItem fs it → Each (λ t. q (within it.context (fill it.args t.1)) ≡ keeps it) (form_at fs it.form).terms
  unfolding test keeps
  one_answer it h =
      let multilinear : (m : Tree) → IsMultilinear (form_at fs it.form).degree m → IsMultilinear (length it.args) m = λ m k. subst (λ j. IsMultilinear j m) (sym h.full) k in
      all_as_first (IsMultilinear (form_at fs it.form).degree) _ (form_at fs it.form).terms
      (λ x y k l. respects _ _ (λ g. item-counts g it.context it.args x (multilinear x k) ∙ sym (item-counts g it.context it.args y (multilinear y l))))
      (multilinear_at fs it.form multi)

  -- what such a test keeps of a consequence is a consequence, by items that pass
  pub consequence-kept : (g : Poly) → IsConsequence p fs g → Kept p fs q g
  consequence-kept g c = kept-fitting p fs q keeps one_answer g c

  pub consequence-keep : (g : Poly) → IsConsequence p fs g → IsConsequence p fs (keep q g)
  consequence-keep g c = let k = consequence-kept g c in record { items = k.items; are = k.are; same = poly_alike k.alike }
