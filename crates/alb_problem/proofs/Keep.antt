-- The part of a polynomial that a test keeps; where the test says the same of all monomials of an item, that part of a
-- consequence is a consequence.
use Rattle.std.proofs.Common.{◌≡◌, ℕ, ◌+◌, Bool, true, false, List, [], ◌∷◌, length, sym, refl, ap, ◌∙◌, subst, arith, inl, inr}
use Rattle.std.specs.Bool.{if◌then◌else◌, IsTrue}
use Rattle.std.specs.List.{filter}
use Rattle.std.proofs.lemmas.Bool.{cases_Bool}
use Rattle.gf_field.specs.Modular.{IsSameMod}
use Rattle.gf_field.proofs.Mod.{same, back, ◌⊙◌}
use Rattle.gf_sums.specs.Sums.{total, coefficient}
use Rattle.gf_sums.proofs.Totals.{weigh-equal, coefficient-weigh}
use Rattle.gf_sums.proofs.Alike.{Alike}
use Rattle.alb_mono.specs.Listing.{Each}
use Rattle.alb_mono.specs.Tree.{Tree, node, same_tree}
use Rattle.alb_mono.specs.declared.side.Side.{Side}
use Rattle.alb_mono.specs.declared.side.Side.TheVariants.{Left, Right}
use Rattle.alb_poly.specs.Poly.{Poly}
use Rattle.alb_poly.specs.Consequence.{within, Item, form_at, IsItem, AreItems, IsConsequence, AreMultilinear}
use Rattle.alb_poly.specs.Instance.{fill, Form, leaves, IsMultilinear}
use Rattle.alb_poly.proofs.Multilinear.{each-from, leaves-multilinear}
use Rattle.alb_poly.proofs.Parts.{multilinear_at, weigh-keep, weigh-zero}
use Rattle.alb_poly.proofs.Consequence.{tree_tells, value, alike_poly, poly_alike}
use Rattle.alb_poly.proofs.Kept as kept
pub use Rattle.alb_poly.proofs.Kept.{keep, keep-alike}

if-zero : (b : Bool) → ◌≡◌ {A = ℕ} (if b then 0 else 0) 0
if-zero true = refl
if-zero false = refl

-- where only coefficients that are 0 are lost, the kept part is the polynomial
pub keep-same : (q : Tree → Bool) {p : ℕ} (g : Poly) → ((m : Tree) → q m ≡ false → IsSameMod p (coefficient same_tree g m) 0) → Alike p (keep q g) g
keep-same q g h = alike_poly (λ i.
    same (coefficient-weigh same_tree tree_tells (keep q g) i ∙ weigh-keep _ q g)
    ⊙ (elim (cases_Bool (q i)) [
      | inl a ↦ same (weigh-equal _ _ g (λ k. elim (cases_Bool (same_tree k i)) [
        | inl e ↦ let r : q k ≡ true = ap q (tree_tells.sound k i e) ∙ a in rw (e, r)
        | inr e ↦ rw e (if-zero (q k))
      ])
          ∙ sym (coefficient-weigh same_tree tree_tells g i))
      | inr a ↦ same (weigh-equal _ (λ k. 0) g (λ k. elim (cases_Bool (same_tree k i)) [
        | inl e ↦ let r : q k ≡ false = ap q (tree_tells.sound k i e) ∙ a in rw (e, r)
        | inr e ↦ rw e (if-zero (q k))
      ])
          ∙ weigh-zero g) ⊙ back (h i a)
    ]))

-- ---- the leaves of an item

pub leaves-within : (v : ℕ → ℕ) (c : List (Side × Tree)) (x : Tree) → leaves v (within c x) ≡ total (λ s. leaves v s.1) c + leaves v x
leaves-within v [] x = omega arith
leaves-within v ((Left, m) ∷ c) x = omega (arith, leaves-within v c (node m x))
leaves-within v ((Right, m) ∷ c) x = omega (arith, leaves-within v c (node x m))

-- the sum of `v` over the leaves of the monomials of an item
abbrev pub item_leaves : (ℕ → ℕ) → List (Side × Tree) → List Tree → ℕ
item_leaves v c ms = total (λ s. leaves v s.1) c + total (leaves v) ms

pub leaves-item : (v : ℕ → ℕ) (c : List (Side × Tree)) (ms : List Tree) (m : Tree) → IsMultilinear (length ms) m → leaves v (within c (fill ms m)) ≡ item_leaves v c ms
leaves-item v c ms m h = leaves-within v c (fill ms m) ∙ ap (λ n. total (λ s. leaves v s.1) c + n) (leaves-multilinear v ms m h)

-- ---- consequences

-- `fits` says of an item what `q` says of each of its monomials
abbrev pub TellsOfItems : (Tree → Bool) → (Item → Bool) → Type 0
TellsOfItems q fits = (it : Item) (m : Tree) → IsMultilinear (length it.args) m → q (within it.context (fill it.args m)) ≡ fits it

module _ (p : ℕ) (fs : List Form) (multi : AreMultilinear fs) (q : Tree → Bool) (fits : Item → Bool) (tells : TellsOfItems q fits) where
  each_term : (it : Item) → IsItem fs it → Each (λ t. q (within it.context (fill it.args t.1)) ≡ fits it) (form_at fs it.form).terms
  each_term it h = each-from (λ t. IsMultilinear (form_at fs it.form).degree t.1) _ (form_at fs it.form).terms
      (λ t k. tells it t.1 (subst (λ j. IsMultilinear j t.1) (sym h.full) k)) (multilinear_at fs it.form multi)

  -- the kept part of a sum of items is the sum of the items that fit
  pub keep-items : (its : List Item) → AreItems fs its → Alike p (keep q (value fs its)) (value fs (filter fits its))
  keep-items = kept.keep-items p fs q fits each_term

  pub kept_are : (its : List Item) → AreItems fs its → AreItems fs (filter fits its)
  kept_are = kept.kept-are p fs q fits each_term

  pub kept_fit : (its : List Item) → Each (λ it. IsTrue (fits it)) (filter fits its)
  kept_fit [] = tt
  kept_fit (it ∷ its) = elim (cases_Bool (fits it)) [ inl b ↦ rw b (b, kept_fit its) | inr b ↦ rw b (kept_fit its) ]

  -- the kept part of a consequence is a consequence
  pub consequence-keep : (g : Poly) → IsConsequence p fs g → IsConsequence p fs (keep q g)
  consequence-keep g c =
      let k = kept.kept-fitting p fs q fits each_term g c in record { items = k.items; are = k.are; same = poly_alike k.alike }
