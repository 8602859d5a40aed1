-- Lists of equal forms have the same consequences.
use Rattle.std.proofs.Common.{◌≡◌, ℕ, zero, suc, List, [], ◌∷◌, length, sym, refl, ap, ◌∙◌, arith}
use Rattle.gf_sums.proofs.Alike.{Alike, itself, turned, joined, append-alike, scale-alike, reindex-alike}
use Rattle.alb_poly.specs.Poly.{Poly}
use Rattle.alb_poly.specs.Consequence.{within, form_at, Item, AreItems, IsConsequence}
use Rattle.alb_poly.specs.Instance.{fill, Form, IsSameForm, AreSameForms}
use Rattle.alb_poly.proofs.Consequence.{value, alike_poly, poly_alike}

module _ (p : ℕ) where
  form-itself : (f : Form) → IsSameForm p f f
  form-itself f = record { degree = refl; terms = poly_alike (itself f.terms) }

  pub forms-itself : (fs : List Form) → AreSameForms p fs fs
  forms-itself [] = tt
  forms-itself (f ∷ fs) = (form-itself f, forms-itself fs)

  pub forms-turned : (fs gs : List Form) → AreSameForms p fs gs → AreSameForms p gs fs
  forms-turned [] [] h = tt
  forms-turned [] (g ∷ gs) h = elim h [ ]
  forms-turned (f ∷ fs) [] h = elim h [ ]
  forms-turned (f ∷ fs) (g ∷ gs) h =
      (record { degree = sym h.0.degree; terms = poly_alike (turned (alike_poly h.0.terms)) }, forms-turned fs gs h.1)

  length-forms : (fs gs : List Form) → AreSameForms p fs gs → length fs ≡ length gs
  length-forms [] [] h = refl
  length-forms [] (g ∷ gs) h = elim h [ ]
  length-forms (f ∷ fs) [] h = elim h [ ]
  length-forms (f ∷ fs) (g ∷ gs) h = ap suc (length-forms fs gs h.1)

  form_at-same : (fs gs : List Form) (k : ℕ) → AreSameForms p fs gs → IsSameForm p (form_at fs k) (form_at gs k)
  form_at-same [] [] k h = form-itself _
  form_at-same [] (g ∷ gs) k h = elim h [ ]
  form_at-same (f ∷ fs) [] k h = elim h [ ]
  form_at-same (f ∷ fs) (g ∷ gs) zero h = h.0
  form_at-same (f ∷ fs) (g ∷ gs) (suc k) h = form_at-same fs gs k h.1

  module _ (fs gs : List Form) (same : AreSameForms p fs gs) where
    items-same : (its : List Item) → AreItems fs its → AreItems gs its
    items-same [] h = tt
    items-same (it ∷ its) h = (
      record {
        named = omega (arith, h.0.named, length-forms fs gs same);
        full = h.0.full ∙ (form_at-same fs gs it.form same).degree;
      },
      items-same its h.1,
    )

    value-forms : (its : List Item) → Alike p (value fs its) (value gs its)
    value-forms [] = itself []
    value-forms (it ∷ its) = append-alike
        (scale-alike it.coef (reindex-alike (within it.context) (reindex-alike (fill it.args) (alike_poly (form_at-same fs gs it.form same).terms))))
        (value-forms its)

    -- equal forms have the same consequences
    pub consequence-forms : (g : Poly) → IsConsequence p fs g → IsConsequence p gs g
    consequence-forms g c = record {
      items = c.items;
      are = items-same c.items c.are;
      same = poly_alike (joined (alike_poly c.same) (value-forms c.items));
    }
