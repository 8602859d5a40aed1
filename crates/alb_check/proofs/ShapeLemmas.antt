-- The rules of shape.
use Rattle.std.proofs.Common.{◌≡◌, ℕ, ◌+◌, ◌≤◌, Bool, true, false, List, [], ◌∷◌, length, drop, refl, sym, ◌∙◌, ap, arith, inl, inr}
use Rattle.std.specs.Prelude.{◌↔◌, IsTrue, Some}
use Rattle.std.proofs.lemmas.Bool.{cases_Bool, false≢true}
use Rattle.std.proofs.lemmas.List.{length-drop}
use Rattle.alb_mono.specs.Tree.{leaf, type_of}
use Rattle.alb_poly.specs.Poly.{list_eq}
use Rattle.alb_linear.proofs.IdentityLemmas.{list_eq-itself, list_eq-sound}
use Rattle.alb_check.specs.declared.raw.RawEntry.{RawEntry}
use Rattle.alb_check.specs.Raw.{Raw, is_element, element_type, is_generator_right, are_ascending}

-- whether two lists are one, by the test
pub equal_lists : (xs ys : List ℕ) (b : Bool) → (IsTrue b ↔ (ys ≡ xs)) → b ≡ list_eq xs ys
equal_lists xs ys true h = sym (ap (list_eq xs) (h.0 refl) ∙ list_eq-itself xs)
equal_lists xs ys false h = elim (cases_Bool (list_eq xs ys)) [
  | inl e ↦ absurd (false≢true (h.1 (sym (list_eq-sound xs ys e))))
  | inr e ↦ sym e
]

pub own_type : (t : Raw) (g k : ℕ) (m : List ℕ) (b : Bool) → is_element t k ≡ true → m ≡ element_type t k
    → (IsTrue b ↔ (type_of (length t.top) (leaf g) ≡ m)) → b ≡ is_generator_right t g (Some k)
own_type t g k m b e is h = rw (e, ← is) (equal_lists m (type_of (length t.top) (leaf g)) b h)

ascending_short : (es : List RawEntry) → length es ≤ 1 → are_ascending es ≡ true
ascending_short [] l = refl
ascending_short (d ∷ []) l = refl
ascending_short (d ∷ e ∷ es) l = absurd (omega arith)

pub ascending_end : (es : List RawEntry) (k : ℕ) → length es ≤ k + 1 → are_ascending (drop k es) ≡ true
ascending_end es k l = ascending_short (drop k es) (omega (arith, length-drop k es))
