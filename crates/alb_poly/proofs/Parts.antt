-- Weights, counts and types, of lists and of terms in contexts.
use Rattle.std.proofs.Common.{◌≡◌, ℕ, zero, suc, ◌+◌, ◌*◌, Bool, List, [], ◌∷◌, get_or, refl, ap, arith, inl, inr}
use Rattle.std.specs.Bool.{if◌then◌else◌, ◌==◌}
use Rattle.std.specs.List.{filter}
use Rattle.std.proofs.lemmas.Bool.{cases_Bool}
use Rattle.alb_mono.specs.Tree.{Tree, leaf, node, count, listed}
use Rattle.gf_sums.specs.Sums.{total, Comb, weigh}
pub use Rattle.gf_sums.proofs.Totals.{weigh-zero}
use Rattle.alb_mono.specs.declared.side.Side.{Side}
use Rattle.alb_mono.specs.declared.side.Side.TheVariants.{Left, Right}
use Rattle.alb_poly.specs.Consequence.{within, AreMultilinear, form_at}
use Rattle.alb_poly.specs.Instance.{Form, leaves, IsMultilinearForm}
use Rattle.alb_mono.specs.Listing.{Each}

pub weigh-keep : {I : Type 0} (w : I → ℕ) (q : I → Bool) (f : Comb I) → weigh w (filter (λ t. q t.1) f) ≡ weigh (λ i. if q i then w i else 0) f
weigh-keep w q [] = refl
weigh-keep w q (t ∷ f) = elim (cases_Bool (q t.1)) [
  | inl e ↦ rw e (ap (λ n. t.0 * w t.1 + n) (weigh-keep w q f))
  | inr e ↦ rw e (omega (arith, weigh-keep w q f))
]

pub count-leaves : (g : ℕ) (m : Tree) → count g m ≡ leaves (λ k. if k == g then 1 else 0) m
count-leaves g (leaf k) = refl
count-leaves g (node l r) = rw (count-leaves g l, count-leaves g r)

pub count-within : (g : ℕ) (c : List (Side × Tree)) (x : Tree) → count g (within c x) ≡ total (λ s. count g s.1) c + count g x
count-within g [] x = omega arith
count-within g ((Left, m) ∷ c) x = omega (arith, count-within g c (node m x))
count-within g ((Right, m) ∷ c) x = omega (arith, count-within g c (node x m))

pub listed-equal : (f g : ℕ → ℕ) (k n : ℕ) → ((i : ℕ) → f i ≡ g i) → listed f k n ≡ listed g k n
listed-equal f g k zero h = refl
listed-equal f g k (suc n) h = rw (h k, listed-equal f g (suc k) n h)

pub weigh-each : {I : Type 0} (P : I → Type 0) (v w : I → ℕ) (f : Comb I) → ((i : I) → P i → v i ≡ w i) → Each (λ t. P t.1) f → weigh v f ≡ weigh w f
weigh-each P v w [] k a = refl
weigh-each P v w (t ∷ f) k a = rw (k t.1 a.0, weigh-each P v w f k a.1)

pub each_at : {X : Type 0} (P : X → Type 0) (xs : List X) (k : ℕ) (d : X) → P d → Each P xs → P (get_or xs k d)
each_at P [] k d h a = h
each_at P (x ∷ xs) zero d h a = a.0
each_at P (x ∷ xs) (suc k) d h a = each_at P xs k d h a.1

pub multilinear_at : (fs : List Form) (k : ℕ) → AreMultilinear fs → IsMultilinearForm (form_at fs k)
multilinear_at fs k h = each_at IsMultilinearForm fs k _ tt h
