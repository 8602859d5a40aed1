-- The polynomials of lines by the numbers of monomials.
use Rattle.std.proofs.Common.{◌≡◌, ℕ, ◌%◌, ◌<◌, true, false, not, List, [], ◌∷◌, length, refl, sym, ap, ◌∙◌, arith, inl, inr}
use Rattle.std.specs.Prelude.{◌==◌, ◌&&◌, Result, Ok, Err, IfOk}
use Rattle.std.specs.List.{list_any}
use Rattle.std.proofs.Math.Nat.{mod-eq_of_lt}
use Rattle.std.proofs.lemmas.Bool.{cases_Bool}
use Rattle.std.proofs.lemmas.Bool.Decides.{nat_tests}
use Rattle.gf_field.proofs.Mod.{same, ◌⊙◌}
use Rattle.gf_sums.specs.Sums.{coefficient, reindex, scale, weigh}
use Rattle.alb_poly.proofs.Multilinear.{each-from}
use Rattle.gf_sums.proofs.Alike.{weigh-reindex}
use Rattle.alb_mono.specs.Listing.{Each}
use Rattle.alb_mono.specs.Tree.{Tree, leaf, node, same_tree}
use Rattle.alb_mono.specs.declared.side.Side.{Side}
use Rattle.alb_mono.specs.declared.side.Side.TheVariants.{Left, Right}
use Rattle.alb_poly.specs.Poly.{Poly, normal}
use Rattle.alb_poly.specs.Consequence.{beside}
use Rattle.alb_poly.proofs.Consequence.{tree_tells}
use Rattle.alb_poly.proofs.NormalLemmas.{alike-normal}
use Rattle.alb_nodes.specs.Nodes.{at, Extends, AreDifferent}
use Rattle.alb_nodes.proofs.NodeLemmas.{extends-at}
use Rattle.alb_deriv.specs.Derivation.{passes_target}
use Rattle.alb_deriv.specs.Numbered.{read, AreAlike, AreApart, IsCoefficient, IsFit, IsNumbered, said}
use Rattle.alb_deriv.proofs.Fits.{passes, passes-normal}

-- ---- more numbers leave what is read

pub read-later : (a b : List Tree) (f : List (ℕ × ℕ)) → Extends a b → Each (λ t. t.1 < length a) f → read b f ≡ read a f
read-later a b [] e h = refl
read-later a b (t ∷ f) e h =
    let first : at b t.1 ≡ at a t.1 = extends-at a b t.1 e h.0 in
    let others : read b f ≡ read a f = read-later a b f e h.1 in
    λ j. (t.0, first j) ∷ others j

-- ---- no monomial twice

-- each coefficient is that of its monomial
absent-zero : (m : Tree) (f : Poly) → Each (λ u. m ≡ u.1 → ⊥) f → coefficient same_tree f m ≡ 0
absent-zero m [] h = refl
absent-zero m (u ∷ f) h = elim (cases_Bool (same_tree u.1 m)) [
  | inl e ↦ absurd (h.0 (sym (tree_tells.sound u.1 m e)))
  | inr e ↦ rw e (omega (arith, absent-zero m f h.1))
]

own-more : (t : ℕ × Tree) (f g : Poly) → Each (λ u. t.1 ≡ u.1 → ⊥) g → Each (λ u. coefficient same_tree f u.1 ≡ u.0) g → Each (λ u. coefficient same_tree (t ∷ f) u.1 ≡ u.0) g
own-more t f [] h k = tt
own-more t f (u ∷ g) h k = elim (cases_Bool (same_tree t.1 u.1)) [
  | inl e ↦ absurd (h.0 (tree_tells.sound t.1 u.1 e))
  | inr e ↦ (rw e (omega (arith, k.0)), own-more t f g h.1 k.1)
]

pub own-coefficients : (f : Poly) → AreApart f → Each (λ t. coefficient same_tree f t.1 ≡ t.0) f
own-coefficients [] h = tt
own-coefficients (t ∷ f) h =
    let whole : same_tree t.1 t.1 ≡ true = tree_tells.whole t.1 in
    let none : coefficient same_tree f t.1 ≡ 0 = absent-zero t.1 f h.0 in
    (rw (whole, none) (omega arith), own-more t f f h.0 (own-coefficients f h.1))

-- then a term passes the target exactly where the definition counts it
counted-any : (p : ℕ) (target : List ℕ) (f g : Poly) → Each (IsCoefficient p) g → Each (λ t. coefficient same_tree f t.1 ≡ t.0) g →
    list_any (λ t. not (coefficient same_tree f t.1 % p == 0) && passes target t.1) g ≡ list_any (λ t. passes target t.1) g
counted-any p target f [] c h = refl
counted-any p target f (t ∷ g) c h =
    let whole : coefficient same_tree f t.1 % p ≡ t.0 = ap (λ n. n % p) h.0 ∙ mod-eq_of_lt c.0.1 in
    let pos : (t.0 == 0) ≡ false = grind (arith, nat_tests, c.0.0) in
    rw (whole, pos, counted-any p target f g c.1 h.1) refl

pub passes-apart : (p : ℕ) (target : List ℕ) (f : Poly) → Each (IsCoefficient p) f → AreApart f → passes_target p target f ≡ list_any (λ t. passes target t.1) f
passes-apart p target f c h = counted-any p target f f c (own-coefficients f h)

-- so the normal form passes it exactly where the terms do
pub passes-said : (p : ℕ) (target : List ℕ) (f : Poly) → 0 < p → Each (IsCoefficient p) f → AreApart f → list_any (λ t. passes target t.1) (normal p f) ≡ list_any (λ t. passes target t.1) f
passes-said p target f pos c h = sym (passes-normal p pos target f) ∙ passes-apart p target f c h

-- ---- beside a monomial

other_factor : Side → Tree → Tree
other_factor side (leaf k) = leaf k
other_factor Left (node l r) = r
other_factor Right (node l r) = l

beside-tells : (s : Side × Tree) (a b : Tree) → beside s a ≡ beside s b → a ≡ b
unfolding other_factor
beside-tells (Left, x) a b e = ap (other_factor Left) e
beside-tells (Right, x) a b e = ap (other_factor Right) e

beside-others : (s : Side × Tree) (m : Tree) (f : Poly) → Each (λ u. m ≡ u.1 → ⊥) f → Each (λ u. beside s m ≡ u.1 → ⊥) (reindex (beside s) f)
beside-others s m [] h = tt
beside-others s m (u ∷ f) h = (λ e. h.0 (beside-tells s m u.1 e), beside-others s m f h.1)

pub beside-apart : (s : Side × Tree) (f : Poly) → AreApart f → AreApart (reindex (beside s) f)
beside-apart s [] h = tt
beside-apart s (t ∷ f) h = (beside-others s t.1 f h.0, beside-apart s f h.1)

pub coefs-reindex : {I J : Type 0} (p : ℕ) (h : I → J) (f : List (ℕ × I)) → Each (IsCoefficient p) f → Each (IsCoefficient p) (reindex h f)
coefs-reindex p h [] c = tt
coefs-reindex p h (t ∷ f) c = (c.0, coefs-reindex p h f c.1)

-- ---- numbers that are apart have monomials that are

numbers-others : (ts : List Tree) (k : ℕ) (f : List (ℕ × ℕ)) → AreDifferent ts → k < length ts → Each (λ t. t.1 < length ts) f → Each (λ u. k ≡ u.1 → ⊥) f → Each (λ u. at ts k ≡ u.1 → ⊥) (read ts f)
numbers-others ts k [] d l w h = tt
numbers-others ts k (u ∷ f) d l w h = (λ e. h.0 (d k u.1 l w.0 e), numbers-others ts k f d l w.1 h.1)

pub numbers-apart : (ts : List Tree) (f : List (ℕ × ℕ)) → AreDifferent ts → Each (λ t. t.1 < length ts) f → AreApart f → AreApart (read ts f)
numbers-apart ts [] d w h = tt
numbers-apart ts (t ∷ f) d w h = (numbers-others ts t.1 f d w.0 w.1 h.0, numbers-apart ts f d w.1 h.1)

-- ---- the same sums are the same polynomial

pub said-alike : (p : ℕ) (ts : List Tree) (f g : List (ℕ × ℕ)) → 0 < p → AreAlike p f g → said p ts f ≡ said p ts g
said-alike p ts f g pos h =
    alike-normal p (read ts f) (read ts g) pos (record { at = λ w. same (weigh-reindex w (at ts) f) ⊙ h (λ k. w (at ts k)) ⊙ same (sym (weigh-reindex w (at ts) g)) })

pub once-weigh : (w : ℕ → ℕ) (f : List (ℕ × ℕ)) → weigh w (scale 1 f) ≡ weigh w f
once-weigh w [] = refl
once-weigh w (t ∷ f) = omega (arith, once-weigh w f)

-- ---- what was collected

pub collected-numbered : (p : ℕ) (target : List ℕ) (ts : List Tree) (f : List (ℕ × ℕ)) → AreDifferent ts → Each (λ t. IsFit target ts t.1) f → Each (IsCoefficient p) f → AreApart f → IsNumbered p target ts f
collected-numbered p target ts f d h c a = record { fit = h; coefs = c; apart = numbers-apart ts f d (each-from (λ t. IsFit target ts t.1) (λ t. t.1 < length ts) f (λ t q. q.0) h) a }

pub from_three : {X E : Type 0} (r : Result X E) (P Q R S : X → Type 0) → ((x : X) → P x → Q x → R x → S x) → IfOk r P → IfOk r Q → IfOk r R → IfOk r S
from_three (Ok x) P Q R S f a b c = f x a b c
from_three (Err e) P Q R S f a b c = tt
